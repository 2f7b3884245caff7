use Rattle.image_examples.proofs.Worked.{blobs, blocks, fits}
use Rattle.image_examples.proofs.WorkedImages.{images}
use Rattle.image_examples.proofs.examples_hold.Goals as goal

pub returns-clause-fits : goal.returns-clause-fits
returns-clause-fits c = fits

pub returns-clause-blocks : goal.returns-clause-blocks
returns-clause-blocks c = blocks

pub returns-clause-blobs : goal.returns-clause-blobs
returns-clause-blobs c = blobs

pub returns-clause-images : goal.returns-clause-images
returns-clause-images c = images
