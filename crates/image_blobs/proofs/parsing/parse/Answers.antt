use Rattle.std.proofs.Common.{sym}
use Rattle.image_fits.specs.Chosen.{no_words}
use Rattle.image_blobs.proofs.parsing.parse.Goals as goal

pub returns-in-Ok-read_container-clause-part : goal.returns-in-Ok-read_container-clause-part
returns-in-Ok-read_container-clause-part c = record { same = sym c.in-Container.is; spells = c.in-Ok-read_container.ensures.read no_words }
