use Rattle.cell_blob_laws.proofs.Formed.{cell_formed}
use Rattle.cell_blob_laws.proofs.formed_cell_law.Goals as goal

pub returns : goal.returns
returns c held s words w cell sound has own = cell_formed held s words w cell sound has own
