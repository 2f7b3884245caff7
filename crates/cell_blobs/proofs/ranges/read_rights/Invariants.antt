use Rattle.std.specs.Prelude.{take, All}
use Rattle.cell_blobs.specs.Ranges.{HasByteRights}
use Rattle.cell_blobs.proofs.ranges.read_rights.Given as goal

abbrev pub invariant-loop-held : goal.invariant-loop-held
invariant-loop-held l = All HasByteRights (take l.held-index l.caps)
