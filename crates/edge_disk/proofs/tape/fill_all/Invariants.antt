use Rattle.std.proofs.Common.{◌≡◌, length, take, fold}
use Rattle.edge_disk.specs.Kept.{filled}
use Rattle.edge_disk.proofs.tape.fill_all.Given as goal

abbrev pub invariant-loop-call : goal.invariant-loop-call
invariant-loop-call l = (length l.blocks.items ≡ length l.initial.blocks.items) × (l.blocks.items ≡ fold (filled l.byte) l.initial.blocks.items (take l.call-index l.calls))
