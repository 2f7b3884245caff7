use Rattle.std.proofs.Common.{◌≡◌, length, take, fold}
use Rattle.edge_disk.specs.Kept.{shown}
use Rattle.edge_disk.proofs.tape.show_all.Given as goal

abbrev pub invariant-loop-call : goal.invariant-loop-call
invariant-loop-call l = (length l.blocks.items ≡ length l.initial.blocks.items) × (l.blocks.items ≡ fold shown l.initial.blocks.items (take l.call-index l.calls))
