use Rattle.std.proofs.Common.{◌-◌, ◌≤◌}
use Rattle.edge_streams.proofs.files.read_block.Given as goal

-- not past the block's end
abbrev pub invariant-loop-filled : goal.invariant-loop-filled
invariant-loop-filled l = l.filled ≤ 1024

abbrev pub decreases-loop-filled : goal.decreases-loop-filled
decreases-loop-filled l = 1024 - l.filled
