use Rattle.std.proofs.Common.{◌≡◌, drop}
use Rattle.cell_copies.proofs.heads.copy_regions.Given as goal

-- the regions from this one on
abbrev pub invariant-loop-i : goal.invariant-loop-i
invariant-loop-i l = l.copy ≡ drop l.i l.items
