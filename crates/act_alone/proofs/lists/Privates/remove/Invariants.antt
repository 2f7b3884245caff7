use Rattle.std.proofs.Common.{◌≡◌, ◌≤◌, ◌==◌, ◌&&◌, not, length, filter, take}
use Rattle.act_alone.proofs.lists.Privates.remove.Given as goal

abbrev pub invariant-loop-p : goal.invariant-loop-p
invariant-loop-p l = (l.kept ≡ filter (λ p. not (p.made == l.host && p.region.at == l.page)) (take l.p-index l.p-items)) × (length l.kept ≤ l.p-index)
