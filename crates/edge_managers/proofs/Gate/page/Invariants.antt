use Rattle.std.proofs.Common.{◌≡◌, ℕ, ◌<◌, slice_index}
use Rattle.edge_managers.proofs.Gate.page.Given as goal

-- each place so far has the supplier's word
abbrev pub invariant-loop-place : goal.invariant-loop-place
invariant-loop-place g l = (k : ℕ) → k < l.place → slice_index l.out k ≡ g.S.Supplier.word l.self.supply l.tag l.n k
