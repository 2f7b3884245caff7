use Rattle.std.proofs.Common.{◌≡◌, [], ◌∷◌}
use Rattle.kernel_commit_facts.specs.Parts.{parts_of}
use Rattle.thread_commits.specs.Lent.{OthersStay}
use Rattle.thread_commits.proofs.Along.{GoesAlong}
use Rattle.thread_commits.proofs.touching.snap_touched_three.Given as goal

abbrev pub invariant-loop-i : goal.invariant-loop-i
invariant-loop-i g l = record {
  along : GoesAlong g.D.Disk (g.P.Policy.wish l.gate.policy) l.touches (parts_of l.fn.store l.fn.all l.fn.notes) l.i (parts_of l.store l.all l.notes);
  others : OthersStay (l.fn.one.number ∷ l.fn.two.number ∷ l.fn.three.number ∷ []) l.fn.all l.all;
  one : (l.one.number ≡ l.fn.one.number) × (l.one.known ≡ l.fn.one.known);
  two : (l.two.number ≡ l.fn.two.number) × (l.two.known ≡ l.fn.two.known);
  three : (l.three.number ≡ l.fn.three.number) × (l.three.known ≡ l.fn.three.known);
}
