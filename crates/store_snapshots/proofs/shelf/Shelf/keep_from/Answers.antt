use Rattle.std.proofs.Common.{◌≤◌, ◌<◌, ℕ, subst}
use Rattle.std.specs.Prelude.{slice_index}
use Rattle.store_facts.proofs.Shelving.{keeps_none, keeps_one}
use Rattle.store_snapshots.proofs.shelf.Shelf.keep_from.Goals.{then-cut-number, else-cut-number}
use Rattle.store_snapshots.proofs.shelf.Shelf.keep_from.Goals as goal

pub loop-i-preserved : goal.loop-i-preserved
loop-i-preserved c = elim c.if-cut-number.branch [
  | then-cut-number w ↦
      let above = subst (λ (x : ℕ). slice_index c.args.cut.now.0 x ≤ c.index-rec.result.now.version) c.number.ensures.number w.if-cut-number.true in
      rw (w.kept-is, w.self-inside-is) (keeps_one (slice_index c.args.cut.now.0) _ _ _ _ _ c.loop-i.kept c.loop-i.i c.loop-i.invariant c.loop-i-test.true c.index-rec.result.now c.index-rec.ensures w.index.result.now w.index.ensures above)
  | else-cut-number w ↦
      let below = subst (λ (x : ℕ). c.index-rec.result.now.version < slice_index c.args.cut.now.0 x) c.number.ensures.number w.if-cut-number.false in
      rw (w.kept-is, w.self-inside-is) (keeps_none (slice_index c.args.cut.now.0) _ _ _ _ _ c.loop-i.kept c.loop-i.i c.loop-i.invariant c.loop-i-test.true c.index-rec.result.now c.index-rec.ensures below)
]
