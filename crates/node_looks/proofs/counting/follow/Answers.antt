use Rattle.std.proofs.Common.{◌≡◌, ◌<◌, ℕ, arith, false, get_or-set_other, get_or-set_same, inl, inr, length, subst, ◌∙◌}
use Rattle.std.specs.Prelude.{slice_set}
use Rattle.node_looks.proofs.Flags.{birth_changed, birth_made, count_low, snap_changed, snap_made, stable_changed, stable_made, step_changed, step_made, tried_changed, tried_made}
use Rattle.node_looks.specs.Counting.{flag_at}
use Rattle.node_looks.proofs.counting.follow.Goals as goal

pub returns-in-Birth-clause-changed : goal.returns-in-Birth-clause-changed
returns-in-Birth-clause-changed c b front legal old = elim c.in-Birth.is [
  | inl is ↦ birth_changed b front c.args.entry.now legal c.args.changed.now old c.change_written.new.changed is c.change_written.ensures
  | inr is ↦ step_changed b front c.args.entry.now legal c.args.changed.now old c.change_written.new.changed is c.change_written.ensures
]

pub returns-in-Birth-clause-made : goal.returns-in-Birth-clause-made
returns-in-Birth-clause-made c b front legal old = elim c.in-Birth.is [
  | inl is ↦ birth_made b front c.args.entry.now legal is
  | inr is ↦ step_made b front c.args.entry.now legal is
]

pub returns-in-Snap-clause-changed : goal.returns-in-Snap-clause-changed
returns-in-Snap-clause-changed c b front legal old =
    let flags = slice_set c.args.changed.now c.number.result false in
    let low : c.number.result < length c.args.changed.now = (let small = c.number.ensures.small in let long = c.told-changed in omega (arith, small, long)) in
    snap_changed b front c.args.entry.now legal c.args.changed.now old flags c.in-Snap.is
    (subst (λ (y : ℕ). flag_at flags y ≡ false) c.number.ensures.number (get_or-set_same c.args.changed.now c.number.result false false low))
    (λ x other. get_or-set_other c.args.changed.now c.number.result x false false (λ same. other (same ∙ c.number.ensures.number)))

pub returns-in-Snap-clause-made : goal.returns-in-Snap-clause-made
returns-in-Snap-clause-made c b front legal old = snap_made b front c.args.entry.now legal c.args.changed.now old c.in-Snap.is

pub returns-in-Stable-clause-few : goal.returns-in-Stable-clause-few
returns-in-Stable-clause-few c = (let low = count_low (flag_at c.args.changed.now) 64 in let is = c.count_changed-count.ensures in omega (arith, low, is))

pub returns-in-Stable-clause-changed : goal.returns-in-Stable-clause-changed
returns-in-Stable-clause-changed c b front legal old = stable_changed b front c.args.entry.now legal c.args.changed.now old c.clear.new.changed c.in-Stable.is c.clear.ensures

pub returns-in-Stable-clause-made : goal.returns-in-Stable-clause-made
returns-in-Stable-clause-made c b front legal old = stable_made b front c.args.entry.now legal c.args.changed.now old c.count_changed-count.result c.in-Stable.is c.count_changed-count.ensures

pub returns-in-Tried-clause-changed : goal.returns-in-Tried-clause-changed
returns-in-Tried-clause-changed c b front legal old = tried_changed b front c.args.entry.now legal c.args.changed.now old c.in-Tried.is

pub returns-in-Tried-clause-made : goal.returns-in-Tried-clause-made
returns-in-Tried-clause-made c b front legal old = tried_made b front c.args.entry.now legal c.in-Tried.is
