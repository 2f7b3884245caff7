use Rattle.std.proofs.Common.{ℕ, ◌<◌, ◌≡◌, ◌++◌, ◌∷◌, [], Bool, false, ap, sym, subst, ◌∙◌, arith, slice_index}
use Rattle.base_types.specs.declared.histories.Event.TheVariants.{Snap as SnapEvent}
use Rattle.plain_states.specs.model_kernel.Histories.{mark}
use Rattle.plain_states.specs.model_kernel.Words.{put}
use Rattle.trace_steps.specs.Standing.{Stands}
use Rattle.trace_steps.proofs.Marking.{snap_ascending, snap_few, snap_stands}
use Rattle.trace_steps.proofs.snaps.take_snap.Goals as goal

below : (n x : ℕ) → n ≡ x → n < 64 → x < 64
below n x e h = omega arith

pub commit_one-requires-clause-few : goal.commit_one-requires-clause-few
commit_one-requires-clause-few g c =
    let k = c.requires.0 in
    snap_few k.supply g.p k.script k.start k.entries c.args.checker.now k.stands c.requires.1 c.args.entity k.may

pub commit_one-requires-clause-ascending : goal.commit_one-requires-clause-ascending
commit_one-requires-clause-ascending g c =
    let k = c.requires.0 in
    snap_ascending k.supply g.p k.script k.start k.entries c.args.checker.now k.stands c.requires.1 c.args.entity k.may c.record_of-rec.result (below _ _ c.number.ensures.number c.number.ensures.small) c.record_of-rec.ensures

pub returns : goal.returns
returns g c = λ s script w es h may.
    let old = c.args.checker.now in
    let x = c.args.entity in
    let wishes = c.take_record.new.self in
    subst
    (λ (b : Bool). Stands s g.p script w (record old { cuts = c.commit_one.new.cuts; wishes = wishes; short = b; began = false }) (es ++ mark SnapEvent x (slice_index old.versions x) ∷ []))
    (sym c.is_some-checker.ensures)
    (snap_stands s g.p script w es old h c.requires.1 x may c.record_of-rec.result c.commit_one.new.cuts wishes c.full-full.result (below _ _ c.number.ensures.number c.number.ensures.small) c.record_of-rec.ensures
    c.in_ok-commit_one.ensures.start c.in_ok-commit_one.ensures.greatest c.in_ok-commit_one.ensures.kept c.full-full.ensures
    (λ y. c.take_record.ensures.newest y ∙ ap (λ n. put (slice_index old.wishes.newest) x (slice_index old.versions n) y) c.number.ensures.number)
    c.take_record.ensures.by_step c.take_record.ensures.asked c.take_record.ensures.was_full c.take_record.ensures.full)
