use Rattle.std.proofs.Common.{◌≡◌, ◌≤◌, ◌∙◌, Some, ap, sym, length, arith}
use Rattle.std.specs.Prelude.{slice_get, slice_index}
use Rattle.std.proofs.lemmas.Option.{slice_get-get_or}
use Rattle.base_types.specs.declared.records.Rec.{Rec}
use Rattle.image_chosen_facts.proofs.Slots.{found_slot, none_taken, not_more}
use Rattle.image_chosen.proofs.choosing.chosen_slot.Goals as goal

pub returns-then-is_at-clause-some : goal.returns-then-is_at-clause-some
returns-then-is_at-clause-some c =
    let rec : Rec = c.index-recs-slot.result in
    let here : slice_get c.args.recs.now c.loop-slot.slot ≡ Some rec = slice_get-get_or c.args.recs.now c.loop-slot.slot rec (omega arith) ∙ ap Some (sym c.index-recs-slot.is) in
    found_slot (slice_index c.args.cut.now.0) c.args.x c.args.recs.now c.loop-slot.slot rec c.loop-slot.invariant here (sym c.is_at.ensures ∙ c.if-is_at.true)

pub loop-slot-preserved : goal.loop-slot-preserved
loop-slot-preserved c =
    let rec : Rec = c.index-recs-slot.result in
    let here : slice_get c.args.recs.now c.loop-slot.slot ≡ Some rec = slice_get-get_or c.args.recs.now c.loop-slot.slot rec (omega arith) ∙ ap Some (sym c.index-recs-slot.is) in
    not_more (slice_index c.args.cut.now.0) c.args.x c.args.recs.now c.loop-slot.slot rec c.loop-slot.invariant here (sym c.is_at.ensures ∙ c.if-is_at.false)

pub returns-clause-none : goal.returns-clause-none
returns-clause-none c =
    let past : length c.args.recs.now ≤ c.loop-slot.slot = omega arith in
    none_taken (slice_index c.args.cut.now.0) c.args.x c.args.recs.now c.loop-slot.slot past c.loop-slot.invariant
