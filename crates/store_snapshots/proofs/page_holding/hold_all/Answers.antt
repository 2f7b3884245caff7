use Rattle.std.proofs.Common.{◌<◌, false, length, refl, subst, ◌∙◌, arith}
use Rattle.std.specs.Prelude.{slice_index}
use Rattle.std.specs.List.{list_any}
use Rattle.std.proofs.lemmas.List.{take_all}
use Rattle.store_facts.specs.Holds.{HasHeld}
use Rattle.store_facts.specs.Naming.{is_use}
use Rattle.store_facts.proofs.Holds.{held_more, held_none, held_one, held_zero, marked_still, place_held}
use Rattle.store_snapshots.proofs.page_holding.hold_all.Goals.{then-block-ne0, else-block-ne0}
use Rattle.store_snapshots.proofs.page_holding.hold_all.Goals as goal

pub loop-block-init : goal.loop-block-init
loop-block-init c = held_none (λ n. false) c.args.ledger.now (λ n. refl)

pub hold-requires : goal.hold-requires
hold-requires c = place_held _ c.args.blocks.now c.loop-block.block-index c.args.ledger.now c.loop-block.ledger c.requires.places c.loop-block.invariant c.loop-block-test.true c.if-block-ne0.true

pub loop-block-preserved : goal.loop-block-preserved
loop-block-preserved c = elim c.if-block-ne0.branch [
  | then-block-ne0 w ↦
      let place = place_held _ c.args.blocks.now c.loop-block.block-index c.args.ledger.now c.loop-block.ledger c.requires.places c.loop-block.invariant c.loop-block-test.true w.if-block-ne0.true in
      let marked = marked_still _ c.args.ledger.now c.loop-block.ledger c.loop-block.invariant c.requires.marked in
      let within : slice_index c.args.blocks.now c.loop-block.block-index < length c.loop-block.ledger.held = (let high = place.1 in omega (arith, high, marked)) in
      held_more is_use c.args.blocks.now c.loop-block.block-index 0 c.args.ledger.now c.loop-block.ledger c.if-block-ne0.ledger c.loop-block-test.true c.loop-block.invariant
      (held_one c.loop-block.ledger c.if-block-ne0.ledger (slice_index c.args.blocks.now c.loop-block.block-index) (w.ledger-is ∙ w.hold.ensures) within w.if-block-ne0.true)
  | else-block-ne0 w ↦
      rw w.ledger-is
      (held_more is_use c.args.blocks.now c.loop-block.block-index 0 c.args.ledger.now c.loop-block.ledger c.loop-block.ledger c.loop-block-test.true c.loop-block.invariant
      (held_zero c.loop-block.ledger (slice_index c.args.blocks.now c.loop-block.block-index) w.if-block-ne0.false))
]

pub returns : goal.returns
returns c =
    subst (λ bs. HasHeld (λ n. list_any (is_use n) bs) c.args.ledger.now c.loop-block.ledger) (take_all c.loop-block.block-index c.args.blocks.now (let past = c.loop-block-test.false in omega (arith, past))) c.loop-block.invariant
