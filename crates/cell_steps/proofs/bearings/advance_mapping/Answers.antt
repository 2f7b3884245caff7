use Rattle.std.proofs.Common.{sym, subst, ◌∙◌, arith}
use Rattle.cell_plans.specs.cell_calls.Besides.{KeepsMemory}
use Rattle.cell_steps.proofs.Taking.{AreThree, acts_first, takes_three}
use Rattle.cell_steps.proofs.bearings.advance_mapping.Goals as goal

pub note-requires-2 : goal.note-requires-2
note-requires-2 c acts =
    let a = c.args.locus.now in
    let b = c.args.atlas.now in
    let k = c.args.other.now in
    let made = c.step_mapping-entry.ensures in
    let mid = c.step_mapping-entry.new in
    let three : AreThree a b k = record { second = λ e. absurd (omega (arith, e)); third = λ e. absurd (omega (arith, e)); apart = λ e. absurd (omega (arith, e)) } in
    absurd (three.second (sym made.entities.1 ∙ acts ∙ acts_first a b k mid.locus mid.atlas mid.other c.step_mapping-entry.result made.step three))

pub note-requires-3 : goal.note-requires-3
note-requires-3 c acts =
    let a = c.args.locus.now in
    let b = c.args.atlas.now in
    let k = c.args.other.now in
    let made = c.step_mapping-entry.ensures in
    let mid = c.step_mapping-entry.new in
    let three : AreThree a b k = record { second = λ e. absurd (omega (arith, e)); third = λ e. absurd (omega (arith, e)); apart = λ e. absurd (omega (arith, e)) } in
    absurd (three.third (sym made.entities.2 ∙ acts ∙ acts_first a b k mid.locus mid.atlas mid.other c.step_mapping-entry.result made.step three))

pub returns-clause-step : goal.returns-clause-step
returns-clause-step c s words =
    let made = c.step_mapping-entry.ensures in
    let mid = c.step_mapping-entry.new in
    takes_three s words c.args.locus.now c.args.atlas.now c.args.other.now mid.locus mid.atlas mid.other c.note.new.cell c.note-2.new.cell c.note-3.new.cell c.step_mapping-entry.result c.named_by_snap-named.result made.step
    c.note.ensures c.note-2.ensures c.note-3.ensures (record { entity = made.entities.0; wish = made.wishes.0; left = made.left.0 }) (record { entity = made.entities.1; wish = made.wishes.1; left = made.left.1 })
    (record { entity = made.entities.2; wish = made.wishes.2; left = made.left.2 }) (c.named_by_snap-named.ensures s words)

pub returns-clause-memory : goal.returns-clause-memory
returns-clause-memory c = subst (KeepsMemory c.args.other.now.part) (sym c.note-3.ensures.part) c.step_mapping-entry.ensures.memory
