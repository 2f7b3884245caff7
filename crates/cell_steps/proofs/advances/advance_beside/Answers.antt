use Rattle.std.proofs.Common.{sym, subst}
use Rattle.cell_plans.specs.cell_calls.Besides.{KeepsMemory}
use Rattle.cell_steps.proofs.Taking.{other_rests, takes_two}
use Rattle.cell_steps.proofs.advances.advance_beside.Goals as goal

pub note-requires-2 : goal.note-requires-2
note-requires-2 c acts =
    let made = c.step_beside-entry.ensures in
    absurd (other_rests c.args.locus.now c.args.other.now c.step_beside-entry.new.locus c.step_beside-entry.new.other c.step_beside-entry.result made.step c.requires.apart made.entities.1 acts)

pub returns-clause-step : goal.returns-clause-step
returns-clause-step c s words =
    let made = c.step_beside-entry.ensures in
    let mid = c.step_beside-entry.new in
    takes_two s words words c.args.locus.now c.args.other.now mid.locus mid.other c.note.new.cell c.note-2.new.cell c.step_beside-entry.result c.named_by_snap-named.result (made.step s words) c.note.ensures c.note-2.ensures
    (record { entity = made.entities.0; wish = made.rest_locus.0; left = made.rest_locus.1 }) (record { entity = made.entities.1; wish = made.rest_other.0; left = made.rest_other.1 }) (c.named_by_snap-named.ensures s words)

pub returns-clause-memory : goal.returns-clause-memory
returns-clause-memory c = subst (KeepsMemory c.args.other.now.part) (sym c.note-2.ensures.part) c.step_beside-entry.ensures.memory
