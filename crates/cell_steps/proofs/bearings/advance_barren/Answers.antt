use Rattle.std.proofs.Common.{arith}
use Rattle.cell_steps.proofs.Taking.{other_rests, takes_two}
use Rattle.cell_steps.proofs.bearings.advance_barren.Goals as goal

pub note-requires-2 : goal.note-requires-2
note-requires-2 c acts =
    let made = c.step_no_number-entry.ensures in
    absurd (other_rests c.args.locus.now c.args.atlas.now c.step_no_number-entry.new.locus c.step_no_number-entry.new.atlas c.step_no_number-entry.result made.step (λ e. absurd (omega (arith, e))) made.entities.1 acts)

pub returns-clause-step : goal.returns-clause-step
returns-clause-step c s words =
    let made = c.step_no_number-entry.ensures in
    let mid = c.step_no_number-entry.new in
    takes_two s words words c.args.locus.now c.args.atlas.now mid.locus mid.atlas c.note.new.cell c.note-2.new.cell c.step_no_number-entry.result c.named_by_snap-named.result (made.step s words) c.note.ensures c.note-2.ensures
    (record { entity = made.entities.0; wish = made.rest.0; left = made.rest.1 }) (record { entity = made.entities.1; wish = made.rest.2; left = made.rest.3 }) (c.named_by_snap-named.ensures s words)

pub named_by_snap-named-requires : goal.named_by_snap-named-requires
named_by_snap-named-requires c = let wants = c.requires.wants in (wants.0, wants.1, wants.5)

pub step_no_number-entry-requires-clause-wants : goal.step_no_number-entry-requires-clause-wants
step_no_number-entry-requires-clause-wants c = let wants = c.requires.wants in (wants.0, wants.1, wants.2, wants.3, wants.4)
