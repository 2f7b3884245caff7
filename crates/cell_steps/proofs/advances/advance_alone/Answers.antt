use Rattle.cell_steps.proofs.Taking.{cell_kept, wish_kept}
use Rattle.cell_steps.proofs.advances.advance_alone.Goals as goal

pub returns-clause-step : goal.returns-clause-step
returns-clause-step c s words =
    let old = c.args.locus.now in
    let entry = c.step_alone-entry.result in
    let named = c.named_by_snap-named.result in
    let made = c.step_alone-entry.ensures in
    let mid = c.step_alone-entry.new.cell in
    let new = c.note.new.cell in
    record {
      step = λ w has. let r = made.step s words w has.0 in (r.0, r.1, (cell_kept s words r.0 entry named mid new c.note.ensures r.2, tt));
      wishes = λ steps r v has wish. (
        wish_kept s words steps r v entry named old.clock.entity old.part old mid new c.note.ensures (record { entity = made.entity; wish = made.rest.0; left = made.rest.1 }) has.0.part (c.named_by_snap-named.ensures s words) wish.0,
        tt,
      );
    }
