use Rattle.std.proofs.Common.{[], ◌∙◌}
use Rattle.thread_cells.proofs.Meeting.{met, put_back}
use Rattle.thread_cell_steps.proofs.Returning.{with_undone}
use Rattle.thread_cell_steps.proofs.steps.step_one.Goals as goal

pub returns-clause-undone : goal.returns-clause-undone
returns-clause-undone g c none =
    let cs = c.args.all.now in
    let a = c.locus.inside.cell in
    let at_a = met cs c.locus.inside.fragment a.clock.entity a c.locus.invariant.0 c.locus.invariant.2 c.agree.ensures.agreed in
    let back_a = put_back cs c.agree.new.self c.tell.new.all c.locus.inside.fragment c.agree.new.fragment a.clock.entity c.advance_one-came.new.locus c.tell.ensures.all (c.agree.ensures.authority) c.agree.ensures.fragment c.locus.invariant.0 in
    let undone = c.advance_one-came.ensures.undone none in
    (back_a ∙ with_undone cs a c.advance_one-came.new.locus ([]) ([]) (at_a, tt) undone.0 undone.1, undone.2)
