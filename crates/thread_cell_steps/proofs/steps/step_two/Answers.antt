use Rattle.std.proofs.Common.{[], ◌∷◌, slice_get, slice_set, sym, ap, ◌∙◌}
use Rattle.thread_cells.proofs.Meeting.{met, put_back}
use Rattle.thread_cell_steps.proofs.Returning.{with_undone}
use Rattle.thread_cell_steps.proofs.steps.step_two.Goals as goal

pub returns-clause-undone : goal.returns-clause-undone
returns-clause-undone g c none =
    let cs = c.args.all.now in
    let a = c.locus.inside.cell in
    let o = c.other.inside.cell in
    let at_a = met cs c.locus.inside.fragment a.clock.entity a c.locus.invariant.0 c.locus.invariant.2 c.agree.ensures.agreed in
    let at_o = met cs c.other.inside.fragment o.clock.entity o c.other.invariant.0 c.other.invariant.2 (ap (λ l. slice_get l c.other.inside.fragment.number) (sym (c.agree.ensures.authority)) ∙ c.agree-2.ensures.agreed) in
    let back_a = put_back cs c.agree-2.new.self c.tell.new.all c.locus.inside.fragment c.agree.new.fragment a.clock.entity c.advance_two-came.new.locus c.tell.ensures.all (c.agree-2.ensures.authority ∙ c.agree.ensures.authority) c.agree.ensures.fragment c.locus.invariant.0 in
    let back_o = put_back (slice_set cs a.clock.entity c.advance_two-came.new.locus) c.tell.new.all c.tell-2.new.all c.other.inside.fragment c.agree-2.new.fragment o.clock.entity c.advance_two-came.new.other c.tell-2.ensures.all back_a c.agree-2.ensures.fragment c.other.invariant.0 in
    let undone = c.advance_two-came.ensures.undone none in
    (back_o ∙ with_undone cs a c.advance_two-came.new.locus (o ∷ []) (c.advance_two-came.new.other ∷ []) (at_a, (at_o, tt)) undone.0 undone.1, undone.2)
