use Rattle.std.proofs.Common.{ap, sym, ◌∙◌}
use Rattle.act_alone.specs.model_kernel.Outcomes.{enter}
use Rattle.act_alone.specs.Loci.{locus_of, container_with}
use Rattle.act_invoke.proofs.Entered.{has_caller, back_enters, invoked_entered}
use Rattle.act_invoke.proofs.back.Goals as goal

pub unreachable-requires : goal.unreachable-requires
unreachable-requires c = has_caller (locus_of c.args.locus.now) c.requires.wants.0 c.requires.wants.1 (sym c.pop.ensures.call ∙ c.in_default.is)

pub returns : goal.returns
returns c me s a words =
    let l = locus_of c.args.locus.now in
    let h = container_with words c.args.head.now in
    let call = c.in-Some.call in
    invoked_entered l h _ _ (back_enters l c.requires.wants.0 h call c.requires.wants.1 (sym c.pop.ensures.call ∙ c.in-Some.is)) (c.enter.ensures words ∙ ap (λ ch. enter l call.container h call.place ch) c.pop.ensures.rest) me s a
