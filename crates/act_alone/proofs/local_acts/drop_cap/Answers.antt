use Rattle.std.proofs.Common.{ap, ◌∙◌}
use Rattle.base_types.specs.declared.instructions.Reply.TheVariants.{Ok}
use Rattle.model_kernel.specs.Outcomes.{local_act, finish}
use Rattle.model_kernel.specs.Refusals.{reg}
use Rattle.act_alone.specs.Loci.{locus_of}
use Rattle.model_act_facts.proofs.Allowed.{drop_allowed, cleared}
use Rattle.act_alone.proofs.local_acts.drop_cap.Goals as goal

pub returns-clause-locus : goal.returns-clause-locus
unfolding local_act
returns-clause-locus c =
    let l = locus_of c.args.l.now in
    c.finish.ensures.locus
    ∙ ap (λ caps. finish (record l { caps = caps }) Ok)
    (cleared l.caps c.clear-dropped.new.self c.register-slot.result (reg l c.args.s) c.clear-dropped.result c.register-slot.ensures (drop_allowed l c.args.s c.requires.allowed) c.clear-dropped.ensures.cleared c.clear-dropped.ensures.ok)
