use Rattle.std.proofs.Common.{ℕ, sym, subst, ◌∙◌}
use Rattle.model_kernel.specs.Acts.{beside}
use Rattle.plain_states.specs.Lists.{IsActingAt}
use Rattle.plain_states.proofs.model_act_facts_lemmas.WantLemmas.{kind_atlas}
use Rattle.plain_steps.proofs.steps.step_beside.Goals as goal

pub step_atlas-requires : goal.step_atlas-requires
step_atlas-requires g c =
    let r = c.requires.1.1.1 in
    let zero' = kind_atlas c.args.other (sym c.kind.ensures ∙ c.in-Atlas.is) in
    (r.0, (r.1.0, (c.args.instr, subst (λ (x : ℕ). IsActingAt c.args.state.now.loci.items c.args.locus c.args.place (beside c.args.instr x)) zero' r.1.1)))
