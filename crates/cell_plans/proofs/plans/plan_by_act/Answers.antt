use Rattle.std.proofs.Common.{sym, ap, ◌∙◌}
use Rattle.act_look.specs.model_kernel.Acts.{Act}
use Rattle.act_look.specs.act_alone.Loci.{locus_of}
use Rattle.act_look.proofs.model_act_facts_lemmas.Alone.{act_instr, seen_same}
use Rattle.act_look.specs.model_acts.Views.{act_of}
use Rattle.cell_calls.proofs.Touching.{refused_alone, not_refused}
use Rattle.cell_plans.proofs.Planned.{wants_act}
use Rattle.cell_plans.proofs.plans.plan_by_act.Goals as goal

pub returns-then-is_some-clause-wants : goal.returns-then-is_some-clause-wants
returns-then-is_some-clause-wants c = record {
  wants = wants_act (locus_of c.args.locus.now) c.wants-act.result c.wants-act.ensures.act c.wants-act.ensures.seen c.wants-act.ensures.instruction;
  alone = refused_alone c.args.me (locus_of c.args.locus.now) (act_of c.wants-act.result) c.wants-act.ensures.act (sym c.is_some.ensures ∙ c.if-is_some.true);
}

pub returns-in-Some-clause-wants : goal.returns-in-Some-clause-wants
returns-in-Some-clause-wants c = c.reach_beside.ensures (locus_of c.args.locus.now) (wants_act (locus_of c.args.locus.now) c.wants-act.result c.wants-act.ensures.act c.wants-act.ensures.seen c.wants-act.ensures.instruction) (record {
  instr = ap (λ (a : Act). a.instr) (sym c.wants-act.ensures.act);
  allowed = ap (λ (a : Act). a.refused) (sym c.wants-act.ensures.act) ∙ not_refused c.wants-act.result.refused (sym c.is_some.ensures ∙ c.if-is_some.false);
  other = ap (λ (a : Act). a.other) (sym c.wants-act.ensures.act) ∙ c.in-Some.is;
})

pub returns-in-None-clause-wants : goal.returns-in-None-clause-wants
returns-in-None-clause-wants c =
    let l = locus_of c.args.locus.now in
    let act = act_of c.wants-act.result in
    c.reach_alone.ensures l (wants_act (locus_of c.args.locus.now) c.wants-act.result c.wants-act.ensures.act c.wants-act.ensures.seen c.wants-act.ensures.instruction) (record {
      instr = ap (λ (a : Act). a.instr) (sym c.wants-act.ensures.act);
      allowed = ap (λ (a : Act). a.refused) (sym c.wants-act.ensures.act) ∙ not_refused c.wants-act.result.refused (sym c.is_some.ensures ∙ c.if-is_some.false);
      other = ap (λ (a : Act). a.other) (sym c.wants-act.ensures.act) ∙ c.in-None.is;
      same = λ me. c.wants-act.ensures.seen me ∙ seen_same me act c.in-None.is ∙ c.wants-act.ensures.act;
    })

pub returns-then-is_some-clause-instr : goal.returns-then-is_some-clause-instr
returns-then-is_some-clause-instr c = act_instr (locus_of c.args.locus.now) (act_of c.wants-act.result) c.wants-act.ensures.act

pub returns-in-Some-clause-instr : goal.returns-in-Some-clause-instr
returns-in-Some-clause-instr c = act_instr (locus_of c.args.locus.now) (act_of c.wants-act.result) c.wants-act.ensures.act

pub returns-in-None-clause-instr : goal.returns-in-None-clause-instr
returns-in-None-clause-instr c = act_instr (locus_of c.args.locus.now) (act_of c.wants-act.result) c.wants-act.ensures.act
