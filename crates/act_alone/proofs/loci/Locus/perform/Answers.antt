use Rattle.std.proofs.Common.{subst, sym, ap, ◌∙◌, refl}
use Rattle.model_kernel.specs.Outcomes.{Outcome}
use Rattle.model_acts.specs.Views.{act_of, IsReadyLocus}
use Rattle.act_alone.specs.Loci.{locus_of}
use Rattle.model_act_facts.proofs.Alone.{act_instr, act_refusal, act_allowed, act_touches, refused_within, place_within, makes_refusal, makes_act}
use Rattle.model_act_facts.proofs.Kept.{ready_finish, ready_act}
use Rattle.act_alone.proofs.loci.Locus.perform.Goals as goal

pub finish-requires : goal.finish-requires
finish-requires c =
    let l = locus_of c.args.self.now in
    refused_within l c.in-Some.reply c.requires.ready (act_refusal l (act_of c.args.act) c.requires.wants.is ∙ c.in-Some.is)

pub carry_out-requires-clause-alone : goal.carry_out-requires-clause-alone
carry_out-requires-clause-alone c = act_touches (locus_of c.args.self.now) (act_of c.args.act) c.requires.wants.is c.requires.wants.seen c.requires.alone c.in-None.is

pub carry_out-requires-clause-place : goal.carry_out-requires-clause-place
carry_out-requires-clause-place c goes =
    let l = locus_of c.args.self.now in
    place_within l c.requires.ready (λ halts. goes (act_instr l (act_of c.args.act) c.requires.wants.is ∙ halts))

pub carry_out-requires-clause-allowed : goal.carry_out-requires-clause-allowed
carry_out-requires-clause-allowed c = act_allowed (locus_of c.args.self.now) (act_of c.args.act) c.requires.wants.is c.in-None.is

pub returns-in-Some-clause-locus : goal.returns-in-Some-clause-locus
returns-in-Some-clause-locus c me s a cell =
    let l = locus_of c.args.self.now in
    c.finish.ensures.locus
    ∙ sym (ap (λ (o : Outcome). o.locus) ((makes_refusal l (act_of c.args.act) c.in-Some.reply c.requires.wants.is c.requires.wants.seen c.requires.alone c.in-Some.is).is me s a cell))

pub returns-in-Some-clause-answer : goal.returns-in-Some-clause-answer
returns-in-Some-clause-answer c me s a cell =
    let l = locus_of c.args.self.now in
    c.finish.ensures.answer
    ∙ sym (ap (λ (o : Outcome). o.answer) ((makes_refusal l (act_of c.args.act) c.in-Some.reply c.requires.wants.is c.requires.wants.seen c.requires.alone c.in-Some.is).is me s a cell))

pub returns-in-None-clause-locus : goal.returns-in-None-clause-locus
returns-in-None-clause-locus c me s a cell =
    let l = locus_of c.args.self.now in
    let act = act_of c.args.act in
    c.carry_out.ensures.locus
    ∙ sym (ap (λ (o : Outcome). o.locus)
    ((makes_act l act act.instr c.requires.wants.is c.requires.wants.seen c.requires.alone c.in-None.is refl (act_touches l act c.requires.wants.is c.requires.wants.seen c.requires.alone c.in-None.is)).is me s a cell))

pub returns-in-None-clause-answer : goal.returns-in-None-clause-answer
returns-in-None-clause-answer c me s a cell =
    let l = locus_of c.args.self.now in
    let act = act_of c.args.act in
    c.carry_out.ensures.answer
    ∙ sym (ap (λ (o : Outcome). o.answer)
    ((makes_act l act act.instr c.requires.wants.is c.requires.wants.seen c.requires.alone c.in-None.is refl (act_touches l act c.requires.wants.is c.requires.wants.seen c.requires.alone c.in-None.is)).is me s a cell))

pub returns-in-Some-clause-ready : goal.returns-in-Some-clause-ready
returns-in-Some-clause-ready c = subst IsReadyLocus (sym c.finish.ensures.locus) (ready_finish (locus_of c.args.self.now) c.in-Some.reply c.requires.ready
    (refused_within (locus_of c.args.self.now) c.in-Some.reply c.requires.ready (act_refusal (locus_of c.args.self.now) (act_of c.args.act) c.requires.wants.is ∙ c.in-Some.is)))

pub returns-in-None-clause-ready : goal.returns-in-None-clause-ready
returns-in-None-clause-ready c =
    let l = locus_of c.args.self.now in
    let act = act_of c.args.act in
    subst IsReadyLocus (sym c.carry_out.ensures.locus)
    (ready_act l act.instr c.requires.ready c.requires.wants.instruction (act_touches l act c.requires.wants.is c.requires.wants.seen c.requires.alone c.in-None.is)
    (λ goes. place_within l c.requires.ready (λ halts. goes (act_instr l act c.requires.wants.is ∙ halts))) (act_allowed l act c.requires.wants.is c.in-None.is))
