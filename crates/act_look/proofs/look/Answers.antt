use Rattle.std.proofs.Common.{IfOk, sym, ap, subst, ◌∙◌}
use Rattle.std.proofs.lemmas.Result.{IfOk-weaker}
use Rattle.act_invoke.specs.model_kernel.Outcomes.{looked}
use Rattle.act_invoke.specs.act_alone.Loci.{container_with, locus_of}
use Rattle.act_invoke.specs.act_alone.declared.loci.Locus.{Locus}
use Rattle.page_memory.specs.Words.{words_of}
use Rattle.act_look.specs.Looks.{done_by, LooksSomehow, ReachesSomehow}
use Rattle.act_look.proofs.Cases.{shows_looked}
use Rattle.act_look.proofs.Somehow.{reached_somehow, shown_somehow}
use Rattle.act_look.proofs.look.Goals as goal

pub returns-in-Some-clause-looked : goal.returns-in-Some-clause-looked
returns-in-Some-clause-looked g c _ me s a =
    let l = locus_of c.args.locus.now in
    let words = words_of (g.S.Supplier.word c.args.gate.now.supply) (g.B.PageStore.words c.args.store.now) c.args.memory.now in
    let here = container_with words c.args.head.now in
    let aim = c.aim_of-aim.result in
    let done = done_by l here aim.address aim.access in
    shows_looked _ _ _ c.in-Some.answer here (c.aim_of-aim.ensures.makes me s a here ∙ ap (λ n. looked l here aim.address n done) (sym c.needed.ensures)) (c.in-Some.ensures.shows words done)

pub returns-in-Some-clause-somehow : goal.returns-in-Some-clause-somehow
returns-in-Some-clause-somehow g c =
    let aim = c.aim_of-aim.result in
    shown_somehow (locus_of c.args.locus.now) (locus_of c.shown.new.locus) c.args.head.now aim.address c.needed.result.0 aim.access c.in-Some.answer c.aim_of-aim.ensures.makes c.needed.ensures c.in-Some.ensures.shows

pub returns-clause-somehow : goal.returns-clause-somehow
returns-clause-somehow g c =
    let l = locus_of c.args.locus.now in
    let m = locus_of c.at_word.new.locus in
    let aim = c.aim_of-aim.result in
    let reaches = subst (λ (k : Locus). IfOk c.at_word.result (ReachesSomehow (locus_of k) m aim.address aim.access)) c.in_default.ensures.same c.at_word.ensures.somehow in
    IfOk-weaker c.at_word.result (ReachesSomehow l m aim.address aim.access) (LooksSomehow l m c.args.head.now)
    (λ answer. reached_somehow l m c.args.head.now aim.address c.needed.result.0 aim.access answer c.aim_of-aim.ensures.makes c.needed.ensures c.in_default.ensures.comes.0 c.in_default.ensures.done) reaches
