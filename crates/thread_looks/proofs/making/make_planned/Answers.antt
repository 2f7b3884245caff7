use Rattle.std.proofs.Common.{[], None, refl, sym, subst}
use Rattle.kernel_core_facts.specs.kernel_commit_facts.Parts.{Noted, parts_of}
use Rattle.kernel_core_facts.specs.kernel_invariant.declared.stopping.Stopped.{Stopped}
use Rattle.std.specs.Prelude.{IfOk, Result}
use Rattle.kernel_core_facts.proofs.Paired.{few_writes}
use Rattle.kernel_core_facts.proofs.kernel_commit_facts_lemmas.Steadying.{entry_room}
use Rattle.thread_cell_steps.specs.Advancing.{TouchesThese}
use Rattle.kernel_core_facts.specs.Looked.{IfMade, StepsOnce}
use Rattle.thread_looks.specs.Making.{looked_by}
use Rattle.kernel_core_facts.specs.declared.looked.Looked.{Looked}
use Rattle.thread_looks.proofs.Ends.{if_looked, none_still, some_not}
use Rattle.thread_looks.proofs.Made.{makes, openly}
use Rattle.thread_looks.proofs.making.make_planned.Goals as goal

pub step_one-requires : goal.step_one-requires
step_one-requires g c =
    let k = c.requires.steady in
    record { planned = c.requires.planned; keeps = c.requires.keeps; may = record { orderly = k.sound.matches.orderly; few = few_writes g.D.Disk (parts_of c.args.store.now c.args.all.now c.args.notes.now) k; clean = c.requires.clean } }

pub note_came-requires : goal.note_came-requires
note_came-requires g c =
    let d = g.D.Disk in
    let k = c.requires.steady in
    record {
      room = entry_room d (parts_of c.args.store.now c.args.all.now c.args.notes.now) k;
      works = openly d g.met.D.Disk.counts_later g.met.D.Disk.only_now (g.S.Supplier.word c.args.gate.now.supply) c.args.locus.now.number c.args.all.now c.step_one.new.all c.args.store.now c.step_one.new.store c.args.notes.now
          k c.requires.clean c.in-Some.came c.in-Some.ensures.advanced;
    }

pub returns-in-None-clause-unfit : goal.returns-in-None-clause-unfit
returns-in-None-clause-unfit g c = none_still None refl c.in-None.ensures.unfit None refl

pub returns-in-Some-clause-unfit : goal.returns-in-Some-clause-unfit
returns-in-Some-clause-unfit g c = some_not c.in-Some.came c.note_came.result c.in-Some.ensures.unfit

pub returns-in-Some-clause-makes : goal.returns-in-Some-clause-makes
returns-in-Some-clause-makes g c =
    let d = g.D.Disk in
    let s = g.S.Supplier.word c.args.gate.now.supply in
    let old = parts_of c.args.store.now c.args.all.now c.args.notes.now in
    subst (λ (q : Result Looked Stopped). StepsOnce d s c.args.locus.now.number old (parts_of c.step_one.new.store c.step_one.new.all c.note_came.new.notes) q) (sym c.note_came.ensures.looked)
    (subst (λ (n : Noted). StepsOnce d s c.args.locus.now.number old (parts_of c.step_one.new.store c.step_one.new.all n) (looked_by c.in-Some.came)) (sym c.note_came.ensures.noted)
    (makes d g.met.D.Disk.counts_later g.met.D.Disk.only_now s c.args.locus.now.number c.args.all.now c.step_one.new.all c.args.store.now c.step_one.new.store c.args.notes.now c.requires.steady c.requires.clean
    c.in-Some.came c.in-Some.ensures.advanced))

pub returns-in-Some-clause-touches : goal.returns-in-Some-clause-touches
returns-in-Some-clause-touches g c =
    subst (λ (q : Result Looked Stopped). IfOk q (λ o. IfMade o (TouchesThese c.args.all.now c.args.locus.now.number ([])))) (sym c.note_came.ensures.looked)
    (if_looked (TouchesThese c.args.all.now c.args.locus.now.number ([])) c.in-Some.came c.in-Some.ensures.touches)
