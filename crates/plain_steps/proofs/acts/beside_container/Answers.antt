use Rattle.std.proofs.Common.{◌≡◌, refl, sym, subst, ◌∙◌}
use Rattle.base_types.specs.declared.instructions.Reply.TheVariants.{Ok as OkReply, WrongKind}
use Rattle.model_kernel.specs.Outcomes.{Outcome, give, invoke, leave, load, on_cell, take_cap, with_other}
use Rattle.model_kernel.specs.State.{ContainerCell, no_atlas}
use Rattle.plain_states.specs.Plains.{container_of, locus_of}
use Rattle.plain_states.proofs.ActLemmas.{err_by, ok_by}
use Rattle.plain_facts.specs.Acts.{Acted}
use Rattle.plain_facts.proofs.BesideLemmas.{acted_reading, acted_writing, give_bears, invoke_writes, leave_writes, on_give, on_invoke, on_leave, on_load, on_other, on_return, on_snap, on_store, on_take, take_writes}
use Rattle.plain_facts.proofs.LookLemmas.{load_reads}
use Rattle.plain_steps.proofs.acts.beside_container.Goals as goal

pub returns-in-Load-clause-made : goal.returns-in-Load-clause-made
returns-in-Load-clause-made g c =
    let l = locus_of c.args.l.now in
    let b = container_of g.s c.args.c.now in
    let address = c.next_address-address.result in
    let reads = load_reads l b c.in-Load.d address in
    acted_reading _ (load l b c.in-Load.d address) _ (ContainerCell b) _ _
    (on_load g.s l c.args.number b c.args.instr c.in-Load.d c.in-Load.a _ address c.in-Load.is c.register.ensures c.next_address-address.ensures) reads.other reads.newborn
    c.load.ensures.locus (c.read_only.ensures.answer ∙ c.load.ensures.answer) c.read_only.ensures.wrote

pub returns-in-Store-clause-made : goal.returns-in-Store-clause-made
returns-in-Store-clause-made g c =
    let l = locus_of c.args.l.now in
    let b = container_of g.s c.args.c.now in
    let address = c.next_address-address-in-Store.result in
    let same = on_store g.s l c.args.number b c.args.instr c.in-Store.a c.in-Store.v _ address c.register-word.result c.in-Store.is c.register-in-Store.ensures c.next_address-address-in-Store.ensures c.register-word.ensures in
    ok_by c.store.result (λ made h. subst (λ (o : Outcome). Acted o (locus_of c.store.new.l) (ContainerCell b) (ContainerCell (container_of g.s c.store.new.c)) made.answer made.wrote) (sym same) (h g.s)) c.store.ensures.made

pub returns-in-Store-clause-err : goal.returns-in-Store-clause-err
returns-in-Store-clause-err g c = err_by c.store.result (λ h. h g.s) c.store.ensures.err

pub returns-in_ok-invoke-in-Invoke-clause-made : goal.returns-in_ok-invoke-in-Invoke-clause-made
returns-in_ok-invoke-in-Invoke-clause-made g c =
    let l = locus_of c.args.l.now in
    let b = container_of g.s c.args.c.now in
    let writes = invoke_writes l c.args.number b in
    acted_writing _ (invoke l c.args.number b) _ (ContainerCell b) (ContainerCell b) _ _ (on_invoke g.s l c.args.number b c.args.instr _ c.in-Invoke.is) writes.other writes.newborn
    (c.in_ok-invoke-in-Invoke.ensures.locus g.s) (c.written.ensures.answer ∙ c.in_ok-invoke-in-Invoke.ensures.answer g.s) c.written.ensures.wrote

pub returns-in_ok-leave-in-Leave-clause-made : goal.returns-in_ok-leave-in-Leave-clause-made
returns-in_ok-leave-in-Leave-clause-made g c =
    let l = locus_of c.args.l.now in
    let b = container_of g.s c.args.c.now in
    let writes = leave_writes l c.args.number b in
    acted_writing _ (leave l c.args.number b) _ (ContainerCell b) (ContainerCell b) _ _ (on_leave g.s l c.args.number b c.args.instr _ c.in-Leave.is) writes.other writes.newborn
    (c.in_ok-leave-in-Leave.ensures.locus g.s) (c.written-in-Leave.ensures.answer ∙ c.in_ok-leave-in-Leave.ensures.answer g.s) c.written-in-Leave.ensures.wrote

pub returns-in-Return-clause-made : goal.returns-in-Return-clause-made
returns-in-Return-clause-made g c =
    let l = locus_of c.args.l.now in
    let b = container_of g.s c.args.c.now in
    let same = on_return g.s l c.args.number b c.args.instr c.in-Return.is in
    ok_by c.back.result (λ made h. subst (λ (o : Outcome). Acted o (locus_of c.back.new.l) (ContainerCell b) (ContainerCell b) made.answer made.wrote) (sym same) (h g.s)) c.back.ensures.made

pub returns-in-Take-clause-made : goal.returns-in-Take-clause-made
returns-in-Take-clause-made g c =
    let l = locus_of c.args.l.now in
    let b = container_of g.s c.args.c.now in
    let slot = c.register-slot.result in
    let writes = take_writes l b c.in-Take.d slot in
    acted_writing _ (take_cap l b c.in-Take.d slot) _ (ContainerCell b) (ContainerCell b) _ _
    (on_take g.s l c.args.number b c.args.instr c.in-Take.d _ _ slot c.in-Take.is c.register-slot.ensures) writes.other writes.newborn
    (c.take.ensures.locus g.s) (c.written-in-Take.ensures.answer ∙ c.take.ensures.answer g.s) c.written-in-Take.ensures.wrote

pub returns-in-Give-clause-made : goal.returns-in-Give-clause-made
returns-in-Give-clause-made g c =
    let l = locus_of c.args.l.now in
    let b = container_of g.s c.args.c.now in
    let cap = c.given_cap-cap.result in
    acted_writing _ (give l b c.in-Give.d cap) _ (ContainerCell b) (ContainerCell (container_of g.s c.give.new.c)) _ _
    (on_give g.s l c.args.number b c.args.instr c.in-Give.d _ _ _ cap c.in-Give.is c.given_cap-cap.ensures) (sym (c.give.ensures.container g.s)) (give_bears l b c.in-Give.d cap)
    (c.give.ensures.locus g.s) (c.written-in-Give.ensures.answer ∙ c.give.ensures.answer g.s) c.written-in-Give.ensures.wrote

pub returns-in-Snap-clause-made : goal.returns-in-Snap-clause-made
returns-in-Snap-clause-made g c =
    let l = locus_of c.args.l.now in
    let b = container_of g.s c.args.c.now in
    acted_writing _ (with_other l OkReply (ContainerCell b)) _ (ContainerCell b) (ContainerCell b) _ _ (on_snap g.s l c.args.number b c.args.instr _ c.in-Snap.is) refl refl
    c.finish.ensures.locus (c.written-in-Snap.ensures.answer ∙ c.finish.ensures.answer) c.written-in-Snap.ensures.wrote

pub returns-in_default : goal.returns-in_default
returns-in_default g c =
    let l = locus_of c.args.l.now in
    let b = container_of g.s c.args.c.now in
    let no = c.in_default in
    let same : on_cell g.s l no_atlas c.args.number c.args.instr (ContainerCell b) ≡ with_other l WrongKind (ContainerCell b) =
    on_other g.s l c.args.number b c.args.instr no.not-Load no.not-Store no.not-Invoke no.not-Leave no.not-Return no.not-Take no.not-Give no.not-Snap c.requires.1.1.1.1.1.1 in
    record {
      made = acted_writing _ (with_other l WrongKind (ContainerCell b)) _ (ContainerCell b) (ContainerCell b) _ _ same refl refl
          c.finish-in_default.ensures.locus (c.written-in_default.ensures.answer ∙ c.finish-in_default.ensures.answer) c.written-in_default.ensures.wrote;
      err = tt;
    }
