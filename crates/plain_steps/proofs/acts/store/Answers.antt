use Rattle.std.proofs.Common.{refl, ap, sym, ◌∙◌}
use Rattle.std.proofs.lemmas.Result.{err_from_is_err_and}
use Rattle.base_types.specs.declared.instructions.Reply.TheVariants.{Ok, NoPage}
use Rattle.model_kernel.specs.State.{ContainerState, ContainerCell}
use Rattle.model_kernel.specs.Words.{denied}
use Rattle.model_kernel.specs.Outcomes.{own_reply, through, with_other}
use Rattle.plain_states.specs.Plains.{container_of, locus_of}
use Rattle.plain_facts.proofs.BesideLemmas.{acted_reading, acted_writing}
use Rattle.plain_facts.proofs.LookLemmas.{through_reads, store_past, store_through, store_word}
use Rattle.plain_steps.proofs.acts.store.Goals as goal

pub returns-then-address-c-clause-made : goal.returns-then-address-c-clause-made
returns-then-address-c-clause-made c s =
    let l = locus_of c.args.l.now in
    let b = container_of s c.args.c.now in
    acted_reading _ (own_reply l NoPage) _ (ContainerCell b) _ _ (store_past l b c.args.address c.args.word c.if-address-c.true) refl refl
    c.finish.ensures.locus (c.read_only.ensures.answer ∙ c.finish.ensures.answer) c.read_only.ensures.wrote

pub returns-in-Some-clause-made : goal.returns-in-Some-clause-made
returns-in-Some-clause-made c s =
    let l = locus_of c.args.l.now in
    let b = container_of s c.args.c.now in
    let r = c.in-Some.region in
    let reads = through_reads l r c.args.address (denied r.rights.0 2) in
    acted_reading _ (through l r c.args.address (denied r.rights.0 2)) _ (ContainerCell b) _ _
    (store_through l b c.args.address c.args.word r c.if-address-c.false (sym c.in-Some.ensures.region)) reads.other reads.newborn
    c.through.ensures.locus (c.read_only-in-Some.ensures.answer ∙ c.through.ensures.answer) c.read_only-in-Some.ensures.wrote

pub returns-in_err-put_word-clause-err : goal.returns-in_err-put_word-clause-err
returns-in_err-put_word-clause-err c =
    let p = err_from_is_err_and c.from_residual.result c.from_residual.ensures.1 in
    rw p.1 (λ s. (refl, c.in_err-put_word.ensures.err s))

pub returns-clause-made : goal.returns-clause-made
returns-clause-made c s =
    let l = locus_of c.args.l.now in
    let b = container_of s c.args.c.now in
    let d = container_of s c.put_word.new.c in
    acted_writing _ (with_other l Ok (ContainerCell d)) _ (ContainerCell b) (ContainerCell d) _ _
    (store_word l b c.args.address c.args.word c.if-address-c.false (sym c.in_default.ensures.region) ∙ ap (λ (d : ContainerState). with_other l Ok (ContainerCell d)) (sym (c.in_ok-put_word.ensures.ok s)))
    refl refl c.finish-2.ensures.locus c.finish-2.ensures.answer refl
