use Rattle.std.proofs.Common.{◌≡◌, ◌++◌, [], ◌∷◌, List, Option, refl, ap, ◌∙◌}
use Rattle.std.specs.Option.{option_to_list}
use Rattle.base_types.specs.declared.instructions.Call.{Call}
use Rattle.base_types.specs.declared.instructions.Instr.{Instr}
use Rattle.model_kernel.specs.State.{ContainerCell}
use Rattle.model_kernel.specs.Outcomes.{enter, entered}
use Rattle.plain_states.specs.Plains.{container_of, locus_of}
use Rattle.plain_facts.specs.Acts.{going_on_in}
use Rattle.plain_facts.proofs.BesideLemmas.{acted_writing, back_last}
use Rattle.plain_steps.proofs.beside_acts.back.Goals as goal

pub returns-clause-made : goal.returns-clause-made
returns-clause-made c s =
    let l = locus_of c.args.l.now in
    let b = container_of s c.args.c.now in
    let call = c.in-Some.call in
    let rest = c.pop.new.self.items in
    let chain : l.chain ≡ rest ++ call ∷ [] = c.pop.ensures.items ∙ ap (λ (o : Option Call). rest ++ option_to_list o) c.in-Some.is in
    let went = record l { chain = rest } in
    acted_writing _ (entered b (enter l call.container b call.place rest)) _ _ (ContainerCell b) _ _ (back_last l b rest call chain) refl refl
    (c.enter.ensures.locus ∙ ap (λ (code : List Instr). going_on_in went call.container code call.place) c.in_ok-code.ensures)
    (c.written.ensures.answer ∙ c.enter.ensures.answer) c.written.ensures.wrote
