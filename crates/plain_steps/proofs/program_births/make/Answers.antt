use Rattle.std.proofs.Common.{◌≡◌, List, [], ◌∷◌, ◌++◌, map, string_bytes, sym, ap, ◌∙◌}
use Rattle.std.proofs.lemmas.List.{map_push}
use Rattle.model_kernel.specs.Outcomes.{finish, made_name}
use Rattle.model_kernel.specs.State.{Text, AtlasState, LocusState}
use Rattle.base_types.specs.declared.instructions.Reply.TheVariants.{Ok}
use Rattle.plain_states.specs.Plains.{atlas_of, container_of, locus_of}
use Rattle.plain_facts.proofs.MadeLemmas.{make_makes}
use Rattle.plain_steps.proofs.program_births.make.Goals as goal

pub returns-clause-made : goal.returns-clause-made
returns-clause-made c s =
    let l = locus_of c.args.l.now in
    let a = atlas_of c.args.atlas.now in
    let old = c.args.atlas.now.containers.items in
    let names : map string_bytes c.push.new.self.items ≡ a.containers ++ made_name c.in-Some.newborn ∷ [] =
    ap (map string_bytes) c.in_ok-push.ensures.items ∙ map_push string_bytes old c.in_ok-name.name ∙ ap (λ t. map string_bytes old ++ t ∷ []) c.in_ok-name.ensures in
    let with_names = λ (ts : List Text). let b : AtlasState = record a { containers = ts } in b in
    make_makes s l (locus_of c.finish-answer-2.new.l) a _ c.args.d c.args.pages c.args.tag c.args.entry c.in-Some.newborn (container_of s c.in_ok-container.container) c.finish-answer-2.result
    (sym c.free_container.ensures ∙ c.in-Some.is) (c.finish-answer-2.ensures.locus ∙ ap (λ (m : LocusState). finish m Ok) c.hold.ensures) c.finish-answer-2.ensures.answer (ap with_names names) (c.in_ok-container.ensures s)
