use Rattle.std.proofs.Common.{◌≡◌, ◌+◌, ◌∷◌, [], ℕ, List, Option, Some, map, option_map, ap, subst, sym, ◌∙◌}
use Rattle.std.specs.Prelude.{string_bytes}
use Rattle.std.proofs.lemmas.List.{map-append}
use Rattle.data_atlas.specs.data_atlas_facts.Directory.{Directory, name_of}
use Rattle.image_plain.specs.Names.{AreNames}
use Rattle.image_plain.proofs.Naming.{names_more, none_is, told_name}
use Rattle.image_plain.proofs.atlases.names_from.Goals as goal
use Rattle.image_plain.proofs.atlases.names_from.Goals.{in-Some+in_ok-name-in-Some, in-None}
use Rattle.std.proofs.lemmas.Option.{same_Some}

pub loop-place-preserved : goal.loop-place-preserved
loop-place-preserved c =
    let a : Directory = c.args.atlas.now in
    let n : ℕ = c.loop-place.place in
    let new : List ℕ = string_bytes c.match-name.name in
    let here : (name : List ℕ) → name_of a (c.args.first + n) ≡ Some name → new ≡ name = λ name is.
    let told = told_name (λ text. text.bytes) c.name.result a c.of.result (c.args.first + n) name c.name.ensures c.of.ensures is in
    elim c.match-name.branch [
      | in-Some+in_ok-name-in-Some w ↦ ap string_bytes w.name-is ∙ (w.in_ok-name-in-Some.ensures.ok ∙ (w.as_str.ensures.value
          ∙ same_Some w.in-Some.name.bytes name (subst (λ (o : Option _). option_map (λ text. text.bytes) o ≡ Some name) w.in-Some.is told)))
      | in-None w ↦ none_is name (subst (λ (o : Option _). option_map (λ text. text.bytes) o ≡ Some name) w.in-None.is told)
    ] in
    subst (AreNames a c.args.first (n + 1)) (sym (ap (map string_bytes) c.in_ok-push.ensures.items ∙ map-append string_bytes c.loop-place.names.items (c.match-name.name ∷ [])))
    (names_more a c.args.first n (map string_bytes c.loop-place.names.items) new c.loop-place.invariant here)
