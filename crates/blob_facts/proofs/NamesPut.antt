-- Names in the order of their numbers.
use Rattle.std.proofs.Common.{◌≡◌, ◌<◌, ◌≤◌, ℕ, zero, suc, ◌+◌, ◌-◌, List, [], ◌∷◌, ◌++◌, length, take, Some, None, refl, sym, ap, ◌∙◌, add-one, append_assoc, arith}
use Rattle.std.specs.Prelude.{slice_get}
use Rattle.std.specs.List.{flat_map}
use Rattle.std.proofs.Math.Seq.{take-suc}
use Rattle.std.proofs.lemmas.List.{flat_map_more}
use Rattle.std.proofs.lemmas.Option.{get_or_from_slice_get, slice_get-get_or}
use Rattle.act_atlas_laws.specs.base_types.declared.entities.Kind.{Kind}
use Rattle.act_atlas_laws.specs.base_types.declared.entities.Kind.TheVariants.{Atlas, Container, Locus}
use Rattle.act_atlas_laws.proofs.data_atlas_facts_lemmas.Naming.{container_name, locus_name}
use Rattle.act_atlas_laws.specs.data_atlas_facts.Directory.{Directory, name_of, number_born}
use Rattle.blob_grammar.specs.Spelling.{text_bytes}
use Rattle.blob_facts.specs.Pieces.{first_of, names_of}

-- the name of the entity at a place among those of its kind
pub name_there : (kind : Kind) (a : Directory) (i : ℕ) → length a.containers ≤ 40 → i < length (names_of kind a)
    → name_of a (first_of kind + i) ≡ slice_get (names_of kind a) i
name_there Atlas a zero few within = refl
name_there Atlas a (suc i) few within = absurd (omega (arith, within))
name_there Container a i few within =
    let same : 1 + i - 1 ≡ i = omega arith in
    container_name a (1 + i) (omega arith) (omega (arith, few, within)) ∙ ap (slice_get a.containers) same
name_there Locus a i few within =
    let same : 41 + i - 41 ≡ i = omega arith in
    locus_name a (41 + i) (omega arith) ∙ ap (slice_get a.loci) same

-- there is one
pub some_name : (names : List (List ℕ)) (i : ℕ) → i < length names → slice_get names i ≡ None → ⊥
some_name names i within none = let some = slice_get-get_or names i [] within in cc

-- one name more
pub name_written : (names : List (List ℕ)) (i : ℕ) (text old blob new : List ℕ) → i < length names → slice_get names i ≡ Some text
    → blob ≡ old ++ length names ∷ flat_map text_bytes (take i names) → new ≡ blob ++ text_bytes text
    → new ≡ old ++ length names ∷ flat_map text_bytes (take (i + 1) names)
name_written names i text old blob new within is so_far put =
    let more : take (i + 1) names ≡ take i names ++ text ∷ [] =
    ap (λ k. take k names) (add-one i) ∙ take-suc names i [] within ∙ ap (λ (t : List ℕ). take i names ++ t ∷ []) (get_or_from_slice_get names i text [] is) in
    put
    ∙ ap (λ (l : List ℕ). l ++ text_bytes text) so_far
    ∙ append_assoc old (length names ∷ flat_map text_bytes (take i names)) (text_bytes text)
    ∙ ap (λ (l : List ℕ). old ++ l) (flat_map_more text_bytes (length names ∷ []) (take i names) text)
    ∙ ap (λ (l : List (List ℕ)). old ++ length names ∷ flat_map text_bytes l) (sym more)

-- as many as are born
pub number_named : (kind : Kind) (a : Directory) → number_born a kind ≡ length (names_of kind a)
number_named Atlas a = refl
number_named Container a = refl
number_named Locus a = refl
