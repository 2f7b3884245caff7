-- The names of an atlas in form, walked one by one: each may be the name of the next entity of the directory so far.
use Rattle.std.proofs.Common.{◌≡◌, ◌<◌, ◌≤◌, ◌⊎◌, inl, inr, ℕ, zero, suc, ◌+◌, ◌-◌, true, List, [], ◌∷◌, ◌++◌, length, Option, Some, None, slice_get, refl, sym, ap, subst, ◌∙◌, arith, append_assoc}
use Rattle.std.proofs.lemmas.Bool.{cases_lt}
use Rattle.std.proofs.lemmas.List.{append-nil, length-append}
use Rattle.std.proofs.lemmas.Option.{slice_get_within}
use Rattle.std.specs.Prelude.{codes, slice_index}
use Rattle.std.specs.List.{flat_map}
use Rattle.blob_grammar.specs.model_kernel.Soundness.{is_name_of}
use Rattle.act_atlas_laws.specs.data_atlas_facts.Directory.{Directory, IsDirectory, IsNameOf, entity_named, name_of}
use Rattle.act_atlas_laws.proofs.data_atlas_facts_lemmas.Naming.{born_container, born_locus, container_name, led, locus_name}
use Rattle.blob_grammar.specs.Spelling.{text_bytes}
use Rattle.act_atlas_laws.proofs.AtlasNames.{directory_name, is_none}
use Rattle.act_atlas_laws.specs.base_types.declared.entities.Kind.TheVariants.{Container, Locus}
use Rattle.blob_facts.specs.Names.{AreNamesSpelled}
use Rattle.act_atlas_laws.proofs.data_atlas_facts_lemmas.Pigeons.{some_of}

get_here : (xs ys : List (List ℕ)) (t : List ℕ) → slice_get (xs ++ t ∷ ys) (length xs) ≡ Some t
get_here [] ys t = refl
get_here (x ∷ xs) ys t = get_here xs ys t

get_before : (xs ys : List (List ℕ)) (i : ℕ) (t : List ℕ) → slice_get xs i ≡ Some t → slice_get (xs ++ ys) i ≡ Some t
get_before [] ys i t is = absurd (subst is_none is tt)
get_before (x ∷ xs) ys zero t is = is
get_before (x ∷ xs) ys (suc i) t is = get_before xs ys i t is

-- no name of an entity is the atlas's
not_atlas : (n : ℕ) (t : List ℕ) → IsNameOf n t → t ≡ codes "atlas" → ⊥
not_atlas n t (inl given) e = given.4 e
not_atlas n t (inr made) e = let first : 35 ≡ 97 = ap (λ (l : List ℕ). slice_index l 0) (sym made ∙ e) in omega (arith, first)

-- a name that neither kind has is no one's
no_ones_name : (a : Directory) (n : ℕ) (t : List ℕ) → IsDirectory a → IsNameOf n t → ((i : ℕ) → slice_get a.containers i ≡ Some t → ⊥) → ((i : ℕ) → slice_get a.loci i ≡ Some t → ⊥) → entity_named a t ≡ None
no_ones_name a n t ok form no_container no_locus = by (entity_named a t) refl
  where
    held : (m : ℕ) → name_of a m ≡ Some t → ⊥
    held zero is = not_atlas n t form (sym (ap (some_of t) is))
    held (suc m) is = at (cases_lt (suc m) 41)
      where
        at : (suc m < 41) ⊎ (41 ≤ suc m) → ⊥
        at (inl low) = no_container (suc m - 1) (sym (container_name a (suc m) (omega arith) low) ∙ is)
        at (inr high) = no_locus (suc m - 41) (sym (locus_name a (suc m) high) ∙ is)

    by : (o : Option ℕ) → entity_named a t ≡ o → entity_named a t ≡ None
    by None e = e
    by (Some m) e = absurd (held m (led a ok t m e).name_is)

abbrev AreNames : ℕ → List (List ℕ) → Type 0
AreNames n ts = (i : ℕ) (t : List ℕ) → slice_get ts i ≡ Some t → is_name_of (i + n) t ≡ true

abbrev AreApart : List (List ℕ) → Type 0
AreApart ts = (i j : ℕ) (t : List ℕ) → slice_get ts i ≡ Some t → slice_get ts j ≡ Some t → i ≡ j

-- one that stands behind these is none of them
not_among : (xs ys : List (List ℕ)) (t : List ℕ) → AreApart (xs ++ t ∷ ys) → (i : ℕ) → slice_get xs i ≡ Some t → ⊥
not_among xs ys t apart i is =
    let e = apart i (length xs) t (get_before xs (t ∷ ys) i t is) (get_here xs ys t) in
    let within = slice_get_within xs i t is in
    omega (arith, e, within)

module _ (rows : List (List ℕ)) where
  -- CONTAINERS
  abbrev pub so_far : List (List ℕ) → Directory
  so_far done = record { containers = done; loci = []; edges = rows }

  pub walk_containers : (todo done : List (List ℕ)) → IsDirectory (so_far done) → length done + length todo ≤ 40 → AreNames 1 (done ++ todo) → AreApart (done ++ todo)
      → AreNamesSpelled Container (length todo) (so_far done) todo (flat_map text_bytes todo) × IsDirectory (so_far (done ++ todo))
  walk_containers [] done ok few names apart = ((refl, refl), subst (λ (l : List (List ℕ)). IsDirectory (so_far l)) (sym (append-nil done)) ok)
  walk_containers (t ∷ todo) done ok few names apart =
      let form = directory_name (length done + 1) t (names (length done) t (get_here done todo t)) in
      let new = no_ones_name (so_far done) (length done + 1) t ok form (not_among done todo t apart) (λ i is. subst is_none is tt) in
      let same = append_assoc done (t ∷ []) todo in
      let born = born_container (so_far done) t (length done + 1) (done ++ t ∷ []) ok (record { form = form; none = new }) (omega (arith, few)) refl refl in
      let len = length-append done (t ∷ []) in
      let more = walk_containers todo (done ++ t ∷ []) born (omega (arith, len, few)) (subst (AreNames 1) (sym same) names) (subst AreApart (sym same) apart) in (
        (text_bytes t, flat_map text_bytes todo, record { form = form; new = new; is = refl }, more.0, refl),
        subst (λ (l : List (List ℕ)). IsDirectory (so_far l)) same more.1,
      )

  -- LOCI, behind these containers
  module _ (cs : List (List ℕ)) where
    abbrev pub with_loci : List (List ℕ) → Directory
    with_loci done = record { containers = cs; loci = done; edges = rows }

    pub walk_loci : (todo done : List (List ℕ)) → IsDirectory (with_loci done) → length done + length todo ≤ 23 → AreNames 41 (done ++ todo) → AreApart (done ++ todo)
        → ((i j : ℕ) (t : List ℕ) → slice_get cs i ≡ Some t → slice_get (done ++ todo) j ≡ Some t → ⊥)
        → AreNamesSpelled Locus (length todo) (with_loci done) todo (flat_map text_bytes todo) × IsDirectory (with_loci (done ++ todo))
    walk_loci [] done ok few names apart both = ((refl, refl), subst (λ (l : List (List ℕ)). IsDirectory (with_loci l)) (sym (append-nil done)) ok)
    walk_loci (t ∷ todo) done ok few names apart both =
        let form = directory_name (length done + 41) t (names (length done) t (get_here done todo t)) in
        let new = no_ones_name (with_loci done) (length done + 41) t ok form (λ i is. both i (length done) t is (get_here done todo t)) (not_among done todo t apart) in
        let same = append_assoc done (t ∷ []) todo in
        let born = born_locus (with_loci done) t (length done + 41) (done ++ t ∷ []) ok (record { form = form; none = new }) (omega (arith, few)) refl refl in
        let len = length-append done (t ∷ []) in
        let more = walk_loci todo (done ++ t ∷ []) born (omega (arith, len, few)) (subst (AreNames 41) (sym same) names) (subst AreApart (sym same) apart)
        (λ i j u p q. both i j u p (subst (λ (l : List (List ℕ)). slice_get l j ≡ Some u) same q)) in (
          (text_bytes t, flat_map text_bytes todo, record { form = form; new = new; is = refl }, more.0, refl),
          subst (λ (l : List (List ℕ)). IsDirectory (with_loci l)) same more.1,
        )
