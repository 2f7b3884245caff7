-- Tables of a script that are found by name.
use Rattle.std.proofs.Common.{◌≡◌, ℕ, Bool, true, false, ◌&&◌, ◌||◌, if◌then◌else◌, nat_le, IsTrue, List, [], ◌∷◌, ◌++◌, length, Option, Some, None, is_some, unwrap_or, refl, sym, ap, subst, ◌∙◌}
use Rattle.std.specs.List.{All, list_all}
use Rattle.std.proofs.lemmas.List.Elements.{All-cons, All-head, All-nil, All-tail}
use Rattle.script_types.specs.model_kernel.Births.{knows_regions, number_or_0}
use Rattle.script_types.specs.model_kernel.Scripts.{ContainerTable, LocusTable, RegionTable, Script, atlas_name, container_named, container_table, locus_named, locus_table, number_in, text_eq}
use Rattle.script_types.specs.model_kernel.Soundness.{begins_with_letter, is_born_container, is_given_name, is_name_byte}
use Rattle.script_types.specs.model_kernel.State.{Text, AtlasState}
use Rattle.script_types.specs.model_kernel.Words.{or_else}
use Rattle.script_types.specs.Rules.{AreContainerTables, AreDifferent, AreLocusTables, IsContainerTable, IsLocusTable, IsScript, container_names, is_among, locus_names}
use Rattle.model_sound_runs.proofs.Tables.{container_named_born}
use Rattle.model_sound_steps.proofs.MadeNames.{text_same}
use Rattle.std.proofs.lemmas.Bool.{or_parts}

-- TEXTS

-- NAMES OF A SCRIPT

-- what a name that stands earlier in the script is: a given one, no locus's, and none of the later containers'
pub record IsEarlier (a : AtlasState) (later : List ContainerTable) (x : Text) : Type 0 where
  pub given : IsTrue (is_given_name x)
  pub kind : locus_named a x ≡ None
  pub other : is_among (container_names later) x ≡ false

abbrev pub AreEarlier : AtlasState → List ContainerTable → List Text → Type 0
AreEarlier a later earlier = (x : Text) → IsTrue (is_among earlier x) → IsEarlier a later x

among_front : (xs ys : List Text) (x : Text) → is_among (xs ++ ys) x ≡ false → is_among xs x ≡ false
among_front [] ys x e = refl
among_front (y ∷ xs) ys x e =
    let h = or_parts (text_eq x y) (is_among (xs ++ ys) x) e in
    rw (h.0, among_front xs ys x h.1) refl

-- one more stands earlier
earlier_more : (a : AtlasState) (t : ContainerTable) (ts : List ContainerTable) (earlier names : List Text) → IsContainerTable earlier t → locus_named a t.name ≡ None → is_among (container_names ts ++ names) t.name ≡ false → AreEarlier a (t ∷ ts) earlier → AreEarlier a ts (t.name ∷ earlier)
earlier_more a t ts earlier names ranges kind differs before x among =
    elim (text_eq x t.name) as (λ b. text_eq x t.name ≡ b → (b || is_among earlier x) ≡ true → IsEarlier a ts x) [
      | true ↦ λ is _. subst (IsEarlier a ts) (sym (text_same x t.name is)) (record { given = ranges.name; kind = kind; other = among_front (container_names ts) names t.name differs })
      | false ↦ λ _ h.
          let e = before x h in
          record { given = e.given; kind = e.kind; other = (or_parts (text_eq x t.name) (is_among (container_names ts) x) e.other).1 }
    ] refl among

-- what is known of a table that is found
pub record IsFoundContainer (a : AtlasState) (name : Text) (t : ContainerTable) : Type 0 where
  pub earlier : List Text
  pub ranges : IsContainerTable earlier t
  pub named : name ≡ t.name
  pub known : (x : Text) → IsTrue (is_among earlier x) → IsTrue (is_given_name x) × (locus_named a x ≡ None) × (text_eq x t.name ≡ false)

find_container : (a : AtlasState) (ts : List ContainerTable) (earlier names : List Text) (name : Text) (t : ContainerTable) → AreContainerTables earlier ts → AreDifferent (container_names ts ++ names) → All (λ (t : ContainerTable). locus_named a t.name ≡ None) ts
    → AreEarlier a ts earlier → container_table ts name ≡ Some t → IsFoundContainer a name t
find_container a [] earlier names name t h differ kinds before is = absurd (no is)
  where
    no : None ≡ Some t → ⊥
    no e = cc
find_container a (u ∷ ts) earlier names name t h differ kinds before is =
    elim (text_eq name u.name) as (λ b. text_eq name u.name ≡ b → (if b then Some u else container_table ts name) ≡ Some t → IsFoundContainer a name t) [
      | true ↦ λ same e.
          let here : u ≡ t = same_some u t e in
          subst (IsFoundContainer a name) here (record {
            earlier = earlier;
            ranges = h.0;
            named = text_same name u.name same;
            known = λ x among. let k = before x among in (k.given, k.kind, (or_parts (text_eq x u.name) (is_among (container_names ts) x) k.other).0);
          })
      | false ↦ λ _ e.
          find_container a ts (u.name ∷ earlier) names name t h.1 differ.1 (All-tail (λ (t : ContainerTable). locus_named a t.name ≡ None) u ts kinds)
          (earlier_more a u ts earlier names h.0 (All-head (λ (t : ContainerTable). locus_named a t.name ≡ None) u ts kinds) differ.0 before) e
    ] refl is
  where
    same_some : (u t : ContainerTable) → Some u ≡ Some t → u ≡ t
    same_some u t e = cc

-- a given name is not the atlas's
pub not_atlas : (x : Text) → IsTrue (is_given_name x) → text_eq x atlas_name ≡ false
not_atlas x h = by_test (text_eq x atlas_name) refl
  where
    by_test : (b : Bool) → text_eq x atlas_name ≡ b → text_eq x atlas_name ≡ false
    by_test false e = e
    by_test true e = absurd (never (begins_with_letter x && list_all is_name_byte x && nat_le (length x) 24) (rw e at h))
      where
        never : (p : Bool) → (p && false) ≡ true → ⊥
        never true e = cc
        never false e = cc

-- a known name of an earlier container is a born container's
target_container : (a : AtlasState) (own : Text) (n : ℕ) (x : Text) → text_eq x own ≡ false → IsTrue (is_given_name x) → locus_named a x ≡ None → is_some (number_in a own n x) ≡ true → IsTrue (is_born_container a (number_or_0 (number_in a own n) x))
target_container a own n x other given kind known =
    let same : number_in a own n x ≡ container_named a x = rw (other, not_atlas x given, kind) (by_option (container_named a x)) in
    by_named (container_named a x) refl (sym (ap is_some same) ∙ known) same
  where
    by_option : (o : Option ℕ) → or_else o None ≡ o
    by_option (Some m) = refl
    by_option None = refl

    by_named : (o : Option ℕ) → container_named a x ≡ o → is_some (container_named a x) ≡ true → number_in a own n x ≡ container_named a x → IsTrue (is_born_container a (number_or_0 (number_in a own n) x))
    by_named (Some m) e known same = subst (λ o. IsTrue (is_born_container a (unwrap_or o 0))) (sym (same ∙ e)) (container_named_born a x m e)
    by_named None e known same = absurd (never (sym (ap is_some e) ∙ known))
      where
        never : false ≡ true → ⊥
        never e = cc

pub and_both : (p q : Bool) → (p && q) ≡ true → (p ≡ true) × (q ≡ true)
and_both true q e = (refl, e)
and_both false q e = cc

known_regions : (number : Text → Option ℕ) (rs : List RegionTable) → IsTrue (knows_regions number rs) → All (λ (r : RegionTable). is_some (number r.target) ≡ true) rs
known_regions number [] h = All-nil (λ (r : RegionTable). is_some (number r.target) ≡ true)
known_regions number (r ∷ rs) h =
    let both = and_both (is_some (number r.target)) (knows_regions number rs) h in
    All-cons (λ (r : RegionTable). is_some (number r.target) ≡ true) r rs both.0 (known_regions number rs both.1)

-- a found table whose regions show known names: it keeps the ranges, and they show born containers
pub record IsFound (a : AtlasState) (t : ContainerTable) (n : ℕ) : Type 0 where
  pub earlier : List Text
  pub ranges : IsContainerTable earlier t
  pub targets : All (λ (r : RegionTable). IsTrue (is_born_container a (number_or_0 (number_in a t.name n) r.target))) t.regions

pub found_container : (a : AtlasState) (script : Script) (name : Text) (t : ContainerTable) (n : ℕ) → IsScript script → All (λ (t : ContainerTable). locus_named a t.name ≡ None) script.containers → container_table script.containers name ≡ Some t
    → IsTrue (knows_regions (number_in a t.name n) t.regions) → (name ≡ t.name) × IsFound a t n
found_container a script name t n h kinds is knows =
    let f = find_container a script.containers [] (locus_names script.loci) name t h.containers h.different kinds (λ x among. absurd (never among)) is in (
      f.named,
      record {
        earlier = f.earlier;
        ranges = f.ranges;
        targets = λ i d lt.
            let x = f.known _ (f.ranges.regions i d lt).target in
            target_container a t.name n _ x.2 x.0 x.1 (known_regions (number_in a t.name n) t.regions knows i d lt);
      },
    )
  where
    never : false ≡ true → ⊥
    never e = cc

pub find_locus : (a : AtlasState) (containers earlier : List Text) (ts : List LocusTable) (name : Text) (t : LocusTable) → AreLocusTables containers earlier ts → locus_table ts name ≡ Some t → (earlier : List Text) × IsLocusTable containers earlier t × (name ≡ t.name)
find_locus a containers earlier [] name t h is = absurd (no is)
  where
    no : None ≡ Some t → ⊥
    no e = cc
find_locus a containers earlier (u ∷ ts) name t h is =
    elim (text_eq name u.name) as (λ b. text_eq name u.name ≡ b → (if b then Some u else locus_table ts name) ≡ Some t → (earlier : List Text) × IsLocusTable containers earlier t × (name ≡ t.name)) [
      | true ↦ λ same e.
          let here : u ≡ t = same_some u t e in
          (earlier, subst (IsLocusTable containers earlier) here h.0, text_same name u.name same ∙ ap (λ (t : LocusTable). t.name) here)
      | false ↦ λ _ e. find_locus a containers (u.name ∷ earlier) ts name t h.1 e
    ] refl is
  where
    same_some : (u t : LocusTable) → Some u ≡ Some t → u ≡ t
    same_some u t e = cc
