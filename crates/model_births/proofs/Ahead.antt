-- Tables whose names are in the atlas, and the first whose name isn't.
use Rattle.std.proofs.Common.{◌≡◌, ℕ, zero, suc, ◌+◌, ◌≤◌, Bool, true, false, if◌then◌else◌, List, [], ◌∷◌, length, take, Option, Some, None, is_some, is_none, slice_get, refl, sym, ap, ◌∙◌, arith}
use Rattle.model_sound_runs.specs.model_kernel.Scripts.{ContainerTable, LocusTable, container_table, locus_table, next_container_name, next_locus_name, number_of, text_eq}
use Rattle.model_sound_runs.specs.model_kernel.State.{AtlasState, Text}
use Rattle.model_sound_runs.proofs.model_sound_steps_lemmas.MadeNames.{same_text}
use Rattle.model_births.proofs.KnownNames.{is_named, other_text, some_none, true_false}

pub known_is : (o : Option ℕ) → is_some o ≡ true → is_none o ≡ false
known_is (Some n) e = refl
known_is None e = true_false false e refl

pub new_is : (o : Option ℕ) → is_some o ≡ false → o ≡ None
new_is None e = refl
new_is (Some n) e = true_false true refl e

-- the first of these is known, and the rest has no new name
pub known_first : {A : Type 0} (b : Bool) (x : A) (o : Option A) → (if b then Some x else o) ≡ None → (b ≡ false) × (o ≡ None)
known_first true x o e = some_none x e
known_first false x o e = (refl, e)

-- CONTAINERS

pub container_more : (a : AtlasState) (ts : List ContainerTable) (i : ℕ) (t : ContainerTable) → next_container_name a (take i ts) ≡ None → slice_get ts i ≡ Some t → is_some (number_of a t.name) ≡ true
    → next_container_name a (take (i + 1) ts) ≡ None
container_more a [] i t before at known = cc
container_more a (u ∷ ts) zero t before at known =
    let same : u ≡ t = cc in
    ap (λ (b : Bool). if b then Some u.name else None) (ap (λ (x : ContainerTable). is_none (number_of a x.name)) same ∙ known_is (number_of a t.name) known)
container_more a (u ∷ ts) (suc i) t before at known =
    let first = known_first (is_none (number_of a u.name)) u.name (next_container_name a (take i ts)) before in
    let e : suc i + 1 ≡ suc (i + 1) = omega arith in
    ap (λ k. next_container_name a (take k (u ∷ ts))) e ∙ ap (λ (b : Bool). if b then Some u.name else next_container_name a (take (i + 1) ts)) first.0 ∙ container_more a ts i t first.1 at known

pub container_first : (a : AtlasState) (ts : List ContainerTable) (i : ℕ) (t : ContainerTable) → next_container_name a (take i ts) ≡ None → slice_get ts i ≡ Some t → is_some (number_of a t.name) ≡ false
    → (next_container_name a ts ≡ Some t.name) × (container_table ts t.name ≡ Some t)
container_first a [] i t before at new = cc
container_first a (u ∷ ts) zero t before at new =
    let same : u ≡ t = cc in
    let none : is_none (number_of a u.name) ≡ true = ap (λ (x : ContainerTable). is_none (number_of a x.name)) same ∙ ap is_none (new_is (number_of a t.name) new) in
    let here : text_eq t.name u.name ≡ true = ap (λ (x : ContainerTable). text_eq t.name x.name) same ∙ same_text t.name in (
      ap (λ (b : Bool). if b then Some u.name else next_container_name a ts) none ∙ ap (λ (x : ContainerTable). Some x.name) same,
      ap (λ (b : Bool). if b then Some u else container_table ts t.name) here ∙ ap Some same,
    )
container_first a (u ∷ ts) (suc i) t before at new =
    let first = known_first (is_none (number_of a u.name)) u.name (next_container_name a (take i ts)) before in
    let rest = container_first a ts i t first.1 at new in
    let other : text_eq t.name u.name ≡ false = other_text a t.name u.name (new_is (number_of a t.name) new) (is_named (number_of a u.name) first.0) in (
      ap (λ (b : Bool). if b then Some u.name else next_container_name a ts) first.0 ∙ rest.0,
      ap (λ (b : Bool). if b then Some u else container_table ts t.name) other ∙ rest.1,
    )

pub container_all : (a : AtlasState) (ts : List ContainerTable) (i : ℕ) → next_container_name a (take i ts) ≡ None → length ts ≤ i → next_container_name a ts ≡ None
container_all a [] i before le = refl
container_all a (t ∷ ts) zero before le = absurd (omega arith)
container_all a (t ∷ ts) (suc i) before le =
    let first = known_first (is_none (number_of a t.name)) t.name (next_container_name a (take i ts)) before in
    ap (λ (b : Bool). if b then Some t.name else next_container_name a ts) first.0 ∙ container_all a ts i first.1 (omega arith)

-- no container has a new name that is a locus's
pub no_container : (a : AtlasState) (ts : List ContainerTable) (name : Text) → next_container_name a ts ≡ None → number_of a name ≡ None → container_table ts name ≡ None
no_container a [] name all none = refl
no_container a (t ∷ ts) name all none =
    let first = known_first (is_none (number_of a t.name)) t.name (next_container_name a ts) all in
    ap (λ (b : Bool). if b then Some t else container_table ts name) (other_text a name t.name none (is_named (number_of a t.name) first.0)) ∙ no_container a ts name first.1 none

-- LOCI

pub locus_more : (a : AtlasState) (ts : List LocusTable) (i : ℕ) (t : LocusTable) → next_locus_name a (take i ts) ≡ None → slice_get ts i ≡ Some t → is_some (number_of a t.name) ≡ true
    → next_locus_name a (take (i + 1) ts) ≡ None
locus_more a [] i t before at known = cc
locus_more a (u ∷ ts) zero t before at known =
    let same : u ≡ t = cc in
    ap (λ (b : Bool). if b then Some u.name else None) (ap (λ (x : LocusTable). is_none (number_of a x.name)) same ∙ known_is (number_of a t.name) known)
locus_more a (u ∷ ts) (suc i) t before at known =
    let first = known_first (is_none (number_of a u.name)) u.name (next_locus_name a (take i ts)) before in
    let e : suc i + 1 ≡ suc (i + 1) = omega arith in
    ap (λ k. next_locus_name a (take k (u ∷ ts))) e ∙ ap (λ (b : Bool). if b then Some u.name else next_locus_name a (take (i + 1) ts)) first.0 ∙ locus_more a ts i t first.1 at known

pub locus_first : (a : AtlasState) (ts : List LocusTable) (i : ℕ) (t : LocusTable) → next_locus_name a (take i ts) ≡ None → slice_get ts i ≡ Some t → is_some (number_of a t.name) ≡ false
    → (next_locus_name a ts ≡ Some t.name) × (locus_table ts t.name ≡ Some t)
locus_first a [] i t before at new = cc
locus_first a (u ∷ ts) zero t before at new =
    let same : u ≡ t = cc in
    let none : is_none (number_of a u.name) ≡ true = ap (λ (x : LocusTable). is_none (number_of a x.name)) same ∙ ap is_none (new_is (number_of a t.name) new) in
    let here : text_eq t.name u.name ≡ true = ap (λ (x : LocusTable). text_eq t.name x.name) same ∙ same_text t.name in (
      ap (λ (b : Bool). if b then Some u.name else next_locus_name a ts) none ∙ ap (λ (x : LocusTable). Some x.name) same,
      ap (λ (b : Bool). if b then Some u else locus_table ts t.name) here ∙ ap Some same,
    )
locus_first a (u ∷ ts) (suc i) t before at new =
    let first = known_first (is_none (number_of a u.name)) u.name (next_locus_name a (take i ts)) before in
    let rest = locus_first a ts i t first.1 at new in
    let other : text_eq t.name u.name ≡ false = other_text a t.name u.name (new_is (number_of a t.name) new) (is_named (number_of a u.name) first.0) in (
      ap (λ (b : Bool). if b then Some u.name else next_locus_name a ts) first.0 ∙ rest.0,
      ap (λ (b : Bool). if b then Some u else locus_table ts t.name) other ∙ rest.1,
    )
