-- The names of a directory are those of an atlas in form, and the other way round.
use Rattle.std.proofs.Common.{◌≡◌, ◌<◌, ◌⊎◌, inl, inr, ℕ, zero, suc, ◌+◌, ◌-◌, ◌&&◌, ◌==◌, true, List, [], ◌∷◌, Option, Some, None, slice_get, refl, sym, ap, subst, ◌∙◌, arith, eq-eqb, eqb-true}
use Rattle.std.proofs.lemmas.Bool.{false≢true, or_cases, or_left, or_right}
use Rattle.std.proofs.lemmas.Option.{slice_get_within}
use Rattle.std.specs.Prelude.{IfSome}
use Rattle.act_calls.specs.model_kernel.Scripts.{text_eq}
use Rattle.act_calls.specs.model_kernel.Soundness.{are_names_from, is_given_name, is_name_of}
use Rattle.act_calls.proofs.model_kernel_lemmas.Basics.{and_left, and_right}
use Rattle.act_calls.specs.data_atlas_facts.Directory.{Directory, IsDirectory, IsNameOf, entity_named, made_name, name_of}
use Rattle.act_calls.proofs.data_atlas_facts_lemmas.Naming.{container_name, locus_name}
use Rattle.act_atlas_laws.proofs.NameLaws.{given_names_same}
use Rattle.act_calls.proofs.data_atlas_facts_lemmas.Pigeons.{some_of}

-- TEXTS
same_text : (t : List ℕ) → text_eq t t ≡ true
same_text [] = refl
same_text (x ∷ xs) = (λ i. eq-eqb x x refl i && text_eq xs xs) ∙ same_text xs

pub text_same : (s t : List ℕ) → text_eq s t ≡ true → s ≡ t
text_same [] [] h = refl
text_same [] (y ∷ ys) h = absurd (false≢true h)
text_same (x ∷ xs) [] h = absurd (false≢true h)
text_same (x ∷ xs) (y ∷ ys) h =
    let e : x ≡ y = eqb-true x y (and_left (x == y) (text_eq xs ys) h) in
    let f = text_same xs ys (and_right (x == y) (text_eq xs ys) h) in
    λ i. e i ∷ f i

pub model_name : (n : ℕ) (name : List ℕ) → IsNameOf n name → is_name_of n name ≡ true
model_name n name (inl given) = or_left (is_given_name name) (text_eq name (made_name n)) ((given_names_same name).0 given)
model_name n name (inr made) = or_right (is_given_name name) (text_eq name (made_name n)) (ap (λ (t : List ℕ). text_eq t (made_name n)) made ∙ same_text (made_name n))

pub directory_name : (n : ℕ) (name : List ℕ) → is_name_of n name ≡ true → IsNameOf n name
directory_name n name h = by (or_cases (is_given_name name) (text_eq name (made_name n)) h)
  where
    by : (is_given_name name ≡ true) ⊎ (text_eq name (made_name n) ≡ true) → IsNameOf n name
    by (inl given) = inl ((given_names_same name).1 given)
    by (inr made) = inr (text_same name (made_name n) made)

-- NAMES from a number on
abbrev pub is_none : Option (List ℕ) → Type 0
is_none None = Unit {0}
is_none (Some t) = ⊥

pub names_from : (n : ℕ) (ts : List (List ℕ)) → ((i : ℕ) (t : List ℕ) → slice_get ts i ≡ Some t → is_name_of (i + n) t ≡ true) → are_names_from n ts ≡ true
names_from n [] each = refl
names_from n (t ∷ ts) each =
    let first : is_name_of n t ≡ true = subst (λ m. is_name_of m t ≡ true) (let e : 0 + n ≡ n = omega arith in e) (each 0 t refl) in
    (λ i. first i && are_names_from (n + 1) ts)
    ∙ names_from (n + 1) ts (λ i s is. subst (λ m. is_name_of m s ≡ true) (let e : suc i + n ≡ i + (n + 1) = omega arith in e) (each (suc i) s is))

pub name_from : (n : ℕ) (ts : List (List ℕ)) (i : ℕ) (t : List ℕ) → are_names_from n ts ≡ true → slice_get ts i ≡ Some t → is_name_of (i + n) t ≡ true
name_from n [] i t all is = absurd (subst is_none is tt)
name_from n (s ∷ ts) zero t all is =
    let same : s ≡ t = ap (some_of s) is in
    subst (λ m. is_name_of m t ≡ true) (let e : n ≡ 0 + n = omega arith in e) (subst (λ (u : List ℕ). is_name_of n u ≡ true) same (and_left (is_name_of n s) (are_names_from (n + 1) ts) all))
name_from n (s ∷ ts) (suc i) t all is =
    subst (λ m. is_name_of m t ≡ true) (let e : i + (n + 1) ≡ suc i + n = omega arith in e) (name_from (n + 1) ts i t (and_right (is_name_of n s) (are_names_from (n + 1) ts) all) is)

-- A DIRECTORY'S NAMES
module _ (a : Directory) (ok : IsDirectory a) where
  container_at : (i : ℕ) (t : List ℕ) → slice_get a.containers i ≡ Some t → name_of a (i + 1) ≡ Some t
  container_at i t is =
      let within = slice_get_within a.containers i t is in
      let few = ok.few_containers in
      container_name a (i + 1) (omega arith) (omega (arith, within, few)) ∙ ap (slice_get a.containers) (let e : i + 1 - 1 ≡ i = omega arith in e) ∙ is

  locus_at : (i : ℕ) (t : List ℕ) → slice_get a.loci i ≡ Some t → name_of a (i + 41) ≡ Some t
  locus_at i t is = locus_name a (i + 41) (omega arith) ∙ ap (slice_get a.loci) (let e : i + 41 - 41 ≡ i = omega arith in e) ∙ is

  name_at : (n : ℕ) (t : List ℕ) → 0 < n → name_of a n ≡ Some t → is_name_of n t ≡ true
  name_at n t some is = model_name n t (subst (λ o. IfSome o (IsNameOf n)) is (ok.formed n some))

  leads_to : (n : ℕ) (t : List ℕ) → name_of a n ≡ Some t → entity_named a t ≡ Some n
  leads_to n t is = subst (λ o. IfSome o (λ (name : List ℕ). entity_named a name ≡ Some n)) is (ok.found n)

  pub container_names : are_names_from 1 a.containers ≡ true
  container_names = names_from 1 a.containers (λ i t is. name_at (i + 1) t (omega arith) (container_at i t is))

  pub locus_names : are_names_from 41 a.loci ≡ true
  locus_names = names_from 41 a.loci (λ i t is. name_at (i + 41) t (omega arith) (locus_at i t is))

  one_number : (m n : ℕ) (t : List ℕ) → name_of a m ≡ Some t → name_of a n ≡ Some t → m ≡ n
  one_number m n t p q = ap (some_of 0) (sym (leads_to m t p) ∙ leads_to n t q)

  pub containers_apart : (i j : ℕ) (t : List ℕ) → slice_get a.containers i ≡ Some t → slice_get a.containers j ≡ Some t → i ≡ j
  containers_apart i j t p q = let e = one_number (i + 1) (j + 1) t (container_at i t p) (container_at j t q) in omega (arith, e)

  pub loci_apart : (i j : ℕ) (t : List ℕ) → slice_get a.loci i ≡ Some t → slice_get a.loci j ≡ Some t → i ≡ j
  loci_apart i j t p q = let e = one_number (i + 41) (j + 41) t (locus_at i t p) (locus_at j t q) in omega (arith, e)

  pub both_apart : (i j : ℕ) (t : List ℕ) → slice_get a.containers i ≡ Some t → slice_get a.loci j ≡ Some t → ⊥
  both_apart i j t p q =
      let e = one_number (i + 1) (j + 41) t (container_at i t p) (locus_at j t q) in
      let within = slice_get_within a.containers i t p in
      let few = ok.few_containers in
      omega (arith, e, within, few)
