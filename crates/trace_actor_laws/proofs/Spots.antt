-- Where the name of a born entity stands in an atlas, and that it stays as names follow.
use Rattle.std.proofs.Common.{◌≡◌, ℕ, zero, suc, ◌+◌, ◌-◌, ◌<◌, ◌≤◌, ◌==◌, Bool, true, false, ◌||◌, nat_lt, nat_le, IsTrue, List, [], ◌∷◌, ◌++◌, length, Option, Some, slice_get, unwrap_or, refl, sym, ap, ◌∙◌, arith, eqb-true}
use Rattle.std.proofs.lemmas.Bool.{false≢true, ltb-true, leb-true}
use Rattle.std.proofs.lemmas.Bool.Decides.{nat_tests}
use Rattle.std.proofs.lemmas.Option.{slice_get-get_or}
use Rattle.plain_states.specs.model_kernel.Scripts.{atlas_name}
use Rattle.plain_states.specs.model_kernel.Soundness.{IsSoundAtlas, is_born, is_born_container, is_born_locus}
use Rattle.plain_states.specs.model_kernel.State.{AtlasState, Text}
use Rattle.plain_states.proofs.model_kernel_lemmas.Basics.{and_left, and_right}
use Rattle.model_sound_states.specs.model_sound_runs.Names.{KeepsNames}
use Rattle.line_text.specs.Lines.{name_in}

-- the name at a place of a list is that of its number
name_of_container : (a : AtlasState) (i x : ℕ) (t : Text) → x ≡ i + 1 → i < 40 → slice_get a.containers i ≡ Some t → name_in a x ≡ t
unfolding name_in
name_of_container a i x t at low is =
    let zero_not : (x == 0) ≡ false = not_zero x i at in
    let under : nat_lt x 41 ≡ true = is_under x i at low in
    let back : x - 1 ≡ i = omega (arith, at) in
    rw (zero_not, under, back) (ap (λ (o : Option Text). unwrap_or o []) is)
  where
    not_zero : (x i : ℕ) → x ≡ i + 1 → (x == 0) ≡ false
    not_zero x i e = grind (arith, nat_tests)

    is_under : (x i : ℕ) → x ≡ i + 1 → i < 40 → nat_lt x 41 ≡ true
    is_under x i e l = grind (arith, nat_tests)

name_of_locus : (a : AtlasState) (i x : ℕ) (t : Text) → x ≡ i + 41 → slice_get a.loci i ≡ Some t → name_in a x ≡ t
unfolding name_in
name_of_locus a i x t at is =
    let zero_not : (x == 0) ≡ false = not_zero x i at in
    let over : nat_lt x 41 ≡ false = is_over x i at in
    let back : x - 41 ≡ i = omega (arith, at) in
    rw (zero_not, over, back) (ap (λ (o : Option Text). unwrap_or o []) is)
  where
    not_zero : (x i : ℕ) → x ≡ i + 41 → (x == 0) ≡ false
    not_zero x i e = grind (arith, nat_tests)

    is_over : (x i : ℕ) → x ≡ i + 41 → nat_lt x 41 ≡ false
    is_over x i e = grind (arith, nat_tests)

pub name_of_atlas : (a : AtlasState) (x : ℕ) → x ≡ 0 → name_in a x ≡ atlas_name
unfolding name_in
name_of_atlas a x e = rw e refl

-- the place of a name
pub data Spot (a : AtlasState) (x : ℕ) : Type 0 where
  Top : x ≡ 0 → Spot a x
  InContainers : (i : ℕ) → x ≡ i + 1 → i < 40 → slice_get a.containers i ≡ Some (name_in a x) → Spot a x
  InLoci : (i : ℕ) → x ≡ i + 41 → i < 23 → slice_get a.loci i ≡ Some (name_in a x) → Spot a x

module _ (a : AtlasState) (sound : IsSoundAtlas a) where
  of_container : (x : ℕ) → is_born_container a x ≡ true → Spot a x
  of_container x born =
      let low : 0 < x = ltb-true _ _ (and_left (nat_lt 0 x) (nat_le x (length a.containers)) born) in
      let high : x ≤ length a.containers = leb-true _ _ (and_right (nat_lt 0 x) (nat_le x (length a.containers)) born) in
      let few = sound.few_containers in
      let at : x ≡ (x - 1) + 1 = omega (arith, low) in
      let inside : x - 1 < length a.containers = omega (arith, low, high) in
      let small : x - 1 < 40 = omega (arith, inside, few) in
      let there = slice_get-get_or a.containers (x - 1) [] inside in
      InContainers (x - 1) at small (there ∙ ap (λ (t : Text). Some t) (sym (name_of_container a (x - 1) x _ at small there)))

  of_locus : (x : ℕ) → is_born_locus a x ≡ true → Spot a x
  of_locus x born =
      let low : 40 < x = ltb-true _ _ (and_left (nat_lt 40 x) (nat_le x (40 + length a.loci)) born) in
      let high : x ≤ 40 + length a.loci = leb-true _ _ (and_right (nat_lt 40 x) (nat_le x (40 + length a.loci)) born) in
      let few = sound.few_loci in
      let at : x ≡ (x - 41) + 41 = omega (arith, low) in
      let inside : x - 41 < length a.loci = omega (arith, low, high) in
      let small : x - 41 < 23 = omega (arith, inside, few) in
      let there = slice_get-get_or a.loci (x - 41) [] inside in
      InLoci (x - 41) at small (there ∙ ap (λ (t : Text). Some t) (sym (name_of_locus a (x - 41) x _ at there)))

  -- where a born entity's name stands
  pub spot_of : (x : ℕ) → IsTrue (is_born a x) → Spot a x
  spot_of x born = by_tests (x == 0) (is_born_container a x) (is_born_locus a x) refl refl refl born
    where
      by_tests : (z c l : Bool) → (x == 0) ≡ z → is_born_container a x ≡ c → is_born_locus a x ≡ l → (z || c || l) ≡ true → Spot a x
      by_tests true c l ez ec el h = Top (eqb-true x 0 ez)
      by_tests false true l ez ec el h = of_container x ec
      by_tests false false true ez ec el h = of_locus x el
      by_tests false false false ez ec el h = absurd (false≢true h)

  -- as names follow, each born entity's stays
  pub name_kept : (b : AtlasState) (x : ℕ) → KeepsNames a b → IsTrue (is_born a x) → name_in b x ≡ name_in a x
  name_kept b x keeps born = by_spot (spot_of x born)
    where
      front : (xs ys : List Text) (i : ℕ) (t : Text) → slice_get xs i ≡ Some t → slice_get (xs ++ ys) i ≡ Some t
      front [] ys i t e = cc
      front (x ∷ xs) ys zero t e = e
      front (x ∷ xs) ys (suc i) t e = front xs ys i t e

      by_spot : Spot a x → name_in b x ≡ name_in a x
      by_spot (Top e) = name_of_atlas b x e ∙ sym (name_of_atlas a x e)
      by_spot (InContainers i at low is) = name_of_container b i x (name_in a x) at low (ap (λ (ts : List Text). slice_get ts i) keeps.containers.1 ∙ front a.containers keeps.containers.0 i (name_in a x) is)
      by_spot (InLoci i at low is) = name_of_locus b i x (name_in a x) at (ap (λ (ts : List Text). slice_get ts i) keeps.loci.1 ∙ front a.loci keeps.loci.0 i (name_in a x) is)
