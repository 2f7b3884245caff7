-- The state in which nothing but the atlas is born is sound.
use Rattle.std.proofs.Common.{◌≡◌, ℕ, ◌<◌, true, false, ◌||◌, if◌then◌else◌, ◌==◌, nat_lt, IsTrue, [], Some, slice_get, refl, arith}
use Rattle.std.proofs.lemmas.Bool.Decides.{nat_tests}
use Rattle.model_kernel.specs.Soundness.{AreSound, is_born, is_born_container, is_born_locus, regions_onto}
use Rattle.model_kernel.specs.State.{Supply, NotBorn, AtlasCell, no_atlas}
use Rattle.plain_states.specs.Plains.{cells_by}

none_get : {A : Type 0} (i : ℕ) (x : A) → slice_get [] i ≡ Some x → ⊥
none_get i x h = cc

pub sound_empty : (s : Supply) → AreSound no_atlas (cells_by s no_atlas [] [])
sound_empty s = record {
  atlas = refl;
  names = record {
    few_containers = omega arith;
    few_loci = omega arith;
    containers = refl;
    loci = refl;
    different = record { containers = λ i j name h g. absurd (none_get i name h); loci = λ i j name h g. absurd (none_get i name h); both = λ i j name h g. none_get i name h };
    no_circle = λ c x path h. let bad : 0 < 0 = h.0 in omega arith;
  };
  containers = λ x born. absurd (no_container x born);
  loci = λ x born. absurd (no_locus x born);
  others = λ x unborn. other x unborn;
  edges = λ x y. no_regions x y;
}
  where
    no_container : (x : ℕ) → IsTrue (is_born_container no_atlas x) → ⊥
    no_container x born = grind (arith, nat_tests)

    no_locus : (x : ℕ) → IsTrue (is_born_locus no_atlas x) → ⊥
    no_locus x born = grind (arith, nat_tests)

    other : (x : ℕ) → is_born no_atlas x ≡ false → cells_by s no_atlas [] [] x ≡ NotBorn
    other x unborn =
        elim (x == 0) as (λ t. (t || is_born_container no_atlas x || is_born_locus no_atlas x) ≡ false → (if t then AtlasCell no_atlas else if nat_lt x 41 then NotBorn else NotBorn) ≡ NotBorn) [
          | true ↦ λ e. cc
          | false ↦ λ _. elim (nat_lt x 41) as (λ t. (if t then NotBorn else NotBorn) ≡ NotBorn) [ true ↦ refl | false ↦ refl ]
        ] unborn

    no_regions : (x y : ℕ) → 0 ≡ regions_onto (cells_by s no_atlas [] [] x) y
    no_regions x y =
        elim (x == 0) as (λ t. 0 ≡ regions_onto (if t then AtlasCell no_atlas else if nat_lt x 41 then NotBorn else NotBorn) y) [
          | true ↦ refl
          | false ↦ elim (nat_lt x 41) as (λ t. 0 ≡ regions_onto (if t then NotBorn else NotBorn) y) [ true ↦ refl | false ↦ refl ]
        ]
