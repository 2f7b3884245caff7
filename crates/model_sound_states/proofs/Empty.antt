-- Numbers from 64 on, and the empty state.
use Rattle.std.proofs.Common.{◌≡◌, ℕ, ◌≤◌, ◌<◌, true, false, ◌==◌, if◌then◌else◌, IsTrue, List, [], ◌∷◌, Some, None, refl, ap, arith, slice_get}
use Rattle.std.specs.List.{All}
use Rattle.std.proofs.lemmas.Bool.Decides.{nat_tests}
use Rattle.std.proofs.lemmas.List.Elements.{All-cons, All-nil}
use Rattle.model_sound_runs.specs.model_kernel.Scripts.{ContainerTable, locus_named}
use Rattle.model_sound_runs.specs.model_kernel.Soundness.{IsSound, IsSoundAtlas, is_born, is_born_container, is_born_locus, regions_onto}
use Rattle.model_sound_runs.specs.model_kernel.State.{AtlasCell, ContainerCell, ContainerState, KernelState, NotBorn, Supply, Text, empty_state, no_atlas}
use Rattle.model_sound_runs.proofs.Ranges.{born_under}
use Rattle.model_sound_states.specs.States.{IsSoundState, IsSupplied}

-- nothing is born from 64 on
pub none_beyond : (s : Supply) (w : KernelState) → IsSoundState s w → (x : ℕ) → 64 ≤ x → (w x).version ≡ 0
none_beyond s w k x high =
    let a = k.sound.0 in
    elim (is_born a x) as (λ b. is_born a x ≡ b → (w x).version ≡ 0) [
      | true ↦ λ born. (let low = born_under a x k.sound.1.names born in absurd (omega (arith, low, high)))
      | false ↦ λ out. (k.born x (omega (arith, high))).0 (k.sound.1.others x out)
    ] refl

pub no_clock_beyond : (s : Supply) (w : KernelState) → IsSoundState s w → (x y : ℕ) → 64 ≤ y → (w x).stamp y ≡ 0
no_clock_beyond s w k x y high = (let a = k.below x y in let b = none_beyond s w k y high in omega (arith, a, b))

-- THE EMPTY STATE

empty_get : (i : ℕ) (name : Text) → slice_get {X = Text} [] i ≡ Some name → ⊥
empty_get i name e = cc

no_container : (x : ℕ) → IsTrue (is_born_container no_atlas x) → ⊥
no_container x born = grind (arith, nat_tests)

no_locus : (x : ℕ) → IsTrue (is_born_locus no_atlas x) → ⊥
no_locus x born = grind (arith, nat_tests)

none_shown : (x y : ℕ) → 0 ≡ regions_onto (if x == 0 then AtlasCell no_atlas else NotBorn) y
none_shown x y = elim (x == 0) as (λ b. 0 ≡ regions_onto (if b then AtlasCell no_atlas else NotBorn) y) [ true ↦ refl | false ↦ refl ]

unborn_zero : (x : ℕ) → is_born no_atlas x ≡ false → (x == 0) ≡ false
unborn_zero x out = grind (arith, nat_tests)

high_zero : (x : ℕ) → 0 < x → (x == 0) ≡ false
high_zero x high = grind (arith, nat_tests)

empty_atlas : IsSoundAtlas no_atlas
empty_atlas = record {
  few_containers = omega arith;
  few_loci = omega arith;
  containers = refl;
  loci = refl;
  different = record {
    containers = λ i j name e f. absurd (empty_get i name e);
    loci = λ i j name e f. absurd (empty_get i name e);
    both = λ i j name e f. empty_get i name e;
  };
  no_circle = λ c x path p. (let edge = p.0 in omega (arith, edge));
}

empty_sound : IsSound (λ x. (empty_state x).cell)
empty_sound = (
  no_atlas,
  record {
    atlas = refl;
    names = empty_atlas;
    containers = λ x born. absurd (no_container x born);
    loci = λ x born. absurd (no_locus x born);
    others = λ x out. ap (λ b. if b then AtlasCell no_atlas else NotBorn) (unborn_zero x out);
    edges = none_shown;
  },
)

empty_words : (s : Supply) (x : ℕ) (c : ContainerState) → (if x == 0 then AtlasCell no_atlas else NotBorn) ≡ ContainerCell c → IsSupplied s c
empty_words s x c e = elim (x == 0) as (λ b. (if b then AtlasCell no_atlas else NotBorn) ≡ ContainerCell c → IsSupplied s c) [ true ↦ λ e. cc | false ↦ λ e. cc ] e

pub empty_is_sound : (s : Supply) → IsSoundState s empty_state
empty_is_sound s = record {
  sound = empty_sound;
  born = λ x high. (λ _. refl, λ _. ap (λ b. if b then AtlasCell no_atlas else NotBorn) (high_zero x high));
  own = λ x. refl;
  below = λ x y. omega arith;
  words = empty_words s;
}

pub empty_names : (ts : List ContainerTable) → All (λ (t : ContainerTable). locus_named no_atlas t.name ≡ None) ts
empty_names [] = All-nil (λ (t : ContainerTable). locus_named no_atlas t.name ≡ None)
empty_names (t ∷ ts) = All-cons (λ (t : ContainerTable). locus_named no_atlas t.name ≡ None) t ts refl (empty_names ts)
