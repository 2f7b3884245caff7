-- A sound state names its loci.
use Rattle.std.proofs.Common.{◌≡◌, ℕ, ◌+◌, ◌≤◌, ◌<◌, ◌^◌, Bool, true, false, ◌==◌, nat_lt, length, refl, ap, ◌∙◌, arith, ◌⊎◌, inl, inr, eqb-true}
use Rattle.std.proofs.lemmas.Bool.{leb-true, ltb-true}
use Rattle.model_kernel.specs.State.{AtlasState, ContainerState, LocusState, NotBorn, AtlasCell, ContainerCell, LocusCell, KernelState}
use Rattle.model_kernel.specs.Soundness.{is_born_container, is_born_locus, AreSound, IsSound}
use Rattle.model_kernel.specs.Printing.{printed_in, NamesLoci}
use Rattle.model_kernel.proofs.Basics.{and_left, and_right}

-- a born locus has a number in the range that the atlas names
born_range : (a : AtlasState) (x : ℕ) → is_born_locus a x ≡ true → (40 < x) × (x ≤ 40 + length a.loci)
born_range a x h = (ltb-true _ _ (and_left (nat_lt 40 x) _ h), leb-true _ _ (and_right (nat_lt 40 x) _ h))

module _ (w : KernelState) (a : AtlasState) (s : AreSound a (λ x. (w x).cell)) where
  -- what an entity may be
  kind_of : (x : ℕ) → ((w x).cell ≡ NotBorn) ⊎ (((w x).cell ≡ AtlasCell a) ⊎ (((c : ContainerState) × ((w x).cell ≡ ContainerCell c)) ⊎ ((is_born_locus a x ≡ true) × ((l : LocusState) × ((w x).cell ≡ LocusCell l) × (l.printed ≤ 2 ^ 62)))))
  kind_of x = by_birth (x == 0) (is_born_container a x) (is_born_locus a x) refl refl refl
    where
      by_birth : (z c l : Bool) → (x == 0) ≡ z → is_born_container a x ≡ c → is_born_locus a x ≡ l
          → ((w x).cell ≡ NotBorn) ⊎ (((w x).cell ≡ AtlasCell a) ⊎ (((c : ContainerState) × ((w x).cell ≡ ContainerCell c)) ⊎ ((is_born_locus a x ≡ true) × ((l : LocusState) × ((w x).cell ≡ LocusCell l) × (l.printed ≤ 2 ^ 62)))))
      by_birth true c l z_is c_is l_is = inr (inl (ap (λ y. (w y).cell) (eqb-true _ _ z_is) ∙ s.atlas))
      by_birth false true l z_is c_is l_is = (let k = s.containers x c_is in inr (inr (inl (k.0, k.1))))
      by_birth false false true z_is c_is l_is = (let k = s.loci x l_is in inr (inr (inr (l_is, (k.0, k.1, k.2.printed)))))
      by_birth false false false z_is c_is l_is = inl (s.others x (rw (z_is, c_is, l_is) refl))

  pub names_loci : NamesLoci w
  names_loci = record {
    atlas = a;
    there = s.atlas;
    named = λ x l is. elim (kind_of x) as (λ _. (40 < x) × (x ≤ 40 + length a.loci)) [
      | inl none ↦ cc
      | inr k ↦ elim k as (λ _. (40 < x) × (x ≤ 40 + length a.loci)) [
        | inl atlas ↦ cc
        | inr k ↦ elim k as (λ _. (40 < x) × (x ≤ 40 + length a.loci)) [
          | inl container ↦ (let e = container.1 in cc)
          | inr locus ↦ born_range a x locus.0
        ]
      ]
    ];
    small = λ x. elim (kind_of x) as (λ _. printed_in (w x).cell ≤ 2 ^ 62) [
      | inl none ↦ (let e = ap printed_in none in omega arith)
      | inr k ↦ elim k as (λ _. printed_in (w x).cell ≤ 2 ^ 62) [
        | inl atlas ↦ (let e = ap printed_in atlas in omega arith)
        | inr k ↦ elim k as (λ _. printed_in (w x).cell ≤ 2 ^ 62) [
          | inl container ↦ (let e = ap printed_in container.1 in omega arith)
          | inr locus ↦ (let e = ap printed_in locus.1.1 in let low = locus.1.2 in omega arith)
        ]
      ]
    ];
  }

-- of a sound state
pub sound_names : (w : KernelState) → IsSound (λ x. (w x).cell) → NamesLoci w
sound_names w s = names_loci w s.0 s.1
