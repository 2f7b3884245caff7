-- What soundness says of plain states, and that the acts keep it.
use Rattle.std.proofs.Common.{◌≡◌, ℕ, zero, suc, ◌+◌, ◌-◌, ◌<◌, ◌≤◌, Bool, true, false, ◌&&◌, ◌==◌, nat_lt, nat_le, IsTrue, List, [], ◌∷◌, length, Option, Some, None, slice_get, refl, sym, ap, subst, ◌∙◌, arith}
use Rattle.std.specs.List.{list_all}
use Rattle.std.proofs.lemmas.Bool.Decides.{nat_tests}
use Rattle.model_kernel.specs.State.{Supply, AtlasState, ContainerState, LocusState, NotBorn, AtlasCell, ContainerCell, LocusCell}
use Rattle.model_kernel.specs.Soundness.{AreSound, IsSound, IsSoundContainer, IsSoundLocus, is_born, is_born_container, is_born_locus}
use Rattle.model_act_facts.specs.Readiness.{IsReadyContainer}
use Rattle.plain_states.specs.Plains.{cells_by, container_cell, container_of, locus_of}
use Rattle.plain_states.specs.declared.plain.PlainContainer.{PlainContainer}
use Rattle.plain_states.specs.declared.plain.PlainLocus.{PlainLocus}
use Rattle.plain_states.proofs.CellLemmas.{cell_at_locus, low_container}

-- LISTS

-- the element at a place passes the test that all pass
pub all_at : {X : Type 0} (test : X → Bool) (xs : List X) (i : ℕ) (x : X) → IsTrue (list_all test xs) → slice_get xs i ≡ Some x → test x ≡ true
all_at test [] i x all h = cc
all_at test (y ∷ ys) zero x all h = let same : y ≡ x = cc in subst (λ z. test z ≡ true) same (and_first (test y) (list_all test ys) all)
  where
    and_first : (a b : Bool) → (a && b) ≡ true → a ≡ true
    and_first true b h = refl
    and_first false b h = h
all_at test (y ∷ ys) (suc i) x all h = all_at test ys i x (and_second (test y) (list_all test ys) all) h
  where
    and_second : (a b : Bool) → (a && b) ≡ true → b ≡ true
    and_second true b h = h
    and_second false b h = absurd (no h)
      where
        no : false ≡ true → ⊥
        no e = cc

-- CELLS THAT DIFFER

atlas_of_cell : (a b : AtlasState) → AtlasCell a ≡ AtlasCell b → a ≡ b
atlas_of_cell a b h = cc

locus_of_cell : (l m : LocusState) → LocusCell l ≡ LocusCell m → l ≡ m
locus_of_cell l m h = cc

-- WHAT SOUNDNESS SAYS OF PLAIN STATES

module _ (s : Supply) (a : AtlasState) (cs : List PlainContainer) (ls : List PlainLocus) where
  -- the atlas of a sound plain state is its own
  pub sound_here : IsSound (cells_by s a cs ls) → AreSound a (cells_by s a cs ls)
  sound_here h = subst (λ b. AreSound b (cells_by s a cs ls)) (sym (atlas_of_cell a h.0 h.1.atlas)) h.1

  born_high : (j : ℕ) → AreSound a (cells_by s a cs ls) → is_born a (j + 41) ≡ true → IsTrue (is_born_locus a (j + 41))
  born_high j h is =
      let few : length a.containers ≤ 40 = h.names.few_containers in
      let z : (j + 41 == 0) ≡ false = grind (arith, nat_tests) in
      let c : nat_le (j + 41) (length a.containers) ≡ false = grind (arith, nat_tests) in
      let p : nat_lt 0 (j + 41) ≡ true = grind (arith, nat_tests) in
      rw (z, p, c) at is

  pub sound_locus : (j : ℕ) (m : PlainLocus) → AreSound a (cells_by s a cs ls) → slice_get ls j ≡ Some m → IsSoundLocus a (locus_of m)
  sound_locus j m h is =
      let here : cells_by s a cs ls (j + 41) ≡ LocusCell (locus_of m) = cell_at_locus s a cs ls j m (j + 41) refl is in
      by_birth (is_born a (j + 41)) refl here
    where
      by_birth : (b : Bool) → is_born a (j + 41) ≡ b → cells_by s a cs ls (j + 41) ≡ LocusCell (locus_of m) → IsSoundLocus a (locus_of m)
      by_birth true born here =
          let found = h.loci (j + 41) (born_high j h born) in
          subst (IsSoundLocus a) (locus_of_cell found.0 (locus_of m) (sym found.1 ∙ here)) found.2
      by_birth false born here = absurd (apart (sym (h.others (j + 41) born) ∙ here))
        where
          apart : NotBorn ≡ LocusCell (locus_of m) → ⊥
          apart e = cc

  -- a container that is born stands in the list
  pub sound_container : (x : ℕ) → AreSound a (cells_by s a cs ls) → IsTrue (is_born_container a x) → (c : PlainContainer) × (slice_get cs (x - 1) ≡ Some c) × IsSoundContainer a (container_of s c) × (0 < x) × (x ≤ 40)
  sound_container x h born =
      let pos : 0 < x = grind (arith, nat_tests) in
      let few : length a.containers ≤ 40 = h.names.few_containers in
      let low : x ≤ 40 = grind (arith, nat_tests) in
      let found = h.containers x born in
      by_place (slice_get cs (x - 1)) refl found.0 (sym (low_container s a cs ls x pos (omega arith)) ∙ found.1) found.2 pos low
    where
      by_place : (o : Option PlainContainer) → slice_get cs (x - 1) ≡ o → (c : ContainerState) → container_cell s (slice_get cs (x - 1)) ≡ ContainerCell c → IsSoundContainer a c → 0 < x → x ≤ 40
          → (c : PlainContainer) × (slice_get cs (x - 1) ≡ Some c) × IsSoundContainer a (container_of s c) × (0 < x) × (x ≤ 40)
      by_place (Some p) is c e sound pos low = (p, is, subst (IsSoundContainer a) (sym (same (container_of s p) c (sym (ap (container_cell s) is) ∙ e))) sound, pos, low)
        where
          same : (b c : ContainerState) → ContainerCell b ≡ ContainerCell c → b ≡ c
          same b c e = cc
      by_place None is c e sound pos low = absurd (apart (sym (ap (container_cell s) is) ∙ e))
        where
          apart : NotBorn ≡ ContainerCell c → ⊥
          apart e = cc

-- WHAT THE ACTS REST ON

pub ready_container : (a : AtlasState) (c : ContainerState) → IsSoundContainer a c → IsReadyContainer c.pages c.regions
ready_container a c h = record { size = h.size; each = λ k d lt. ((h.regions k d lt).at, (h.regions k d lt).from) }
