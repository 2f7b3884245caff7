-- Who is born in the directory and in the model.
use Rattle.std.proofs.Common.{◌≡◌, ℕ, zero, suc, ◌+◌, ◌-◌, ◌<◌, ◌≤◌, Bool, true, false, ◌&&◌, ◌||◌, List, [], ◌∷◌, length, Some, is_some, refl, sym, ap, ◌∙◌, subst, ◌⊎◌, inl, inr, ⊎_elim, arith}
use Rattle.std.specs.Prelude.{◌==◌, ◌↔◌, if◌then◌else◌, nat_lt, nat_le, IsTrue, slice_get, codes}
use Rattle.std.proofs.lemmas.Bool.{and_parts, false≢true}
use Rattle.std.proofs.lemmas.Bool.Decides.{nat_tests}
use borrow.Author.Tests.{eqb-true, ne_eqb, lt-ltb}
use Rattle.act_calls.specs.model_kernel.State.{ContainerState, LocusState, Cell, NotBorn, AtlasCell, ContainerCell, LocusCell}
use Rattle.act_calls.specs.model_kernel.Words.{is_container}
use Rattle.act_calls.specs.model_kernel.Soundness.{is_born, is_born_container, is_born_locus, AreSound, regions_onto}
use Rattle.act_calls.specs.data_atlas_facts.Directory.{Directory, name_of, IsBornContainer}
use Rattle.act_calls.specs.Calls.{atlas_state, NamesBorn}
use Rattle.act_atlas_laws.specs.Mapping.{MeetsMapping}

some_within : (xs : List (List ℕ)) (i : ℕ) → IsTrue (is_some (slice_get xs i)) → i < length xs
some_within [] i e = absurd (false≢true e)
some_within (x ∷ xs) zero e = omega arith
some_within (x ∷ xs) (suc i) e = omega (arith, some_within xs i e)

within_some : (xs : List (List ℕ)) (i : ℕ) → i < length xs → IsTrue (is_some (slice_get xs i))
within_some [] i l = absurd (omega arith)
within_some (x ∷ xs) zero l = refl
within_some (x ∷ xs) (suc i) l = within_some xs i (omega arith)

name_at : (a : Directory) (m : ℕ) → suc m < 41 → name_of a (suc m) ≡ slice_get a.containers (suc m - 1)
name_at a m l =
    ap (λ b. if b then Some (codes "atlas") else if nat_lt (suc m) 41 then slice_get a.containers (suc m - 1) else slice_get a.loci (suc m - 41)) (ne_eqb (suc m) 0 (omega arith))
    ∙ ap (λ b. if b then slice_get a.containers (suc m - 1) else slice_get a.loci (suc m - 41)) (lt-ltb (suc m) 41 l)

tested : (n len : ℕ) → 0 < n → n ≤ len → (nat_lt 0 n && nat_le n len) ≡ true
tested n len some l = grind (arith, nat_tests)

told : (n len : ℕ) → (nat_lt 0 n && nat_le n len) ≡ true → (0 < n) × (n ≤ len)
told n len e = let p = and_parts (nat_lt 0 n) (nat_le n len) e in (first p.0, second p.1)
  where
    first : nat_lt 0 n ≡ true → 0 < n
    first f = grind (arith, nat_tests)

    second : nat_le n len ≡ true → n ≤ len
    second f = grind (arith, nat_tests)

born_there : (a : Directory) (n : ℕ) → IsBornContainer a n → IsTrue (is_born_container (atlas_state a) n)
born_there a zero h = absurd (omega (arith, h.0))
born_there a (suc m) h =
    let within = some_within a.containers (suc m - 1) (subst (λ o. IsTrue (is_some o)) (name_at a m h.1) h.2) in
    tested (suc m) (length a.containers) (omega arith) (omega (arith, within))

born_here : (a : Directory) (n : ℕ) → length a.containers ≤ 40 → IsTrue (is_born_container (atlas_state a) n) → IsBornContainer a n
born_here a zero few h = absurd (false≢true h)
born_here a (suc m) few h =
    let in_list = (told (suc m) (length a.containers) h).1 in
    let small : suc m < 41 = omega (arith, in_list) in
    (omega arith, small, subst (λ o. IsTrue (is_some o)) (sym (name_at a m small)) (within_some a.containers (suc m - 1) (omega (arith, in_list))))

pub births_same : (a : Directory) (n : ℕ) → length a.containers ≤ 40 → IsBornContainer a n ↔ IsTrue (is_born_container (atlas_state a) n)
births_same a n few = (born_there a n, born_here a n few)

-- SOUND STATES

module _ (a : Directory) (cells : ℕ → Cell) (s : AreSound (atlas_state a) cells) where
  kind : (x : ℕ) → (cells x ≡ NotBorn) ⊎ ((cells x ≡ AtlasCell (atlas_state a)) ⊎ ((is_born_container (atlas_state a) x ≡ true) ⊎ (is_born_locus (atlas_state a) x ≡ true)))
  kind x = by (x == 0) (is_born_container (atlas_state a) x) (is_born_locus (atlas_state a) x) refl refl refl
    where
      by : (b c l : Bool) → (x == 0) ≡ b → is_born_container (atlas_state a) x ≡ c → is_born_locus (atlas_state a) x ≡ l
          → (cells x ≡ NotBorn) ⊎ ((cells x ≡ AtlasCell (atlas_state a)) ⊎ ((is_born_container (atlas_state a) x ≡ true) ⊎ (is_born_locus (atlas_state a) x ≡ true)))
      by true c l e f g = inr (inl (ap cells (eqb-true x 0 e) ∙ s.atlas))
      by false true l e f g = inr (inr (inl f))
      by false false true e f g = inr (inr (inr g))
      by false false false e f g = inl (s.others x (
          ap (λ b. b || is_born_container (atlas_state a) x || is_born_locus (atlas_state a) x) e
          ∙ ap (λ c. c || is_born_locus (atlas_state a) x) f
          ∙ g))

  is_container_cell : (x : ℕ) (c : ContainerState) → cells x ≡ ContainerCell c → is_born_container (atlas_state a) x ≡ true
  is_container_cell x c e = ⊎_elim
      (λ (n : cells x ≡ NotBorn). absurd (not_born (sym n ∙ e)))
      (λ (more : (cells x ≡ AtlasCell (atlas_state a)) ⊎ ((is_born_container (atlas_state a) x ≡ true) ⊎ (is_born_locus (atlas_state a) x ≡ true))). ⊎_elim
      (λ (n : cells x ≡ AtlasCell (atlas_state a)). absurd (no_atlas (sym n ∙ e)))
      (λ (born : (is_born_container (atlas_state a) x ≡ true) ⊎ (is_born_locus (atlas_state a) x ≡ true)). ⊎_elim
      (λ (is : is_born_container (atlas_state a) x ≡ true). is)
      (λ (locus : is_born_locus (atlas_state a) x ≡ true). let l = s.loci x locus in absurd (no_locus l.0 (sym l.1 ∙ e)))
      born)
      more)
      (kind x)
    where
      not_born : NotBorn ≡ ContainerCell c → ⊥
      not_born f = cc

      no_atlas : AtlasCell (atlas_state a) ≡ ContainerCell c → ⊥
      no_atlas f = cc

      no_locus : (l : LocusState) → LocusCell l ≡ ContainerCell c → ⊥
      no_locus l f = cc

  is_locus_cell : (x : ℕ) (l : LocusState) → cells x ≡ LocusCell l → is_born_locus (atlas_state a) x ≡ true
  is_locus_cell x l e = ⊎_elim
      (λ (n : cells x ≡ NotBorn). absurd (not_born (sym n ∙ e)))
      (λ (more : (cells x ≡ AtlasCell (atlas_state a)) ⊎ ((is_born_container (atlas_state a) x ≡ true) ⊎ (is_born_locus (atlas_state a) x ≡ true))). ⊎_elim
      (λ (n : cells x ≡ AtlasCell (atlas_state a)). absurd (no_atlas (sym n ∙ e)))
      (λ (born : (is_born_container (atlas_state a) x ≡ true) ⊎ (is_born_locus (atlas_state a) x ≡ true)). ⊎_elim
      (λ (container : is_born_container (atlas_state a) x ≡ true). let c = s.containers x container in absurd (no_container c.0 (sym c.1 ∙ e)))
      (λ (is : is_born_locus (atlas_state a) x ≡ true). is)
      born)
      more)
      (kind x)
    where
      not_born : NotBorn ≡ LocusCell l → ⊥
      not_born f = cc

      no_atlas : AtlasCell (atlas_state a) ≡ LocusCell l → ⊥
      no_atlas f = cc

      no_container : (c : ContainerState) → ContainerCell c ≡ LocusCell l → ⊥
      no_container c f = cc

  -- a born entity with a container's number is a born container
  named : (n : ℕ) → is_born (atlas_state a) n ≡ true → is_container n ≡ true → is_born_container (atlas_state a) n ≡ true
  named n born is = by (is_born_container (atlas_state a) n) refl
    where
      range : (0 < n) × (n < 41)
      range = let p = and_parts (nat_lt 0 n) (nat_lt n 41) is in (first p.0, second p.1)
        where
          first : nat_lt 0 n ≡ true → 0 < n
          first f = grind (arith, nat_tests)

          second : nat_lt n 41 ≡ true → n < 41
          second f = grind (arith, nat_tests)

      no_zero : 0 < n → (n == 0) ≡ false
      no_zero l = grind (arith, nat_tests)

      no_locus : n < 41 → nat_lt 40 n ≡ false
      no_locus l = grind (arith, nat_tests)

      by : (b : Bool) → is_born_container (atlas_state a) n ≡ b → is_born_container (atlas_state a) n ≡ true
      by true e = e
      by false e = absurd (false≢true (sym (
          ap (λ b. b || is_born_container (atlas_state a) n || is_born_locus (atlas_state a) n) (no_zero range.0)
          ∙ ap (λ c. c || is_born_locus (atlas_state a) n) e
          ∙ ap (λ b. b && nat_le n (40 + length a.loci)) (no_locus range.1)) ∙ born))

  same_locus : (l m : LocusState) → LocusCell l ≡ LocusCell m → l ≡ m
  same_locus l m e = cc

  caps_born : (x : ℕ) (l : LocusState) → cells x ≡ LocusCell l → NamesBorn a l.caps
  caps_born x l e slot cap at is =
      let own = s.loci x (is_locus_cell x l e) in
      let same = same_locus own.0 l (sym own.1 ∙ e) in
      born_here a cap.entity s.names.few_containers (named cap.entity (own.2.caps.each slot cap (ap (λ (m : LocusState). slice_get m.caps slot) same ∙ at)) is)

  pub meets_mapping : MeetsMapping a cells
  meets_mapping = record {
    caps = caps_born;
    number = λ x c e. born_here a x s.names.few_containers (is_container_cell x c e);
    counted = λ x c e y. s.edges x y ∙ ap (λ v. regions_onto v y) e;
  }
