-- A birth leaves a sound state.
use Rattle.std.proofs.Common.{◌≡◌, ◌≢◌, ℕ, ◌+◌, ◌<◌, ◌≤◌, ⊎_elim, Bool, true, false, ◌&&◌, if◌then◌else◌, ◌==◌, nat_lt, nat_le, IsTrue, List, [], ◌∷◌, ◌++◌, length, Some, None, slice_get, refl, sym, ap, subst, ◌∙◌, arith, eqb-true, eq-eqb}
use Rattle.std.specs.List.{All}
use Rattle.std.proofs.lemmas.Bool.{cases_lt}
use Rattle.std.proofs.lemmas.Bool.Decides.{nat_tests}
use Rattle.std.proofs.lemmas.List.{length_push}
use Rattle.std.proofs.lemmas.List.Elements.{All-nil, All-weaker}
use Rattle.script_types.specs.base_types.declared.capabilities.Region.{Region}
use Rattle.script_types.specs.base_types.declared.instructions.Instr.{Instr}
use Rattle.script_types.specs.base_types.declared.instructions.Walk.{Walk}
use Rattle.script_types.specs.model_kernel.Births.{container_from, locus_from}
use Rattle.script_types.specs.model_kernel.Scripts.{ContainerTable, LocusTable, number_in, number_of}
use Rattle.script_types.specs.model_kernel.Soundness.{AreSound, HasNoCircle, IsSoundAtlas, IsSoundCall, IsSoundCode, IsSoundContainer, IsSoundLocus, IsSoundPrivate, IsSoundRegion, are_names_from, is_born, is_born_container, is_born_locus, is_given_name, regions_onto}
use Rattle.script_types.specs.model_kernel.State.{Supply, Text, AtlasState, ContainerState, LocusState, Cell, AtlasCell, ContainerCell, LocusCell}
use Rattle.script_types.specs.Rules.{IsLocusTable}
use Rattle.model_sound_steps.proofs.RegionLists.{shown}
use Rattle.model_sound_runs.proofs.Found.{IsFound}
use Rattle.model_sound_runs.proofs.Tables.{all_regions, apart_regions, fresh, known_born, length_regions, no_new_circle, pushed_apart, pushed_different, pushed_names, sound_caps, target_born}
use Rattle.model_sound_runs.proofs.TableEdges.{not_shown}
use Rattle.model_sound_steps.proofs.Growth.{born_container, born_locus, Wider, wider_container, wider_born, wider_container_state, wider_locus_state}

-- ONE MORE CELL

-- the atlas has a new state, n is born, and all else stays
abbrev pub Joins : Cell → ℕ → Cell → (ℕ → Cell) → (ℕ → Cell) → Type 0
Joins atlas n k old new = (x : ℕ) → new x ≡ (if 0 == x then atlas else if n == x then k else old x)

off : (a b : ℕ) → a ≢ b → (a == b) ≡ false
off a b h = grind (arith, nat_tests)

newborn_cell : (atlas : Cell) (n : ℕ) (k : Cell) (old new : ℕ → Cell) → Joins atlas n k old new → 0 < n → new n ≡ k
newborn_cell atlas n k old new h pos =
    let z : (0 == n) ≡ false = off 0 n (omega arith) in
    let e : (n == n) ≡ true = eq-eqb n n refl in
    h n ∙ rw (z, e) refl

other_cell : (atlas : Cell) (n : ℕ) (k : Cell) (old new : ℕ → Cell) (x : ℕ) → Joins atlas n k old new → 0 ≢ x → n ≢ x → new x ≡ old x
other_cell atlas n k old new x h z apart = h x ∙ rw (off 0 x z, off n x apart) refl

-- a host that is written as it is stays
pub joins_by_host : (atlas : Cell) (host n : ℕ) (k : Cell) (old new : ℕ → Cell) → ((x : ℕ) → new x ≡ (if 0 == x then atlas else if host == x then old host else if n == x then k else old x)) → host ≢ n → Joins atlas n k old new
joins_by_host atlas host n k old new h apart x = h x ∙ ap (λ c. if 0 == x then atlas else c) (by_host (host == x) (n == x) refl refl)
  where
    by_host : (p q : Bool) → (host == x) ≡ p → (n == x) ≡ q → (if host == x then old host else if n == x then k else old x) ≡ (if n == x then k else old x)
    by_host true true ep eq = absurd (apart (eqb-true host x ep ∙ sym (eqb-true n x eq)))
    by_host true false ep eq = rw (ep, eq) (ap old (eqb-true host x ep))
    by_host false q ep eq = rw ep refl

-- where one is born that was not
born_false : (a b : AtlasState) (x : ℕ) → Wider a b → is_born b x ≡ false → is_born a x ≡ false
born_false a b x w out = by_born (is_born a x) refl
  where
    by_born : (t : Bool) → is_born a x ≡ t → is_born a x ≡ false
    by_born true e = absurd (never (sym (wider_born a b x w e) ∙ out))
      where
        never : true ≡ false → ⊥
        never e = cc
    by_born false e = e

never_born : (b : AtlasState) (x : ℕ) → IsTrue (is_born b x) → is_born b x ≡ false → ⊥
never_born b x within outside = cc

-- A CONTAINER

pub not_yet_container : (a : AtlasState) (n : ℕ) → n ≡ length a.containers + 1 → n ≤ 40 → is_born a n ≡ false
not_yet_container a n at small =
    let z : (n == 0) ≡ false = off n 0 (omega arith) in
    let c : nat_le n (length a.containers) ≡ false = grind (arith, nat_tests) in
    let p : nat_lt 0 n ≡ true = grind (arith, nat_tests) in
    let q : nat_lt 40 n ≡ false = grind (arith, nat_tests) in
    rw (z, p, c, q) refl

born_or_new : (a b : AtlasState) (n x : ℕ) → length b.containers ≡ length a.containers + 1 → n ≡ length a.containers + 1 → n ≢ x → IsTrue (is_born_container b x) → IsTrue (is_born_container a x)
born_or_new a b n x len at apart born = grind (arith, nat_tests)

module _ (a b : AtlasState) (old new : ℕ → Cell) (n : ℕ) (name : Text) (c : ContainerState)
    (h : AreSound a old) (joins : Joins (AtlasCell b) n (ContainerCell c) old new)
    (names : b.containers ≡ a.containers ++ name ∷ []) (loci : b.loci ≡ a.loci)
    (edges : (x y : ℕ) → b.edges x y ≡ a.edges x y + (if x == n then shown c.regions y else 0))
    (at : n ≡ length a.containers + 1) (small : n ≤ 40) (given : IsTrue (is_given_name name)) (none : number_of a name ≡ None)
    (targets : All (λ (r : Region). IsTrue (is_born_container a r.target)) c.regions) where
  longer : length b.containers ≡ length a.containers + 1
  longer = ap length names ∙ length_push a.containers name

  pub with_container : Wider a b
  with_container = record { containers = omega (arith, longer); loci = let e : length b.loci ≡ length a.loci = ap length loci in omega arith }

  pub newborn_container : IsTrue (is_born_container b n)
  newborn_container =
      let len : length b.containers ≡ length a.containers + 1 = longer in
      let p : nat_lt 0 n ≡ true = grind (arith, nat_tests) in
      let q : nat_le n (length b.containers) ≡ true = grind (arith, nat_tests) in
      rw (p, q) refl

  unborn : (x : ℕ) → x ≡ n → IsTrue (is_born_container a x) → ⊥
  unborn x e born =
      let le : nat_le x (length a.containers) ≡ false = grind (arith, nat_tests) in
      bad (nat_lt 0 x) (nat_le x (length a.containers)) le born
    where
      bad : (p q : Bool) → q ≡ false → (p && q) ≡ true → ⊥
      bad true q e h = cc
      bad false q e h = cc

  nobody : (x : ℕ) → b.edges x n ≡ 0
  nobody x =
      let old_none : a.edges x n ≡ 0 = ⊎_elim {C = a.edges x n ≡ 0}
      (λ (lt : 0 < a.edges x n). absurd (unborn n refl (target_born a old x n h (let e = h.edges x n in omega (arith, e)))))
      (λ (le : a.edges x n ≤ 0). omega arith) (cases_lt 0 (a.edges x n)) in
      let new_none : shown c.regions n ≡ 0 = not_shown c.regions n (All-weaker (λ (r : Region). IsTrue (is_born_container a r.target)) (λ (r : Region). r.target ≢ n) (λ r born e. unborn r.target e born) c.regions targets) in
      edges x n ∙ elim (x == n) as (λ t. a.edges x n + (if t then shown c.regions n else 0) ≡ 0) [ true ↦ omega arith | false ↦ omega arith ]

  others_keep : (x y : ℕ) → x ≢ n → b.edges x y ≡ a.edges x y
  others_keep x y apart = edges x y ∙ rw (off x n apart) (omega arith)

  sound_names : IsSoundAtlas b
  sound_names =
      let f = fresh a name none in record {
        few_containers = omega (arith, longer);
        few_loci = let e : length b.loci ≡ length a.loci = ap length loci in let k : length a.loci ≤ 23 = h.names.few_loci in omega arith;
        containers = subst (λ ts. IsTrue (are_names_from 1 ts)) (sym names) (pushed_names 1 a.containers name given h.names.containers);
        loci = subst (λ ts. IsTrue (are_names_from 41 ts)) (sym loci) h.names.loci;
        different = record {
          containers = subst (λ ts. (i j : ℕ) (t : Text) → slice_get ts i ≡ Some t → slice_get ts j ≡ Some t → i ≡ j) (sym names) (pushed_different a.containers name 1 f.container h.names.different.containers);
          loci = subst (λ ts. (i j : ℕ) (t : Text) → slice_get ts i ≡ Some t → slice_get ts j ≡ Some t → i ≡ j) (sym loci) h.names.different.loci;
          both = subst (λ us. (i j : ℕ) (t : Text) → slice_get b.containers i ≡ Some t → slice_get us j ≡ Some t → ⊥) (sym loci)
              (subst (λ ts. (i j : ℕ) (t : Text) → slice_get ts i ≡ Some t → slice_get a.loci j ≡ Some t → ⊥) (sym names) (pushed_apart a.containers a.loci name 41 f.locus h.names.different.both));
        };
        no_circle = no_new_circle a.edges b.edges n others_keep nobody h.names.no_circle;
      }

  sound_edges : (x y : ℕ) → b.edges x y ≡ regions_onto (new x) y
  sound_edges x y = by_number (0 == x) (n == x) refl refl
    where
      by_number : (p q : Bool) → (0 == x) ≡ p → (n == x) ≡ q → b.edges x y ≡ regions_onto (new x) y
      by_number true q ep eq =
          let e : 0 ≡ x = eqb-true 0 x ep in
          others_keep x y (λ f. omega arith) ∙ h.edges x y ∙ ap (λ k. regions_onto k y) (ap old (sym e) ∙ h.atlas) ∙ sym (ap (λ k. regions_onto k y) (ap new (sym e) ∙ joins 0))
      by_number false true ep eq =
          let e : n ≡ x = eqb-true n x eq in
          let here : (x == n) ≡ true = eq-eqb x n (sym e) in
          let nothing : a.edges x y ≡ 0 = h.edges x y ∙ ap (λ k. regions_onto k y) (ap old (sym e) ∙ h.others n (not_yet_container a n at small)) in
          let sum : a.edges x y + shown c.regions y ≡ shown c.regions y = omega arith in
          edges x y ∙ rw here sum ∙ sym (ap (λ k. regions_onto k y) (ap new (sym e) ∙ newborn_cell (AtlasCell b) n (ContainerCell c) old new joins (omega arith)))
      by_number false false ep eq =
          let apart : n ≢ x = λ e. let t = eq-eqb n x e in cc in
          let nonzero : 0 ≢ x = λ e. let t = eq-eqb 0 x e in cc in
          others_keep x y (λ e. apart (sym e)) ∙ h.edges x y ∙ sym (ap (λ k. regions_onto k y) (other_cell (AtlasCell b) n (ContainerCell c) old new x joins nonzero apart))

  pub sound_with_container : IsSoundContainer b c → AreSound b new
  sound_with_container sound = record {
    atlas = joins 0;
    names = sound_names;
    containers = λ x born. container_at x born (n == x) refl;
    loci = λ x born.
        let before : IsTrue (is_born_locus a x) = subst (λ ts. IsTrue (nat_lt 40 x && nat_le x (40 + length ts))) loci born in
        let high : 40 < x = above x before in
        let l = h.loci x before in
        (l.0, other_cell (AtlasCell b) n (ContainerCell c) old new x joins (λ e. omega arith) (λ e. omega arith) ∙ l.1, wider_locus_state a b l.0 with_container l.2);
    others = λ x out.
        other_cell (AtlasCell b) n (ContainerCell c) old new x joins (λ e. never_born b x (subst (λ x. IsTrue (is_born b x)) e refl) out)
        (λ e. never_born b x (subst (λ x. IsTrue (is_born b x)) e (born_container b n newborn_container)) out)
        ∙ h.others x (born_false a b x with_container out);
    edges = sound_edges;
  }
    where
      above : (x : ℕ) → IsTrue (is_born_locus a x) → 40 < x
      above x born = grind (arith, nat_tests)

      over_zero : (x : ℕ) → IsTrue (is_born_container b x) → 0 < x
      over_zero x born = grind (arith, nat_tests)

      container_at : (x : ℕ) → IsTrue (is_born_container b x) → (t : Bool) → (n == x) ≡ t → (d : ContainerState) × (new x ≡ ContainerCell d) × IsSoundContainer b d
      container_at x born true is = (c, ap new (sym (eqb-true n x is)) ∙ newborn_cell (AtlasCell b) n (ContainerCell c) old new joins (omega arith), sound)
      container_at x born false is =
          let apart : n ≢ x = λ e. let t = eq-eqb n x e in cc in
          let pos : 0 < x = over_zero x born in
          let d = h.containers x (born_or_new a b n x longer at apart born) in
          (d.0, other_cell (AtlasCell b) n (ContainerCell c) old new x joins (λ e. omega arith) apart ∙ d.1, wider_container_state a b d.0 with_container d.2)

-- the container of a table
pub sound_table_container : (s : Supply) (a b : AtlasState) (n : ℕ) (t : ContainerTable) → IsFound a t n → Wider a b → IsTrue (is_born b n) → IsSoundContainer b (container_from s (number_in a t.name n) t)
sound_table_container s a b n t h w born =
    let number = number_in a t.name n in
    let pages : t.pages ≤ 256 = h.ranges.pages.1 in record {
      some = h.ranges.pages.0;
      size = h.ranges.pages.1;
      entry = h.ranges.entry;
      code = h.ranges.code;
      few = rw length_regions h.ranges.few_regions;
      regions = all_regions (IsSoundRegion b) number t.regions (λ k d lt.
          let r = h.ranges.regions k d lt in
          let at = r.at in
          record { some = r.some; at = omega arith; from = r.from; access = r.access; target = wider_container a b _ w (h.targets k d lt) });
      inside = all_regions (λ (r : Region). r.at + r.count ≤ t.pages) number t.regions (λ k d lt. (h.ranges.regions k d lt).at);
      apart = apart_regions h.earlier t.pages number t.regions h.ranges.regions h.ranges.apart;
      caps = sound_caps b number (λ name. known_born a b t.name n name w born) t.caps;
    }

-- A LOCUS

pub not_yet_locus : (a : AtlasState) (n : ℕ) → n ≡ length a.loci + 41 → length a.containers ≤ 40 → is_born a n ≡ false
not_yet_locus a n at small =
    let z : (n == 0) ≡ false = off n 0 (omega arith) in
    let c : nat_le n (length a.containers) ≡ false = grind (arith, nat_tests) in
    let p : nat_lt 0 n ≡ true = grind (arith, nat_tests) in
    let q : nat_lt 40 n ≡ true = grind (arith, nat_tests) in
    let r : nat_le n (40 + length a.loci) ≡ false = grind (arith, nat_tests) in
    rw (z, p, c, q, r) refl

locus_or_new : (a b : AtlasState) (n x : ℕ) → length b.loci ≡ length a.loci + 1 → n ≡ length a.loci + 41 → n ≢ x → IsTrue (is_born_locus b x) → IsTrue (is_born_locus a x)
locus_or_new a b n x len at apart born = grind (arith, nat_tests)

module _ (a b : AtlasState) (old new : ℕ → Cell) (n : ℕ) (name : Text) (l : LocusState)
    (h : AreSound a old) (joins : Joins (AtlasCell b) n (LocusCell l) old new)
    (containers : b.containers ≡ a.containers) (names : b.loci ≡ a.loci ++ name ∷ [])
    (edges : (x y : ℕ) → b.edges x y ≡ a.edges x y)
    (at : n ≡ length a.loci + 41) (small : n < 64) (given : IsTrue (is_given_name name)) (none : number_of a name ≡ None) where
  longer_loci : length b.loci ≡ length a.loci + 1
  longer_loci = ap length names ∙ length_push a.loci name

  pub with_locus : Wider a b
  with_locus = record { containers = let e : length b.containers ≡ length a.containers = ap length containers in omega arith; loci = omega (arith, longer_loci) }

  pub newborn_locus : IsTrue (is_born_locus b n)
  newborn_locus =
      let len : length b.loci ≡ length a.loci + 1 = longer_loci in
      let p : nat_lt 40 n ≡ true = grind (arith, nat_tests) in
      let q : nat_le n (40 + length b.loci) ≡ true = grind (arith, nat_tests) in
      rw (p, q) refl

  sound_locus_names : IsSoundAtlas b
  sound_locus_names =
      let f = fresh a name none in record {
        few_containers = let e : length b.containers ≡ length a.containers = ap length containers in let k : length a.containers ≤ 40 = h.names.few_containers in omega arith;
        few_loci = omega (arith, longer_loci);
        containers = subst (λ ts. IsTrue (are_names_from 1 ts)) (sym containers) h.names.containers;
        loci = subst (λ ts. IsTrue (are_names_from 41 ts)) (sym names) (pushed_names 41 a.loci name given h.names.loci);
        different = record {
          containers = subst (λ ts. (i j : ℕ) (t : Text) → slice_get ts i ≡ Some t → slice_get ts j ≡ Some t → i ≡ j) (sym containers) h.names.different.containers;
          loci = subst (λ ts. (i j : ℕ) (t : Text) → slice_get ts i ≡ Some t → slice_get ts j ≡ Some t → i ≡ j) (sym names) (pushed_different a.loci name 41 f.locus h.names.different.loci);
          both = subst (λ us. (i j : ℕ) (t : Text) → slice_get b.containers i ≡ Some t → slice_get us j ≡ Some t → ⊥) (sym names)
              (subst (λ ts. (i j : ℕ) (t : Text) → slice_get ts i ≡ Some t → slice_get (a.loci ++ name ∷ []) j ≡ Some t → ⊥) (sym containers)
              (λ i j t p q. pushed_apart a.loci a.containers name 1 f.container (λ i j t p q. h.names.different.both j i t q p) j i t q p));
        };
        no_circle = let e : a.edges ≡ b.edges = (λ i x y. sym (edges x y) i) in subst HasNoCircle e h.names.no_circle;
      }

  sound_locus_edges : (x y : ℕ) → b.edges x y ≡ regions_onto (new x) y
  sound_locus_edges x y = edges x y ∙ h.edges x y ∙ by_number (0 == x) (n == x) refl refl
    where
      by_number : (p q : Bool) → (0 == x) ≡ p → (n == x) ≡ q → regions_onto (old x) y ≡ regions_onto (new x) y
      by_number true q ep eq =
          let e : 0 ≡ x = eqb-true 0 x ep in
          ap (λ k. regions_onto k y) (ap old (sym e) ∙ h.atlas) ∙ sym (ap (λ k. regions_onto k y) (ap new (sym e) ∙ joins 0))
      by_number false true ep eq =
          let e : n ≡ x = eqb-true n x eq in
          ap (λ k. regions_onto k y) (ap old (sym e) ∙ h.others n (not_yet_locus a n at h.names.few_containers)) ∙ sym (ap (λ k. regions_onto k y) (ap new (sym e) ∙ newborn_cell (AtlasCell b) n (LocusCell l) old new joins (omega arith)))
      by_number false false ep eq =
          let apart : n ≢ x = λ e. let t = eq-eqb n x e in cc in
          let nonzero : 0 ≢ x = λ e. let t = eq-eqb 0 x e in cc in
          sym (ap (λ k. regions_onto k y) (other_cell (AtlasCell b) n (LocusCell l) old new x joins nonzero apart))

  pub sound_with_locus : IsSoundLocus b l → AreSound b new
  sound_with_locus sound = record {
    atlas = joins 0;
    names = sound_locus_names;
    containers = λ x born.
        let before : IsTrue (is_born_container a x) = subst (λ ts. IsTrue (nat_lt 0 x && nat_le x (length ts))) containers born in
        let k : length a.containers ≤ 40 = h.names.few_containers in
        let low : (0 < x) × (x ≤ length a.containers) = within x before in
        let c = h.containers x before in
        (c.0, other_cell (AtlasCell b) n (LocusCell l) old new x joins (λ e. omega arith) (λ e. omega arith) ∙ c.1, wider_container_state a b c.0 with_locus c.2);
    loci = λ x born. locus_at x born (n == x) refl;
    others = λ x out.
        other_cell (AtlasCell b) n (LocusCell l) old new x joins (λ e. never_born b x (subst (λ x. IsTrue (is_born b x)) e refl) out)
        (λ e. never_born b x (subst (λ x. IsTrue (is_born b x)) e (born_locus b n newborn_locus)) out)
        ∙ h.others x (born_false a b x with_locus out);
    edges = sound_locus_edges;
  }
    where
      within : (x : ℕ) → IsTrue (is_born_container a x) → (0 < x) × (x ≤ length a.containers)
      within x born = (grind (arith, nat_tests), grind (arith, nat_tests))

      over_forty : (x : ℕ) → IsTrue (is_born_locus b x) → 40 < x
      over_forty x born = grind (arith, nat_tests)

      locus_at : (x : ℕ) → IsTrue (is_born_locus b x) → (t : Bool) → (n == x) ≡ t → (m : LocusState) × (new x ≡ LocusCell m) × IsSoundLocus b m
      locus_at x born true is = (l, ap new (sym (eqb-true n x is)) ∙ newborn_cell (AtlasCell b) n (LocusCell l) old new joins (omega arith), sound)
      locus_at x born false is =
          let apart : n ≢ x = λ e. let t = eq-eqb n x e in cc in
          let pos : 40 < x = over_forty x born in
          let m = h.loci x (locus_or_new a b n x longer_loci at apart born) in
          (m.0, other_cell (AtlasCell b) n (LocusCell l) old new x joins (λ e. omega arith) apart ∙ m.1, wider_locus_state a b m.0 with_locus m.2)

-- the locus of a table
pub sound_table_locus : (a b : AtlasState) (n : ℕ) (t : LocusTable) (host : ℕ) (code : List Instr) (containers earlier : List Text) → IsLocusTable containers earlier t → Wider a b → IsTrue (is_born b n) → IsTrue (is_born_container b host) → IsSoundCode code
    → IsSoundLocus b (locus_from (number_in a t.name n) t host code)
sound_table_locus a b n t host code containers earlier h w born there sound = record {
  registers = refl;
  place = let at : t.at < 128 = h.at in omega arith;
  code = sound;
  host = there;
  deep = omega arith;
  chain = All-nil (IsSoundCall b);
  few = omega arith;
  privates = All-nil (IsSoundPrivate b);
  ordered = tt;
  caps = sound_caps b (number_in a t.name n) (λ name. known_born a b t.name n name w born) t.caps;
  walk = λ k is. absurd (no k is);
  printed = omega arith;
}
  where
    no : (k : Walk) → None ≡ Some k → ⊥
    no k e = cc
