-- The births of plain states, by what is appended.
use Rattle.std.proofs.Common.{◌≡◌, ◌≢◌, ℕ, zero, suc, ◌+◌, ◌-◌, ◌<◌, ◌≤◌, ◌⊎◌, inl, inr, Bool, true, false, ◌&&◌, if◌then◌else◌, ◌==◌, nat_lt, nat_le, IsTrue, List, [], ◌∷◌, ◌++◌, length, Option, Some, None, slice_get, slice_index, string_bytes, refl, sym, ap, subst, ◌∙◌, arith}
use Rattle.std.specs.List.{All}
use Rattle.std.proofs.lemmas.Bool.{cases_lt}
use Rattle.std.proofs.lemmas.Bool.Decides.{nat_tests}
use Rattle.std.proofs.lemmas.List.{length-map}
use Rattle.std.proofs.lemmas.List.Elements.{All-weaker}
use Rattle.std.proofs.lemmas.Option.{slice_get_within}
use Rattle.base_types.specs.declared.capabilities.Region.{Region}
use Rattle.base_types.specs.declared.histories.Answer.TheVariants.{Quiet}
use Rattle.base_types.specs.declared.histories.Entry.{Entry}
use Rattle.model_kernel.specs.Births.{code_in, container_birth, container_from, edges_from, locus_birth, locus_from, locus_in_host, regions_from, with_container_name, with_locus_name}
use Rattle.model_kernel.specs.Outcomes.{free_container, free_locus}
use Rattle.model_kernel.specs.Scripts.{ContainerTable, LocusTable, container_named, number_in}
use Rattle.model_kernel.specs.Soundness.{AreSound, IsSound, IsSoundContainer, IsSoundLocus, regions_onto, is_born_container, is_born_locus}
use Rattle.model_kernel.specs.State.{Supply, AtlasState, ContainerState, LocusState, Cell, NotBorn, AtlasCell, ContainerCell, LocusCell}
use Rattle.model_kernel.specs.Steps.{atlas_in}
use Rattle.plain_states.specs.Born.{AreEdges, BearsContainer, BearsLocus, HasFewNames, IsReadyContainerTable, IsReadyLocusTable, edges_below, entry_of_container, entry_of_locus, risen, shown}
use Rattle.plain_states.specs.Events.{state_with}
use Rattle.plain_states.specs.Plains.{atlas_of, cells_by, cells_of, container_cell, container_of, edges_of, locus_cell, locus_of}
use Rattle.plain_states.specs.declared.plain.Plain.{Plain}
use Rattle.plain_states.specs.declared.plain.PlainContainer.{PlainContainer}
use Rattle.plain_states.specs.declared.plain.PlainLocus.{PlainLocus}
use Rattle.plain_states.proofs.BirthLemmas.{container_grown, locus_grown, makes_three, makes_two, three_risen, two_risen}
use Rattle.plain_states.proofs.BornLemmas.{all_before}
use Rattle.model_sound_runs.proofs.Tables.{all_regions, container_named_born}
use Rattle.plain_states.proofs.CellLemmas.{cell_at_container, high_cell, low_container}
use Rattle.plain_states.proofs.EdgeLemmas.{AllBefore, grown, plain_edges}
use Rattle.model_sound_runs.proofs.TableEdges.{model_containers, model_edges, model_loci, not_shown}
use Rattle.plain_states.proofs.ScriptLemmas.{found_of}
use Rattle.model_sound_runs.proofs.Grown.{joins_by_host, newborn_container, newborn_locus, not_yet_container, not_yet_locus, sound_table_container, sound_table_locus, sound_with_container, sound_with_locus, with_container, with_locus}
use Rattle.plain_states.proofs.SoundLemmas.{sound_container}
use Rattle.model_sound_runs.proofs.model_sound_steps_lemmas.Growth.{born_container, born_locus, wider_container}

-- THE LISTS OF A SOUND STATE

-- a sound plain state is sound by its own atlas
pub sound_here : (s : Supply) (p : Plain) → IsSound (cells_of s p) → AreSound (atlas_of p.atlas) (cells_of s p)
sound_here s p h = subst (λ a. AreSound a (cells_of s p)) (sym (ap atlas_in h.1.atlas)) h.1

-- any supplier
nothing : Supply
nothing tag page place = 0

pub few_names : (p : Plain) → ((s : Supply) → IsSound (cells_of s p)) → HasFewNames p.atlas
few_names p sound =
    let h = sound_here nothing p (sound nothing) in
    record { containers = subst (λ n. n ≤ 40) (length-map p.atlas.containers.items string_bytes) h.names.few_containers; loci = subst (λ n. n ≤ 23) (length-map p.atlas.loci.items string_bytes) h.names.few_loci }

-- what is the same stays sound
pub still_sound : (s : Supply) (p q : Plain) → atlas_of q.atlas ≡ atlas_of p.atlas → q.containers.items ≡ p.containers.items → q.loci.items ≡ p.loci.items → IsSound (cells_of s p) → IsSound (cells_of s q)
still_sound s p q atlas containers loci h =
    let e : cells_of s p ≡ cells_of s q = (λ i x. cells_by s (sym atlas i) (sym containers i) (sym loci i) x) in
    subst IsSound e h

get_none : {A : Type 0} (xs : List A) (i : ℕ) → slice_get xs i ≡ None → length xs ≤ i
get_none [] i is = omega arith
get_none (x ∷ xs) zero is = absurd (no is)
  where
    no : Some x ≡ None → ⊥
    no e = cc
get_none (x ∷ xs) (suc i) is = let le = get_none xs i is in omega (arith, le)

no_container : (s : Supply) (o : Option PlainContainer) → container_cell s o ≡ NotBorn → o ≡ None
no_container s None e = refl
no_container s (Some c) e = cc

no_locus : (o : Option PlainLocus) → locus_cell o ≡ NotBorn → o ≡ None
no_locus None e = refl
no_locus (Some c) e = cc

some_locus : (o : Option PlainLocus) (l : LocusState) → locus_cell o ≡ LocusCell l → (m : PlainLocus) × (o ≡ Some m)
some_locus (Some m) l e = (m, refl)
some_locus None l e = absurd (no e)
  where
    no : NotBorn ≡ LocusCell l → ⊥
    no e = cc

-- as many containers as names
pub containers_named : (s : Supply) (a : AtlasState) (cs : List PlainContainer) (ls : List PlainLocus) → AreSound a (cells_by s a cs ls) → length a.containers < 40 → length cs ≡ length a.containers
containers_named s a cs ls h few =
    let n = length a.containers in
    let free : cells_by s a cs ls (n + 1) ≡ NotBorn = h.others (n + 1) (not_yet_container a (n + 1) refl (omega arith)) in
    let at : (n + 1) - 1 ≡ n = omega arith in
    let le : length cs ≤ n = get_none cs n (no_container s (slice_get cs n) (ap (λ k. container_cell s (slice_get cs k)) (sym at) ∙ sym (low_container s a cs ls (n + 1) (omega arith) (omega arith)) ∙ free)) in
    let ge : n ≤ length cs = not_fewer (cases_lt 0 n) in
    omega arith
  where
    not_fewer : (0 < length a.containers) ⊎ (length a.containers ≤ 0) → length a.containers ≤ length cs
    not_fewer (inl pos) =
        let n = length a.containers in
        let born : IsTrue (is_born_container a n) = last n refl pos in
        let found = sound_container s a cs ls n h born in
        let lt : n - 1 < length cs = slice_get_within cs (n - 1) found.0 found.1 in
        omega arith
      where
        last : (n : ℕ) → n ≡ length a.containers → 0 < n → IsTrue (is_born_container a n)
        last n at pos = grind (arith, nat_tests)
    not_fewer (inr none) = omega arith

pub loci_named : (s : Supply) (a : AtlasState) (cs : List PlainContainer) (ls : List PlainLocus) → AreSound a (cells_by s a cs ls) → length a.loci < 23 → length ls ≡ length a.loci
loci_named s a cs ls h few =
    let n = length a.loci in
    let free : cells_by s a cs ls (n + 41) ≡ NotBorn = h.others (n + 41) (not_yet_locus a (n + 41) refl h.names.few_containers) in
    let at : (n + 41) - 41 ≡ n = omega arith in
    let le : length ls ≤ n = get_none ls n (no_locus (slice_get ls n) (ap (λ k. locus_cell (slice_get ls k)) (sym at) ∙ sym (high_cell s a cs ls (n + 41) (omega arith)) ∙ free)) in
    let ge : n ≤ length ls = not_fewer (cases_lt 0 n) in
    omega arith
  where
    not_fewer : (0 < length a.loci) ⊎ (length a.loci ≤ 0) → length a.loci ≤ length ls
    not_fewer (inl pos) =
        let n = length a.loci in
        let born : IsTrue (is_born_locus a (n + 40)) = last (n + 40) refl pos in
        let found = h.loci (n + 40) born in
        let there = some_locus (slice_get ls ((n + 40) - 41)) found.0 (sym (high_cell s a cs ls (n + 40) (omega arith)) ∙ found.1) in
        let lt : (n + 40) - 41 < length ls = slice_get_within ls ((n + 40) - 41) there.0 there.1 in
        omega arith
      where
        last : (x : ℕ) → x ≡ length a.loci + 40 → 0 < length a.loci → IsTrue (is_born_locus a x)
        last x at pos = grind (arith, nat_tests)
    not_fewer (inr none) = omega arith

-- THE LOWEST FREE NUMBER

pub container_number : (a : AtlasState) (n : ℕ) → free_container a ≡ Some n → (length a.containers < 40) × (n ≡ length a.containers + 1)
container_number a n is =
    elim (nat_lt (length a.containers) 40) as (λ b. nat_lt (length a.containers) 40 ≡ b → (if b then Some (length a.containers + 1) else None) ≡ Some n → (length a.containers < 40) × (n ≡ length a.containers + 1)) [
      | true ↦ λ t e. let same : n ≡ length a.containers + 1 = cc in ((let lt : length a.containers < 40 = grind (arith, nat_tests) in lt), same)
      | false ↦ λ t e. absurd (no e)
    ] refl is
  where
    no : None ≡ Some n → ⊥
    no e = cc

pub locus_number : (a : AtlasState) (n : ℕ) → free_locus a ≡ Some n → (length a.loci < 23) × (n ≡ length a.loci + 41)
locus_number a n is =
    elim (nat_lt (length a.loci) 23) as (λ b. nat_lt (length a.loci) 23 ≡ b → (if b then Some (length a.loci + 41) else None) ≡ Some n → (length a.loci < 23) × (n ≡ length a.loci + 41)) [
      | true ↦ λ t e. let same : n ≡ length a.loci + 41 = cc in ((let lt : length a.loci < 23 = grind (arith, nat_tests) in lt), same)
      | false ↦ λ t e. absurd (no e)
    ] refl is
  where
    no : None ≡ Some n → ⊥
    no e = cc

-- A CONTAINER

-- what is appended at the birth of a container
pub record ContainerAdded (s : Supply) (p q : Plain) (t : ContainerTable) (n : ℕ) (c : PlainContainer) : Type 0 where
  pub sound : IsSound (cells_of s p)
  pub edges : AreEdges p.atlas.edges.items
  pub table : IsReadyContainerTable (atlas_of p.atlas) t
  pub free : free_container (atlas_of p.atlas) ≡ Some n
  pub made : container_of s c ≡ container_from s (number_in (atlas_of p.atlas) t.name n) t
  pub names : (atlas_of q.atlas).containers ≡ (atlas_of p.atlas).containers ++ t.name ∷ []
  pub locus_names : (atlas_of q.atlas).loci ≡ (atlas_of p.atlas).loci
  pub new_edges : q.atlas.edges.items ≡ p.atlas.edges.items ++ edges_below n c.regions.items n
  pub containers : q.containers.items ≡ p.containers.items ++ c ∷ []
  pub loci : q.loci.items ≡ p.loci.items

module _ (s : Supply) (p q : Plain) (t : ContainerTable) (n : ℕ) (c : PlainContainer) (h : ContainerAdded s p q t n c) where
  all_sound : AreSound (atlas_of p.atlas) (cells_of s p)
  all_sound = sound_here s p h.sound

  number_is : n ≡ length (atlas_of p.atlas).containers + 1
  number_is = (container_number (atlas_of p.atlas) n h.free).1

  number_small : n ≤ 40
  number_small = let k = container_number (atlas_of p.atlas) n h.free in omega (arith, k.0, k.1)

  place_is : n ≡ length p.containers.items + 1
  place_is =
      let k = container_number (atlas_of p.atlas) n h.free in
      let e = containers_named s (atlas_of p.atlas) p.containers.items p.loci.items all_sound k.0 in
      omega (arith, e, k.1)

  regions_are : c.regions.items ≡ regions_from (number_in (atlas_of p.atlas) t.name n) t.regions
  regions_are = ap (λ (d : ContainerState). d.regions) h.made

  targets_born : All (λ (r : Region). IsTrue (is_born_container (atlas_of p.atlas) r.target)) c.regions.items
  targets_born =
      subst (λ rs. All (λ (r : Region). IsTrue (is_born_container (atlas_of p.atlas) r.target)) rs) (sym regions_are)
      (all_regions (λ (r : Region). IsTrue (is_born_container (atlas_of p.atlas) r.target)) (number_in (atlas_of p.atlas) t.name n) t.regions (h.table.targets n))

  below_newborn : (y : ℕ) → n ≤ y → shown c.regions.items y ≡ 0
  below_newborn y le =
      not_shown c.regions.items y (All-weaker (λ (r : Region). IsTrue (is_born_container (atlas_of p.atlas) r.target)) (λ (r : Region). r.target ≢ y) (λ r born e. lower r.target born e) c.regions.items targets_born)
    where
      lower : (x : ℕ) → IsTrue (is_born_container (atlas_of p.atlas) x) → x ≢ y
      lower x born e =
          let k : n ≡ length (atlas_of p.atlas).containers + 1 = number_is in
          let far : nat_le x (length (atlas_of p.atlas).containers) ≡ false = grind (arith, nat_tests) in
          bad (nat_lt 0 x) _ far born
        where
          bad : (p q : Bool) → q ≡ false → (p && q) ≡ true → ⊥
          bad true q e h = cc
          bad false q e h = cc

  before_all : AllBefore n 0 p.atlas.edges.items
  before_all = all_before (atlas_of p.atlas) (cells_of s p) p.atlas.edges.items n all_sound (λ x y. refl) h.edges number_is

  counts : (x y : ℕ) → edges_of q.atlas.edges.items x y ≡ edges_of p.atlas.edges.items x y + (if x == n then shown c.regions.items y else 0)
  counts x y =
      ap (λ es. edges_of es x y) h.new_edges
      ∙ plain_edges p.atlas.edges.items n c.regions.items before_all h.edges below_newborn (λ y. all_sound.edges n y ∙ ap (λ k. regions_onto k y) (all_sound.others n (not_yet_container (atlas_of p.atlas) n number_is number_small))) x y

  pub added_edges : AreEdges q.atlas.edges.items
  added_edges = subst AreEdges (sym h.new_edges) (grown p.atlas.edges.items n n c.regions.items before_all h.edges).edges

  cells_joined : (x : ℕ) → cells_of s q x ≡ (if 0 == x then AtlasCell (atlas_of q.atlas) else if n == x then ContainerCell (container_of s c) else cells_of s p x)
  cells_joined x =
      (λ i. cells_by s (atlas_of q.atlas) (h.containers i) (h.loci i) x)
      ∙ container_grown s (atlas_of p.atlas) (atlas_of q.atlas) p.containers.items p.loci.items c n x place_is (let k = number_small in omega arith)

  pub added_sound : IsSound (cells_of s q)
  added_sound =
      let a = atlas_of p.atlas in
      let b = atlas_of q.atlas in
      let d = container_of s c in
      let w = with_container a b (cells_of s p) (cells_of s q) n t.name d all_sound cells_joined h.names h.locus_names counts number_is number_small h.table.ranges.name h.table.fresh targets_born in
      let born = born_container b n (newborn_container a b (cells_of s p) (cells_of s q) n t.name d all_sound cells_joined h.names h.locus_names counts number_is number_small h.table.ranges.name h.table.fresh targets_born) in (
        b,
        sound_with_container a b (cells_of s p) (cells_of s q) n t.name d all_sound cells_joined h.names h.locus_names counts number_is number_small h.table.ranges.name h.table.fresh targets_born
            (subst (IsSoundContainer b) (sym h.made) (sound_table_container s a b n t (found_of a t n h.table) w born)),
      )

  same_atlas : atlas_of q.atlas ≡ edges_from (number_in (atlas_of p.atlas) t.name n) n t.regions (with_container_name (atlas_of p.atlas) t.name)
  same_atlas =
      let number = number_in (atlas_of p.atlas) t.name n in
      let named = with_container_name (atlas_of p.atlas) t.name in
      let cs = h.names ∙ sym (model_containers number n t.regions named) in
      let ls = h.locus_names ∙ sym (model_loci number n t.regions named) in
      let es : (x y : ℕ) → edges_of q.atlas.edges.items x y ≡ (edges_from number n t.regions named).edges x y =
      (λ x y. counts x y ∙ ap (λ rs. edges_of p.atlas.edges.items x y + (if x == n then shown rs y else 0)) regions_are ∙ sym (model_edges number n t.regions named x y)) in
      (λ i. record { containers = cs i; loci = ls i; edges = λ x y. es x y i })

  birth_is : container_birth s (atlas_of p.atlas) t (free_container (atlas_of p.atlas))
      ≡ Some (
        n,
        record {
          accesses = record { entity = 0; new = Some (AtlasCell (edges_from (number_in (atlas_of p.atlas) t.name n) n t.regions (with_container_name (atlas_of p.atlas) t.name))) }
              ∷ record { entity = n; new = Some (ContainerCell (container_from s (number_in (atlas_of p.atlas) t.name n) t)) } ∷ [];
          answer = Quiet;
        },
      )
  birth_is = ap (container_birth s (atlas_of p.atlas) t) h.free ∙ rw (h.table.knows n) refl

  pub added_bears : (us vs : List ℕ) (e : Entry) → length us ≡ 64 → e ≡ entry_of_container us n → vs ≡ risen (risen us 0) n → BearsContainer s t (atlas_of p.atlas) (cells_of s p) us e (cells_of s q) vs
  added_bears us vs e len entry versions =
      let pos : 0 < n = (let k = number_is in omega arith) in
      makes_two (λ w. container_birth s (atlas_of p.atlas) t (free_container (atlas_of p.atlas))) (cells_of s p) (cells_of s q) us vs
      (AtlasCell (edges_from (number_in (atlas_of p.atlas) t.name n) n t.regions (with_container_name (atlas_of p.atlas) t.name))) n
      (ContainerCell (container_from s (number_in (atlas_of p.atlas) t.name n) t)) e pos (λ stamps. birth_is) entry
      (λ x. cells_joined x ∙ (λ i. if 0 == x then AtlasCell (same_atlas i) else if n == x then ContainerCell (h.made i) else cells_of s p x))
      (λ x. ap (λ us. slice_index us x) versions ∙ two_risen us n x len pos (let k = number_small in omega arith))

-- A LOCUS

-- what is appended at the birth of a locus
pub record LocusAdded (s : Supply) (p q : Plain) (t : LocusTable) (host n : ℕ) (c : PlainContainer) (l : PlainLocus) : Type 0 where
  pub sound : IsSound (cells_of s p)
  pub table : IsReadyLocusTable (atlas_of p.atlas) t
  pub hosted : container_named (atlas_of p.atlas) t.host ≡ Some host
  pub there : slice_get p.containers.items (host - 1) ≡ Some c
  pub free : free_locus (atlas_of p.atlas) ≡ Some n
  pub made : locus_of l ≡ locus_from (number_in (atlas_of p.atlas) t.name n) t host c.code.items
  pub names : (atlas_of q.atlas).loci ≡ (atlas_of p.atlas).loci ++ t.name ∷ []
  pub container_names : (atlas_of q.atlas).containers ≡ (atlas_of p.atlas).containers
  pub edges : q.atlas.edges.items ≡ p.atlas.edges.items
  pub containers : q.containers.items ≡ p.containers.items
  pub loci : q.loci.items ≡ p.loci.items ++ l ∷ []

-- a born host's number and place
pub host_place : (s : Supply) (p : Plain) (name : List ℕ) (host : ℕ) → IsSound (cells_of s p) → container_named (atlas_of p.atlas) name ≡ Some host
    → (c : PlainContainer) × (slice_get p.containers.items (host - 1) ≡ Some c) × IsSoundContainer (atlas_of p.atlas) (container_of s c) × (0 < host) × (host ≤ 40)
host_place s p name host sound is = sound_container s (atlas_of p.atlas) p.containers.items p.loci.items host (sound_here s p sound) (container_named_born (atlas_of p.atlas) name host is)

module _ (s : Supply) (p q : Plain) (t : LocusTable) (host n : ℕ) (c : PlainContainer) (l : PlainLocus) (h : LocusAdded s p q t host n c l) where
  locus_all_sound : AreSound (atlas_of p.atlas) (cells_of s p)
  locus_all_sound = sound_here s p h.sound

  host_found : (c : PlainContainer) × (slice_get p.containers.items (host - 1) ≡ Some c) × IsSoundContainer (atlas_of p.atlas) (container_of s c) × (0 < host) × (host ≤ 40)
  host_found = host_place s p t.host host h.sound h.hosted

  host_low : (0 < host) × (host ≤ 40)
  host_low = (host_found.3, host_found.4)

  host_cell : cells_of s p host ≡ ContainerCell (container_of s c)
  host_cell =
      let low = host_low in
      let pos : 0 < host = low.0 in
      let le : host ≤ 40 = low.1 in
      cell_at_container s (atlas_of p.atlas) p.containers.items p.loci.items (host - 1) c host (omega arith) (omega arith) h.there

  locus_number_is : n ≡ length (atlas_of p.atlas).loci + 41
  locus_number_is = (locus_number (atlas_of p.atlas) n h.free).1

  locus_number_small : n < 64
  locus_number_small = let k = locus_number (atlas_of p.atlas) n h.free in omega (arith, k.0, k.1)

  locus_place_is : n ≡ length p.loci.items + 41
  locus_place_is =
      let k = locus_number (atlas_of p.atlas) n h.free in
      let e = loci_named s (atlas_of p.atlas) p.containers.items p.loci.items locus_all_sound k.0 in
      omega (arith, e, k.1)

  locus_cells : (x : ℕ) → cells_of s q x ≡ (if 0 == x then AtlasCell (atlas_of q.atlas) else if host == x then cells_of s p host else if n == x then LocusCell (locus_of l) else cells_of s p x)
  locus_cells x =
      (λ i. cells_by s (atlas_of q.atlas) (h.containers i) (h.loci i) x)
      ∙ locus_grown s (atlas_of p.atlas) (atlas_of q.atlas) p.containers.items p.loci.items l host n x host_low.0 (let k = host_low.1 in omega (arith, k)) locus_place_is

  locus_same_edges : (x y : ℕ) → (atlas_of q.atlas).edges x y ≡ (atlas_of p.atlas).edges x y
  locus_same_edges x y = ap (λ es. edges_of es x y) h.edges

  pub locus_added_sound : IsSound (cells_of s q)
  locus_added_sound =
      let a = atlas_of p.atlas in
      let b = atlas_of q.atlas in
      let m = locus_of l in
      let apart : host ≢ n = λ e. (let k = host_low.1 in let j = locus_number_is in omega (arith, k, j, e)) in
      let joins = joins_by_host (AtlasCell b) host n (LocusCell m) (cells_of s p) (cells_of s q) locus_cells apart in
      let w = with_locus a b (cells_of s p) (cells_of s q) n t.name m locus_all_sound joins h.container_names h.names locus_same_edges locus_number_is locus_number_small h.table.ranges.name h.table.fresh in
      let born = born_locus b n (newborn_locus a b (cells_of s p) (cells_of s q) n t.name m locus_all_sound joins h.container_names h.names locus_same_edges locus_number_is locus_number_small h.table.ranges.name h.table.fresh) in
      let host_born = wider_container a b host w (container_named_born a t.host host h.hosted) in (
        b,
        sound_with_locus a b (cells_of s p) (cells_of s q) n t.name m locus_all_sound joins h.container_names h.names locus_same_edges locus_number_is locus_number_small h.table.ranges.name h.table.fresh
            (subst (IsSoundLocus b) (sym h.made) (sound_table_locus a b n t host c.code.items h.table.containers h.table.earlier h.table.ranges w born host_born (host_code.code))),
      )
    where
      same_container : Some host_found.0 ≡ Some c → host_found.0 ≡ c
      same_container e = cc

      host_code : IsSoundContainer (atlas_of p.atlas) (container_of s c)
      host_code = subst (λ d. IsSoundContainer (atlas_of p.atlas) (container_of s d)) (same_container (sym host_found.1 ∙ h.there)) host_found.2

  locus_birth_is : (w : ℕ → Cell) → w host ≡ cells_of s p host → ((us : List ℕ) (stamps : ℕ → ℕ → ℕ) → locus_birth (state_with w us stamps) (atlas_of p.atlas) t (container_named (atlas_of p.atlas) t.host)
      ≡ Some (
        n,
        record {
          accesses = record { entity = 0; new = Some (AtlasCell (with_locus_name (atlas_of p.atlas) t.name)) }
              ∷ record { entity = host; new = Some (w host) }
              ∷ record { entity = n; new = Some (LocusCell (locus_from (number_in (atlas_of p.atlas) t.name n) t host (code_in (w host)))) } ∷ [];
          answer = Quiet;
        },
      ))
  locus_birth_is w same us stamps =
      ap (locus_birth (state_with w us stamps) (atlas_of p.atlas) t) h.hosted ∙ ap (locus_in_host (atlas_of p.atlas) t host (w host)) h.free ∙ rw (h.table.knows n) refl

  locus_same_atlas : atlas_of q.atlas ≡ with_locus_name (atlas_of p.atlas) t.name
  locus_same_atlas = λ i. record { containers = h.container_names i; loci = h.names i; edges = λ x y. locus_same_edges x y i }

  locus_made : locus_of l ≡ locus_from (number_in (atlas_of p.atlas) t.name n) t host (code_in (cells_of s p host))
  locus_made = h.made ∙ ap (λ k. locus_from (number_in (atlas_of p.atlas) t.name n) t host (code_in k)) (sym host_cell)

  pub locus_added_bears : (us vs : List ℕ) (e : Entry) → length us ≡ 64 → e ≡ entry_of_locus us host n → vs ≡ risen (risen (risen us 0) host) n → BearsLocus t (atlas_of p.atlas) (cells_of s p) us e (cells_of s q) vs
  locus_added_bears us vs e len entry versions =
      let pos : 0 < host = host_low.0 in
      let lt : host < n = (let k = host_low.1 in let j = locus_number_is in omega (arith, k, j)) in
      makes_three (λ w. locus_birth w (atlas_of p.atlas) t (container_named (atlas_of p.atlas) t.host)) (cells_of s p) (cells_of s q) us vs
      (AtlasCell (with_locus_name (atlas_of p.atlas) t.name)) host (cells_of s p host) n
      (LocusCell (locus_from (number_in (atlas_of p.atlas) t.name n) t host (code_in (cells_of s p host)))) e pos lt (λ stamps. locus_birth_is (cells_of s p) refl us stamps) entry
      (λ x. locus_cells x ∙ (λ i. if 0 == x then AtlasCell (locus_same_atlas i) else if host == x then cells_of s p host else if n == x then LocusCell (locus_made i) else cells_of s p x))
      (λ x. ap (λ us. slice_index us x) versions ∙ three_risen us host n x len pos lt locus_number_small)
