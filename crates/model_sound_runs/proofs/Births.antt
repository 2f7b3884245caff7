-- A birth of a script's next name leaves a sound state.
use Rattle.std.proofs.Common.{◌≡◌, ◌≢◌, ℕ, ◌+◌, ◌<◌, ◌≤◌, Bool, true, false, ◌&&◌, if◌then◌else◌, ◌==◌, nat_lt, IsTrue, List, [], ◌∷◌, ◌++◌, length, Option, Some, None, is_none, option_and_then, refl, sym, ap, subst, ◌∙◌, arith}
use Rattle.std.specs.List.{All}
use Rattle.std.proofs.lemmas.Bool.{ltb-true}
use Rattle.std.proofs.lemmas.Bool.Decides.{nat_tests}
use Rattle.std.proofs.lemmas.List.Elements.{All-cons, All-head, All-nil, All-tail, All-weaker}
use Rattle.script_types.specs.base_types.declared.capabilities.Region.{Region}
use Rattle.script_types.specs.base_types.declared.histories.Entry.{Entry}
use Rattle.script_types.specs.base_types.declared.histories.Event.TheVariants.{Birth}
use Rattle.script_types.specs.model_kernel.Births.{knows_caps, knows_regions, edges_from, with_container_name, with_locus_name, container_from, locus_from, code_in, container_born, container_birth, locus_born, locus_in_host, locus_birth, birth_from, birth_named, next_birth_change, next_birth}
use Rattle.script_types.specs.model_kernel.Changes.{Change, ordered, changed, carried}
use Rattle.script_types.specs.model_kernel.Outcomes.{free_container, free_locus}
use Rattle.script_types.specs.model_kernel.Scripts.{ContainerTable, LocusTable, Script, container_named, container_table, locus_named, locus_table, next_name, number_in, number_of, place_of, text_eq}
use Rattle.script_types.specs.model_kernel.Soundness.{AreSound, IsSound, IsSoundCode, is_born_container}
use Rattle.script_types.specs.model_kernel.State.{Supply, Text, AtlasState, ContainerState, Cell, AtlasCell, ContainerCell, LocusCell, KernelState}
use Rattle.script_types.specs.model_kernel.Steps.{atlas_in}
use Rattle.script_types.proofs.model_kernel_lemmas.Basics.{some_of_map, and_left}
use Rattle.script_types.proofs.model_kernel_lemmas.Writes.{changed_cell}
use Rattle.script_types.specs.Rules.{IsScript, container_names}
use Rattle.model_sound_steps.proofs.RegionLists.{shown}
use Rattle.std.proofs.lemmas.List.{length_push}
use Rattle.model_sound_runs.proofs.Ranges.{AllUnder, ordered_touches}
use Rattle.script_types.specs.model_kernel.LocalEvents.{touch_at}
use Rattle.model_sound_runs.proofs.Tables.{all_regions, container_named_born}
use Rattle.model_sound_runs.proofs.TableEdges.{model_containers, model_edges, model_loci}
use Rattle.model_sound_runs.proofs.Found.{found_container, find_locus}
use Rattle.model_sound_runs.proofs.Grown.{Joins, joins_by_host, newborn_container, newborn_locus, sound_table_container, sound_table_locus, sound_with_container, sound_with_locus, with_container, with_locus}
use Rattle.model_sound_steps.proofs.Growth.{born_container, born_locus}
use Rattle.model_sound_steps.proofs.MadeNames.{text_same}

-- NUMBERS

pub free_container_number : (a : AtlasState) (n : ℕ) → free_container a ≡ Some n → (n ≡ length a.containers + 1) × (n ≤ 40)
free_container_number a n free =
    elim (nat_lt (length a.containers) 40) as (λ b. nat_lt (length a.containers) 40 ≡ b → (if b then Some (length a.containers + 1) else None) ≡ Some n → (n ≡ length a.containers + 1) × (n ≤ 40)) [
      | true ↦ λ is f. (let few = ltb-true _ _ is in let e : length a.containers + 1 ≡ n = cc in (sym e, omega arith))
      | false ↦ λ is f. cc
    ] refl free

free_locus_number : (a : AtlasState) (n : ℕ) → free_locus a ≡ Some n → (n ≡ length a.loci + 41) × (n < 64)
free_locus_number a n free =
    elim (nat_lt (length a.loci) 23) as (λ b. nat_lt (length a.loci) 23 ≡ b → (if b then Some (length a.loci + 41) else None) ≡ Some n → (n ≡ length a.loci + 41) × (n < 64)) [
      | true ↦ λ is f. (let few = ltb-true _ _ is in let e : length a.loci + 41 ≡ n = cc in (sym e, omega arith))
      | false ↦ λ is f. cc
    ] refl free

both_tests : (n x : ℕ) → (n == x) ≡ true → (0 == x) ≡ true → 0 < n → ⊥
both_tests n x p q pos = grind (arith, nat_tests)

-- the atlas is written first, and what is born last
swap_two : (n x : ℕ) (atlas k old : Cell) → 0 < n → (if n == x then k else if 0 == x then atlas else old) ≡ (if 0 == x then atlas else if n == x then k else old)
swap_two n x atlas k old pos =
    elim (n == x) as (λ b. (n == x) ≡ b → (if b then k else if 0 == x then atlas else old) ≡ (if 0 == x then atlas else if b then k else old)) [
      | true ↦ λ p. elim (0 == x) as (λ b. (0 == x) ≡ b → k ≡ (if b then atlas else k)) [ true ↦ λ q. absurd (both_tests n x p q pos) | false ↦ λ q. refl ] refl
      | false ↦ λ p. refl
    ] refl

same_tests : (n m x : ℕ) → (n == x) ≡ true → (m == x) ≡ true → m ≢ n → ⊥
same_tests n m x p q apart = apart (omega_eq n m x p q)
  where
    omega_eq : (n m x : ℕ) → (n == x) ≡ true → (m == x) ≡ true → m ≡ n
    omega_eq n m x p q = grind (arith, nat_tests)

swap_three : (host n x : ℕ) (atlas k there old : Cell) → 0 < n → 0 < host → host ≢ n
    → (if n == x then k else if host == x then there else if 0 == x then atlas else old) ≡ (if 0 == x then atlas else if host == x then there else if n == x then k else old)
swap_three host n x atlas k there old pos pos_host apart =
    elim (n == x) as (λ b. (n == x) ≡ b → (if b then k else if host == x then there else if 0 == x then atlas else old) ≡ (if 0 == x then atlas else if host == x then there else if b then k else old)) [
      | true ↦ λ p. elim (0 == x) as (λ b. (0 == x) ≡ b → k ≡ (if b then atlas else if host == x then there else k)) [
        | true ↦ λ q. absurd (both_tests n x p q pos)
        | false ↦ λ q. elim (host == x) as (λ b. (host == x) ≡ b → k ≡ (if b then there else k)) [ true ↦ λ r. absurd (same_tests n host x p r apart) | false ↦ λ r. refl ] refl
      ] refl
      | false ↦ λ p. elim (host == x) as (λ b. (host == x) ≡ b → (if b then there else if 0 == x then atlas else old) ≡ (if 0 == x then atlas else if b then there else old)) [
        | true ↦ λ r. elim (0 == x) as (λ b. (0 == x) ≡ b → there ≡ (if b then atlas else there)) [ true ↦ λ q. absurd (both_tests host x r q pos_host) | false ↦ λ q. refl ] refl
        | false ↦ λ r. refl
      ] refl
    ] refl

-- NAMES OF THE OTHER KIND

abbrev pub NotLocus : AtlasState → ContainerTable → Type 0
NotLocus a t = locus_named a t.name ≡ None

pub other_way : (x y : Text) → text_eq x y ≡ false → text_eq y x ≡ false
other_way x y other = by_test (text_eq y x) refl
  where
    same_text : (t : Text) → text_eq t t ≡ true
    same_text [] = refl
    same_text (x ∷ xs) = (let e : (x == x) ≡ true = Rattle.std.proofs.Common.eq-eqb x x refl in rw e (same_text xs))

    clash : (b : Bool) → b ≡ true → b ≡ false → ⊥
    clash true p q = cc
    clash false p q = cc

    by_test : (b : Bool) → text_eq y x ≡ b → text_eq y x ≡ false
    by_test false e = e
    by_test true e = absurd (clash (text_eq x y) (ap (text_eq x) (text_same y x e) ∙ same_text x) other)

pub place_other : (x y : Text) (ts : List Text) (k : ℕ) → text_eq x y ≡ false → place_of x ts k ≡ None → place_of x (ts ++ y ∷ []) k ≡ None
place_other x y [] k other none = ap (λ (b : Bool). if b then Some k else None) other
place_other x y (t ∷ ts) k other none =
    elim (text_eq x t) as (λ b. (if b then Some k else place_of x ts (k + 1)) ≡ None → (if b then Some k else place_of x (ts ++ y ∷ []) (k + 1)) ≡ None) [
      | true ↦ λ e. cc
      | false ↦ λ e. place_other x y ts (k + 1) other e
    ] none

-- a new locus's name is none of the containers'
not_locus_more : (a b : AtlasState) (name : Text) (ts : List ContainerTable) → b.loci ≡ a.loci ++ name ∷ [] → container_table ts name ≡ None → All (NotLocus a) ts → All (NotLocus b) ts
not_locus_more a b name [] more none all = All-nil (NotLocus b)
not_locus_more a b name (t ∷ ts) more none all =
    elim (text_eq name t.name) as (λ q. text_eq name t.name ≡ q → (if q then Some t else container_table ts name) ≡ None → All (NotLocus b) (t ∷ ts)) [
      | true ↦ λ is e. cc
      | false ↦ λ is e.
          All-cons (NotLocus b) t ts (ap (λ (us : List Text). place_of t.name us 41) more ∙ place_other t.name name a.loci 41 (other_way name t.name is) (All-head (NotLocus a) t ts all))
          (not_locus_more a b name ts more e (All-tail (NotLocus a) t ts all))
    ] refl none

code_at_host : (cell : Cell) (c : ContainerState) → cell ≡ ContainerCell c → IsSoundCode c.code → IsSoundCode (code_in cell)
code_at_host cell c is sound = subst (λ k. IsSoundCode (code_in k)) (sym is) sound

some_if : {A : Type 0} (b : Bool) (x y : A) → (if b then Some x else None) ≡ Some y → (b ≡ true) × (x ≡ y)
some_if true x y e = (refl, cc)
some_if false x y e = cc

above_zero : (a : AtlasState) (x : ℕ) → IsTrue (is_born_container a x) → 0 < x
above_zero a x born = grind (arith, nat_tests)

below_41 : (a : AtlasState) (x : ℕ) → length a.containers ≤ 40 → IsTrue (is_born_container a x) → x < 41
below_41 a x few born = grind (arith, nat_tests)

module _ (s : Supply) (script : Script) (rules : IsScript script) (w : KernelState) (a : AtlasState) (h : AreSound a (λ x. (w x).cell)) (kinds : All (NotLocus a) script.containers) where
  -- the change leaves a sound state
  abbrev pub Leaves : ℕ × Change → Type 0
  Leaves c = (b : AtlasState) × AreSound b (λ x. (changed w (ordered c.1.accesses) x).cell) × All (NotLocus b) script.containers × AllUnder c.1.accesses × (length b.containers + length b.loci ≡ length a.containers + length a.loci + 1)

  container_leaves : (name : Text) (t : ContainerTable) (n : ℕ) → number_of a name ≡ None → container_table script.containers name ≡ Some t → free_container a ≡ Some n
      → (knows_regions (number_in a t.name n) t.regions && knows_caps (number_in a t.name n) t.caps) ≡ true → Leaves (n, container_born s a t n)
  container_leaves name t n none is free knows =
      let number = number_in a t.name n in
      let b = edges_from number n t.regions (with_container_name a t.name) in
      let c = container_from s number t in
      let accesses = (container_born s a t n).accesses in
      let at = free_container_number a n free in
      let found = found_container a script name t n rules kinds is (and_left (knows_regions number t.regions) (knows_caps number t.caps) knows) in
      let f = found.1 in
      let old : ℕ → Cell = λ x. (w x).cell in
      let new : ℕ → Cell = λ x. (changed w (ordered accesses) x).cell in
      let joins : Joins (AtlasCell b) n (ContainerCell c) old new = λ x. changed_cell w accesses x ∙ swap_two n x (AtlasCell b) (ContainerCell c) (w x).cell (omega (arith, at.0)) in
      let names : b.containers ≡ a.containers ++ t.name ∷ [] = model_containers number n t.regions (with_container_name a t.name) in
      let loci : b.loci ≡ a.loci = model_loci number n t.regions (with_container_name a t.name) in
      let edges : (x y : ℕ) → b.edges x y ≡ a.edges x y + (if x == n then shown c.regions y else 0) = λ x y. model_edges number n t.regions (with_container_name a t.name) x y in
      let fresh = subst (λ x. number_of a x ≡ None) found.0 none in
      let targets : All (λ (r : Region). IsTrue (is_born_container a r.target)) c.regions = all_regions (λ (r : Region). IsTrue (is_born_container a r.target)) number t.regions f.targets in
      let wide = with_container a b old new n t.name c h joins names loci edges at.0 at.1 f.ranges.name fresh targets in
      let born = born_container b n (newborn_container a b old new n t.name c h joins names loci edges at.0 at.1 f.ranges.name fresh targets) in (
        b,
        sound_with_container a b old new n t.name c h joins names loci edges at.0 at.1 f.ranges.name fresh targets (sound_table_container s a b n t f wide born),
        All-weaker (NotLocus a) (NotLocus b) (λ u e. ap (λ (us : List Text). place_of u.name us 41) loci ∙ e) script.containers kinds,
        (omega arith, ((let k = at.1 in omega (arith, k)), tt)),
        (let p : length b.containers ≡ length a.containers + 1 = ap length names ∙ length_push a.containers t.name in let q : length b.loci ≡ length a.loci = ap length loci in omega (arith, p, q)),
      )

  locus_leaves : (name : Text) (t : LocusTable) (host n : ℕ) → number_of a name ≡ None → container_table script.containers name ≡ None → locus_table script.loci name ≡ Some t → container_named a t.host ≡ Some host → free_locus a ≡ Some n
      → Leaves (n, locus_born a t n host (w host).cell)
  locus_leaves name t host n none unnamed is there free =
      let number = number_in a t.name n in
      let b = with_locus_name a t.name in
      let cell = (w host).cell in
      let l = locus_from number t host (code_in cell) in
      let accesses = (locus_born a t n host cell).accesses in
      let at = free_locus_number a n free in
      let found = find_locus a (container_names script.containers) [] script.loci name t rules.loci is in
      let born_host = container_named_born a t.host host there in
      let low : host < 41 = below_41 a host h.names.few_containers born_host in
      let pos : 0 < host = above_zero a host born_host in
      let apart : host ≢ n = λ e. (let k = at.0 in omega (arith, low, k, e)) in
      let old : ℕ → Cell = λ x. (w x).cell in
      let new : ℕ → Cell = λ x. (changed w (ordered accesses) x).cell in
      let joins : Joins (AtlasCell b) n (LocusCell l) old new = joins_by_host (AtlasCell b) host n (LocusCell l) old new
      (λ x. changed_cell w accesses x ∙ swap_three host n x (AtlasCell b) (LocusCell l) cell (w x).cell (omega (arith, at.0)) pos apart) apart in
      let fresh = subst (λ x. number_of a x ≡ None) found.2 none in
      let wide = with_locus a b old new n t.name l h joins refl refl (λ x y. refl) at.0 at.1 found.1.name fresh in
      let born = born_locus b n (newborn_locus a b old new n t.name l h joins refl refl (λ x y. refl) at.0 at.1 found.1.name fresh) in
      let c = h.containers host born_host in (
        b,
        sound_with_locus a b old new n t.name l h joins refl refl (λ x y. refl) at.0 at.1 found.1.name fresh
            (sound_table_locus a b n t host (code_in cell) (container_names script.containers) found.0 found.1 wide born born_host (code_at_host cell c.0 c.1 c.2.code)),
        not_locus_more a b t.name script.containers refl (subst (λ x. container_table script.containers x ≡ None) found.2 unnamed) kinds,
        (omega arith, ((let k = low in omega (arith, k)), ((let k = at.1 in omega (arith, k)), tt))),
        (let p : length b.loci ≡ length a.loci + 1 = length_push a.loci t.name in omega (arith, p)),
      )

  by_free_container : (name : Text) (t : ContainerTable) (o : Option ℕ) (c : ℕ × Change) → number_of a name ≡ None → container_table script.containers name ≡ Some t → free_container a ≡ o → container_birth s a t o ≡ Some c → Leaves c
  by_free_container name t None c none is free e = cc
  by_free_container name t (Some n) c none is free e =
      let k = some_if (knows_regions (number_in a t.name n) t.regions && knows_caps (number_in a t.name n) t.caps) (n, container_born s a t n) c e in
      subst Leaves k.1 (container_leaves name t n none is free k.0)

  by_free_locus : (name : Text) (t : LocusTable) (host : ℕ) (o : Option ℕ) (c : ℕ × Change) → number_of a name ≡ None → container_table script.containers name ≡ None → locus_table script.loci name ≡ Some t → container_named a t.host ≡ Some host
      → free_locus a ≡ o → locus_in_host a t host (w host).cell o ≡ Some c → Leaves c
  by_free_locus name t host None c none unnamed is there free e = cc
  by_free_locus name t host (Some n) c none unnamed is there free e =
      subst Leaves (some_if (knows_caps (number_in a t.name n) t.caps) (n, locus_born a t n host (w host).cell) c e).1 (locus_leaves name t host n none unnamed is there free)

  by_host : (name : Text) (t : LocusTable) (o : Option ℕ) (c : ℕ × Change) → number_of a name ≡ None → container_table script.containers name ≡ None → locus_table script.loci name ≡ Some t → container_named a t.host ≡ o → locus_birth w a t o ≡ Some c → Leaves c
  by_host name t None c none unnamed is there e = cc
  by_host name t (Some host) c none unnamed is there e = by_free_locus name t host (free_locus a) c none unnamed is there refl e

  by_tables : (name : Text) (t : Option ContainerTable) (u : Option LocusTable) (c : ℕ × Change) → number_of a name ≡ None → container_table script.containers name ≡ t → locus_table script.loci name ≡ u → birth_from s w a t u ≡ Some c → Leaves c
  by_tables name (Some t) u c none is at e = by_free_container name t (free_container a) c none is refl e
  by_tables name None (Some u) c none is at e = by_host name u (container_named a u.host) c none is at refl e
  by_tables name None None c none is at e = cc

  by_number : (name : Text) (o : Option ℕ) (c : ℕ × Change) → number_of a name ≡ o → (if is_none o then birth_from s w a (container_table script.containers name) (locus_table script.loci name) else None) ≡ Some c → Leaves c
  by_number name None c none e = by_tables name (container_table script.containers name) (locus_table script.loci name) c none refl refl e
  by_number name (Some n) c is e = cc

  by_next : (o : Option Text) (c : ℕ × Change) → option_and_then (λ name. birth_named s script name w a) o ≡ Some c → Leaves c
  by_next None c e = cc
  by_next (Some name) c e = by_number name (number_of a name) c refl e

  next_leaves : (c : ℕ × Change) → next_birth_change s script w ≡ Some c → Leaves c
  unfolding next_birth_change
  next_leaves c e = by_next (next_name a script) c (subst (λ b. option_and_then (λ name. birth_named s script name w b) (next_name b script) ≡ Some c) (ap atlas_in h.atlas) e)

-- the names that an atlas has
abbrev pub names_in : AtlasState → ℕ
names_in a = length a.containers + length a.loci

-- what a birth leaves
pub record Born (script : Script) (w : KernelState) (r : Entry × KernelState) : Type 0 where
  pub sound : IsSound (λ x. (r.1 x).cell)
  pub kinds : All (NotLocus (atlas_in (r.1 0).cell)) script.containers
  pub under : (x : ℕ) → 64 ≤ x → touch_at r.0.touched x ≡ None
  pub more : names_in (atlas_in (r.1 0).cell) ≡ names_in (atlas_in (w 0).cell) + 1

pub birth_leaves : (s : Supply) (script : Script) (w : KernelState) (r : Entry × KernelState) → IsScript script → All (NotLocus (atlas_in (w 0).cell)) script.containers → IsSound (λ x. (w x).cell) → next_birth s script w ≡ Some r → Born script w r
birth_leaves s script w r rules kinds sound e =
    let m = some_of_map (λ (c : ℕ × Change). carried w Birth c.0 c.1) (next_birth_change s script w) r e in
    let left = next_leaves s script rules w sound.0 sound.1 (subst (λ b. All (NotLocus b) script.containers) (ap atlas_in sound.1.atlas) kinds) m.0 m.1 in
    subst (Born script w) m.2 (record {
      sound = (left.0, left.1);
      kinds = subst (λ b. All (NotLocus b) script.containers) (sym (ap atlas_in left.1.atlas)) left.2;
      under = λ x h. ordered_touches w m.0.1.accesses x left.3 h;
      more = ap (λ k. names_in (atlas_in k)) left.1.atlas ∙ left.4 ∙ ap (λ k. names_in (atlas_in k) + 1) (sym sound.1.atlas);
    })
