-- An entity's room doesn't fall: once born it stays, and a container keeps its pages.
use Rattle.std.proofs.Common.{◌≡◌, ℕ, ◌+◌, ◌≤◌, ◌<◌, Bool, true, false, ◌&&◌, ◌||◌, ◌==◌, nat_le, nat_lt, if◌then◌else◌, List, [], ◌∷◌, length, Option, Some, None, is_some, refl, sym, ap, subst, ◌∙◌, arith, eqb-true}
use Rattle.std.specs.Prelude.{IfSome}
use Rattle.std.proofs.lemmas.Bool.{ltb-true}
use Rattle.std.proofs.lemmas.Bool.Decides.{nat_tests}
use Rattle.kernel_invariant.specs.model_kernel.State.{Supply, AtlasCell, AtlasState, LocusState, Cell, ContainerCell, LocusCell, KernelState, NotBorn}
use Rattle.kernel_invariant.specs.model_kernel.Soundness.{IsSound, is_born}
use Rattle.kernel_invariant.specs.model_kernel.Acts.{wanted}
use Rattle.kernel_invariant.specs.model_kernel.Outcomes.{by_refused, free_container, free_locus, outcome}
use Rattle.kernel_invariant.specs.model_kernel.Changes.{Access, access_at, accessed, changed, insert_access, joined, merged, ordered, touches_of, written}
use Rattle.kernel_invariant.specs.model_kernel.Steps.{accesses_of, outcome_in, seen_atlas, seen_other, with_atlas_access, with_newborn_access, with_other_access}
use Rattle.kernel_invariant.proofs.model_sound_runs_lemmas.Acting.{HoldsBorn, IsKept, newborn_holds, newborn_is, refused_kept}

-- the room of an entity: a container's pages, and eight blocks of a blob
abbrev pub cell_room : Cell → ℕ
cell_room NotBorn = 0
cell_room (AtlasCell a) = 8
cell_room (ContainerCell c) = 8 + c.pages
cell_room (LocusCell l) = 8

-- ACTS ON ANOTHER ENTITY

-- a new cell, if there is one, has at least this room
abbrev pub HasRoom : ℕ → Option Cell → Type 0
HasRoom n new = IfSome new (λ c. n ≤ cell_room c)

-- an act leaves a cell its room
room_kept : (n : ℕ) → IsKept (λ c. n ≤ cell_room c)
room_kept n = record {
  contained = λ c d pages tag words good. omega (arith, pages, good);
  stored = λ c address word page good. good;
  located = λ l m good. good;
}

-- WHAT IS BORN

pub free_container_unborn : (a : AtlasState) (n : ℕ) → free_container a ≡ Some n → is_born a n ≡ false
free_container_unborn a n free = by_room (nat_lt (length a.containers) 40) refl free
  where
    number : ℕ → Option ℕ → ℕ
    number d None = d
    number d (Some m) = m

    unborn : (m : ℕ) → m < 40 → (m + 1 == 0 || (nat_lt 0 (m + 1) && nat_le (m + 1) m) || (nat_lt 40 (m + 1) && nat_le (m + 1) (40 + length a.loci))) ≡ false
    unborn m lt = grind (arith, nat_tests)

    by_room : (t : Bool) → nat_lt (length a.containers) 40 ≡ t → (if t then Some (length a.containers + 1) else None) ≡ Some n → is_born a n ≡ false
    by_room true e is = subst (λ m. is_born a m ≡ false) (ap (number 0) is) (unborn (length a.containers) (ltb-true (length a.containers) 40 e))
    by_room false e is = cc

pub free_locus_unborn : (a : AtlasState) (n : ℕ) → length a.containers ≤ 40 → free_locus a ≡ Some n → is_born a n ≡ false
free_locus_unborn a n few free = by_room (nat_lt (length a.loci) 23) refl free
  where
    number : ℕ → Option ℕ → ℕ
    number d None = d
    number d (Some m) = m

    unborn : (k m : ℕ) → k ≤ 40 → (m + 41 == 0 || (nat_lt 0 (m + 41) && nat_le (m + 41) k) || (nat_lt 40 (m + 41) && nat_le (m + 41) (40 + m))) ≡ false
    unborn k m le = grind (arith, nat_tests)

    by_room : (t : Bool) → nat_lt (length a.loci) 23 ≡ t → (if t then Some (length a.loci + 41) else None) ≡ Some n → is_born a n ≡ false
    by_room true e is = subst (λ m. is_born a m ≡ false) (ap (number 0) is) (unborn (length a.containers) (length a.loci) few)
    by_room false e is = cc

born_free : (s : Supply) (l : LocusState) (a : AtlasState) → length a.containers ≤ 40 → HoldsBorn s l a (λ b. is_born a b.0 ≡ false)
born_free s l a few = record { container = λ d pages tag entry n free. free_container_unborn a n free; locus = λ d place n free. free_locus_unborn a n few free }

-- CHANGES

module _ (w : KernelState) where
  -- each access leaves its entity its room
  abbrev pub AreWide : List Access → Type 0
  AreWide [] = Unit {0}
  AreWide (m ∷ ms) = HasRoom (cell_room (w m.entity).cell) m.new × AreWide ms

  inserted_wide : (m : Access) (ms : List Access) → HasRoom (cell_room (w m.entity).cell) m.new → AreWide ms → AreWide (insert_access m ms)
  inserted_wide m [] h all = (h, tt)
  inserted_wide m (n ∷ ms) h all =
      elim (nat_lt m.entity n.entity) as (λ b. AreWide (if b then m ∷ n ∷ ms else if m.entity == n.entity then merged m n ∷ ms else n ∷ insert_access m ms)) [
        | true ↦ (h, (all.0, all.1))
        | false ↦ elim (m.entity == n.entity) as (λ b. AreWide (if b then merged m n ∷ ms else n ∷ insert_access m ms)) [
          | true ↦ elim (is_some n.new) as (λ b. AreWide ((if◌then◌else◌ {A = Access} b n m) ∷ ms)) [ true ↦ (all.0, all.1) | false ↦ (h, all.1) ]
          | false ↦ (all.0, inserted_wide m ms h all.1)
        ]
      ]

  ordered_wide : (ms : List Access) → AreWide ms → AreWide (ordered ms)
  ordered_wide [] all = tt
  ordered_wide (m ∷ ms) all = inserted_wide m (ordered ms) all.0 (ordered_wide ms all.1)

  found_wide : (ms : List Access) (x : ℕ) (m : Access) → AreWide ms → access_at ms x ≡ Some m → HasRoom (cell_room (w x).cell) m.new
  found_wide [] x m all e = cc
  found_wide (n ∷ ms) x m all e =
      elim (n.entity == x) as (λ b. (n.entity == x) ≡ b → (if b then Some n else access_at ms x) ≡ Some m → HasRoom (cell_room (w x).cell) m.new) [
        | true ↦ λ is e. (let same : n ≡ m = cc in subst (λ (k : Access). HasRoom (cell_room (w x).cell) k.new) same (subst (λ y. HasRoom (cell_room (w y).cell) n.new) (eqb-true n.entity x is) all.0))
        | false ↦ λ is e. found_wide ms x m all.1 e
      ] refl e

  -- so no entity's room falls
  pub changed_wide : (ms : List Access) (x : ℕ) → AreWide ms → cell_room (w x).cell ≤ cell_room (changed w (ordered ms) x).cell
  unfolding changed
  changed_wide ms x all = by_access (access_at (ordered ms) x) refl
    where
      stamp : ℕ → ℕ
      stamp = joined w (touches_of w (ordered ms))

      by_new : (new : Option Cell) → HasRoom (cell_room (w x).cell) new → cell_room (w x).cell ≤ cell_room (written (w x) stamp new).cell
      by_new None good = omega arith
      by_new (Some c) good = good

      by_access : (o : Option Access) → access_at (ordered ms) x ≡ o → cell_room (w x).cell ≤ cell_room (accessed (w x) (joined w (touches_of w (ordered ms))) (access_at (ordered ms) x)).cell
      by_access None e = rw e (omega arith)
      by_access (Some m) e = rw e (by_new m.new (found_wide (ordered ms) x m (ordered_wide ms all) e))

module _ (s : Supply) (w : KernelState) (sound : IsSound (λ x. (w x).cell)) where
  pub unborn_room : (x : ℕ) (n : ℕ) → is_born sound.0 x ≡ false → cell_room (w x).cell ≤ n
  unborn_room x n out = subst (λ (c : Cell). cell_room c ≤ n) (sym (sound.1.others x out)) (omega arith)

  pub atlas_room : cell_room (w 0).cell ≤ 8
  atlas_room = subst (λ (c : Cell). cell_room c ≤ 8) (sym sound.1.atlas) (omega arith)

  module _ (me : ℕ) (l : LocusState) (at : (w me).cell ≡ LocusCell l) where
    own_room : cell_room (w me).cell ≤ 8
    own_room = subst (λ (c : Cell). cell_room c ≤ 8) (sym at) (omega arith)

    atlas_accesses : (t : Bool) (a : AtlasState) (rest : List Access) → AreWide w rest → AreWide w (with_atlas_access t a rest)
    atlas_accesses true a rest all = (atlas_room, all)
    atlas_accesses false a rest all = all

    other_accesses : (other : Option ℕ) (new : Option Cell) (rest : List Access) → ((x : ℕ) → other ≡ Some x → HasRoom (cell_room (w x).cell) new) → AreWide w rest → AreWide w (with_other_access other new rest)
    other_accesses None new rest h all = all
    other_accesses (Some x) new rest h all = (h x refl, all)

    newborn_accesses : (newborn : Option (ℕ × Cell)) (rest : List Access) → ((b : ℕ × Cell) → newborn ≡ Some b → cell_room (w b.0).cell ≤ cell_room b.1) → AreWide w rest → AreWide w (with_newborn_access newborn rest)
    newborn_accesses None rest h all = all
    newborn_accesses (Some b) rest h all = (h b refl, all)

    other_wide : (x : ℕ) → (wanted me l).other ≡ Some x → HasRoom (cell_room (w x).cell) (outcome_in s l (wanted me l) w).other
    unfolding outcome
    other_wide x is =
        let act = wanted me l in
        subst (λ (o : Option ℕ). HasRoom (cell_room (w x).cell) (by_refused s l (seen_atlas w act.atlas) act.instr act.refused o (seen_other w o)).other) (sym is)
        (refused_kept s (λ c. cell_room (w x).cell ≤ cell_room c) (room_kept (cell_room (w x).cell)) l (seen_atlas w act.atlas) act.instr act.refused x (w x).cell (omega arith))

    newborn_wide : (b : ℕ × Cell) → (outcome_in s l (wanted me l) w).newborn ≡ Some b → cell_room (w b.0).cell ≤ cell_room b.1
    newborn_wide b is =
        let act = wanted me l in
        let seen : AtlasState = seen_atlas w act.atlas in
        let f = newborn_is s me l seen (seen_other w act.other) b is in
        let same : seen ≡ sound.0 = ap (seen_atlas w) f.0 ∙ ap Rattle.kernel_invariant.specs.model_kernel.Steps.atlas_in sound.1.atlas in
        let free = newborn_holds s me l seen (seen_other w act.other) (λ b. is_born seen b.0 ≡ false) (born_free s l seen (few_seen act.atlas)) b is in
        unborn_room b.0 (cell_room b.1) (subst (λ (a : AtlasState). is_born a b.0 ≡ false) same free)
      where
        few_seen : (t : Bool) → length (seen_atlas w t).containers ≤ 40
        few_seen true = subst (λ (c : Cell). length (Rattle.kernel_invariant.specs.model_kernel.Steps.atlas_in c).containers ≤ 40) (sym sound.1.atlas) sound.1.names.few_containers
        few_seen false = omega arith

    pub step_wide : AreWide w (accesses_of me (wanted me l) (outcome_in s l (wanted me l) w))
    step_wide =
        let act = wanted me l in
        let o = outcome_in s l act w in
        atlas_accesses act.atlas o.atlas _ (other_accesses act.other o.other _ other_wide (newborn_accesses o.newborn _ newborn_wide (own_room, tt)))
