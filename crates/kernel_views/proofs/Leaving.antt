-- A kernel stands, and a commit of one of its cells left this cell in its place.
use Rattle.std.proofs.Common.{◌≡◌, ◌≢◌, ◌⊎◌, inl, inr, ℕ, suc, ◌≤◌, true, ◌&&◌, nat_le, List, [], ◌∷◌, slice_get, slice_index, Option, Some, None, refl, sym, ap, subst, ◌∙◌}
use Rattle.std.specs.List.{list_all}
use Rattle.std.proofs.lemmas.Bool.{le-leb}
use Rattle.base_types.specs.declared.histories.Entry.{Entry}
use Rattle.kernel_records.specs.model_kernel.Histories.{Run, version_of}
use Rattle.kernel_records.specs.model_kernel.State.{KernelState, Supply}
use Rattle.kernel_laws.specs.image_facts.Layout.{last_number}
use Rattle.kernel_records.specs.store_facts.Putting.{are_small}
use Rattle.kernel_records.specs.store_facts.State.{State, books}
use Rattle.kernel_records.specs.cell_clocks.declared.Clock.{Clock}
use Rattle.data_stamps.specs.Stamps.{component}
use Rattle.kernel_records.specs.cell_states.declared.cells.Cell.{Cell}
use Rattle.kernel_records.specs.cell_states.declared.cells.Part.{Part}
use Rattle.kernel_records.specs.cell_states.declared.cells.Part.TheVariants as part
use Rattle.kernel_records.specs.cell_states.Cells.{HasCell}
use Rattle.kernel_records.specs.page_memory.declared.paged.PagedMemory.{PagedMemory}
use Rattle.kernel_records.specs.page_memory.Words.{AreCleanTrue}
use Rattle.table_laws.specs.cell_calls.Besides.{memory_of}
use Rattle.table_laws.specs.Tables.{AreClean, AreNumbered, IsOrderly, blocks_by, entity_by, entity_in, memory_at, state_in}
use Rattle.table_laws.proofs.Having.{state_has}
use Rattle.kernel_records.specs.kernel_record_facts.Cells.{IsCleanIn, IsSpellable, table_of, words_on}
use Rattle.kernel_records.proofs.kernel_record_facts_lemmas.Telling.{no_blocks}
use Rattle.kernel_records.specs.Committing.{LeavesCell}
use Rattle.table_laws.specs.Lending.{Lends}
use Rattle.kernel_laws.specs.kernel_invariant.Beginnings.{Beginning, run_of}
use Rattle.kernel_views.specs.Views.{FollowsRun}
use Rattle.kernel_views.specs.Snaps.{Stands}
use Rattle.kernel_views.proofs.Flushing.{spot}
use Rattle.kernel_views.proofs.Following.{cells_follow}
use Rattle.kernel_views.proofs.Others.{other_clean, other_part}
use Rattle.std.proofs.lemmas.Option.{same_Some}
use Rattle.edge_disk.specs.declared.disk.Disk.{Ghosts}

-- clean pages, of a part and of its memory
pub clean_part : (s : _) (words : ℕ → List ℕ) (p : Part) → ((m : PagedMemory) → memory_of p ≡ Some m → AreCleanTrue s words m) → IsCleanIn s words p
clean_part s words (part.Atlas a) clean = tt
clean_part s words (part.Container a) clean = clean a.memory refl
clean_part s words (part.Locus l) clean = tt

pub clean_memory : (s : _) (words : ℕ → List ℕ) (p : Part) (m : PagedMemory) → IsCleanIn s words p → memory_of p ≡ Some m → AreCleanTrue s words m
clean_memory s words (part.Atlas a) m clean is = absurd (cc is)
clean_memory s words (part.Container a) m clean is = subst (AreCleanTrue s words) (same_Some a.memory m is) clean
clean_memory s words (part.Locus l) m clean is = absurd (cc is)

-- the table of a part, and of its memory
pub same_table : (p : Part) (page : ℕ) → slice_index (table_of p) page ≡ slice_index (blocks_by (memory_of p)) page
same_table (part.Atlas a) page = no_blocks page
same_table (part.Container a) page = refl
same_table (part.Locus l) page = no_blocks page

-- numbers that are small each
all_small : (xs : List ℕ) → ((i : ℕ) → slice_index xs i ≤ last_number) → list_all (λ n. nat_le n last_number) xs ≡ true
all_small [] low = refl
all_small (n ∷ xs) low = ap (λ t. t && list_all (λ n. nat_le n last_number) xs) (le-leb n last_number (low 0)) ∙ all_small xs (λ i. low (suc i))

pub small_both : (version : ℕ) (stamp : List ℕ) → version ≤ last_number → ((i : ℕ) → slice_index stamp i ≤ last_number) → are_small version stamp ≡ true
small_both version stamp low each = ap (λ t. t && list_all (λ n. nat_le n last_number) stamp) (le-leb version last_number low) ∙ all_small stamp each

-- THE PAGES STAY CLEAN behind a commit of one cell, whether it was made or not
module _ {D : Type 0} (disks : Ghosts D) (told : disks.tells)
    (s : Supply) (cs cs' : List Cell) (c d : Cell) (old new : State D) (ord : IsOrderly (books old).held cs) (lends : Lends cs cs' (c ∷ []) (d ∷ []))
    (l : LeavesCell disks c d old new) (clean : AreClean s (words_on (disks.reading old.disk)) cs) where
  pub clean_cell : IsCleanIn s (words_on (disks.reading old.disk)) c.part
  clean_cell = clean_part s (words_on (disks.reading old.disk)) c.part (λ m is. clean c.clock.entity m (ap memory_at lends.stood.0 ∙ is))

  pub stay_clean : AreClean s (words_on (disks.reading new.disk)) cs'
  stay_clean y m is = elim (spot cs cs' c d (ap (λ (k : Clock). k.entity) l.same_clock) lends y) as (λ _. AreCleanTrue s (words_on (disks.reading new.disk)) m) [
    | inl p ↦ clean_memory s (words_on (disks.reading new.disk)) d.part m (l.means told s clean_cell).1 (sym (ap memory_at p.1) ∙ is)
    | inr p ↦ (let was = sym (ap memory_at p.1) ∙ is in other_clean disks told s cs c.clock.entity c d old new ord lends.stood.0 l y m p.0 was (clean y m was))
  ]

-- WHAT IS LEFT, whether the commit was made or not
pub record LeftCell {D : Type 0} (disks : Ghosts D)
    (b : Beginning) (cs cs' : List Cell) (c d : Cell) (old new : State D) (es : List Entry) (marks : List ℕ) : Type 0 where
  pub told : disks.tells
  pub stands : Stands disks b cs old es marks
  pub lends : Lends cs cs' (c ∷ []) (d ∷ [])
  pub spellable : IsSpellable c
  pub leaves : LeavesCell disks c d old new

module _ {D : Type 0} {disks : Ghosts D}
    {b : Beginning} {cs cs' : List Cell} {c d : Cell} {old new : State D} {es : List Entry} {marks : List ℕ}
    (q : LeftCell disks b cs cs' c d old new es marks) where
  abbrev x : ℕ
  x = c.clock.entity

  abbrev words0 : ℕ → List ℕ
  words0 = words_on (disks.reading old.disk)

  abbrev words2 : ℕ → List ℕ
  words2 = words_on (disks.reading new.disk)

  abbrev r : Run
  r = run_of b es

  pub numbered : AreNumbered cs
  numbered = q.stands.orderly.numbers

  pub stood : slice_get cs x ≡ Some c
  stood = q.lends.stood.0

  pub follows_before : FollowsRun b words0 cs es
  follows_before = cells_follow b es (disks.reading old.disk) cs numbered (books old) marks None q.stands.runs.follows

  pub had : HasCell b.supply words0 r.state c
  had = subst (λ (w : KernelState). HasCell b.supply words0 w c) follows_before.state (state_has b.supply words0 cs c stood)

  pub clean_before : IsCleanIn b.supply words0 c.part
  clean_before = clean_cell disks q.told b.supply cs cs' c d old new q.stands.orderly q.lends q.leaves q.stands.clean

  pub kept_clock : d.clock ≡ c.clock
  kept_clock = q.leaves.same_clock

  pub kept_entity : d.clock.entity ≡ x
  kept_entity = ap (λ (k : Clock). k.entity) kept_clock

  pub place_of : (y : ℕ) → ((y ≡ x) × (slice_get cs' y ≡ Some d)) ⊎ ((y ≢ x) × (slice_get cs' y ≡ slice_get cs y))
  place_of = spot cs cs' c d kept_entity q.lends

  entity_d : entity_by b.supply words2 d ≡ entity_by b.supply words0 c
  entity_d = λ i. record { cell = (q.leaves.means q.told b.supply clean_before).0 i; version = (kept_clock i).version; stamp = λ y. component (kept_clock i).stamp y }

  entity_same : (y : ℕ) → state_in b.supply words2 cs' y ≡ state_in b.supply words0 cs y
  entity_same y = elim (place_of y) as (λ _. state_in b.supply words2 cs' y ≡ state_in b.supply words0 cs y) [
    | inl p ↦ ap (entity_in b.supply words2 y) p.1 ∙ (entity_d ∙ sym (ap (entity_in b.supply words0 y) (ap (slice_get cs) p.0 ∙ stood)))
    | inr p ↦ ap (entity_in b.supply words2 y) p.1 ∙ by_cell y p.0 (slice_get cs y) refl
  ]
    where
      by_cell : (y : ℕ) → y ≢ x → (o : Option Cell) → slice_get cs y ≡ o → entity_in b.supply words2 y o ≡ entity_in b.supply words0 y o
      by_cell y differs None is = refl
      by_cell y differs (Some a) is =
          λ i. record { cell = other_part disks q.told b.supply cs x c d old new q.stands.orderly stood q.leaves y a differs is i; version = a.clock.version; stamp = λ z. component a.clock.stamp z }

  -- THE STATE IS THE SAME
  pub state_same : state_in b.supply words2 cs' ≡ r.state
  state_same = (λ i y. entity_same y i) ∙ follows_before.state

  pub numbered_after : AreNumbered cs'
  numbered_after = record { len = q.lends.len ∙ numbered.len; each = number_at }
    where
      number_at : (y : ℕ) (a : Cell) → slice_get cs' y ≡ Some a → a.clock.entity ≡ y
      number_at y a is = elim (place_of y) as (λ _. a.clock.entity ≡ y) [
        | inl p ↦ ap (λ (a : Cell). a.clock.entity) (sym (same_Some d a (sym p.1 ∙ is))) ∙ (kept_entity ∙ sym p.0)
        | inr p ↦ numbered.each y a (sym p.1 ∙ is)
      ]

  pub version_is : c.clock.version ≡ version_of r x
  version_is = sym had.clock.version

  pub clean_after : AreClean b.supply words2 cs'
  clean_after = stay_clean disks q.told b.supply cs cs' c d old new q.stands.orderly q.lends q.leaves q.stands.clean
