-- The cells stay in order as the pages of one of them are written.
use Rattle.std.proofs.Common.{◌≡◌, ◌≢◌, ◌⊎◌, inl, inr, ℕ, Bool, true, false, ◌==◌, if◌then◌else◌, List, [], ◌∷◌, slice_get, slice_index, Option, Some, None, refl, sym, ap, subst, ◌∙◌}
use Rattle.std.proofs.lemmas.Bool.{cases_eq}
use Rattle.kernel_records.specs.model_kernel.State.{AtlasCell, ContainerCell, ContainerState, NotBorn, Supply, empty_state, no_atlas}
use Rattle.kernel_records.specs.cell_clocks.declared.Clock.{Clock}
use Rattle.data_stamps.specs.Stamps.{component}
use Rattle.kernel_records.specs.act_alone.declared.loci.Head.{Head}
use Rattle.kernel_records.specs.store_facts.State.{State, books}
use Rattle.kernel_laws.specs.store_books.Books.{kept_names}
use Rattle.kernel_records.specs.page_memory.declared.paged.PagedMemory.{PagedMemory}
use Rattle.kernel_records.specs.page_memory.Words.{block_at}
use Rattle.kernel_records.specs.page_memory.Calls.{IsOfTable}
use Rattle.kernel_records.specs.cell_states.declared.cells.Cell.{Cell}
use Rattle.kernel_records.specs.cell_states.declared.cells.Part.{Part}
use Rattle.kernel_records.specs.cell_states.declared.cells.Part.TheVariants as part
use Rattle.kernel_records.specs.cell_states.declared.cells.Storage.{Storage}
use Rattle.kernel_records.specs.cell_states.Cells.{container_cell, part_of}
use Rattle.table_laws.specs.cell_calls.Besides.{memory_of}
use Rattle.table_laws.specs.cell_blob_laws.Memories.{HasOwnMemory, IsOwn}
use Rattle.kernel_records.specs.cell_wish_laws.Founded.{IsFoundedCell}
use Rattle.table_laws.specs.model_sound_states.States.{IsSoundState, IsSupplied}
use Rattle.table_laws.specs.Lending.{Lends}
use Rattle.table_laws.specs.Tables.{AreNumbered, HasKind, IsOrderly, blocks_by, entity_in, memory_at, state_in, tables_in}
use Rattle.kernel_records.specs.kernel_record_facts.Cells.{IsSoundIn}
use Rattle.kernel_records.specs.Flushing.{Flushes}
use Rattle.table_laws.proofs.Blocks.{seek}
use Rattle.table_laws.proofs.Looked.{own_supplied}
use Rattle.table_laws.proofs.WordsApart.{blank, sound_by_blank}
use Rattle.kernel_views.proofs.Flushing.{Goes, goes, spot}
use Rattle.kernel_views.proofs.Others.{apart, held_at, own_table}
use Rattle.std.proofs.lemmas.Option.{same_Some}
use Rattle.edge_disk.specs.declared.disk.Disk.{Ghosts}

-- THE PART MEANS the same but for its words

module _ {D : Type 0} (tells : Type 0) (words : State D → ℕ → List ℕ) (old flushed : State D) where
  abbrev Flushed : Part → Part → Type 0
  Flushed p q = Flushes tells (λ (st : State D). (books st).held) (λ (st : State D). kept_names (books st)) words p q old flushed

  -- the same kind, and the memory is the part's own
  pub kind_stays : (x : ℕ) (p q : Part) → Flushed p q → HasKind x p → HasKind x q
  kind_stays x (part.Atlas a) q f kind = subst (HasKind x) (sym f.part) kind
  kind_stays x (part.Locus l) q f kind = subst (HasKind x) (sym f.part) kind
  kind_stays x (part.Container a) q f kind = subst (HasKind x) (sym f.1) kind

  own_head : (a b : Storage) → b.head ≡ a.head → b.memory.tag ≡ a.memory.tag → b.memory.pages ≡ a.memory.pages → IsOwn a.memory a.head → IsOwn b.memory b.head
  own_head a b head tag pages own = subst (IsOwn b.memory) (sym head) (by_head a.head own)
    where
      by_head : (o : Option Head) → IsOwn a.memory o → IsOwn b.memory o
      by_head None own = pages ∙ own
      by_head (Some h) own = record { tag = tag ∙ own.tag; pages = pages ∙ own.pages }

  pub own_stays : (held : ℕ → Bool) (p q : Part) → Flushed p q → HasOwnMemory held p → IsSoundIn (books flushed).held q → HasOwnMemory (books flushed).held q
  own_stays held (part.Atlas a) q f own sound = subst (HasOwnMemory (books flushed).held) (sym f.part) tt
  own_stays held (part.Locus l) q f own sound = subst (HasOwnMemory (books flushed).held) (sym f.part) tt
  own_stays held (part.Container a) q f own sound =
      subst (HasOwnMemory (books flushed).held) (sym f.1)
      (own_head a f.0 f.2.same_head f.2.pages.same_tag f.2.pages.same_pages own.0, subst (IsSoundIn (books flushed).held) f.1 sound)

  module _ (s : Supply) (ws : ℕ → List ℕ) where
    blank_head : (m m' : PagedMemory) (o : Option Head) → blank (container_cell s ws m' o) ≡ blank (container_cell s ws m o)
    blank_head m m' None = refl
    blank_head m m' (Some h) = refl

    pub part_blank : (p q : Part) → Flushed p q → blank (part_of s ws q) ≡ blank (part_of s ws p)
    part_blank (part.Atlas a) q f = ap (λ (z : Part). blank (part_of s ws z)) f.part
    part_blank (part.Locus l) q f = ap (λ (z : Part). blank (part_of s ws z)) f.part
    part_blank (part.Container a) q f =
        ap (λ (z : Part). blank (part_of s ws z)) f.1
        ∙ (ap (λ (o : Option Head). blank (container_cell s ws f.0.memory o)) f.2.same_head ∙ blank_head a.memory f.0.memory a.head)

-- THE TABLE IS IN ORDER

module _ {D : Type 0} (disks : Ghosts D) (words : State D → ℕ → List ℕ) (old flushed : State D) (cs cs' : List Cell) (c d : Cell)
    (clock : d.clock ≡ c.clock) (lends : Lends cs cs' (c ∷ []) (d ∷ [])) (founded : IsFoundedCell d)
    (f : Flushes disks.tells (λ (st : State D). (books st).held) (λ (st : State D). kept_names (books st)) words c.part d.part old flushed)
    (sound_table : IsSoundIn (books flushed).held d.part) (ord : IsOrderly (books old).held cs) where
  abbrev x : ℕ
  x = c.clock.entity

  same_entity : d.clock.entity ≡ x
  same_entity = ap (λ (k : Clock). k.entity) clock

  place : (y : ℕ) → ((y ≡ x) × (slice_get cs' y ≡ Some d)) ⊎ ((y ≢ x) × (slice_get cs' y ≡ slice_get cs y))
  place = spot cs cs' c d same_entity lends

  at : slice_get cs x ≡ Some c
  at = lends.stood.0

  g : Goes disks words old flushed (memory_of c.part) (memory_of d.part)
  g = goes disks words old flushed c.part d.part f

  own_d : HasOwnMemory (books flushed).held d.part
  own_d = own_stays disks.tells words old flushed (books old).held c.part d.part f (ord.own x c at) sound_table

  each_cell : (P : ℕ → Cell → Type 0) → P x d → ((y : ℕ) (a : Cell) → y ≢ x → slice_get cs y ≡ Some a → P y a) → (y : ℕ) (a : Cell) → slice_get cs' y ≡ Some a → P y a
  each_cell P one rest y a is = elim (place y) as (λ _. P y a) [
    | inl p ↦ subst (P y) (same_Some d a (sym p.1 ∙ is)) (subst (λ (z : ℕ). P z d) (sym p.0) one)
    | inr p ↦ rest y a p.0 (sym p.1 ∙ is)
  ]

  numbered : AreNumbered cs'
  numbered = record { len = lends.len ∙ ord.numbers.len; each = each_cell (λ y a. a.clock.entity ≡ y) same_entity (λ y a differs is. ord.numbers.each y a is) }

  -- another cell's blocks are held still, outside this one's table
  others_held : (y : ℕ) → y ≢ x → (m : PagedMemory) → memory_at (slice_get cs y) ≡ Some m → (page : ℕ) → block_at m page ≢ 0
      → ((books flushed).held (block_at m page) ≡ true) × ((k : PagedMemory) → memory_of d.part ≡ Some k → IsOfTable k (block_at m page) → ⊥)
  others_held y differs m is page some =
      g.held_stay (block_at m page) ((held_at (books old).held cs ord y (slice_get cs y) refl m is).held_blocks page some)
      (λ k own. apart (books old).held cs ord x y differs k m (ap memory_at at ∙ own) is page)

  own_other : (y : ℕ) (a : Cell) → y ≢ x → slice_get cs y ≡ Some a → HasOwnMemory (books flushed).held a.part
  own_other y a differs is = by_part a.part (ord.own y a is) (λ m own. ap memory_at is ∙ own)
    where
      by_part : (p : Part) → HasOwnMemory (books old).held p → ((m : PagedMemory) → memory_of p ≡ Some m → memory_at (slice_get cs y) ≡ Some m) → HasOwnMemory (books flushed).held p
      by_part (part.Atlas b) own there = tt
      by_part (part.Locus b) own there = tt
      by_part (part.Container b) own there = (
        own.0,
        record {
          few = own.1.few;
          len = own.1.len;
          fits = own.1.fits;
          none_past = own.1.none_past;
          held_blocks = λ page some. (others_held y differs b.memory (there b.memory refl) page some).0;
          differ = own.1.differ;
        },
      )

  own_each : (y : ℕ) (a : Cell) → slice_get cs' y ≡ Some a → HasOwnMemory (books flushed).held a.part
  own_each = each_cell (λ y a. HasOwnMemory (books flushed).held a.part) own_d own_other

  -- SOUND

  blank_same : (s : Supply) (ws : ℕ → List ℕ) (y : ℕ) → blank (state_in s ws cs' y).cell ≡ blank (state_in s ws cs y).cell
  blank_same s ws y = elim (place y) as (λ _. blank (state_in s ws cs' y).cell ≡ blank (state_in s ws cs y).cell) [
    | inl p ↦
        ap (λ (o : Option Cell). blank (entity_in s ws y o).cell) p.1
        ∙ (part_blank disks.tells words old flushed s ws c.part d.part f ∙ sym (ap (λ (o : Option Cell). blank (entity_in s ws y o).cell) (ap (slice_get cs) p.0 ∙ at)))
    | inr p ↦ ap (λ (o : Option Cell). blank (entity_in s ws y o).cell) p.1
  ]

  version_same : (s : Supply) (ws : ℕ → List ℕ) (y : ℕ) → (state_in s ws cs' y).version ≡ (state_in s ws cs y).version
  version_same s ws y = elim (place y) as (λ _. (state_in s ws cs' y).version ≡ (state_in s ws cs y).version) [
    | inl p ↦ ap (λ (o : Option Cell). (entity_in s ws y o).version) p.1 ∙ (ap (λ (k : Clock). k.version) clock ∙ sym (ap (λ (o : Option Cell). (entity_in s ws y o).version) (ap (slice_get cs) p.0 ∙ at)))
    | inr p ↦ ap (λ (o : Option Cell). (entity_in s ws y o).version) p.1
  ]

  stamp_same : (s : Supply) (ws : ℕ → List ℕ) (y : ℕ) → (state_in s ws cs' y).stamp ≡ (state_in s ws cs y).stamp
  stamp_same s ws y = elim (place y) as (λ _. (state_in s ws cs' y).stamp ≡ (state_in s ws cs y).stamp) [
    | inl p ↦ ap (λ (o : Option Cell). (entity_in s ws y o).stamp) p.1 ∙ ((λ i z. component (clock i).stamp z) ∙ sym (ap (λ (o : Option Cell). (entity_in s ws y o).stamp) (ap (slice_get cs) p.0 ∙ at)))
    | inr p ↦ ap (λ (o : Option Cell). (entity_in s ws y o).stamp) p.1
  ]

  supplied_at : (s : Supply) (ws : ℕ → List ℕ) (y : ℕ) (o : Option Cell) → slice_get cs' y ≡ o → (k : ContainerState) → (entity_in s ws y o).cell ≡ ContainerCell k → IsSupplied s k
  supplied_at s ws y (Some a) at_y k is = own_supplied (books flushed).held s ws a.part k (own_each y a at_y) is
  supplied_at s ws y None at_y k is = absurd (no_container y k is)
    where
      no_container : (y : ℕ) (k : ContainerState) → (empty_state y).cell ≡ ContainerCell k → ⊥
      no_container y k is = by_test (y == 0) is
        where
          by_test : (t : Bool) → (if t then AtlasCell no_atlas else NotBorn) ≡ ContainerCell k → ⊥
          by_test true is = cc is
          by_test false is = cc is

  sound' : (s : Supply) (ws : ℕ → List ℕ) → IsSoundState s (state_in s ws cs')
  sound' s ws = sound_by_blank s s (state_in s ws cs) (state_in s ws cs') (ord.sound s ws) (blank_same s ws) (version_same s ws) (λ y z. ap (λ (g : ℕ → ℕ). g z) (stamp_same s ws y)) (λ y k is. supplied_at s ws y (slice_get cs' y) refl k is)

  -- ONE TABLE FOR EACH BLOCK

  table_d : (y : ℕ) → y ≡ x → (p : ℕ) → slice_index (tables_in cs' y) p ≡ slice_index (blocks_by (memory_of d.part)) p
  table_d y is p = elim (place y) as (λ _. slice_index (tables_in cs' y) p ≡ slice_index (blocks_by (memory_of d.part)) p) [
    | inl q ↦ ap (λ (o : Option Cell). slice_index (blocks_by (memory_at o)) p) q.1
    | inr q ↦ absurd (q.0 is)
  ]

  table_left : (y : ℕ) → y ≢ x → (p : ℕ) → slice_index (tables_in cs' y) p ≡ slice_index (tables_in cs y) p
  table_left y differs p = elim (place y) as (λ _. slice_index (tables_in cs' y) p ≡ slice_index (tables_in cs y) p) [
    | inl q ↦ absurd (differs q.0)
    | inr q ↦ ap (λ (o : Option Cell). slice_index (blocks_by (memory_at o)) p) q.1
  ]

  -- a block of this table stands once in it
  once_d : (o : Option PagedMemory) → memory_of d.part ≡ o → (p q : ℕ) → slice_index (blocks_by o) p ≢ 0 → slice_index (blocks_by o) p ≡ slice_index (blocks_by o) q → p ≡ q
  once_d None is p q some same = absurd (some refl)
  once_d (Some m) is p q some same = (own_table (books flushed).held d.part m own_d is).differ p q some same

  -- and in no other
  apart_d : (y : ℕ) → y ≢ x → (p q : ℕ) → slice_index (blocks_by (memory_of d.part)) p ≢ 0 → slice_index (blocks_by (memory_of d.part)) p ≡ slice_index (tables_in cs y) q → ⊥
  apart_d y differs p q some same = by_memory (memory_of d.part) refl (memory_at (slice_get cs y)) refl some same
    where
      by_memory : (o : Option PagedMemory) → memory_of d.part ≡ o → (u : Option PagedMemory) → memory_at (slice_get cs y) ≡ u
          → slice_index (blocks_by o) p ≢ 0 → slice_index (blocks_by o) p ≡ slice_index (blocks_by u) q → ⊥
      by_memory None is u at_u some same = some refl
      by_memory (Some k) is None at_u some same = some same
      by_memory (Some k) is (Some m) at_u some same =
          (others_held y differs m at_u q (λ zero. some (same ∙ zero))).1 k is ((λ zero. some (same ∙ zero)), (p, same))

  once' : (y z p q : ℕ) → slice_index (tables_in cs' y) p ≢ 0 → slice_index (tables_in cs' y) p ≡ slice_index (tables_in cs' z) q → (y ≡ z) × (p ≡ q)
  once' y z p q some same = elim (place y) as (λ _. (y ≡ z) × (p ≡ q)) [
    | inl k ↦ elim (place z) as (λ _. (y ≡ z) × (p ≡ q)) [
      | inl l ↦ (k.0 ∙ sym l.0, once_d (memory_of d.part) refl p q (λ zero. some (table_d y k.0 p ∙ zero)) (sym (table_d y k.0 p) ∙ (same ∙ table_d z l.0 q)))
      | inr l ↦ absurd (apart_d z l.0 p q (λ zero. some (table_d y k.0 p ∙ zero)) (sym (table_d y k.0 p) ∙ (same ∙ table_left z l.0 q)))
    ]
    | inr k ↦ elim (place z) as (λ _. (y ≡ z) × (p ≡ q)) [
      | inl l ↦ absurd (apart_d y k.0 q p (λ zero. some (same ∙ (table_d z l.0 q ∙ zero))) (sym (table_d z l.0 q) ∙ (sym same ∙ table_left y k.0 p)))
      | inr l ↦ ord.once y z p q (λ zero. some (table_left y k.0 p ∙ zero)) (sym (table_left y k.0 p) ∙ (same ∙ table_left z l.0 q))
    ]
  ]

  -- a held block that isn't of this table is of another, as before
  named_elsewhere : (n : ℕ) → ((books old).held n ≡ true) × ((m : PagedMemory) → memory_of c.part ≡ Some m → IsOfTable m n → ⊥) → (y : ℕ) × (p : ℕ) × (n ≢ 0) × (slice_index (tables_in cs' y) p ≡ n)
  named_elsewhere n both =
      let h = ord.named n both.0 in
      let differs : h.0 ≢ x = λ is. elsewhere h.1 h.2 (memory_of c.part) refl (ap (λ (y : ℕ). slice_index (tables_in cs y) h.1) (sym is) ∙ h.3) in
      (h.0, h.1, h.2, table_left h.0 differs h.1 ∙ h.3)
    where
      elsewhere : (p : ℕ) → n ≢ 0 → (o : Option PagedMemory) → memory_of c.part ≡ o → slice_index (tables_in cs x) p ≡ n → ⊥
      elsewhere p some None is named = some (sym named ∙ ap (λ (u : Option PagedMemory). slice_index (blocks_by u) p) (ap memory_at at ∙ is))
      elsewhere p some (Some m) is named = both.1 m is (some, (p, sym (ap (λ (u : Option PagedMemory). slice_index (blocks_by u) p) (ap memory_at at ∙ is)) ∙ named))

  named' : (n : ℕ) → (books flushed).held n ≡ true → n ≢ 0 → (y : ℕ) × (p : ℕ) × (n ≢ 0) × (slice_index (tables_in cs' y) p ≡ n)
  named' n held some = elim (seek (blocks_by (memory_of d.part)) n some) as (λ _. (y : ℕ) × (p : ℕ) × (n ≢ 0) × (slice_index (tables_in cs' y) p ≡ n)) [
    | inl h ↦ (x, h.0, some, table_d x refl h.0 ∙ h.1)
    | inr out ↦ named_elsewhere n (g.no_others n held (λ m is of. out of.1.0 (ap (λ (u : Option PagedMemory). slice_index (blocks_by u) of.1.0) is ∙ of.1.1)))
  ]

  named_all : (n : ℕ) → (books flushed).held n ≡ true → (y : ℕ) × (p : ℕ) × (n ≢ 0) × (slice_index (tables_in cs' y) p ≡ n)
  named_all n held = elim (cases_eq n 0) as (λ _. (y : ℕ) × (p : ℕ) × (n ≢ 0) × (slice_index (tables_in cs' y) p ≡ n)) [
    | inl zero_is ↦ named_elsewhere n (g.no_others n held (λ m is of. of.0 zero_is))
    | inr some ↦ named' n held some
  ]

  pub orderly_again : IsOrderly (books flushed).held cs'
  orderly_again = record {
    numbers = numbered;
    sound = sound';
    founded = each_cell (λ y a. IsFoundedCell a) founded (λ y a differs is. ord.founded y a is);
    kinds = each_cell (λ y a. HasKind y a.part) (kind_stays disks.tells words old flushed x c.part d.part f (ord.kinds x c at)) (λ y a differs is. ord.kinds y a is);
    own = own_each;
    once = once';
    named = named_all;
  }
