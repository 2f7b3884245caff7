-- A page is brought: an eviction where one is due, its words from the block or the supplier, and its place in a frame.
use Rattle.std.proofs.Common.{◌≡◌, ◌≢◌, ◌↔◌, ℕ, ◌<◌, Bool, true, List, length, slice_index, is_some, None, Ok, IsErrOf, sym, ap, ◌∙◌, inl, inr, subst, arith}
use Rattle.std.proofs.lemmas.Bool.{cases_lt}
use Rattle.page_store.specs.model_kernel.State.{Supply}
use Rattle.data_blocks.specs.edge_disk.Disk.{Ticks}
use Rattle.page_store.specs.declared.faults.PageFault.TheVariants.{Shut}
use Rattle.page_store.specs.Pages.{SameWords}
use Rattle.data_frames.specs.FrameTable.{FrameTable, HasEmptyFrame, IsResident, Places, page_at, resident_count}
use Rattle.page_memory.specs.declared.paged.PagedMemory.{PagedMemory}
use Rattle.page_memory.specs.Words.{block_at, stored_word, AreCleanTrue, IsSoundTable}
use Rattle.page_memory.specs.Calls.{AllStay, Evicts, IsRead, KeepsPages, Reads, Stands}
use Rattle.page_memory.proofs.Pages.{stands_trans}
use Rattle.page_memory.proofs.Bringing.{blocks_same, came_left, came_other, came_pages, came_resident, came_stands, came_stay, came_table, read_stands, reads_from}

-- where nothing is evicted every resident page stays
pub stay_unless : (m m' : PagedMemory) (page : ℕ) → page_at m.frames page ≡ None → (HasEmptyFrame m.frames → m' ≡ m) → (Evicts m page → ⊥) → AllStay m m'
stay_unless m m' page absent same none p there = elim (cases_lt (resident_count m.frames) m.frames.frames) [
  | inl room ↦ ap (λ (x : PagedMemory). is_some (page_at x.frames p)) (same room) ∙ there
  | inr full ↦ absurd (none (absent, λ room. absurd (omega (arith, room, full))))
]

module _ {B : Type 0} (tells : Type 0) (held kept : B → ℕ → Bool) (words : B → ℕ → List ℕ) (m m' : PagedMemory) (b b' b'' : B) (page : ℕ) (absent : page_at m.frames page ≡ None) (s : Supply)
    (stands : tells → (s : Supply) → AreCleanTrue s (words b) m → Stands s (words b) (words b') m m')
    (table : IsSoundTable (held b') m') (same_held : held b'' ≡ held b') (same_words : tells → SameWords held kept words (λ n. ⊥) b' b'') where
  pub fetched_stands : tells → AreCleanTrue s (words b) m → Stands s (words b) (words b'') m m'
  fetched_stands ts clean =
      let first = stands ts s clean in
      stands_trans s (words b) (words b') (words b'') m m' m' first (read_stands held kept words b' b'' (same_words ts) m' table s first.clean)

  pub fetched_table : IsSoundTable (held b'') m'
  fetched_table = subst (λ h. IsSoundTable h m') (sym same_held) table

  module _ (t : FrameTable) (ws : List ℕ) (within : page < length m'.frames.pages) (absent' : page_at m'.frames page ≡ None) (places : Places page ws m'.frames t) where
    pub brought_stands : (tells → (k : ℕ) → k < 128 → slice_index ws k ≡ stored_word s m'.tag (words b') (block_at m' page) page k) → tells → AreCleanTrue s (words b) m → Stands s (words b) (words b'') m (record m' { frames = t })
    brought_stands filled ts clean =
        let first = stands ts s clean in
        stands_trans s (words b) (words b') (words b'') m m' (record m' { frames = t }) first
        (came_stands m' t page ws within absent' places s (words b') (words b'') (blocks_same held kept words b' b'' (same_words ts) m' table) (filled ts) first.clean)

    pub brought_table : page < m'.pages → HasEmptyFrame m'.frames → IsSoundTable (held b'') (record m' { frames = t })
    brought_table inside room = came_table m' t page ws within absent' places (held b'') inside room fetched_table

    pub brought_pages : KeepsPages (kept b) m m' → KeepsPages (kept b) m (record m' { frames = t })
    brought_pages = came_pages m' t page ws within absent' places (kept b) m

    pub brought_resident : IsResident t page
    brought_resident = came_resident m' t page ws within absent' places

    pub brought_other : (p : ℕ) → p ≢ page → page_at t p ≡ page_at m'.frames p
    brought_other = came_other m' t page ws within absent' places

    -- a read that was due isn't Shut where the page was brought
    pub brought_shut : {T : Type 0} (w : T) (was mid : Bool) → block_at m' page ≡ block_at m page → mid ≡ was → (IsErrOf {T = T} (Ok w) Shut ↔ ((mid ≡ true) × (block_at m' page ≢ 0))) → was ≡ true → IsRead m (record m' { frames = t }) page → ⊥
    brought_shut w was mid block same shut is read = let clash = shut.1 (same ∙ is, λ z. read.1 (sym block ∙ z)) in cc clash

    pub brought_stay : AllStay m m' → AllStay m (record m' { frames = t })
    brought_stay = came_stay m' t page ws within absent' places m

    pub brought_reads : (before between now : ℕ) → ((HasEmptyFrame m.frames → ⊥) → AllStay m m' → ⊥) → between ≡ before → block_at m' page ≡ block_at m page → (block_at m' page ≢ 0 → Ticks between now) → (block_at m' page ≡ 0 → now ≡ between) → Reads before now m (record m' { frames = t }) page
    brought_reads before between now gone same block once never =
        reads_from m (record m' { frames = t }) page before between now absent
        (λ due stay. gone due.1 (came_left m' t page ws within absent' places m absent stay))
        same (λ some. once (λ z. some (sym block ∙ z))) (λ none. never (block ∙ none))

pub fetched_reads : (m m' : PagedMemory) (page before between now : ℕ) → page_at m.frames page ≡ None → ((HasEmptyFrame m.frames → ⊥) → AllStay m m' → ⊥) → between ≡ before → block_at m' page ≡ block_at m page → (block_at m' page ≢ 0 → Ticks between now) → (block_at m' page ≡ 0 → now ≡ between) → Reads before now m m' page
fetched_reads m m' page before between now absent gone same block once never =
    reads_from m m' page before between now absent (λ due stay. gone due.1 stay) same (λ some. once (λ z. some (sym block ∙ z))) (λ none. never (block ∙ none))
