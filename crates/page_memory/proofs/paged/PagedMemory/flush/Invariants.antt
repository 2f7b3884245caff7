use Rattle.std.proofs.Common.{◌≡◌, ℕ, ◌+◌, ◌<◌, ◌≤◌, true, false, is_some}
use Rattle.page_store.specs.model_kernel.State.{Supply}
use Rattle.data_frames.specs.FrameTable.{changed_at, page_at}
use Rattle.page_memory.specs.Words.{block_at, need_below, AreCleanTrue, IsSoundTable}
use Rattle.page_memory.specs.Calls.{IsUnchanged, Keeps, KeepsPages, Later, Stands}
use Rattle.page_memory.proofs.paged.PagedMemory.flush.Given as goal

-- The pages so far are saved, at most one block was taken for each of them that needed one, the others are as they
-- were, and a block is left for each of them that needs one. Where no page was changed nothing is; where the store was
-- shut no page so far was changed.
abbrev pub invariant-loop-page : goal.invariant-loop-page
invariant-loop-page g l = record {
  stands : g.B.PageStore.tells → (s : Supply) → AreCleanTrue s (g.B.PageStore.words l.fn.store) l.fn.self → Stands s (g.B.PageStore.words l.fn.store) (g.B.PageStore.words l.store) l.fn.self l.self;
  table : IsSoundTable (g.B.PageStore.held l.store) l.self;
  others : Keeps g.B.PageStore.tells g.B.PageStore.held g.B.PageStore.kept_names g.B.PageStore.words l.fn.self l.self l.fn.store l.store;
  pages : KeepsPages (g.B.PageStore.kept_names l.fn.store) l.fn.self l.self;
  residents : (p : ℕ) → is_some (page_at l.self.frames p) ≡ is_some (page_at l.fn.self.frames p);
  clean : (p : ℕ) → p < l.page → changed_at l.self.frames p ≡ false;
  rest : (p : ℕ) → l.page ≤ p → (changed_at l.self.frames p ≡ changed_at l.fn.self.frames p) × (block_at l.self p ≡ block_at l.fn.self p);
  room : need_below (g.B.PageStore.kept_names l.fn.store) l.fn.self 256 ≤ g.B.PageStore.free l.store + need_below (g.B.PageStore.kept_names l.fn.store) l.fn.self l.page;
  free : g.B.PageStore.free l.fn.store ≤ g.B.PageStore.free l.store + need_below (g.B.PageStore.kept_names l.fn.store) l.fn.self l.page;
  untouched : IsUnchanged l.fn.self → (l.self ≡ l.fn.self) × (l.store ≡ l.fn.store);
  shut : g.B.PageStore.is_shut l.fn.store ≡ true → (p : ℕ) → p < l.page → changed_at l.fn.self.frames p ≡ false;
  later : Later g.B.PageStore l.fn.store l.store;
  same_shut : g.B.PageStore.is_shut l.store ≡ g.B.PageStore.is_shut l.fn.store;
  writes : g.B.PageStore.written l.store ≤ g.B.PageStore.written l.fn.store + l.page;
  reads : g.B.PageStore.read_calls l.store ≡ g.B.PageStore.read_calls l.fn.store;
  between : g.B.PageStore.Pages l.fn.store l.store;
}
