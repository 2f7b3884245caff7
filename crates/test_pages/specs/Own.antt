-- The words of a memory with a store in memory of its own, and what holds of it between calls.
use Rattle.std.specs.Prelude.{◌≡◌, ℕ}
use Rattle.edge_managers.specs.Managers.{counted_word}
use Rattle.page_store.specs.Memory.{is_held, words_at}
use Rattle.page_store.specs.declared.memory.MemoryPages.{MemoryPages}
use Rattle.page_memory.specs.Words.{words_of, AreCleanTrue, IsSoundTable}
use Rattle.page_memory.specs.declared.paged.PagedMemory.{PagedMemory}

abbrev pub own_words : MemoryPages → PagedMemory → ℕ → ℕ
own_words store m = words_of counted_word (words_at store.pages.items) m

pub record IsOwn (tag pages : ℕ) (store : MemoryPages) (m : PagedMemory) : Type 0 where
  pub tag_is : m.tag ≡ tag
  pub size : m.pages ≡ pages
  pub table : IsSoundTable (is_held store.pages.items) m
  pub clean : AreCleanTrue counted_word (words_at store.pages.items) m
