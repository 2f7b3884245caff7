-- What is seen of a page store in memory.
use Rattle.std.specs.Prelude.{◌≡◌, ℕ, false, List, count_by}
use Rattle.page_store.specs.Memory.{is_held, is_free}
use Rattle.page_store.specs.declared.memory.MemoryPages.{MemoryPages}

-- it has this many blocks, all free, no call was made so far, and these fail
pub record StartsWith (blocks : ℕ) (fails : List ℕ) (m : MemoryPages) : Type 0 where
  pub none_held : (n : ℕ) → is_held m.pages.items n ≡ false
  pub all_free : count_by is_free m.pages.items ≡ blocks
  pub calls : m.calls ≡ 0
  pub faults : m.faults ≡ 0
  pub fails_are : m.fails.items ≡ fails
