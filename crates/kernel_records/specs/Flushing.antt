-- What the writing of a part's changed pages leaves.
use Rattle.std.specs.Prelude.{◌≡◌, ℕ, Bool, true, List, ◌+◌, ◌≤◌}
use Rattle.page_store.specs.declared.store.PageStore.{Ghosts}
use Rattle.cell_wish_laws.specs.page_memory.Calls.{Keeps, KeepsPages}
use Rattle.cell_wish_laws.specs.cell_states.declared.cells.Part.{Part}
use Rattle.cell_wish_laws.specs.cell_states.declared.cells.Part.TheVariants as part
use Rattle.cell_wish_laws.specs.cell_states.declared.cells.Storage.{Storage}

-- the same container with the same head, of whose pages some have other blocks; other blocks are held as before and keep their words
pub record FlushesStorage {B : Type 0} (tells : Type 0) (held kept : B → ℕ → Bool) (words : B → ℕ → List ℕ) (a b : Storage) (old new : B) : Type 0 where
  pub same_head : b.head ≡ a.head
  pub pages : KeepsPages (kept old) a.memory b.memory
  pub outside : Keeps tells held kept words a.memory b.memory old new

-- what has no pages stays as it is, and so does the store
pub record StaysWhole {B : Type 0} (p q : Part) (old new : B) : Type 0 where
  pub part : q ≡ p
  pub store : new ≡ old

-- THE PAGES OF A PART ARE WRITTEN, all or some of them
abbrev pub Flushes : {B : Type 0} → Type 0 → (B → ℕ → Bool) → (B → ℕ → Bool) → (B → ℕ → List ℕ) → Part → Part → B → B → Type 0
Flushes tells held kept words (part.Atlas a) q old new = StaysWhole (part.Atlas a) q old new
Flushes tells held kept words (part.Container a) q old new = (b : Storage) × (q ≡ part.Container b) × FlushesStorage tells held kept words a b old new
Flushes tells held kept words (part.Locus l) q old new = StaysWhole (part.Locus l) q old new

-- the writes of a flush: one for each page at most, and a store that is shut stays so
pub record FewWrites (was_shut is_shut : Bool) (written_before written_now : ℕ) : Type 0 where
  pub few : written_now ≤ written_before + 256
  pub stays_shut : was_shut ≡ true → is_shut ≡ true

-- the same of a store of any type, by the ghost members of that type
abbrev pub FlushesIn : {B : Type 0} → Ghosts B → Part → Part → B → B → Type 0
FlushesIn stores p q old new = Flushes stores.tells stores.held stores.kept_names stores.words p q old new
