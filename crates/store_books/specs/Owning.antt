-- Which blocks belong to which entity.
use Rattle.std.specs.Prelude.{◌≡◌, ◌≢◌, ◌↔◌, ℕ, ◌≤◌, ◌<◌, true, List, Contains, Option, Some, slice_index}
use Rattle.edge_disk.specs.Image.{Image}
use Rattle.image_blocks.specs.image_facts.Bodies.{blob_blocks}
use Rattle.image_blocks.specs.image_facts.Layout.{pool_at}
use Rattle.image_meaning.specs.Fits.{AreNamedOnce}
use Rattle.image_meaning.specs.Parts.{Part, chosen, table_in}
use Rattle.image_meaning.specs.Stores.{recs_of}
use Rattle.store_books.specs.Books.{Books, Logged, kept_in, kept_of}

-- the page table names the block
abbrev pub NamesPage : List ℕ → ℕ → Type 0
NamesPage table n = (n ≢ 0) × Contains table n

-- THE BLOCKS HAVE ONE OWNER: those that working page tables name are held, each once; a page's block of a kept record is named by no
-- blob, and by no page of another entity, neither a kept one nor a working one. All of them are in the pool.
pub record AreOwned (b : Books) (tables : ℕ → List ℕ) : Type 0 where
  pub held : (n : ℕ) → b.held n ≡ true ↔ ((x : ℕ) × NamesPage (tables x) n)
  pub once : (x y p q : ℕ) → slice_index (tables x) p ≢ 0 → slice_index (tables x) p ≡ slice_index (tables y) q → (x ≡ y) × (p ≡ q)
  pub not_blob : (l m : Logged) (n : ℕ) → Contains (kept_in b) l → Contains (kept_in b) m → NamesPage l.table n → Contains (blob_blocks m.rec) n → ⊥
  pub not_held_blob : (l : Logged) (n : ℕ) → Contains (kept_in b) l → Contains (blob_blocks l.rec) n → b.held n ≡ true → ⊥
  pub kept_once : (l m : Logged) (p q : ℕ) → Contains (kept_in b) l → Contains (kept_in b) m → slice_index l.table p ≢ 0 → slice_index l.table p ≡ slice_index m.table q
      → (l.rec.entity ≡ m.rec.entity) × (p ≡ q)
  pub kept_own : (l : Logged) (y p q : ℕ) → Contains (kept_in b) l → slice_index l.table p ≢ 0 → slice_index l.table p ≡ slice_index (tables y) q
      → (l.rec.entity ≡ y) × (p ≡ q)
  pub kept_pool : (l : Logged) (n : ℕ) → Contains (kept_in b) l → NamesPage l.table n → (pool_at ≤ n) × (n < b.count)

-- the part's table is that of a kept record of the entity, which is chosen
pub record IsTableOf (b : Books) (image : Image) (x : ℕ) (part : Part) : Type 0 where
  pub logged : Logged
  pub is_kept : Contains (kept_in b) logged
  pub is_chosen : chosen (recs_of (kept_of image b)) x ≡ Some logged.rec
  pub same : (page : ℕ) → slice_index (table_in part) page ≡ slice_index logged.table page

-- THE LAW: where the blocks have one owner, each page's block of the chosen kept records is named once
abbrev pub OwnedLaw : Type 0
OwnedLaw = (b : Books) (tables : ℕ → List ℕ) (image : Image) (parts : ℕ → Option Part) → AreOwned b tables
    → ((x : ℕ) (part : Part) → parts x ≡ Some part → IsTableOf b image x part)
    → (x : ℕ) (part : Part) → parts x ≡ Some part → AreNamedOnce b.count (recs_of (kept_of image b)) parts x (table_in part)
