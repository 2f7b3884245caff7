-- Records that tell what entities are at their versions, whatever made them so, and the law that leads from there to what an image means.
use Rattle.std.specs.Prelude.{◌≡◌, ◌≢◌, ℕ, ◌<◌, ◌≤◌, List, length, Contains, slice_index}
use Rattle.std.specs.List.{AllByRecursion}
use Rattle.edge_disk.specs.Image.{Image}
use Rattle.store_books.specs.model_kernel.Choices.{IsGreatest}
use Rattle.store_books.specs.model_kernel.Soundness.{IsSound}
use Rattle.store_books.specs.model_kernel.State.{EntityState, KernelState, Supply, empty_state}
use Rattle.store_books.specs.model_cut_laws.Agreeing.{nothing}
use Rattle.store_books.specs.model_cut_laws.Records.{commits_of}
use Rattle.store_books.specs.image_facts.Bodies.{blob_blocks}
use Rattle.store_books.specs.image_facts.Layout.{pool_at}
use Rattle.store_books.specs.image_meaning.Describing.{DescribesEntity, HasPage}
use Rattle.store_books.specs.image_meaning.Meaning.{Means}
use Rattle.store_books.specs.image_meaning.Parts.{Part, table_in}
use Rattle.store_books.specs.image_meaning.Stores.{Kept, Stores, recs_of}

-- The record says what its entity is at its version. Its pages are those of the part's table, each block once.
pub record IsToldRecord (s : Supply) (thing : ℕ → ℕ → EntityState) (k : Kept) : Type 0 where
  pub components : length k.rec.stamp ≡ 64
  pub part : Part
  pub describes : DescribesEntity s (λ x. thing x k.rec.version) k.rec.entity k part
  pub once : (p q : ℕ) → slice_index (table_in part) p ≢ 0 → slice_index (table_in part) p ≡ slice_index (table_in part) q → p ≡ q

-- The blocks of their pages are in the pool; none is named by a blob, and none by records of two entities.
pub record ArePagesApart (count : ℕ) (ks : List Kept) : Type 0 where
  pub pool : (k : Kept) (n : ℕ) → Contains ks k → HasPage k.pages n → (pool_at ≤ n) × (n < count)
  pub not_blob : (k m : Kept) (n : ℕ) → Contains ks k → Contains ks m → HasPage k.pages n → Contains (blob_blocks m.rec) n → ⊥
  pub own : (k m : Kept) (n : ℕ) → Contains ks k → Contains ks m → HasPage k.pages n → HasPage m.pages n → k.rec.entity ≡ m.rec.entity

-- THE STATE IS THAT OF A CHOICE: each entity is as it is at the version that the choice takes, and as in the state of nothing where it takes 0
pub record IsChosenState (thing : ℕ → ℕ → EntityState) (q : ℕ → ℕ) (v : KernelState) : Type 0 where
  pub same : (x : ℕ) → v x ≡ thing x (q x)
  pub unwritten : (x : ℕ) → q x ≡ 0 → v x ≡ empty_state x
  pub sound : IsSound (λ x. (v x).cell)

-- THE LAW: an image that stores told records means the state of their greatest closed choice, where that is sound
abbrev pub ToldImageLaw : Type 0
ToldImageLaw = (s : Supply) (thing : ℕ → ℕ → EntityState) (count : ℕ) (ks : List Kept) (q : ℕ → ℕ) (v : KernelState) (c : Image) → Stores count ks c
    → AllByRecursion (IsToldRecord s thing) ks → ArePagesApart count ks → IsGreatest nothing (commits_of (recs_of ks)) q → IsChosenState thing q v
    → Means s c v
