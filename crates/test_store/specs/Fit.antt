-- What a commit asks of a record.
use Rattle.std.specs.Prelude.{◌≡◌, ℕ, ◌<◌, ◌≤◌, List, All, length, slice_index}
use Rattle.base_types.specs.declared.records.Rec.{Rec}
use Rattle.image_blocks.specs.image_facts.Layout.{slot_count}
use Rattle.store_snapshots.specs.store_books.Books.{Books, kept_in, recs_in}

-- the record is in form and newer than its entity's newest, and there is room for one more that is kept
pub record IsFit (b : Books) (entity version : ℕ) (stamp blob : List ℕ) : Type 0 where
  pub blob_is : 1 ≤ length blob
  pub own : slice_index stamp entity ≡ version
  pub newer : (1 ≤ version) × All (λ (r : Rec). r.entity ≡ entity → r.version < version) (recs_in b)
  pub room : length (kept_in b) < slot_count
