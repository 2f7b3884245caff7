-- Records in range behind those before them.
use Rattle.std.specs.Prelude.{◌≡◌, ◌≢◌, ℕ, ◌<◌, ◌≤◌, List, length, take, slice_get, slice_index, Some, None}
use Rattle.model_kernel.specs.base_types.declared.records.Rec.{Rec}
use Rattle.image_facts.specs.Layout.{last_number, most_blocks, most_length, pool_at}
use Rattle.image_facts.specs.Bodies.{blocks_for, body_block, record_in}
use Rattle.image_facts.specs.Checks.{body_fault, last_version}

-- WHICH RECORDS FIT: what check 3 asks of a record behind others, in an image of so many blocks; HasLog with this for each is HasRecords

-- a record that check 3 accepts behind others, in an image of so many blocks
pub record IsFitting (count : ℕ) (before : List Rec) (r : Rec) : Type 0 where
  pub good : body_fault count before (body_block r) ≡ None
  pub back : record_in (body_block r) ≡ r

-- a record in range behind others, in an image of so many blocks
pub record IsInRange (count : ℕ) (before : List Rec) (r : Rec) : Type 0 where
  pub entity : r.entity < 64
  pub lengths : (1 ≤ r.length) × (r.length ≤ most_length)
  pub versions : (1 ≤ r.version) × (r.version ≤ last_number)
  pub newer : last_version before r.entity < r.version
  pub components : length r.stamp ≡ 64
  pub own : slice_index r.stamp r.entity ≡ r.version
  pub small : (y : ℕ) → y < 64 → slice_index r.stamp y ≤ last_number
  pub numbers : length r.blocks ≡ 8
  -- as many different blocks of the pool as the blob needs, and 0 behind them
  pub needed : (i : ℕ) → i < blocks_for r.length → (pool_at ≤ slice_index r.blocks i) × (slice_index r.blocks i < count)
  pub different : (i k : ℕ) → i < blocks_for r.length → k < i → slice_index r.blocks k ≢ slice_index r.blocks i
  pub unused : (i : ℕ) → blocks_for r.length ≤ i → slice_index r.blocks i ≡ 0

-- each of these behind the ones before it
abbrev pub AreFitting : ℕ → List Rec → Type 0
AreFitting count recs = (i : ℕ) (r : Rec) → slice_get recs i ≡ Some r → IsFitting count (take i recs) r

-- a record in range fits
abbrev pub FittingLaw : Type 0
FittingLaw = (count : ℕ) (before : List Rec) (r : Rec) → count ≤ most_blocks → IsInRange count before r → IsFitting count before r
