-- LAWS of how many records are kept, whatever the disk tells.
use Rattle.std.specs.Prelude.{◌≡◌, ◌⊎◌, ℕ, ◌+◌, ◌*◌, ◌<◌, ◌≤◌, ◌==◌, if◌then◌else◌, All, AllPairs, Any, List, length, slice_index}
use Rattle.base_types.specs.declared.records.Rec.{Rec}
use Rattle.page_store.specs.model_kernel.Words.{put}
use Rattle.store_snapshots.specs.log_facts.Logs.{IsOlder}
use Rattle.store_snapshots.specs.store_facts.Committed.{HasNewRecord}
use Rattle.store_snapshots.specs.store_facts.Shelves.{records_of}
use Rattle.kernel_block_laws.specs.store_books.Books.{Books, Logged, kept_in, recs_in}

-- one record more at most is kept, of the entity whose it is
pub record KeepsOneMore (entity : ℕ) (old new : Books) : Type 0 where
  pub each : (y : ℕ) → records_of y (kept_in new) ≤ records_of y (kept_in old) + (if y == entity then 1 else 0)
  pub all : length (kept_in new) ≤ length (kept_in old) + 1

abbrev pub KeptMoreLaw : Type 0
KeptMoreLaw = (entity version length : ℕ) (stamp table : List ℕ) (old new : Books) → HasNewRecord entity version length stamp table old new → KeepsOneMore entity old new

-- THE NEWEST RECORDS of a log: no record of an entity is above n, which is 0 or the version of one that has the stamp of its entity; and the
-- versions of an entity ascend; entities have numbers below 64
pub record HasNewest (n : ℕ → ℕ) (stamps : ℕ → List ℕ) (recs : List Rec) : Type 0 where
  pub most : All (λ (r : Rec). r.version ≤ n r.entity) recs
  pub newest : (x : ℕ) → (n x ≡ 0) ⊎ Any (λ (r : Rec). (r.entity ≡ x) × (r.version ≡ n x) × (r.stamp ≡ stamps x)) recs
  pub ascending : AllPairs IsOlder recs
  pub numbers : All (λ (r : Rec). r.entity < 64) recs

-- they stay, or a newer one takes the place of its entity's
abbrev pub NewestLaw : Type 0
NewestLaw = (n : ℕ → ℕ) (stamps : ℕ → List ℕ) (entity version length : ℕ) (stamp table : List ℕ) (old new : Books) → HasNewest n stamps (recs_in old)
    → HasNewRecord entity version length stamp table old new → n entity < version → entity < 64 → HasNewest (put n entity version) (put stamps entity stamp) (recs_in new)

-- each entity has one kept record at most, the newest
pub record KeepsNewest (n : ℕ → ℕ) (b : Books) : Type 0 where
  pub versions : All (λ (l : Logged). l.rec.version ≡ n l.rec.entity) (kept_in b)
  pub each : (y : ℕ) → records_of y (kept_in b) ≤ 1

-- as is so where the newest records rest on newest ones alone
abbrev pub SettledStoreLaw : Type 0
SettledStoreLaw = (n : ℕ → ℕ) (stamps : ℕ → List ℕ) (b : Books) → HasNewest n stamps (recs_in b) → ((x y : ℕ) → 0 < n x → slice_index (stamps x) y ≤ n y) → KeepsNewest n b

-- and where no entity has more kept records than this, they are 64 times as many at most
abbrev pub FewKeptLaw : Type 0
FewKeptLaw = (n : ℕ → ℕ) (stamps : ℕ → List ℕ) (most : ℕ) (b : Books) → HasNewest n stamps (recs_in b) → ((y : ℕ) → records_of y (kept_in b) ≤ most) → length (kept_in b) ≤ 64 * most
