-- Records on disk against the history that made them.
use Rattle.std.specs.Prelude.{ℕ, ◌≤◌, List, ◌++◌, length, take}
use Rattle.std.specs.List.{AllByRecursion}
use Rattle.edge_disk.specs.Image.{Image}
use Rattle.store_books.specs.base_types.declared.histories.Entry.{Entry}
use Rattle.model_sound_states.specs.model_kernel.Choices.{Commit}
use Rattle.store_books.specs.model_cut_laws.Agreeing.{AgreeFromCut, nothing}
use Rattle.store_books.specs.model_cut_laws.Records.{commits_of}
use Rattle.store_books.specs.image_meaning.Parts.{table_in}
use Rattle.store_books.specs.image_meaning.Stores.{Kept, Stores, recs_of}
use Rattle.store_told.specs.Told.{ArePagesApart, IsToldRecord}
use Rattle.kernel_invariant.specs.Beginnings.{Beginning, entity_at, state_after}

-- The record says what its entity is at its version in the run, which the run has reached. It has no more pages than its part's table has places.
pub record IsKeptRecord (b : Beginning) (es : List Entry) (k : Kept) : Type 0 where
  pub told : IsToldRecord b.supply (entity_at b es) k
  pub from : (b.state k.rec.entity).version ≤ k.rec.version
  pub reached : k.rec.version ≤ (state_after b es k.rec.entity).version
  pub few : length k.pages ≤ length (table_in told.part)

-- The kept records are those of these commits from the greatest closed choice on, each of them true of the run.
pub record AreKeptRecords (b : Beginning) (es : List Entry) (cs : List Commit) (ks : List Kept) : Type 0 where
  pub agree : AgreeFromCut nothing cs (commits_of (recs_of ks))
  pub each : AllByRecursion (IsKeptRecord b es) ks

-- THE IMAGE STORES THESE COMMITS: records of them from their cut on, whatever was retired
pub record StoresCommits (b : Beginning) (es : List Entry) (count : ℕ) (cs : List Commit) (c : Image) : Type 0 where
  pub ks : List Kept
  pub records : AreKeptRecords b es cs ks
  pub apart : ArePagesApart count ks
  pub stores : Stores count ks c

-- and the first few of these behind them, at most n
pub record StoresSome (b : Beginning) (es : List Entry) (count : ℕ) (cs more : List Commit) (n : ℕ) (c : Image) : Type 0 where
  pub made : ℕ
  pub few : made ≤ n
  pub stores : StoresCommits b es count (cs ++ take made more) c
