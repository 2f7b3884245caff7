-- A standby that follows a run.
use Rattle.std.specs.Prelude.{◌≡◌, ℕ, ◌+◌, ◌^◌, ◌<◌, ◌≤◌, All, true, false, if◌then◌else◌, List, [], length, take}
use Rattle.edge_disk.specs.declared.disk.Disk.{Ghosts}
use Rattle.edge_disk.specs.Image.{Image}
use Rattle.base_types.specs.declared.histories.Entry.{Entry}
use Rattle.node_shipments.specs.Parts.{Shipment}
use Rattle.node_shipments.specs.kernel_invariant.Beginnings.{Beginning, BeginsRight, IsLegal, completed, first_commits}
use Rattle.node_shipments.specs.kernel_invariant.Records.{StoresCommits}
use Rattle.node_shipments.specs.kernel_invariant.model_cut_laws.Agreeing.{AgreeFromCut, nothing}
use Rattle.node_shipments.specs.kernel_invariant.model_cut_laws.Records.{commits_of}
use Rattle.node_shipments.specs.kernel_invariant.model_kernel.Choices.{IsNarrow}
use Rattle.node_shipments.specs.node_store.node_commits.Deliveries.{IsStandbyImage, KeepsCommits}
use Rattle.node_standby.specs.Standing.{Standing}
use Rattle.kernel_views.specs.store_snapshots.store_books.Books.{Books, kept_in, recs_in}
use Rattle.kernel_views.specs.store_snapshots.store_facts.State.{books}
use Rattle.kernel_views.specs.store_snapshots.store_facts.image_facts.Layout.{slot_count}

-- WHAT A DELIVERY ASKS beside what is true of each shipment: fewer than 640 records are kept, and those of its entity have lower versions
pub record MayTake {D : Type 0} (st : Standing D) (s : Shipment) : Type 0 where
  pub few : st.count < 2 ^ 62
  pub room : length (kept_in (books st.store)) < slot_count
  pub newer : All (λ r. r.entity ≡ s.entity → r.version < s.version) (recs_in (books st.store))

-- how many commits an image of it may hold: a write that failed may have made one more
abbrev pub most_in : {D : Type 0} → Standing D → ℕ
most_in st = if (books st.store).shut then st.count + 1 else st.count

-- the log in memory has the first so many commits of the run from their cut on, and no number is too large
pub record HasFirst (b : Beginning) (es : List Entry) (count : ℕ) (bk : Books) : Type 0 where
  pub agree : AgreeFromCut nothing (take count (completed b es)) (commits_of (recs_in bk))
  pub narrow : IsNarrow (commits_of (recs_in bk))
  pub small : bk.small ≡ true
  pub epoch : bk.place.epoch ≤ 2 ^ 61 + count

-- the image stores the first k commits of the run, with k between these
pub record StoresBetween (b : Beginning) (es : List Entry) (low high : ℕ) (c : Image) : Type 0 where
  pub blocks : ℕ
  pub k : ℕ
  pub at_least : low ≤ k
  pub at_most : k ≤ high
  pub within : k ≤ length (completed b es)
  pub stores : StoresCommits b es blocks (first_commits b es k) c

-- IT FOLLOWS THE RUN: what it keeps are the first commits of the run, as many as it counts. Of a store that has failed only that is told what a
-- stop may leave
pub record Follows {D : Type 0} (b : Beginning) (es : List Entry) (disks : Ghosts D) (st : Standing D) : Type 0 where
  pub begins : BeginsRight b
  pub legal : IsLegal b es
  pub few : st.count ≤ length (completed b es)
  pub log : (books st.store).shut ≡ false → HasFirst b es st.count (books st.store)
  pub keeps : disks.tells → (books st.store).shut ≡ false → KeepsCommits b es (take st.count (completed b es)) (disks.reading st.store.disk) (books st.store) (λ x. [])
  pub left : disks.tells → (c : Image) → disks.may_leave st.store.disk c → StoresBetween b es st.count (most_in st) c

-- AN IMAGE OF THE STANDBY is one of the run's first k commits, with k between these
pub record IsImageBetween (b : Beginning) (es : List Entry) (low high : ℕ) (c : Image) : Type 0 where
  pub k : ℕ
  pub at_least : low ≤ k
  pub at_most : k ≤ high
  pub within : k ≤ length (completed b es)
  pub image : IsStandbyImage b es k c
