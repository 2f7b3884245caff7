-- What a call saw of its source, its sink and its disk, before it and after it, and what it gave.
use Rattle.std.specs.Prelude.{◌≡◌, ◌⊎◌, ◌≤◌, ℕ, List, Option}
use Rattle.edge_disk.specs.declared.disk.Disk.{Ghosts}
use Rattle.edge_disk.specs.Counts.{Rose}
use Rattle.edge_disk.specs.Image.{Image}
use Rattle.base_types.specs.declared.histories.Entry.{Entry}
use Rattle.script_types.specs.model_kernel.State.{Text}
use Rattle.command_outcomes.specs.declared.statuses.Outcome.{Outcome}
use Rattle.command_outcomes.specs.declared.statuses.Status.{Status}

-- THE SOURCE: the bytes that were left before and are left after, where it tells them; it is as it was; its count of faults rose
pub record SeenSource : Type 1 where
  pub before : Option Text
  pub after : Option Text
  pub same : Type 0
  pub rose : Type 0

-- THE SINK: the bytes that it held before and holds after, where it tells them; its count of faults rose
pub record SeenSink : Type 1 where
  pub before : Option Text
  pub after : Option Text
  pub rose : Type 0

-- what is seen of a disk at one moment: how many blocks, how they read, what a stop now may leave and what a stop from a moment on
-- might have left, and how many writes and syncs were begun
pub record DiskView : Type 1 where
  pub blocks : ℕ
  pub reading : Image
  pub may : Image → Type 0
  pub left : ℕ → Image → Type 0
  pub clock : ℕ

-- THE DISK: whether it tells its content; as it was and as it is; it is as it was; its count of faults rose
pub record SeenDisk : Type 1 where
  pub tells : Type 0
  pub before : DiskView
  pub after : DiskView
  pub same : Type 0
  pub rose : Type 0

-- WHAT A CALL SAW
pub record Call : Type 1 where
  pub source : SeenSource
  pub sink : SeenSink
  pub disk : SeenDisk

-- WHAT IT GAVE: how it ended, the history, and its marks
pub record Gave : Type 0 where
  pub status : Status
  pub history : List Entry
  pub marks : List ℕ

abbrev pub gave : {D : Type 0} → Outcome D → Gave
gave o = record { status = o.status; history = o.history.items; marks = o.marks.items }

-- IN THE WORDS OF THE TRAITS

abbrev pub seen_source : {R : Type 0} → (R → Option Text) → (R → ℕ) → R → R → SeenSource
seen_source left faults old new = record { before = left old; after = left new; same = new ≡ old; rose = Rose (faults old) (faults new) }

abbrev pub seen_sink : {W : Type 0} → (W → Option Text) → (W → ℕ) → W → W → SeenSink
seen_sink held faults old new = record { before = held old; after = held new; rose = Rose (faults old) (faults new) }

module _ {D : Type 0} (disks : Ghosts D) where
  abbrev pub view_of_disk : D → DiskView
  view_of_disk d = record { blocks = disks.block_count d; reading = disks.reading d; may = disks.may_leave d; left = disks.left_since d; clock = disks.clock d }

  abbrev pub seen_disk : D → D → SeenDisk
  seen_disk old new = record { tells = disks.tells; before = view_of_disk old; after = view_of_disk new; same = new ≡ old; rose = Rose (disks.faults old) (disks.faults new) }

-- THE DISK WAS ONLY READ: no write and no sync was begun, it reads as before, and a stop may leave nothing new
pub record IsOnlyRead (disk : SeenDisk) : Type 0 where
  pub blocks : disk.after.blocks ≡ disk.before.blocks
  pub clock : disk.after.clock ≡ disk.before.clock
  pub reading : disk.tells → disk.after.reading ≡ disk.before.reading
  pub may : disk.tells → (c : Image) → disk.after.may c → disk.before.may c
  pub left : disk.tells → (t : ℕ) (c : Image) → t ≤ disk.before.clock → disk.after.left t c → disk.before.left t c ⊎ disk.after.may c

-- A STOP at any moment of the call left an image that has P, and one at an earlier moment what it had left before
pub record LeavesImages (disk : SeenDisk) (P : Image → Type 0) : Type 0 where
  pub later : disk.before.clock ≤ disk.after.clock
  pub each : (c : Image) → disk.after.left disk.before.clock c → P c
  pub before : (t : ℕ) (c : Image) → t ≤ disk.before.clock → disk.after.left t c → disk.before.left t c ⊎ P c
