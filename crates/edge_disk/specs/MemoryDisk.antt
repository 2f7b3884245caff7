-- What a disk in memory shows.
use Rattle.std.specs.Prelude.{◌≡◌, ◌≤◌, ◌+◌, ℕ, nat_lt, if◌then◌else◌, List, length, take, Contains, Result, OnOk, OnErr}
use Rattle.edge_disk.specs.Image.{Image}
use Rattle.edge_disk.specs.Disk.{Only, Ticks}
use Rattle.edge_disk.specs.Kept.{Standing, after, standing, MayLeave, MightHaveLeft}
use Rattle.edge_disk.specs.declared.calls.Call.{Call}
use Rattle.edge_disk.specs.declared.disk.Disk.{Ghosts}
use Rattle.edge_disk.specs.declared.memory.MemoryDisk.{MemoryDisk}

-- the blocks as they read
abbrev pub reading_of : MemoryDisk → Image
reading_of d = d.tape.blocks.items

-- the disk as it stood at a moment
abbrev pub stood_at : MemoryDisk → ℕ → Standing
stood_at d moment = standing d.tape.first.items (take moment d.tape.calls.items)

-- what a stop now may leave
abbrev pub may_leave_of : MemoryDisk → Image → Type 0
may_leave_of d c = MayLeave (standing d.tape.first.items d.tape.calls.items) c

-- what a stop since a moment might have left
abbrev pub left_since_of : MemoryDisk → ℕ → Image → Type 0
left_since_of d t c = MightHaveLeft d.tape.first.items d.tape.calls.items d.tape.clock t c

-- how many writes and syncs were begun
abbrev pub moments_of : MemoryDisk → ℕ
moments_of d = d.tape.clock

-- how many reads, writes and syncs were begun
abbrev pub calls_of : MemoryDisk → ℕ
calls_of d = d.calls

-- how many of them failed
abbrev pub faults_of : MemoryDisk → ℕ
faults_of d = d.faults

-- what the clauses of a disk read, of one in memory
abbrev pub memory_disks : Ghosts MemoryDisk
memory_disks = record {
  tells = Unit {0};
  block_count = λ d. length (reading_of d);
  reading = reading_of;
  may_leave = may_leave_of;
  left_since = left_since_of;
  clock = moments_of;
  faults = faults_of;
}

-- how many writes and syncs it has room to keep
abbrev pub room_of : MemoryDisk → ℕ
room_of d = d.tape.room

-- the numbers of the calls that fail
abbrev pub fails_of : MemoryDisk → List ℕ
fails_of d = d.fails.items

-- the number of the next call is among those that fail
abbrev pub IsNextFailing : MemoryDisk → Type 0
IsNextFailing d = Contains (fails_of d) (calls_of d + 1)

-- it has kept as many writes and syncs as it has room for
abbrev pub IsFull : MemoryDisk → Type 0
IsFull d = room_of d ≤ length d.tape.calls.items

-- the disk as it stands
abbrev pub stands : MemoryDisk → Standing
stands d = standing d.tape.first.items d.tape.calls.items

-- as it stands after a call that fails, which it keeps where it has room
abbrev pub stands_after_failing : Call → MemoryDisk → Standing
stands_after_failing call d = if nat_lt (length d.tape.calls.items) (room_of d) then after (stands d) call else stands d

-- now it stands so, and at the earlier moments as before
pub record GoesOn (now : Standing) (old new : MemoryDisk) : Type 0 where
  pub stands_so : stands new ≡ now
  pub past : (k : ℕ) → k ≤ moments_of old → stood_at new k ≡ stood_at old k

-- the call is counted, and as a fault where it failed; the limits stay
pub record Counts {T E : Type 0} (result : Result T E) (old new : MemoryDisk) : Type 0 where
  pub calls : Ticks (calls_of old) (calls_of new)
  pub ok : OnOk result (faults_of new ≡ faults_of old)
  pub err : OnErr result (Ticks (faults_of old) (faults_of new))
  pub same_fails : fails_of new ≡ fails_of old
  pub same_room : room_of new ≡ room_of old

-- a disk with this content, nothing pending, no call so far, and these limits
pub record StartsWith (image : Image) (room : ℕ) (fails : List ℕ) (d : MemoryDisk) : Type 0 where
  pub reading : reading_of d ≡ image
  pub settled : Only image (may_leave_of d)
  pub moments : moments_of d ≡ 0
  pub calls : calls_of d ≡ 0
  pub faults : faults_of d ≡ 0
  pub room_is : room_of d ≡ room
  pub fails_are : fails_of d ≡ fails
