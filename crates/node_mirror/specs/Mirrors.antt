-- What is known of a mirrored run behind each look, and what is true of its second node whatever the disks tell.
use Rattle.std.specs.Prelude.{◌≡◌, ◌≤◌, ◌<◌, ℕ, List, [], Option, Some, length, true, false}
use Rattle.edge_disk.specs.Counts.{Rose}
use Rattle.edge_disk.specs.declared.disk.Disk.{Ghosts}
use Rattle.edge_disk.specs.declared.disk.NoBlocks.{NoBlocks}
use Rattle.base_types.specs.declared.histories.Entry.{Entry}
use Rattle.drawn_words.specs.Words.{Words, words_numbered, words_of}
use Rattle.node_draws.specs.Courses.{Course, rounds_of}
use Rattle.node_looks.specs.Looks.{commits_behind}
use Rattle.node_mirror.specs.declared.lines.Line.{Line}
use Rattle.node_mirror.specs.declared.lines.Losing.{Losing}
use Rattle.node_mirror.specs.declared.stops.MirrorStop.{MirrorStop}
use Rattle.node_mirror.specs.declared.stops.MirrorStop.TheVariants as stop
use Rattle.node_offers.specs.Offering.{KnowsNewest}
use Rattle.node_rounds.specs.Going.{AllShip, AreInStep, course_in}
use Rattle.node_rounds.specs.declared.rounds.RoundStop.TheVariants as round
use Rattle.node_rounds.specs.node_standby.Following.{Follows}
use Rattle.node_rounds.specs.node_standby.Standing.{Standing}
use Rattle.node_rounds.specs.node_standby.node_shipments.kernel_invariant.Beginnings.{Beginning, completed}
use Rattle.node_rounds.specs.node_standby.store_snapshots.declared.faults.StoreFault.TheVariants as store
use Rattle.node_rounds.specs.node_standby.store_snapshots.store_books.Books.{Books, free_in}
use Rattle.node_rounds.specs.node_standby.store_snapshots.store_facts.State.{books}
use Rattle.node_world.specs.Worlds.{offered}

-- nothing is acknowledged or taken yet
abbrev pub at_start : Words → Course
at_start words = record { tally = record { acked = 0; kept = 0 }; words = words }

-- ALL COMMITS of the run so far are offered, in their order, and known; and the rounds so far, one behind each step, went as these words draw
pub record Mirrors {E : Type 0} (words : Words) (b : Beginning) (es : List Entry) (known : List ℕ) (noted : ℕ) (line : Line E) : Type 0 where
  pub entries : noted ≡ length es
  pub knows : KnowsNewest b es known
  pub ships : AllShip b es line.sender
  pub all : offered line.sender ≡ length (completed b es)
  pub course : course_in (words_of line.words) line.sender line.standby ≡ rounds_of line.loss (commits_behind b es) (at_start words)

-- and the standby follows the run, if it began to
pub record Watches {E : Type 0} (disks : Ghosts E) (began : Beginning → Type 0) (words : Words) (b : Beginning) (es : List Entry) (known : List ℕ) (noted : ℕ) (line : Line E) : Type 0 where
  pub mirrors : Mirrors words b es known noted line
  pub follows : began b → Follows b es disks line.standby

-- fewer blocks are free than were needed; both numbers
pub record IsFull (bk : Books) (n : NoBlocks) : Type 0 where
  pub working : bk.shut ≡ false
  pub fewer : n.free < n.need
  pub free : n.free ≡ free_in bk

-- WHY A ROUND WAS BROKEN OFF, where the disk's count of faults was this at first: of a write that failed, or a failure before, only where the count rose; never of a read
pub record IsCausedSince {E : Type 0} (disks : Ghosts E) (faults : ℕ) (st : Standing E) (why : Option MirrorStop) : Type 0 where
  pub no_blocks : (n : NoBlocks) → why ≡ Some (stop.Round (round.Store (store.NoBlocks n))) → IsFull (books st.store) n
  pub write_fault : why ≡ Some (stop.Round (round.Store store.WriteFault)) → Rose faults (disks.faults st.store.disk)
  pub shut : why ≡ Some (stop.Round (round.Store store.Shut)) → Rose faults (disks.faults st.store.disk)
  pub no_read : why ≡ Some (stop.Round (round.Store store.ReadFault)) → ⊥

-- WHAT IS TRUE OF A MIRRORED RUN whatever the disks tell: the two nodes are in step; the count of faults doesn't fall, and it rose where the standby is shut
pub record IsMirroring {E : Type 0} (disks : Ghosts E) (faults loss : ℕ) (line : Line E) (why : Option MirrorStop) : Type 0 where
  pub step : AreInStep line.sender line.standby
  pub same_loss : line.loss ≡ loss
  pub later : faults ≤ disks.faults line.standby.store.disk
  pub shut : (books line.standby.store).shut ≡ true → Rose faults (disks.faults line.standby.store.disk)
  pub caused : IsCausedSince disks faults line.standby why

-- WITH WHAT IT BEGAN, as members of a type tell it
pub record IsSince {E : Type 0} (disks : Ghosts E) (st : Standing E) (losing : Losing) (began : Beginning → Type 0) (words : Words) (loss faults : ℕ) : Type 0 where
  pub begins : (b : Beginning) → Follows b [] disks st → began b
  pub followed : (b : Beginning) → began b → Follows b [] disks st
  pub words_are : words ≡ words_numbered losing.seed 55
  pub loss_is : loss ≡ losing.loss
  pub faults_are : faults ≡ disks.faults st.store.disk
