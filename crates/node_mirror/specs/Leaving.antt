-- What a mirrored run leaves.
use Rattle.std.specs.Prelude.{◌≡◌, ◌⊎◌, ◌≤◌, ◌+◌, ◌*◌, ℕ, List, [], ◌++◌, IfErr, Option, None, Some, Ok, Err, Result, length, replicate, true, ⊤}
use Rattle.edge_disk.specs.Counts.{Rose}
use Rattle.edge_disk.specs.declared.disk.Disk.{Ghosts}
use Rattle.edge_disk.specs.declared.disk.NoBlocks.{NoBlocks}
use Rattle.base_types.specs.declared.histories.Entry.{Entry}
use Rattle.drawn_words.specs.Words.{Words, words_of}
use Rattle.script_types.specs.model_kernel.Histories.{Policy}
use Rattle.script_types.specs.model_kernel.Scripts.{Script}
use Rattle.script_types.specs.model_kernel.State.{Supply}
use Rattle.kernel_run_facts.specs.declared.halts.Halt.{Halt}
use Rattle.kernel_run_facts.specs.declared.halts.Halt.TheVariants as run
use Rattle.kernel_run_facts.specs.kernel_commit_facts.Pieces.{CountsWithin}
use Rattle.kernel_run_facts.specs.kernel_commits.Telling.{Tells, TriesByAnswer}
use Rattle.kernel_run_facts.specs.kernel_commits.declared.stopping.Stop.{Stop}
use Rattle.kernel_run_facts.specs.kernel_commits.declared.stopping.Stop.TheVariants as answer
use Rattle.kernel_run_facts.specs.kernel_invariant.declared.stopping.Stopped.{Stopped}
use Rattle.kernel_run_facts.specs.kernel_invariant.declared.stopping.Stopped.TheVariants as reason
use Rattle.kernel_run_facts.specs.kernel_core_facts.Kernels.{Held, Lives, StaysClean}
use Rattle.kernel_run_facts.specs.kernel_laws.Opening.{empty_script, with_script}
use Rattle.kernel_run_facts.specs.model_serial_turns.Turns.{ComeFirst}
use Rattle.kernel_run_facts.specs.Running.{HasStopped, IsCauseOf, IsOver, RunsAlong, opened_in}
use Rattle.node_draws.specs.Courses.{rounds_of}
use Rattle.node_mirror.specs.Mirrors.{IsFull, at_start}
use Rattle.node_looks.specs.Looks.{commits_behind}
use Rattle.node_mirror.specs.declared.lines.Line.{Line}
use Rattle.node_mirror.specs.declared.stops.MirrorHalt.{MirrorHalt}
use Rattle.node_mirror.specs.declared.stops.MirrorHalt.TheVariants as halt
use Rattle.node_rounds.specs.Going.{course_in}
use Rattle.node_rounds.specs.declared.rounds.RoundStop.{RoundStop}
use Rattle.node_rounds.specs.declared.rounds.RoundStop.TheVariants as round
use Rattle.node_rounds.specs.node_standby.Standing.{Standing}
use Rattle.node_rounds.specs.node_standby.node_shipments.kernel_invariant.Beginnings.{Beginning, completed}
use Rattle.node_rounds.specs.node_standby.store_snapshots.declared.faults.StoreFault.TheVariants as store
use Rattle.node_rounds.specs.node_standby.store_snapshots.store_facts.State.{books}
use Rattle.node_world.specs.Worlds.{offered}

-- OF THE FIRST NODE

module _ {D : Type 0} (disks : Ghosts D) where
  -- THE KERNEL STANDS BEFORE THE RUN: live in it as long as nobody is to be born
  pub record BeginsHere (supply : Supply) (policy : Policy) (script : Script) (k : Held D) (b : Beginning) : Type 0 where
    pub same_supply : b.supply ≡ supply
    pub same_policy : b.policy ≡ policy
    pub same_script : b.script ≡ script
    pub lives : Lives disks (with_script b (empty_script b.script.steps)) k

  -- WHAT ITS CALLS LEAVE, whatever the disk tells: it stands as they answer, and what stopped it is the cause; a Tried is noted only where a write failed, its pages stay
  -- clean, and so many writes and syncs are begun at most
  pub record LeavesKernel (supply : Supply) (policy : Policy) (most : ℕ) (old new : Held D) (r : Result ⊤ Stop) : Type 0 where
    pub ends : Tells r new.stop
    pub caused : IfErr r (IsCauseOf disks policy old.parts new.parts)
    pub tries : TriesByAnswer r old.parts.noted.entries new.parts.noted.entries
    pub clean : StaysClean disks supply new
    pub counts : CountsWithin disks most old.parts.store new.parts.store

  -- THE RUN NEVER BEGAN: a record of the opened image could not be shipped, which isn't for want of blocks
  pub record HasNotBegun (b : Beginning) (k : Held D) : Type 0 where
    pub lives : Lives disks (with_script b (empty_script b.script.steps)) k
    pub none : k.parts.noted.entries ≡ []
    pub stop : (n : NoBlocks) → k.stop ≡ Some (reason.NoBlocks n) → ⊥

  -- IT WAS HALTED behind the births and a look at each locus of a front of the course, and the kernel goes on
  pub record WasHaltedThere (b : Beginning) (k : Held D) : Type 0 where
    pub looked : List ℕ
    pub first : ComeFirst b.script (opened_in b) looked
    pub along : RunsAlong disks b looked k

  -- BY HOW IT ENDED
  abbrev pub MirrorLeaves : Beginning → Result ⊤ MirrorHalt → Held D → Type 0
  MirrorLeaves b (Ok y) k = IsOver disks b k
  MirrorLeaves b (Err (halt.Kernel why)) k = HasNotBegun b k ⊎ HasStopped disks b k
  MirrorLeaves b (Err halt.Memory) k = HasNotBegun b k ⊎ WasHaltedThere b k
  MirrorLeaves b (Err (halt.Round why)) k = WasHaltedThere b k ⊎ IsOver disks b k

-- OF THE ROUNDS

-- the last rounds, four for each commit that was offered and a thousand, went as the words draw
pub record EndsBy {E : Type 0} (line : Line E) (many kept : ℕ) : Type 0 where
  pub offered_is : many ≡ offered line.sender
  pub kept_is : kept ≡ (rounds_of line.loss (replicate (4 * many + 1000) many) (course_in (words_of line.words) line.sender line.standby)).tally.kept

-- ALL COMMITS OF THE RUN WERE OFFERED, and what the standby took is told by the words, and by how many were offered before each round: one round behind each step, and the
-- last ones
pub record HasMirrored (b : Beginning) (es : List Entry) (loss : ℕ) (words : Words) (many kept : ℕ) : Type 0 where
  pub offered_is : many ≡ length (completed b es)
  pub kept_is : kept ≡ (rounds_of loss (commits_behind b es ++ replicate (4 * many + 1000) many) (at_start words)).tally.kept

-- OF THE SECOND NODE

module _ {E : Type 0} (disks : Ghosts E) (faults : ℕ) (st : Standing E) where
  -- why a round was broken off, where the disk's count of faults was this at first
  abbrev pub IsRoundCause : RoundStop → Type 0
  IsRoundCause (round.Store (store.NoBlocks n)) = IsFull (books st.store) n
  IsRoundCause (round.Store store.WriteFault) = Rose faults (disks.faults st.store.disk)
  IsRoundCause (round.Store store.Shut) = Rose faults (disks.faults st.store.disk)
  IsRoundCause (round.Store store.ReadFault) = ⊥
  IsRoundCause round.Refused = Unit {0}

  abbrev pub IsHaltCause : Result ⊤ MirrorHalt → Type 0
  IsHaltCause (Ok y) = Unit {0}
  IsHaltCause (Err (halt.Kernel why)) = Unit {0}
  IsHaltCause (Err halt.Memory) = Unit {0}
  IsHaltCause (Err (halt.Round why)) = IsRoundCause why

-- WHAT IS LEFT OF THE STANDBY, whatever the disks tell: its disk's count of faults doesn't fall, and rose where it is shut; and what halted the run is the cause
pub record LeavesStandby {E : Type 0} (disks : Ghosts E) (faults : ℕ) (st : Standing E) (r : Result ⊤ MirrorHalt) : Type 0 where
  pub later : faults ≤ disks.faults st.store.disk
  pub shut : (books st.store).shut ≡ true → Rose faults (disks.faults st.store.disk)
  pub caused : IsHaltCause disks faults st r

-- HOW THE RECORDS OF THE OPENED IMAGE WERE OFFERED: a read that failed has stopped the kernel, want of memory hasn't
abbrev pub BeginsBy : Option Stopped → Result ⊤ MirrorHalt → Type 0
BeginsBy stop (Ok y) = stop ≡ None
BeginsBy stop (Err (halt.Kernel why)) = (why ≡ answer.ReadFault) × (stop ≡ Some reason.ReadFault)
BeginsBy stop (Err halt.Memory) = stop ≡ None
BeginsBy stop (Err (halt.Round why)) = ⊥

-- HOW A WATCHED RUN ENDED is how the mirrored one does: but for the last rounds, and for want of memory
abbrev pub EndsAs : Result ⊤ Halt → Result ⊤ MirrorHalt → Type 0
EndsAs (Ok y) (Ok z) = Unit {0}
EndsAs (Ok y) (Err (halt.Kernel why)) = ⊥
EndsAs (Ok y) (Err halt.Memory) = ⊥
EndsAs (Ok y) (Err (halt.Round why)) = Unit {0}
EndsAs (Err (run.Kernel why)) r = r ≡ Err (halt.Kernel why)
EndsAs (Err run.Watcher) (Ok z) = ⊥
EndsAs (Err run.Watcher) (Err (halt.Kernel why)) = ⊥
EndsAs (Err run.Watcher) (Err halt.Memory) = Unit {0}
EndsAs (Err run.Watcher) (Err (halt.Round why)) = Unit {0}
