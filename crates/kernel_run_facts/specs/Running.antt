-- What takes a kernel along the history of its run, in any order of looks and in that of the script, and how a run ends.
use Rattle.std.specs.Prelude.{◌≡◌, ℕ, ◌+◌, ◌-◌, ◌*◌, List, ◌++◌, length, take, None, Some, Ok, Err, Result, ⊤}
use Rattle.edge_disk.specs.declared.disk.Disk.{Ghosts}
use Rattle.edge_disk.specs.Counts.{Rose}
use Rattle.edge_disk.specs.declared.disk.NoBlocks.{NoBlocks}
use Rattle.script_types.specs.model_kernel.Histories.{Policy, Run}
use Rattle.script_types.specs.model_kernel.Serial.{IsAllIdle, all_loci, picks_of, rounds}
use Rattle.script_types.specs.model_kernel.State.{AtlasState, Supply}
use Rattle.script_types.specs.model_kernel.Steps.{atlas_in}
use Rattle.kernel_core.specs.model_births.Fitting.{Fits}
use Rattle.kernel_core.specs.model_serial.Serial.{IsStopped, IsWhole}
use Rattle.kernel_core.specs.model_serial_turns.Turns.{HasLooked, opened}
use Rattle.kernel_core.specs.kernel_invariant.Beginnings.{Beginning, run_of}
use Rattle.kernel_core.specs.kernel_core_facts.Kernels.{Held, Lives}
use Rattle.kernel_core.specs.kernel_core_facts.Looking.{WasShort}
use Rattle.kernel_core.specs.kernel_commit_facts.Lacking.{IsShortAt}
use Rattle.kernel_core.specs.kernel_commit_facts.Parts.{Parts}
use Rattle.kernel_core.specs.kernel_commits.declared.stopping.Stop.{Stop}
use Rattle.kernel_core.specs.kernel_commits.declared.stopping.Stop.TheVariants as stop
use Rattle.kernel_core.specs.kernel_invariant.declared.stopping.Stopped.{Stopped}
use Rattle.kernel_core.specs.kernel_invariant.declared.stopping.Stopped.TheVariants as reason
use Rattle.kernel_run_facts.specs.Alongs.{LooksAt, WasStoppedIn}

-- these managers answer in the run, and its script fits the atlas of its state
pub record IsRunBy (supply : Supply) (policy : Policy) (b : Beginning) : Type 0 where
  pub same_supply : b.supply ≡ supply
  pub same_policy : b.policy ≡ policy
  pub fits : Fits (atlas_in (b.state 0).cell) b.script

-- the run behind its births
abbrev pub opened_in : Beginning → Run
opened_in b = opened b.supply b.script b.state

-- THE COURSE behind looks at some loci: these first, in their order, and then all by number, round after round. It begins with these looks
pub record IsFrontOf (first looked : List ℕ) : Type 0 where
  pub rounds_made : ℕ
  pub rest : List ℕ
  pub front : looked ++ rest ≡ first ++ rounds rounds_made

-- the loci before this one, where so many rounds were made
abbrev pub loci_before : List ℕ → ℕ → ℕ → List ℕ
loci_before first made l = (first ++ rounds made) ++ take (l - 41) all_loci

-- the loci that the script's order names, which the serial run looks at first
abbrev pub picks_in : Beginning → List ℕ
picks_in b = picks_of (atlas_in ((opened_in b).state 0).cell) b.script.order

-- the number behind the last locus that is born
abbrev pub end_of : AtlasState → ℕ
end_of a = 41 + length a.loci

-- a look begins so many writes and syncs at most: that of its step, and those of a record of each entity
abbrev pub look_most : ℕ
look_most = 1 + 64 * 1556

-- why a run stops: blocks are too few for what was next where it is left, or the disk's count of faults rose; it is never told Idle, and Shut of
-- an earlier call alone
abbrev pub IsCauseOf : {D : Type 0} → Ghosts D → Policy → Parts D → Parts D → Stop → Type 0
IsCauseOf disks policy old new (stop.Idle why) = ⊥
IsCauseOf disks policy old new (stop.NoBlocks n) = WasShort disks policy new n
IsCauseOf disks policy old new stop.ReadFault = Rose (disks.faults old.store.disk) (disks.faults new.store.disk)
IsCauseOf disks policy old new stop.WriteFault = Rose (disks.faults old.store.disk) (disks.faults new.store.disk)
IsCauseOf disks policy old new stop.Shut = ⊥

-- a look that made no step is passed over
abbrev pub past_idle : Stop → Result ⊤ Stop
past_idle (stop.Idle why) = Ok tt
past_idle (stop.NoBlocks n) = Err (stop.NoBlocks n)
past_idle stop.ReadFault = Err stop.ReadFault
past_idle stop.WriteFault = Err stop.WriteFault
past_idle stop.Shut = Err stop.Shut

module _ {D : Type 0} (disks : Ghosts D) where
  -- THE KERNEL IS ALONG ITS COURSE: live, and behind a look at each of these loci
  pub record RunsAlong (b : Beginning) (looked : List ℕ) (k : Held D) : Type 0 where
    pub lives : Lives disks b k
    pub looks : HasLooked b.supply b.policy b.script b.state looked k.parts.noted.entries

  -- WHERE SOME LOCI ARE LOOKED AT FIRST, and then all, round after round

  -- THE RUN WAS STOPPED: the kernel is live, and was stopped in the births or in a look; these looks, to the last, begin the course
  pub record HasStoppedBehind (b : Beginning) (first : List ℕ) (why : Stopped) (k : Held D) : Type 0 where
    pub lives : Lives disks b k
    pub piece : WasStoppedIn disks b why k.parts
    pub looked : List ℕ
    pub looks : LooksAt b looked (piece.front ++ piece.all)
    pub begins : IsFrontOf first looked

  -- THE RUN IS OVER: the kernel is live, and behind these looks and so many rounds, and all loci are idle
  pub record IsOverBehind (b : Beginning) (first : List ℕ) (k : Held D) : Type 0 where
    pub lives : Lives disks b k
    pub rounds_made : ℕ
    pub looks : LooksAt b (first ++ rounds rounds_made) k.parts.noted.entries
    pub idle : IsAllIdle b.script (run_of b k.parts.noted.entries)

  -- WHAT LOOKS LEAVE: the kernel is behind them all, or was stopped in one
  pub record TakesOnBehind (b : Beginning) (first looked : List ℕ) (new : Held D) : Type 0 where
    pub along : new.stop ≡ None → RunsAlong b looked new
    pub stopped : (why : Stopped) → new.stop ≡ Some why → HasStoppedBehind b first why new

  -- WHAT A RUN LEAVES
  pub record EndsBehind (b : Beginning) (first : List ℕ) (new : Held D) : Type 0 where
    pub over : new.stop ≡ None → IsOverBehind b first new
    pub stopped : (why : Stopped) → new.stop ≡ Some why → HasStoppedBehind b first why new

  -- IN THE SERIAL RUN, where the picks of the script's order are looked at first

  -- THE RUN WAS STOPPED: the kernel is live, and has noted the serial history up to where it stopped. It was short of blocks only where the
  -- image lacks them, and for the next entry of the serial history: a record, or a step that reads or writes a word
  pub record HasStopped (b : Beginning) (k : Held D) : Type 0 where
    pub lives : Lives disks b k
    pub part : IsStopped b.supply b.policy b.script b.state k.parts.noted.entries
    pub short : (n : NoBlocks) → k.stop ≡ Some (reason.NoBlocks n) → IsShortAt disks b n k.parts

  -- THE RUN IS OVER: the kernel is live, and has noted the whole serial history
  pub record IsOver (b : Beginning) (k : Held D) : Type 0 where
    pub lives : Lives disks b k
    pub whole : IsWhole b.supply b.policy b.script b.state k.parts.noted.entries

  -- WHAT LOOKS LEAVE: the kernel is behind them all, or was stopped in one
  pub record TakesOn (b : Beginning) (looked : List ℕ) (new : Held D) : Type 0 where
    pub along : new.stop ≡ None → RunsAlong b looked new
    pub stopped : (why : Stopped) → new.stop ≡ Some why → HasStopped b new

  -- WHAT A RUN LEAVES
  pub record EndsRun (b : Beginning) (new : Held D) : Type 0 where
    pub over : new.stop ≡ None → IsOver b new
    pub stopped : (why : Stopped) → new.stop ≡ Some why → HasStopped b new
