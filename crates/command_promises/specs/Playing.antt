-- What the run of a script by an opened kernel leaves, in the words of the disk's trait.
use Rattle.std.specs.Prelude.{◌≡◌, ℕ, ◌++◌, Bool, false, true, List, Option, None, Some}
use Rattle.edge_disk.specs.declared.disk.Disk.{Ghosts}
use Rattle.edge_disk.specs.Image.{Image}
use Rattle.edge_disk.specs.declared.disk.NoBlocks.{NoBlocks}
use Rattle.base_types.specs.declared.histories.Entry.{Entry}
use Rattle.image_facts.specs.model_kernel.Histories.{Policy}
use Rattle.image_facts.specs.model_kernel.Scripts.{Script as Tables}
use Rattle.image_facts.specs.model_kernel.State.{Supply, Text}
use Rattle.open_kernel.specs.kernel_invariant.declared.stopping.Stopped.{Stopped}
use Rattle.open_kernel.specs.kernel_invariant.declared.stopping.Stopped.TheVariants as reason
use Rattle.kernel_runs.specs.kernel_commit_facts.Lacking.{LacksBlocks}
use Rattle.kernel_runs.specs.kernel_commit_facts.Short.{AreWithin}
use Rattle.kernel_runs.specs.kernel_core_facts.Kernels.{Held, Lives}
use Rattle.open_kernel.specs.kernel_laws.Opening.{empty_script, with_script}
use Rattle.open_kernel.specs.kernel_invariant.Beginnings.{Beginning, state_after}
use Rattle.open_kernel.specs.store_facts.State.{books}
use Rattle.open_kernel.specs.kernel_invariant.Live.{IsRunning, KernelView}
use Rattle.command_source.specs.command_outcomes.Ends.{Gains, IsPut, LeavesBy}
use Rattle.command_source.specs.command_outcomes.Faults.{fault_line}
use Rattle.command_source.specs.command_outcomes.Seen.{Gave, SeenSink}
use Rattle.command_source.specs.command_outcomes.Statuses.{Ending, status_by}
use Rattle.command_source.specs.command_outcomes.declared.faults.Fault.{Fault}
use Rattle.command_source.specs.command_outcomes.declared.faults.Fault.TheVariants as fault
use Rattle.command_source.specs.command_outcomes.declared.statuses.Status.{Status}
use Rattle.command_promises.specs.Manners.{Manner, Telling, told}
use Rattle.command_promises.specs.Short.{IsShortOfBlocks}
use Rattle.edge_watched.specs.Watching.{IsAsAtStart, Start}

-- what a run that was stopped tells
abbrev pub fault_of_stop : Stopped → Fault
fault_of_stop (reason.NoBlocks n) = fault.NoBlocks n
fault_of_stop reason.ReadFault = fault.DiskFault
fault_of_stop reason.WriteFault = fault.DiskFault

-- the fault that a run met: why its kernel has stopped, or else that it lacked memory
abbrev pub fault_met : Option Stopped → Bool → Option Fault
fault_met (Some why) lacked = Some (fault_of_stop why)
fault_met None true = Some fault.Memory
fault_met None false = None

-- THE LINES of a run were put, and where it met a fault that of the fault behind them; the status says so
abbrev pub IsPutBy : Option Fault → SeenSink → Text → Status → Type 0
IsPutBy None sink bytes status = IsPut sink bytes status
IsPutBy (Some met) sink bytes status = (status ≡ status_by met) × Gains sink (bytes ++ fault_line met)

-- THE DISK IS HANDED IN as the start says, which says no more
pub record IsHandedIn {D : Type 0} (disks : Ghosts D) (s : Start) (disk : D) : Type 0 where
  pub is : IsAsAtStart disks s disk
  pub no_more : (c : Image) → s.may c → disks.may_leave disk c
  pub no_earlier : (t : ℕ) (c : Image) → s.left t c → disks.left_since disk t c

module _ {D : Type 0} (disks : Ghosts D) where
  -- THE KERNEL STANDS BEFORE the run: live in it as long as nobody is to be born
  pub record StartsRun (supply : Supply) (policy : Policy) (script : Tables) (k : Held D) (b : Beginning) : Type 0 where
    pub same_supply : b.supply ≡ supply
    pub same_policy : b.policy ≡ policy
    pub same_script : b.script ≡ script
    pub lives : Lives disks (with_script b (empty_script b.script.steps)) k

module _ {D : Type 0} (disks : Ghosts D) where
  -- A KERNEL HAS MADE this history, with these marks, and left this disk
  pub record HasRun (b : Beginning) (gave : Gave) (disk : D) : Type 0 where
    pub view : KernelView
    pub running : IsRunning b disks view disk
    pub history : view.history ≡ gave.history
    pub marks : view.marks ≡ gave.marks

  -- WHOLE: the history of a run that came to its end, and its lines were put
  pub record HasServed (manner : Manner) (b : Beginning) (gave : Gave) (disk : D) (Puts : Text → Type 0) : Type 0 where
    pub run : HasRun b gave disk
    pub whole : manner.whole b gave.history
    pub output : Puts (told manner.telling b gave.history)

  -- LEFT IN ITS MIDST: the history so far, of which this holds, its lines, and behind them that of the fault
  pub record WasLeftSo (telling : Telling) (so_far : Beginning → List Entry → Type 0) (b : Beginning) (sink : SeenSink) (gave : Gave) (disk : D) (fault : Fault) : Type 0 where
    pub run : HasRun b gave disk
    pub part : so_far b gave.history
    pub output : Gains sink (told telling b gave.history ++ fault_line fault)

  -- CUT SHORT: it was stopped
  abbrev pub WasCutShort : Manner → Beginning → SeenSink → Gave → D → Fault → Type 0
  WasCutShort manner = WasLeftSo manner.telling manner.part

  -- CUT SHORT for want of memory
  abbrev pub WasCutForMemory : Manner → Beginning → SeenSink → Gave → D → Type 0
  WasCutForMemory manner b sink gave disk = WasLeftSo manner.telling manner.lacking b sink gave disk fault.Memory

  -- CUT SHORT for want of blocks, of which the image has so many
  pub record WasCutForBlocks (manner : Manner) (b : Beginning) (count : ℕ) (sink : SeenSink) (gave : Gave) (disk : D) (n : NoBlocks) : Type 0 where
    pub cut : WasCutShort manner b sink gave disk (fault.NoBlocks n)
    pub short : IsShortOfBlocks manner.due b count gave.history n

  -- WHAT A RUN LEAVES OF ITS KERNEL, where it lacked memory or not: it is live; its history is that of a run that came to its end, or that was
  -- stopped, and for want of blocks only where the image lacks them; or memory ran out
  pub record EndsAs (manner : Manner) (b : Beginning) (lacked : Bool) (k : Held D) : Type 0 where
    pub lives : Lives disks b k
    pub over : k.stop ≡ None → lacked ≡ false → manner.whole b k.parts.noted.entries
    pub stopped : (why : Stopped) → k.stop ≡ Some why → manner.part b k.parts.noted.entries
    pub short : (n : NoBlocks) → k.stop ≡ Some (reason.NoBlocks n)
        → LacksBlocks b k.parts × manner.due b k.parts.noted.entries × AreWithin (state_after b k.parts.noted.entries) (books k.parts.store).count n
    pub lacking : k.stop ≡ None → lacked ≡ true → manner.lacking b k.parts.noted.entries

  module _ (manner : Manner) (starts : Beginning → Type 0) (rose : Type 0) (count : ℕ) (sink : SeenSink) (gave : Gave) (disk : D) where
    -- in each run that starts so, where the disk tells its content
    abbrev pub InEach : (Beginning → Type 0) → Type 0
    InEach P = disks.tells → (b : Beginning) → starts b → P b

    -- STOPPED by this fault
    abbrev pub StopsPlay : Fault → Type 0
    StopsPlay fault.DiskFault = rose × InEach (λ b. WasCutShort manner b sink gave disk fault.DiskFault)
    StopsPlay (fault.NoBlocks n) = InEach (λ b. WasCutForBlocks manner b count sink gave disk n)
    StopsPlay fault.Memory = manner.may_lack × InEach (λ b. WasCutForMemory manner b sink gave disk)
    StopsPlay fault = ⊥

    -- WHAT IT LEAVES, by how it ended
    abbrev pub PlayLeaves : Ending → Type 0
    PlayLeaves ending = LeavesBy sink (λ Puts. InEach (λ b. HasServed manner b gave disk Puts)) StopsPlay ending
