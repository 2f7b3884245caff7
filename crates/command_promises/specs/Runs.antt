-- A run: its history, its lines, and where it was stopped.
use Rattle.std.specs.Prelude.{List, ◌++◌}
use Rattle.base_types.specs.declared.histories.Entry.{Entry}
use Rattle.image_facts.specs.model_kernel.Output.{output_of}
use Rattle.image_facts.specs.model_kernel.State.{Text}
use Rattle.open_kernel.specs.kernel_invariant.Beginnings.{Beginning, IsLegal}
use Rattle.command_source.specs.command_outcomes.Ends.{Gains}
use Rattle.command_source.specs.command_outcomes.Faults.{fault_line}
use Rattle.command_source.specs.command_outcomes.Seen.{Gave, SeenDisk, SeenSink}
use Rattle.command_source.specs.command_outcomes.declared.faults.Fault.{Fault}
use Rattle.command_source.specs.command_outcomes.declared.faults.Fault.TheVariants.{Memory}
use Rattle.command_promises.specs.Keeping.{IsKept}
use Rattle.command_promises.specs.Manners.{Manner, Telling, told}

-- their printed lines
abbrev pub printed : Beginning → List Entry → Text
printed b es = told output_of b es

-- THE RUN: a legal one of the abstract kernel, and what is kept of it
pub record IsRun (b : Beginning) (disk : SeenDisk) (gave : Gave) : Type 0 where
  pub legal : IsLegal b gave.history
  pub kept : IsKept b disk gave

-- WHOLE: the history is that of a run that came to its end, and its lines were put
pub record IsServed (manner : Manner) (b : Beginning) (disk : SeenDisk) (gave : Gave) (Puts : Text → Type 0) : Type 0 where
  pub run : IsRun b disk gave
  pub whole : manner.whole b gave.history
  pub output : Puts (told manner.telling b gave.history)

-- LEFT IN ITS MIDST: the history so far, of which this holds, its lines, and behind them that of the fault
pub record IsLeftSo (telling : Telling) (so_far : Beginning → List Entry → Type 0) (b : Beginning) (disk : SeenDisk) (sink : SeenSink) (gave : Gave) (fault : Fault) : Type 0 where
  pub run : IsRun b disk gave
  pub part : so_far b gave.history
  pub output : Gains sink (told telling b gave.history ++ fault_line fault)

-- CUT SHORT: it was stopped
abbrev pub IsCutShort : Manner → Beginning → SeenDisk → SeenSink → Gave → Fault → Type 0
IsCutShort manner = IsLeftSo manner.telling manner.part

-- CUT SHORT for want of memory
abbrev pub IsCutForMemory : Manner → Beginning → SeenDisk → SeenSink → Gave → Type 0
IsCutForMemory manner b disk sink gave = IsLeftSo manner.telling manner.lacking b disk sink gave Memory
