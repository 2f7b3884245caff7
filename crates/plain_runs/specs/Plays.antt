-- What a run of a script made.
use Rattle.std.specs.Prelude.{◌≡◌, ℕ, ◌<◌, Bool, true, false, List, ◌++◌, length}
use Rattle.base_types.specs.declared.histories.Entry.{Entry}
use Rattle.plain_steps.specs.model_kernel.Histories.{IsLegalRun, never}
use Rattle.plain_steps.specs.model_kernel.Output.{output_of}
use Rattle.plain_steps.specs.model_kernel.Scripts.{Script}
use Rattle.plain_steps.specs.model_kernel.Serial.{IsSerial, IsSerialFront}
use Rattle.plain_steps.specs.model_kernel.Soundness.{IsSound}
use Rattle.plain_steps.specs.model_kernel.State.{Supply, Cell, KernelState, empty_state}
use Rattle.plain_steps.specs.model_kernel.Steps.{atlas_in}
use Rattle.plain_runs.specs.Standing.{Stands}
use Rattle.plain_steps.specs.plain_facts.Standing.{run_from}
use Rattle.plain_runs.specs.declared.serial.SerialRun.{SerialRun}

-- the lines that these entries print by the names in this cell are those by the names that the run with them has
abbrev pub PrintsAsRun : Supply → Script → KernelState → Cell → List Entry → Type 0
PrintsAsRun s script w cell es = output_of (atlas_in cell) es ≡ output_of (atlas_in ((run_from s script w es).state 0).cell) es

-- THE PLAY of a script from the empty state, so far: a legal run, a front of the serial history, and its lines by these cells
pub record IsPlay (s : Supply) (script : Script) (cells : ℕ → Cell) (es : List Entry) : Type 0 where
  pub legal : IsLegalRun s never empty_state script es
  pub front : IsSerialFront s script empty_state es
  pub printed : PrintsAsRun s script empty_state (cells 0) es
  pub sound : IsSound cells

-- RUNS THAT GO ON

-- some entries more were made, wherever the run was
abbrev pub Makes : Supply → Script → SerialRun → SerialRun → Type 0
Makes s script old new = (w : KernelState) → (es : List Entry) → Stands s script w old es → (fs : List Entry) × Stands s script w new (es ++ fs)

-- the entries of a replay: as many as were wanted, or fewer, and then the serial history is over
abbrev pub IsReplayed : Supply → Script → KernelState → ℕ → Bool → List Entry → List Entry → Type 0
IsReplayed s script w entries true es fs = length fs ≡ entries
IsReplayed s script w entries false es fs = (length fs < entries) × IsSerial s script w (es ++ fs)

-- a replay of so many entries, wherever the run was
abbrev pub Replays : Supply → Script → ℕ → Bool → SerialRun → SerialRun → Type 0
Replays s script entries whole old new = (w : KernelState) → (es : List Entry) → Stands s script w old es → (fs : List Entry) × IsReplayed s script w entries whole es fs × Stands s script w new (es ++ fs)

-- the history is that of the run, and stays it
abbrev pub Records : Supply → Script → SerialRun → List Entry → SerialRun → List Entry → Type 0
Records s script old es new fs = (w : KernelState) → Stands s script w old es → Stands s script w new fs
