-- What the check of a trace tells, from the state that an image means.
use Rattle.std.specs.Prelude.{ℕ, Option}
use Rattle.base_types.specs.declared.histories.Entry.{Entry}
use Rattle.image_facts.specs.model_kernel.Scripts.{Script as Tables}
use Rattle.image_facts.specs.model_kernel.State.{KernelState, Text}
use Rattle.image_facts.specs.model_kernel.Steps.{atlas_in}
use Rattle.image_format.specs.image_meaning.Meaning.{Means}
use Rattle.script_drill.specs.script_types.declared.refusals.Refusal.{Refusal}
use Rattle.script_drill.specs.script_types.declared.refusals.ScriptFault.TheVariants.{Refused}
use Rattle.trace_checker.specs.trace_facts.Reading.{SpellsNone}
use Rattle.trace_checker.specs.trace_step_facts.Standing.{Managers}
use Rattle.trace_checker.specs.trace_facts.Traces.{GoesWrong, Spells}
use Rattle.command_source.specs.command_outcomes.Seen.{SeenDisk}
use Rattle.model_serial.specs.model_births.Fitting.{Fits}
use Rattle.model_serial.specs.model_births.Misfits.{IsMisfit}

module _ (m : Managers) (script : Tables) (disk : SeenDisk) where
  -- the image means this state, of which this holds
  pub record OfState (P : KernelState → Type 0) : Type 0 where
    pub state : KernelState
    pub means : Means m.word disk.before.reading state
    pub holds : P state

  -- THE SCRIPT DOESN'T FIT the state, for this reason, the first; where the disk tells its content
  abbrev pub HasMisfit : Refusal → Type 0
  HasMisfit refusal = disk.tells → OfState (λ w. IsMisfit (atlas_in (w 0).cell) script (Refused refusal))

  module _ (trace : Text) where
    -- THE TRACE IS THAT OF A LEGAL HISTORY with so many entries, of the script, which fits the state
    abbrev pub IsLegal : ℕ → Type 0
    IsLegal lines = disk.tells → OfState (λ w. Fits (atlas_in (w 0).cell) script × Spells m.word m.wish w script trace lines)

    -- THE TRACE GOES WRONG in this line, which wants this entry, or none; so it is that of no legal history
    abbrev pub IsWrong : ℕ → Option Entry → Text → Type 0
    IsWrong line want text = disk.tells → OfState (λ w. Fits (atlas_in (w 0).cell) script × GoesWrong m.word m.wish w script trace line want text × SpellsNone m.word m.wish w script trace)
