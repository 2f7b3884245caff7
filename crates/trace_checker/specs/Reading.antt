-- The fault that a checker tells of a line.
use Rattle.std.specs.Prelude.{◌≡◌, ℕ, List, None, Some, codes}
use Rattle.base_types.specs.declared.histories.Entry.{Entry}
use Rattle.model_clocks.specs.model_kernel.Histories.{Policy}
use Rattle.model_clocks.specs.model_kernel.Scripts.{Script}
use Rattle.model_clocks.specs.model_kernel.State.{KernelState, Supply, Text}
use Rattle.trace_facts.specs.trace_steps.Standing.{Stands}
use Rattle.trace_facts.specs.trace_step_facts.Standing.{run_of}
use Rattle.trace_facts.specs.trace_steps.declared.checker.Checker.{Checker}
use Rattle.trace_facts.specs.Traces.{GoesWrong}
use Rattle.trace_checker.specs.declared.faults.TraceFault.{TraceFault}
use Rattle.trace_checker.specs.declared.faults.TraceFault.TheVariants.{At, Memory}
use Rattle.trace_facts.specs.Reading.{StopsAt, SpellsNone}

-- in the line of this number
abbrev pub IsStop : Supply → Policy → Script → Checker → Text → ℕ → TraceFault → Type 0
IsStop s policy script old text number (At line want shown) =
    (line ≡ number) × ((w : KernelState) (es : List Entry) → Stands s policy script w old es → StopsAt s policy script (run_of s script w es) text want shown.bytes)
IsStop s policy script old text number Memory = Unit {0}

-- the fault tells this line, and that it wants no entry
abbrev pub IsUnwanted : ℕ → TraceFault → Type 0
IsUnwanted number (At line want shown) = (line ≡ number) × (want ≡ None) × (shown.bytes ≡ codes "none")
IsUnwanted number Memory = ⊥

-- or that it wants this one
abbrev pub IsPlayedFault : ℕ → Entry → Text → TraceFault → Type 0
IsPlayedFault number e text (At line want shown) = (line ≡ number) × (want ≡ Some e) × (shown.bytes ≡ text)
IsPlayedFault number e text Memory = ⊥

-- what is told of a trace that goes wrong
abbrev pub IsFault : Supply → Policy → KernelState → Script → Text → TraceFault → Type 0
IsFault s policy w script trace (At line want text) = GoesWrong s policy w script trace line want text.bytes × SpellsNone s policy w script trace
IsFault s policy w script trace Memory = Unit {0}
