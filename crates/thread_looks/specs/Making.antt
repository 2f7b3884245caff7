-- What a step by lent cells leaves of a kernel's parts, and what it comes to in a run.
use Rattle.std.specs.Prelude.{[], ◌∷◌, ◌++◌, Ok, Err, Result}
use Rattle.kernel_core_facts.specs.table_steps.declared.stepping.Made.{Made as Step}
use Rattle.kernel_core_facts.specs.table_steps.declared.stepping.StepFault.{StepFault}
use Rattle.kernel_core_facts.specs.table_steps.declared.stepping.StepFault.TheVariants as fault
use Rattle.kernel_core_facts.specs.kernel_commit_facts.Parts.{Noted}
use Rattle.kernel_core_facts.specs.kernel_invariant.declared.stopping.Stopped.{Stopped}
use Rattle.kernel_core_facts.specs.Stepping.{stop_by, IsOfOpen}
use Rattle.kernel_core_facts.specs.declared.looked.Looked.{Looked}
use Rattle.kernel_core_facts.specs.declared.looked.Looked.TheVariants.{Idle as IdleFor, Made}

-- WHAT CAME OF A STEP over the table: what the look came to, if it ends there, and what is noted
abbrev pub looked_by : Result Step StepFault → Result Looked Stopped
looked_by (Ok m) = Ok (Made m)
looked_by (Err (fault.Idle why)) = Ok (IdleFor why)
looked_by (Err (fault.Paging f)) = Err (stop_by f)

abbrev pub noted_by : Result Step StepFault → Noted → Noted
noted_by (Ok m) noted = record noted { entries = noted.entries ++ m.entry ∷ [] }
noted_by (Err f) noted = noted

-- the store was not shut
abbrev pub IsOpenly : Result Step StepFault → Type 0
IsOpenly (Ok m) = Unit {0}
IsOpenly (Err (fault.Idle why)) = Unit {0}
IsOpenly (Err (fault.Paging f)) = IsOfOpen f
