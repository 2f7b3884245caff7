-- A verdict on a trace, and how a command ends with it.
use Rattle.std.specs.Prelude.{◌≡◌, ℕ, Err, Ok, Result, ⊤}
use Rattle.plain_states.specs.model_kernel.Scripts.{Script as Tables}
use Rattle.plain_states.specs.model_kernel.State.{KernelState, Text}
use Rattle.plain_states.specs.model_kernel.Steps.{atlas_in}
use Rattle.command_promises.specs.image_meaning.Foreign.{IsForeign}
use Rattle.script_types.specs.declared.refusals.ScriptFault.TheVariants.{Refused}
use Rattle.trace_checker.specs.trace_facts.Reading.{SpellsNone}
use Rattle.trace_checker.specs.declared.faults.TraceFault.{TraceFault}
use Rattle.trace_checker.specs.declared.faults.TraceFault.TheVariants as checked
use Rattle.trace_checker.specs.trace_step_facts.Standing.{Managers}
use Rattle.trace_checker.specs.trace_facts.Traces.{GoesWrong, Spells}
use Rattle.command_outcomes.specs.Ends.{Gains, IsEmpty, IsPut, IsUnrun}
use Rattle.command_outcomes.specs.Faults.{wrong_line}
use Rattle.command_outcomes.specs.Seen.{Gave, SeenDisk, SeenSink}
use Rattle.command_outcomes.specs.Statuses.{status_by}
use Rattle.command_outcomes.specs.declared.faults.Fault.{Fault}
use Rattle.command_outcomes.specs.declared.faults.Fault.TheVariants.{Script, Foreign, DiskFault, Memory}
use Rattle.command_outcomes.specs.declared.statuses.Status.TheVariants.{TraceWrong}
use Rattle.command_promises.specs.TraceLeaving.{ok_line}
use Rattle.command_promises.specs.Traces.{HasMisfit, IsLegal, IsWrong}
use Rattle.command_check_trace.specs.declared.judging.Verdict.{Verdict}
use Rattle.command_check_trace.specs.declared.judging.Verdict.TheVariants.{Legal, Wrong, Stopped}
use Rattle.command_promises.specs.model_births.Fitting.{Fits}
use Rattle.command_promises.specs.model_births.Misfits.{IsMisfit}

-- what a check comes to
abbrev pub verdict_of : Result ℕ TraceFault → Verdict
verdict_of (Ok lines) = Legal lines
verdict_of (Err (checked.At line want text)) = Wrong line want text
verdict_of (Err checked.Memory) = Stopped Memory

-- FROM THIS STATE the verdict is right
module _ (m : Managers) (script : Tables) (trace : Text) (w : KernelState) where
  abbrev pub IsFitFault : Fault → Type 0
  IsFitFault (Script refusal) = IsMisfit (atlas_in (w 0).cell) script (Refused refusal)
  IsFitFault Memory = ⊤
  IsFitFault fault = ⊥

  abbrev pub IsVerdict : Verdict → Type 0
  IsVerdict (Legal lines) = Fits (atlas_in (w 0).cell) script × Spells m.word m.wish w script trace lines
  IsVerdict (Wrong line want text) = Fits (atlas_in (w 0).cell) script × GoesWrong m.word m.wish w script trace line want text.bytes × SpellsNone m.word m.wish w script trace
  IsVerdict (Stopped fault) = IsFitFault fault

-- FROM THE STATE THAT THE IMAGE MEANS it is, or there is none
module _ (m : Managers) (script : Tables) (trace : Text) (disk : SeenDisk) where
  abbrev pub StopsJudging : Fault → Type 0
  StopsJudging (Script refusal) = HasMisfit m script disk refusal
  StopsJudging (Foreign block place) = disk.tells → IsForeign disk.before.reading (record { block = block; place = place })
  StopsJudging DiskFault = disk.rose
  StopsJudging Memory = ⊤
  StopsJudging fault = ⊥

  abbrev pub IsJudged : Verdict → Type 0
  IsJudged (Legal lines) = IsLegal m script disk trace lines
  IsJudged (Wrong line want text) = IsWrong m script disk trace line want text.bytes
  IsJudged (Stopped fault) = StopsJudging fault

-- THE COMMAND ENDS with the verdict
abbrev pub EndsWith : SeenSink → Gave → Verdict → Type 0
EndsWith sink gave (Legal lines) = IsEmpty gave × IsPut sink (ok_line lines) gave.status
EndsWith sink gave (Wrong line want text) = IsEmpty gave × (gave.status ≡ TraceWrong line want) × Gains sink (wrong_line line text.bytes)
EndsWith sink gave (Stopped fault) = IsUnrun sink gave fault × (gave.status ≡ status_by fault)
