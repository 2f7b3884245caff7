-- A verdict from each state that may be the image's is one from the image.
use Rattle.std.proofs.Common.{◌≡◌, ℕ, List, Result, Ok, Err, IfErr, IfOk, ap, sym, subst, refl, arith}
use Rattle.edge_disk.specs.Image.{Image}
use Rattle.plain_states.specs.Events.{state_with}
use Rattle.plain_states.specs.Plains.{atlas_of, cells_of}
use Rattle.plain_states.specs.declared.plain.Plain.{Plain}
use Rattle.plain_states.specs.model_kernel.Scripts.{Script as Tables}
use Rattle.plain_states.specs.model_kernel.State.{AtlasState, KernelState, Text}
use Rattle.plain_states.specs.model_kernel.Steps.{atlas_in}
use Rattle.image_reading.specs.image_blocks.Checks.{Bad}
use Rattle.command_promises.specs.image_meaning.Foreign.{IsForeign}
use Rattle.image_reading.specs.image_shown_facts.Facts.{MeansState}
use Rattle.image_reading.specs.log_reading.declared.faults.ReadingFault.{ReadingFault}
use Rattle.image_reading.specs.log_reading.declared.faults.ReadingFault.TheVariants as reading
use Rattle.image_reading.proofs.image_state_laws_lemmas.Meant.{meant_state}
use Rattle.script_types.specs.declared.refusals.ScriptFault.{ScriptFault}
use Rattle.script_types.specs.declared.refusals.ScriptFault.TheVariants as refusal
use Rattle.trace_checker.specs.trace_step_facts.Standing.{Managers}
use Rattle.trace_checker.specs.Reading.{IsFault}
use Rattle.trace_checker.specs.declared.faults.TraceFault.{TraceFault}
use Rattle.trace_checker.specs.declared.faults.TraceFault.TheVariants as checked
use Rattle.trace_checker.specs.trace_facts.Traces.{Begins, Spells}
use Rattle.command_outcomes.specs.Faults.{fault_of_reading, fault_of_script}
use Rattle.command_outcomes.specs.Seen.{SeenDisk}
use Rattle.command_outcomes.specs.declared.faults.Fault.{Fault}
use Rattle.command_outcomes.specs.declared.faults.Fault.TheVariants.{Script, Memory}
use Rattle.command_check_trace.specs.Verdicts.{IsFitFault, IsJudged, IsVerdict, StopsJudging, verdict_of}
use Rattle.command_check_trace.specs.declared.judging.Verdict.{Verdict}
use Rattle.command_check_trace.specs.declared.judging.Verdict.TheVariants.{Legal, Wrong, Stopped}
use Rattle.command_promises.specs.model_births.Fitting.{Fits}
use Rattle.command_promises.specs.model_births.Misfits.{IsMisfit}

-- the atlas of a state with these cells
pub same_atlas : (m : Managers) (plain : Plain) (versions : List ℕ) (w : KernelState) → Begins w (cells_of m.word plain) versions → atlas_in (w 0).cell ≡ atlas_of plain.atlas
same_atlas m plain versions w begins = ap atlas_in (begins.cells 0)

-- why a script doesn't fit it
pub fit_fault : (m : Managers) (script : Tables) (trace : Text) (w : KernelState) (a : AtlasState) → atlas_in (w 0).cell ≡ a → (f : ScriptFault) → IsMisfit a script f → IsFitFault m script trace w (fault_of_script f)
fit_fault m script trace w a same (refusal.Refused r) misfit = subst (λ (b : AtlasState). IsMisfit b script (refusal.Refused r)) (sym same) misfit
fit_fault m script trace w a same refusal.Memory misfit = tt

-- SOME STATE has these cells and versions
fresh_begins : (m : Managers) (plain : Plain) (versions : List ℕ) → Begins (state_with (cells_of m.word plain) versions (λ _ _. 0)) (cells_of m.word plain) versions
fresh_begins m plain versions = record { cells = λ x. refl; versions = λ x. refl; clocks = λ x y. omega arith }

-- and so has the image's
meant_begins : (m : Managers) (image : Image) (plain : Plain) (versions : List ℕ) (means : MeansState m.word image plain versions) → Begins means.state (cells_of m.word plain) versions
meant_begins m image plain versions means = record { cells = means.has.cells; versions = means.has.numbers; clocks = (meant_state m.word image means.state means.means).below }

module _ (m : Managers) (script : Tables) (trace : Text) (disk : SeenDisk) (plain : Plain) (versions : List ℕ)
    (means : disk.tells → MeansState m.word disk.before.reading plain versions) where
  abbrev Verdicts : Verdict → Type 0
  Verdicts v = (w : KernelState) → Begins w (cells_of m.word plain) versions → IsVerdict m script trace w v

  -- what holds from each such state holds from none less
  from_some : (v : Verdict) → Verdicts v → IsVerdict m script trace (state_with (cells_of m.word plain) versions (λ _ _. 0)) v
  from_some v each = each (state_with (cells_of m.word plain) versions (λ _ _. 0)) (fresh_begins m plain versions)

  stopped : (fault : Fault) → Verdicts (Stopped fault) → StopsJudging m script trace disk fault
  stopped (Script r) each = λ told. (let is = means told in record { state = is.state; means = is.means; holds = each is.state (meant_begins m disk.before.reading plain versions is) })
  stopped Memory each = tt
  stopped fault each = absurd (from_some (Stopped fault) each)

  pub judged : (v : Verdict) → Verdicts v → IsJudged m script trace disk v
  judged (Legal lines) each = λ told. (let is = means told in record { state = is.state; means = is.means; holds = each is.state (meant_begins m disk.before.reading plain versions is) })
  judged (Wrong line want text) each = λ told. (let is = means told in record { state = is.state; means = is.means; holds = each is.state (meant_begins m disk.before.reading plain versions is) })
  judged (Stopped fault) each = stopped fault each

-- WHAT A CHECK COMES TO, of a script that fits
pub told : (m : Managers) (script : Tables) (trace : Text) (w : KernelState) (a : AtlasState) → atlas_in (w 0).cell ≡ a → Fits a script → (r : Result ℕ TraceFault) → IfOk r (Spells m.word m.wish w script trace)
    → IfErr r (IsFault m.word m.wish w script trace) → IsVerdict m script trace w (verdict_of r)
told m script trace w a same fits (Ok lines) spells wrong = (subst (λ (b : AtlasState). Fits b script) (sym same) fits, spells)
told m script trace w a same fits (Err (checked.At line want text)) spells wrong = (subst (λ (b : AtlasState). Fits b script) (sym same) fits, wrong.0, wrong.1)
told m script trace w a same fits (Err checked.Memory) spells wrong = tt

-- WHY AN IMAGE WAS NOT READ
pub unread : (m : Managers) (script : Tables) (trace : Text) (disk : SeenDisk) (f : ReadingFault) → (disk.tells → (bad : Bad) → f ≡ reading.Foreign bad → IsForeign disk.before.reading bad) → (f ≡ reading.ReadFault → disk.rose)
    → StopsJudging m script trace disk (fault_of_reading f)
unread m script trace disk (reading.Foreign bad) foreign cause = λ told. foreign told bad refl
unread m script trace disk reading.ReadFault foreign cause = cause refl
unread m script trace disk reading.Memory foreign cause = tt
