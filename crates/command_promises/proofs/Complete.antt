-- A run that can be made is made, unless the source, the disk or the sink fails, memory runs out, or blocks are too few.
use Rattle.std.proofs.Common.{◌≡◌, inl, inr, Option, Some, Ok, Err, refl, sym, ap, subst, ◌∙◌}
use Rattle.std.specs.Prelude.{IfSome, string_bytes}
use Rattle.edge_disk.specs.declared.disk.NoBlocks.{NoBlocks}
use Rattle.model_serial.specs.model_births.Fitting.{Fits}
use Rattle.image_facts.specs.model_kernel.Scripts.{Script as Tables}
use Rattle.image_facts.specs.model_kernel.State.{KernelState, Text}
use Rattle.image_facts.specs.model_kernel.Steps.{atlas_in}
use Rattle.image_format.proofs.image_meaning_lemmas.Firsts.{not_both}
use Rattle.image_format.proofs.image_meaning_lemmas.Ones.{one_meaning}
use Rattle.base_managers.specs.Managing.{ManagerTables}
use Rattle.script_drill.specs.script_types.declared.refusals.Refusal.{Refusal}
use Rattle.script_meaning.specs.Meaning.{Source}
use Rattle.script_meaning.specs.Reading.{Reading}
use Rattle.command_source.specs.Sources.{IsAccepted, IsRefusal}
use Rattle.command_source.specs.command_outcomes.Seen.{Call, Gave}
use Rattle.command_source.specs.command_outcomes.Statuses.{IsComplete, ending}
use Rattle.command_source.specs.command_outcomes.declared.statuses.Status.{Status}
use Rattle.command_source.specs.command_outcomes.declared.statuses.Status.TheVariants as status
use Rattle.command_promises.specs.Openings.{Managers}
use Rattle.command_promises.specs.Manners.{Manner}
use Rattle.command_promises.specs.Booked.{over}
use Rattle.command_promises.specs.Leaving.{CanRun, IsRefused, RunLeaves}

-- what holds of bytes that may be known holds of the known ones
pub of_known : (left : Option Text) (bytes : Text) (P : Text → Type 0) → left ≡ Some bytes → IfSome left P → P bytes
of_known left bytes P is h = subst (λ (o : Option Text). IfSome o P) is h

abbrev script_in : Tables → Reading Source → Tables
script_in other (Ok source) = source.script.tables
script_in other (Err blame) = other

-- a source stands for one script
one_script : (bytes : Text) (script other : Tables) (brought others : ManagerTables) → IsAccepted bytes script brought → IsAccepted bytes other others → script ≡ other
one_script bytes script other brought others a b = ap (script_in script) (sym a.1 ∙ b.1)

-- and for none if it is refused
not_refused : (bytes : Text) (script : Tables) (brought : ManagerTables) (refusal : Refusal) → IsAccepted bytes script brought → IsRefusal bytes refusal.why (string_bytes refusal.key) → ⊥
not_refused bytes script brought refusal accepted refuses = (let same = sym accepted.1 ∙ refuses in absurd (cc))

module _ (manner : Manner) (m : Managers) (call : Call) (gave : Gave) (can : CanRun m call) where
  pub not_misfit : (refusal : Refusal) → IsRefused call refusal → ⊥
  not_misfit refusal (inl source) = not_refused can.bytes can.script can.brought refusal can.accepted (of_known call.source.before can.bytes (λ bytes. IsRefusal bytes refusal.why (string_bytes refusal.key)) can.known source.0)
  not_misfit refusal (inr (other, others, read, misfit)) =
      let same : can.script ≡ other = one_script can.bytes can.script other can.brought others can.accepted (of_known call.source.before can.bytes (λ b. IsAccepted b other others) can.known read.accepted) in
      let supply = (over can.brought m).supply in
      let means = misfit.state can.told supply in
      let one : can.state ≡ means.0 = one_meaning supply call.disk.before.reading can.state means.0 can.means means.1 in
      means.2.unfit (subst (λ (t : Tables). Fits (atlas_in (means.0 0).cell) t) same (subst (λ (v : KernelState). Fits (atlas_in (v 0).cell) can.script) one can.fits))

  pub complete : (s : Status) → RunLeaves manner m call gave (ending s) → (call.source.rose → ⊥) → (call.disk.rose → ⊥) → (call.sink.rose → ⊥) → ((n : NoBlocks) → s ≡ status.BlocksFull n → ⊥) → IsComplete s
  complete status.Done leaves source disk sink blocks = inl refl
  complete status.Memory leaves source disk sink blocks = inr refl
  complete status.SinkFault leaves source disk sink blocks = absurd (sink leaves.1)
  complete status.DiskFault leaves source disk sink blocks = absurd (disk leaves.0)
  complete status.SourceFault leaves source disk sink blocks = absurd (source leaves.0)
  complete (status.BlocksFull n) leaves source disk sink blocks = absurd (blocks n refl)
  complete (status.Script refusal) leaves source disk sink blocks = absurd (not_misfit refusal leaves.1)
  complete (status.Foreign block place) leaves source disk sink blocks = absurd (not_both call.disk.before.reading _ can.means.accepted (leaves.2 can.told).0)
  complete status.Usage leaves source disk sink blocks = absurd leaves
  complete (status.TraceWrong line want) leaves source disk sink blocks = absurd leaves
