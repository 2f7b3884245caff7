-- What a drill leaves, from what the run of its script leaves.
use Rattle.std.proofs.Common.{◌≡◌, inl, inr, ℕ, refl, subst, arith}
use Rattle.std.proofs.lemmas.List.Elements.{All-nil}
use Rattle.edge_disk.specs.declared.disk.NoBlocks.{NoBlocks}
use Rattle.script_drill.specs.Drill.{drill}
use Rattle.base_managers.specs.Managing.{AreScriptManagers, IsManagerTable, ManagerTables}
use Rattle.image_facts.specs.model_kernel.Scripts.{Script as Tables}
use Rattle.image_facts.specs.model_kernel.State.{KernelState}
use Rattle.image_facts.specs.model_kernel.Steps.{atlas_in}
use Rattle.image_format.proofs.image_meaning_lemmas.Firsts.{not_both}
use Rattle.image_format.proofs.image_meaning_lemmas.Ones.{one_meaning}
use Rattle.command_source.specs.command_outcomes.Ends.{IsUnrun}
use Rattle.command_source.specs.command_outcomes.Seen.{Gave, SeenDisk, SeenSink}
use Rattle.command_source.specs.command_outcomes.Statuses.{Ending, IsComplete, Stopped, Unput, Whole, Wrong, ending, status_by}
use Rattle.command_source.specs.command_outcomes.declared.faults.Fault.TheVariants as fault
use Rattle.command_source.specs.command_outcomes.declared.statuses.Status.{Status}
use Rattle.command_source.specs.command_outcomes.declared.statuses.Status.TheVariants as status
use Rattle.command_source.proofs.command_outcomes_lemmas.Endings.{fault_ends}
use Rattle.script_drill.specs.script_types.declared.refusals.Refusal.{Refusal}
use Rattle.command_promises.specs.Openings.{Managers}
use Rattle.command_promises.specs.Ready.{HasMisfit}
use Rattle.model_serial.specs.model_births.Fitting.{Fits}
use Rattle.command_promises.specs.Manners.{serial}
use Rattle.command_promises.specs.Runs.{IsServed}
use Rattle.command_promises.specs.Booked.{none_brought, over}
use Rattle.command_promises.specs.Drilling.{CanDrill, DrillLeaves, StopsDrill}
use Rattle.command_promises.specs.OfScript.{InRun, ScriptLeaves}
use Rattle.command_promises.specs.Tellings.{summary_of}

-- no managers are brought
pub none_allowed : AreScriptManagers none_brought
none_allowed = record {
  supply = record { few = omega arith; each = All-nil (IsManagerTable 9223372036854775807); different = tt };
  policy = record { few = omega arith; each = All-nil (IsManagerTable 1000000); different = tt };
}

module _ (m : Managers) (number : ℕ) (sink : SeenSink) (disk : SeenDisk) (gave : Gave) where
  of_script : (e : Ending) → ScriptLeaves (serial summary_of) m (drill number) sink disk gave e → DrillLeaves m number sink disk gave e
  of_script Whole h = h
  of_script Unput h = h
  of_script (Stopped (fault.Script refusal)) h = h
  of_script (Stopped (fault.Foreign block place)) h = h
  of_script (Stopped fault.DiskFault) h = h
  of_script (Stopped fault.Memory) (inl h) = (h.0, inr h.1)
  of_script (Stopped fault.Memory) (inr h) = absurd h.0
  of_script (Stopped (fault.NoBlocks n)) h = h
  of_script (Stopped fault.Usage) h = absurd h
  of_script (Stopped fault.Source) h = absurd h
  of_script (Wrong line want) h = absurd h

  -- by the tables of the script that was drawn, and the managers that it brings
  pub drill_leaves : (brought : ManagerTables) (script : Tables) (e : Ending) → brought ≡ none_brought → script ≡ drill number → ScriptLeaves (serial summary_of) (over brought m) script sink disk gave e
      → DrillLeaves m number sink disk gave e
  drill_leaves brought script e none is h =
      of_script e (subst (λ (t : Tables). ScriptLeaves (serial summary_of) m t sink disk gave e) is (subst (λ (ms : ManagerTables). ScriptLeaves (serial summary_of) (over ms m) script sink disk gave e) none h))

  -- memory ran out for the script
  pub no_memory : (s : Status) → s ≡ status_by fault.Memory → IsUnrun sink gave fault.Memory → disk.same → DrillLeaves m number sink disk gave (ending s)
  no_memory s is unrun same = fault_ends sink (λ Puts. InRun m (drill number) disk (λ b. IsServed (serial summary_of) b disk gave Puts)) (StopsDrill m number sink disk gave) s fault.Memory is (unrun, inl same)

  -- A DRILL that can be run is run, unless the disk or the sink fails, memory runs out, or blocks are too few
  module _ (can : CanDrill m number disk) where
    not_misfit : (refusal : Refusal) → HasMisfit (drill number) disk refusal → ⊥
    not_misfit refusal misfit =
        let means = misfit.state can.told m.supply in
        let one : can.state ≡ means.0 = one_meaning m.supply disk.before.reading can.state means.0 can.means means.1 in
        means.2.unfit (subst (λ (v : KernelState). Fits (atlas_in (v 0).cell) (drill number)) one can.fits)

    pub complete : (s : Status) → DrillLeaves m number sink disk gave (ending s) → (disk.rose → ⊥) → (sink.rose → ⊥) → ((n : NoBlocks) → s ≡ status.BlocksFull n → ⊥) → IsComplete s
    complete status.Done leaves calm taken blocks = inl refl
    complete status.Memory leaves calm taken blocks = inr refl
    complete status.SinkFault leaves calm taken blocks = absurd (taken leaves.1)
    complete status.DiskFault leaves calm taken blocks = absurd (calm leaves.0)
    complete (status.BlocksFull n) leaves calm taken blocks = absurd (blocks n refl)
    complete (status.Script refusal) leaves calm taken blocks = absurd (not_misfit refusal leaves.1)
    complete (status.Foreign block place) leaves calm taken blocks = absurd (not_both disk.before.reading _ can.means.accepted (leaves.1 can.told).0)
    complete status.SourceFault leaves calm taken blocks = absurd leaves
    complete status.Usage leaves calm taken blocks = absurd leaves
    complete (status.TraceWrong line want) leaves calm taken blocks = absurd leaves
