-- What the births leave of a kernel, whatever came of their Stable.
use Rattle.std.proofs.Common.{◌≡◌, ℕ, List, [], ◌++◌, Option, None, Some, Ok, Err, refl, sym, ap, subst, ◌∙◌}
use Rattle.std.specs.Prelude.{IfErr, IsErrOf, OnOk, Result, ⊤}
use Rattle.std.specs.Result.{result_err}
use Rattle.edge_disk.specs.declared.disk.Disk.{Ghosts}
use Rattle.edge_disk.specs.Counts.{Rose}
use Rattle.edge_disk.specs.declared.disk.NoBlocks.{NoBlocks}
use Rattle.base_types.specs.declared.histories.Entry.{Entry}
use Rattle.table_births.specs.model_kernel.Scripts.{Script}
use Rattle.table_births.specs.script_types.Rules.{IsScript}
use Rattle.table_births.specs.model_births.Fitting.{Fits}
use Rattle.table_births.specs.table_laws.Tables.{IsOrderly}
use Rattle.kernel_commits.specs.store_facts.State.{books}
use Rattle.table_births.specs.Births.{atlas_state_in}
use Rattle.kernel_commits.specs.kernel_laws.Opening.{empty_script, with_script}
use Rattle.kernel_commits.specs.kernel_invariant.Beginnings.{Beginning}
use Rattle.kernel_core_facts.specs.Bearing.{OpensRun, RunsInBirths}
use Rattle.kernel_core_facts.specs.Kernels.{Held, IsKept, Lives, NotesAlong}
use Rattle.kernel_commits.specs.kernel_commit_facts.Lacking.{LacksIn}
use Rattle.kernel_commits.specs.kernel_commit_facts.Parts.{Parts}
use Rattle.kernel_commits.specs.kernel_commit_facts.Pieces.{StopsIn}
use Rattle.kernel_commits.specs.model_serial.Serial.{opening}
use Rattle.kernel_commits.proofs.Telling.{err_of_kept, when_stopped}
use Rattle.kernel_commits.specs.kernel_commit_facts.Steady.{IsSteady}
use Rattle.kernel_commits.specs.Stops.{LeavesStopped}
use Rattle.kernel_commits.specs.kernel_invariant.declared.stopping.Stopped.{Stopped}
use Rattle.kernel_commits.specs.kernel_invariant.declared.stopping.Stopped.TheVariants as reason
use Rattle.kernel_core_facts.proofs.Begun.{begins_births, goes_on_with}
use Rattle.kernel_core_facts.proofs.Kept.{while_going}

pub failed_rose : {D : Type 0} (faults : D → ℕ) (P : NoBlocks → Type 0) (old new : Parts D) (result : Result ⊤ Stopped) → IfErr result (LeavesStopped faults P old new) → IsErrOf result reason.WriteFault → Rose (faults old.store.disk) (faults new.store.disk)
failed_rose faults P old new (Ok u) stop is = absurd (cc is)
failed_rose faults P old new (Err reason.WriteFault) stop is = stop.cause
failed_rose faults P old new (Err reason.ReadFault) stop is = stop.cause
failed_rose faults P old new (Err (reason.NoBlocks n)) stop is = absurd (cc is)

module _ {D : Type 0} (disks : Ghosts D) where
  orderly_by : (P : NoBlocks → Type 0) (old new : Parts D) (result : Result ⊤ Stopped) → OnOk result (IsSteady disks new) → IfErr result (LeavesStopped disks.faults P old new) → IsOrderly (books new.store).held new.cells
  orderly_by P old new (Ok u) steady stopped = steady.sound.matches.orderly
  orderly_by P old new (Err why) steady stopped = stopped.orderly

  pub births_kept : (P : NoBlocks → Type 0) (old new : Parts D) (result : Result ⊤ Stopped) → OnOk result (IsSteady disks new) → IfErr result (LeavesStopped disks.faults P old new)
      → (o : Option Stopped) → o ≡ result_err result → IsKept disks (record { parts = new; stop = o })
  births_kept P old new result steady stopped o is = record { orderly = orderly_by P old new result steady stopped; steady = while_going result steady o is }

  -- IN A RUN

  abbrev IsLiving : Beginning → Parts D → Option Stopped → Type 0
  IsLiving b p o = Lives disks b (record { parts = p; stop = o })

  pub opened_lives : (b : Beginning) (new : Parts D) (result : Result ⊤ Stopped) → OpensRun disks b result new → (o : Option Stopped) → o ≡ result_err result → IsLiving b new o
  opened_lives b new (Err why) l o is = subst (IsLiving b new) (sym is) (record { live = l.lives; clean = λ none. absurd (cc none) })
  opened_lives b new (Ok u) l o is = subst (IsLiving b new) (sym is) (record {
    live = record { running = l.stands.runs; calm = λ _. l.calm };
    clean = λ _. l.stands.clean;
  })

  -- what was noted of the opening, by the kernel as it is left
  pub births_along : (b : Beginning) (old : Held D) (new : Parts D) → old.parts.noted.entries ≡ [] → (result : Result ⊤ Stopped) → OpensRun disks b result new
      → (o : Option Stopped) → o ≡ result_err result → NotesAlong disks b (opening b.supply b.script b.state) old (record { parts = new; stop = o })
  births_along b old new first result l o is = record {
    whole = λ going. while_going result l.complete o is going ∙ sym (ap (λ (es : List Entry). es ++ opening b.supply b.script b.state) first);
    part = λ why kept. subst (λ (es : List Entry). StopsIn b (opening b.supply b.script b.state) es new.noted.entries) (sym first) (when_stopped result l.part o is why kept);
    enough = λ n kept. subst (λ (es : List Entry). LacksIn disks b n (opening b.supply b.script b.state) es new) (sym first) (l.enough n (err_of_kept result o is (reason.NoBlocks n) kept));
  }

  -- a kernel that nothing is noted of, and its parts
  module _ (b : Beginning) (script : Script) (same : b.script ≡ script) (rules : IsScript script) (p : Parts D) (stop : Option Stopped) (k : Held D) (view : record { parts = p; stop = stop } ≡ k)
      (first : k.parts.noted.entries ≡ []) (fits : Fits (atlas_state_in k.parts.cells) script) (lives : Lives disks (with_script b (empty_script b.script.steps)) k) where
    nothing : p.noted.entries ≡ []
    nothing = ap (λ (q : Held D). q.parts.noted.entries) view ∙ first

    fits_parts : Fits (atlas_state_in p.cells) script
    fits_parts = subst (λ (q : Held D). Fits (atlas_state_in q.parts.cells) script) (sym view) fits

    was : (o : Option Stopped) → stop ≡ o → IsLiving (with_script b (empty_script b.script.steps)) p o
    was o is = subst (IsLiving (with_script b (empty_script b.script.steps)) p) is (subst (Lives disks (with_script b (empty_script b.script.steps))) (sym view) lives)

    -- before the births
    pub first_births : IsSteady disks p → stop ≡ None → RunsInBirths disks b p
    first_births steady is =
        let l = was None is in
        begins_births disks b script same rules p nothing fits_parts l.live.running steady.sound.matches.orderly (l.clean refl)

    -- a kernel that has stopped is live in the run, too
    pub stopped_lives : (why : Stopped) → stop ≡ Some why → Lives disks b k
    stopped_lives why is = subst (Lives disks b) (ap (λ o. record { parts = p; stop = o }) (sym is) ∙ view) (record {
      live = record {
        running = goes_on_with disks b script same rules p nothing fits_parts (Some why) (was (Some why) is).live.running;
        calm = λ none. absurd (cc none);
      };
      clean = λ none. absurd (cc none);
    })
