-- A cell may be let go behind the record of any.
use Rattle.std.proofs.Common.{◌≡◌, ℕ, List, Some, slice_get, subst, ◌∙◌}
use Rattle.std.specs.Prelude.{OnOk, Result, ⊤}
use Rattle.edge_disk.specs.declared.disk.Disk.{Ghosts}
use Rattle.base_types.specs.declared.histories.Entry.{Entry}
use Rattle.thread_stables.specs.kernel_core_facts.kernel_commit_facts.Parts.{Parts}
use Rattle.thread_stables.specs.kernel_core_facts.kernel_commit_facts.Recording.{HasRecorded}
use Rattle.thread_stables.specs.kernel_core_facts.kernel_commits.Recording.{Fails}
use Rattle.thread_stables.specs.kernel_core_facts.kernel_invariant.Beginnings.{Beginning}
use Rattle.thread_stables.specs.kernel_core_facts.kernel_invariant.declared.stopping.Stopped.{Stopped}
use Rattle.thread_stables.specs.kernel_core_facts.store_facts.State.{books}
use Rattle.thread_stables.specs.kernel_core_facts.table_laws.Tables.{IsOrderly}
use Rattle.thread_desk_stables.specs.Rows.{LetsGo}
use Rattle.thread_stables.proofs.thread_settling_lemmas.States.{KeepsState, record_keeps}

module _ {D : Type 0} (disks : Ghosts D) (spoken : Type 0) (b : Beginning) (kept : List Entry) (old new : Parts D) where
  lets_by : KeepsState disks old new → (known : List Entry) → LetsGo disks spoken b kept known old → LetsGo disks spoken b kept known new
  lets_by keeps known lets = record {
    known = record {
      order = record { held = (books new.store).held; orderly = keeps.orderly };
      state = λ told x. keeps.state (lets.tells told) b.supply (lets.clean (lets.tells told)) x ∙ lets.known.state told x;
    };
    tells = lets.tells;
    clean = λ told. keeps.clean told b.supply (lets.clean told);
  }

  pub lets_again : (x : ℕ) → IsOrderly (books old.store).held old.cells → (r : Result ⊤ Stopped) → OnOk r (HasRecorded disks x old new) → Fails disks x r old new
      → (known : List Entry) → LetsGo disks spoken b kept known old → LetsGo disks spoken b kept known new
  lets_again x ord r recorded fails = lets_by (record_keeps disks x old new ord r recorded fails)
