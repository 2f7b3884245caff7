-- Before the births: a kernel that has done nothing yet goes on with a script.
use Rattle.std.proofs.Common.{◌≡◌, List, [], length, Option, None, refl, sym, ap, subst, ◌∙◌, arith}
use Rattle.edge_disk.specs.declared.disk.Disk.{Ghosts}
use Rattle.base_types.specs.declared.histories.Entry.{Entry}
use Rattle.table_births.specs.model_kernel.Scripts.{Script}
use Rattle.table_births.specs.model_kernel.State.{AtlasState, KernelState}
use Rattle.table_births.specs.model_kernel.Steps.{atlas_in}
use Rattle.table_births.specs.script_types.Rules.{IsScript}
use Rattle.table_births.specs.model_births.Fitting.{Fits}
use Rattle.kernel_commits.specs.model_serial_turns.Turns.{IsBearing}
use Rattle.kernel_commits.proofs.model_serial_turns_lemmas.Bearing.{begins}
use Rattle.table_births.specs.table_laws.Tables.{AreClean, IsOrderly, state_in}
use Rattle.kernel_commits.specs.kernel_record_facts.Cells.{words_on}
use Rattle.kernel_commits.specs.store_facts.State.{books}
use Rattle.kernel_commits.specs.kernel_invariant.Beginnings.{Beginning, BeginsRight, state_after}
use Rattle.kernel_commits.specs.kernel_invariant.Live.{IsRunning}
use Rattle.kernel_commits.specs.kernel_invariant.declared.stopping.Stopped.{Stopped}
use Rattle.kernel_commits.specs.kernel_laws.Opening.{empty_script, with_script}
use Rattle.kernel_commits.proofs.kernel_laws_lemmas.Starting.{script_runs}
use Rattle.kernel_commits.specs.kernel_views.Views.{view_of}
use Rattle.table_births.specs.Births.{atlas_state_in}
use Rattle.table_births.proofs.AtlasStates.{same_atlas}
use Rattle.kernel_core_facts.specs.Bearing.{IsInBirths, RunsInBirths}
use Rattle.kernel_commits.specs.kernel_commit_facts.Parts.{Parts}
use Rattle.kernel_commits.specs.kernel_commit_facts.Steady.{IsSteady, entries_taken}

pub in_births_first : {D : Type 0} (disks : Ghosts D) (p : Parts D) → p.noted.entries ≡ [] → IsSteady disks p → IsInBirths disks p
in_births_first disks p first k = record {
  steady = k;
  few = (let none : length p.noted.entries ≡ 0 = ap (λ (es : List Entry). length es) first in omega (arith, none));
  room = (let room = k.few.room in let taken : entries_taken p.noted.entries ≡ 200 = ap entries_taken first in omega (arith, room, taken));
}

module _ {D : Type 0} (disks : Ghosts D)
    (b : Beginning) (script : Script) (same : b.script ≡ script) (rules : IsScript script) (p : Parts D) (first : p.noted.entries ≡ []) (fits : Fits (atlas_state_in p.cells) script) where
  abbrev without : Beginning
  without = with_script b (empty_script b.script.steps)

  module _ (stop : Option Stopped)
      (r : IsRunning without disks (view_of disks.reading b p.cells p.store p.noted.entries p.noted.marks stop) p.store.disk) where
    state : state_in b.supply (words_on (disks.reading p.store.disk)) p.cells ≡ b.state
    state = r.follows.state ∙ ap (λ (es : List Entry). state_after without es) first

    at : atlas_state_in p.cells ≡ atlas_in (b.state 0).cell
    at = sym (same_atlas b.supply (words_on (disks.reading p.store.disk)) p.cells) ∙ ap (λ (w : KernelState). atlas_in (w 0).cell) state

    pub fits_there : Fits (atlas_in (b.state 0).cell) b.script
    fits_there = subst (λ (a : AtlasState). Fits a b.script) at (subst (λ (q : Script). Fits (atlas_state_in p.cells) q) (sym same) fits)

    right : BeginsRight b
    right = record {
      script = subst IsScript (sym same) rules;
      names = fits_there.kinds.containers;
      sound = r.begins.sound;
      unwritten = r.begins.unwritten;
      small = r.begins.small;
    }

    -- also where it has stopped
    pub goes_on_with : IsRunning b disks (view_of disks.reading b p.cells p.store p.noted.entries p.noted.marks stop) p.store.disk
    goes_on_with = script_runs without disks (view_of disks.reading b p.cells p.store p.noted.entries p.noted.marks stop) p.store.disk b.script right refl first r

  pub begins_births : IsRunning without disks (view_of disks.reading b p.cells p.store p.noted.entries p.noted.marks None) p.store.disk
      → IsOrderly (books p.store).held p.cells → AreClean b.supply (words_on (disks.reading p.store.disk)) p.cells → RunsInBirths disks b p
  begins_births r orderly clean = record {
    stands = record { runs = goes_on_with None r; orderly = orderly; clean = clean };
    among = record {
      fits = fits_there None r;
      next = λ _. subst (IsBearing b.supply b.script b.state) (sym first) (begins b.supply b.script b.state);
      over = λ _ some. absurd (some first);
    };
  }
