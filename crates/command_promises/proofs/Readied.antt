-- The kernel of an image that a script fits, and the atlas that it lends.
use Rattle.std.proofs.Common.{◌≡◌, ◌⊎◌, inl, inr, ℕ, ◌<◌, ◌≤◌, List, get_or, length, slice_get, Some, None, refl, sym, subst, arith}
use Rattle.std.proofs.lemmas.Option.{slice_get_cases}
use Rattle.edge_disk.specs.declared.disk.Disk.{Ghosts}
use Rattle.model_serial.specs.model_births.Fitting.{Fits}
use Rattle.image_facts.specs.model_kernel.Scripts.{Script as Tables}
use Rattle.image_facts.specs.model_kernel.State.{AtlasState}
use Rattle.data_atlas_facts.specs.Directory.{Directory}
use Rattle.line_runs.specs.act_calls.Calls.{atlas_state}
use Rattle.kernel_runs.specs.cell_states.declared.cells.Cell.{Cell}
use Rattle.kernel_runs.specs.cell_states.declared.cells.Part.TheVariants as part
use Rattle.open_kernel.specs.table_laws.Tables.{state_in}
use Rattle.open_kernel.specs.kernel_record_facts.Cells.{words_on}
use Rattle.script_drill.specs.script_types.Rules.{IsScript}
use Rattle.kernel_runs.specs.table_births.Births.{atlas_state_in}
use Rattle.kernel_runs.proofs.table_births_lemmas.AtlasStates.{has_atlas, same_atlas}
use Rattle.kernel_runs.specs.kernel_core_facts.Kernels.{Held, Lives}
use Rattle.open_kernel.specs.kernel_laws.Opening.{empty_script, with_script}
use Rattle.open_kernel.specs.Starts.{Opens}
use Rattle.command_promises.specs.Openings.{HasOpened, Managers, run_from}
use Rattle.command_promises.specs.Ready.{IsReady}
use Rattle.edge_watched.specs.Handing.{next_moment}
use Rattle.edge_watched.proofs.Going.{ticks_next}

-- the atlas that a table of 64 cells lends is theirs
pub lent_atlas : (cs : List Cell) (d : Directory) → length cs ≡ 64 → ((c : Cell) → slice_get cs 0 ≡ Some c → c.part ≡ part.Atlas d) → atlas_state_in cs ≡ atlas_state d
lent_atlas cs d len lent = by (slice_get_cases cs 0).1
  where
    by : ((x : Cell) × (0 < length cs) × (slice_get cs 0 ≡ Some x) × (get_or cs 0 x ≡ x)) ⊎ ((length cs ≤ 0) × (slice_get cs 0 ≡ None)) → atlas_state_in cs ≡ atlas_state d
    by (inl (x, within, is, at)) = has_atlas cs d (record { cell = x; is = is; part = lent x is })
    by (inr (short, none)) = absurd (omega (arith, len, short))

module _ {D : Type 0} (disks : Ghosts D) (script : Tables) (old : D) (k : Held D) where
  -- it is ready for the script
  pub is_ready : IsScript script → Fits (atlas_state_in k.parts.cells) script → Opens disks script.steps old k → IsReady disks script old k
  is_ready rules fits opens = record { opened = opened; count = opens.image.count; synced = synced }
    where
      next : ℕ
      next = next_moment (disks.clock old)

      synced : next ≤ disks.clock k.parts.store.disk
      synced = opens.synced next (ticks_next (disks.clock old))

      opened : (m : Managers) → HasOpened m script (disks.reading old) (disks.clock old) (λ b. Lives disks (with_script b (empty_script b.script.steps)) k)
      opened m =
          let words = words_on (disks.reading old) in
          let state = state_in m.supply words k.parts.cells in
          record {
            state = state;
            means = opens.image.means m.supply;
            fits = subst (λ (a : AtlasState). Fits a script) (sym (same_atlas m.supply words k.parts.cells)) fits;
            run = λ low. opens.run (with_script (run_from m script state (disks.clock old)) (empty_script script.steps)) next (let some = rules.steps.0 in omega (arith, some)) refl (opens.image.means m.supply) low refl (ticks_next (disks.clock old)) (omega arith) synced;
          }
