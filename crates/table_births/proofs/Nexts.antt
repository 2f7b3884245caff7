-- The table that is next over the cells, and what its birth leaves of the progress.
use Rattle.std.proofs.Common.{◌≡◌, ℕ, ◌+◌, Bool, List, length, None, unwrap_or, is_some, option_map, option_and_then, sym, ap, subst, ◌∙◌}
use Rattle.base_types.specs.declared.histories.Entry.{Entry}
use Rattle.base_types.specs.declared.histories.Event.TheVariants.{Birth}
use Rattle.script_types.specs.model_kernel.Births.{birth_named, next_birth, next_birth_change}
use Rattle.script_types.specs.model_kernel.Changes.{Change, carried}
use Rattle.script_types.specs.model_kernel.Scripts.{ContainerTable, LocusTable, Script, next_name}
use Rattle.script_types.specs.model_kernel.State.{KernelState, Supply}
use Rattle.script_types.specs.model_kernel.Steps.{atlas_in}
use Rattle.script_types.specs.Rules.{IsScript}
use Rattle.cell_births.specs.model_births.Fitting.{Fits}
use Rattle.data_atlas.specs.data_atlas_facts.Directory.{Directory, IsDirectory, entity_named}
use Rattle.cell_births.specs.act_calls.Calls.{atlas_state}
use Rattle.cell_births.proofs.act_atlas_laws_lemmas.NameLaws.{numbers_same}
use Rattle.cell_births.specs.cell_states.declared.cells.Cell.{Cell}
use Rattle.cell_births.specs.script_fits.NextTables.{AreBornBefore, IsNextContainer, IsNextLocus, IsNextTable}
use Rattle.cell_births.specs.script_fits.declared.tables.NextTable.{NextTable}
use Rattle.cell_births.specs.script_fits.declared.tables.Progress.{Progress}
use Rattle.cell_births.proofs.act_atlas_laws_lemmas.ByKind.{container_number}
use Rattle.cell_births.proofs.script_fits_lemmas.Staying.{progress_stays}
use Rattle.cell_births.specs.Bearing.{MayBearContainer, MayBearLocus}
use Rattle.cell_births.proofs.Readiness.{may_bear_container, may_bear_locus}
use Rattle.table_steps.specs.table_laws.Steps.{HasDirectory}
use Rattle.table_steps.specs.table_laws.Tables.{IsOrderly, state_in}
use Rattle.table_steps.proofs.table_laws_lemmas.Having.{no_supply, no_words}
use Rattle.table_steps.proofs.table_laws_lemmas.Facing.{cells}
use Rattle.table_steps.proofs.table_laws_lemmas.FacingAtlas.{directory_sound}
use Rattle.table_births.specs.Births.{BearsQuietly, NoBirthLeft, atlas_state_in}
use Rattle.table_births.proofs.AtlasStates.{has_atlas, same_atlas}

-- WHAT MAY BE BORN
module _ (held : ℕ → Bool) (cs : List Cell) (orderly : IsOrderly held cs) (script : Script) (rules : IsScript script) (fits : Fits (atlas_state_in cs) script) (d : Directory) (has : HasDirectory cs d) where
  fits_here : Fits (atlas_state d) script
  fits_here = subst (λ a. Fits a script) (has_atlas cs d has) fits

  pub next_container : (t : ContainerTable) → IsNextContainer (atlas_state_in cs) script t → MayBearContainer d t (length d.containers + 1)
  next_container t next =
      may_bear_container script d (cells held cs orderly) t rules fits_here (directory_sound held cs orderly d has) (subst (λ a. IsNextContainer a script t) (has_atlas cs d has) next)

  pub next_locus : (t : LocusTable) → IsNextLocus (atlas_state_in cs) script t → (host : ℕ) × MayBearLocus d t host (length d.loci + 41)
  next_locus t next =
      may_bear_locus script d (cells held cs orderly) t rules fits_here (directory_sound held cs orderly d has) (subst (λ a. IsNextLocus a script t) (has_atlas cs d has) next)

-- what is next by the directory is next by the cells
pub next_here : (script : Script) (cs : List Cell) (d : Directory) (next : NextTable) → HasDirectory cs d → IsNextTable (atlas_state d) script next → IsNextTable (atlas_state_in cs) script next
next_here script cs d next has is = subst (λ a. IsNextTable a script next) (sym (has_atlas cs d has)) is

-- the number that is found for the host is the host's
pub host_found : (d : Directory) (t : LocusTable) (host n : ℕ) → IsDirectory d → MayBearLocus d t host n → unwrap_or (entity_named d t.host) 0 ≡ host
host_found d t host n names may = ap (λ o. unwrap_or o 0) (numbers_same d t.host ∙ (container_number d t.host host names may.hosted).named)

-- NOTHING IS LEFT
pub none_left : (script : Script) (cs : List Cell) → next_name (atlas_state_in cs) script ≡ None → NoBirthLeft script cs
unfolding next_birth_change
none_left script cs none = record {
  next = none;
  birth = no_birth;
  over = λ s words r at. ap (λ (w : KernelState). is_some (next_name (atlas_in (w 0).cell) script)) at ∙ ap is_some (none_in s words);
}
  where
    none_in : (s : Supply) (words : ℕ → List ℕ) → next_name (atlas_in (state_in s words cs 0).cell) script ≡ None
    none_in s words = ap (λ a. next_name a script) (same_atlas s words cs) ∙ none

    no_birth : (s : Supply) (words : ℕ → List ℕ) → next_birth s script (state_in s words cs) ≡ None
    no_birth s words =
        let w = state_in s words cs in
        ap (λ o. option_map (λ (c : ℕ × Change). carried w Birth c.0 c.1) (option_and_then (λ name. birth_named s script name w (atlas_in (w 0).cell)) o)) (none_in s words)

-- PROGRESS
pub progress_after : (script : Script) (cs cs' : List Cell) (e : Entry) (p : Progress) → IsScript script → BearsQuietly script cs cs' e → AreBornBefore (atlas_state_in cs) script p → AreBornBefore (atlas_state_in cs') script p
progress_after script cs cs' e p rules bears before =
    subst (λ a. AreBornBefore a script p) (same_atlas no_supply no_words cs')
    (progress_stays no_supply script (state_in no_supply no_words cs) (e, state_in no_supply no_words cs') p rules (bears.bears no_supply no_words).birth
    (subst (λ a. AreBornBefore a script p) (sym (same_atlas no_supply no_words cs)) before))
