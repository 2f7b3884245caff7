-- The atlas that the cells of a table have.
use Rattle.std.proofs.Common.{◌≡◌, ℕ, List, slice_get, Option, Some, None, refl, ap, ◌∙◌}
use Rattle.script_types.specs.model_kernel.State.{Supply}
use Rattle.script_types.specs.model_kernel.Steps.{atlas_in}
use Rattle.data_atlas.specs.data_atlas_facts.Directory.{Directory}
use Rattle.cell_births.specs.act_calls.Calls.{atlas_state}
use Rattle.cell_births.specs.act_alone.declared.loci.Head.{Head}
use Rattle.cell_births.specs.act_alone.declared.loci.Locus.{Locus}
use Rattle.cell_births.specs.cell_states.declared.cells.Cell.{Cell}
use Rattle.cell_births.specs.cell_states.declared.cells.Part.{Part}
use Rattle.cell_births.specs.cell_states.declared.cells.Part.TheVariants as part
use Rattle.cell_births.specs.cell_states.Cells.{container_cell, locus_cell, part_of}
use Rattle.table_steps.specs.table_laws.Steps.{HasDirectory}
use Rattle.table_steps.specs.table_laws.Tables.{entity_in, state_in}
use Rattle.table_births.specs.Births.{atlas_state_at, atlas_state_by, atlas_state_in}

module _ (s : Supply) (words : ℕ → List ℕ) where
  of_part : (p : Part) → atlas_in (part_of s words p) ≡ atlas_state_by p
  of_part (part.Atlas d) = refl
  of_part (part.Container b) = by b.head
    where
      by : (o : Option Head) → atlas_in (container_cell s words b.memory o) ≡ atlas_state_by (part.Container b)
      by (Some h) = refl
      by None = refl
  of_part (part.Locus l) = by l
    where
      by : (o : Option Locus) → atlas_in (locus_cell o) ≡ atlas_state_by (part.Locus l)
      by (Some k) = refl
      by None = refl

  at_zero : (o : Option Cell) → atlas_in (entity_in s words 0 o).cell ≡ atlas_state_at o
  at_zero (Some c) = of_part c.part
  at_zero None = refl

  -- the state's atlas is the cells'
  pub same_atlas : (cs : List Cell) → atlas_in (state_in s words cs 0).cell ≡ atlas_state_in cs
  same_atlas cs = at_zero (slice_get cs 0)

pub has_atlas : (cs : List Cell) (d : Directory) → HasDirectory cs d → atlas_state_in cs ≡ atlas_state d
has_atlas cs d has = ap atlas_state_at has.is ∙ ap atlas_state_by has.part
