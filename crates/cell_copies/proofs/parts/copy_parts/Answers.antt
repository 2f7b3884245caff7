use Rattle.std.proofs.Common.{◌≡◌, sym, ap, ◌∙◌}
use Rattle.data_atlas.specs.data_atlas_facts.Directory.{Directory}
use Rattle.cell_births.specs.act_calls.Calls.{atlas_state}
use Rattle.cell_births.specs.cell_states.declared.cells.Part.{Part}
use Rattle.cell_births.specs.cell_states.declared.cells.Part.TheVariants as part
use Rattle.model_copies.specs.Copies.{copied_atlas}
use Rattle.model_copies.specs.model_kernel.State.{AtlasCell}
use Rattle.cell_copies.proofs.parts.copy_parts.Goals as goal

-- the directory of an atlas, and else this one
directory_in : Directory → Part → Directory
directory_in d (part.Atlas a) = a
directory_in d (part.Container b) = d
directory_in d (part.Locus l) = d

pub returns-clause-atlas : goal.returns-clause-atlas
unfolding directory_in
returns-clause-atlas c d h from isd source s words =
    let same : c.in-Atlas.directory ≡ d = ap (directory_in d) (sym c.in-Atlas.is ∙ isd) in
    ap AtlasCell (c.copy_from.ensures.atlas h from source ∙ ap (λ (x : Directory). copied_atlas (atlas_state x) c.args.fresh.now c.args.number h.regions) same)
