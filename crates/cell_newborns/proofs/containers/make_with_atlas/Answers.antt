use Rattle.std.proofs.Common.{◌+◌, length, sym, ap, ◌∙◌}
use Rattle.cell_states.specs.model_kernel.Acts.{wanted}
use Rattle.cell_states.specs.model_kernel.Outcomes.{outcome}
use Rattle.cell_states.specs.model_kernel.State.{NotBorn, AtlasCell, LocusCell}
use Rattle.base_types.specs.declared.histories.Answer.TheVariants.{Reply as Replied}
use Rattle.cell_states.specs.act_alone.Loci.{locus_of}
use Rattle.cell_states.specs.act_calls.Calls.{atlas_state}
use Rattle.cell_states.specs.Cells.{part_of}
use Rattle.cell_newborns.specs.Bearing.{MakesNewborn}
use Rattle.cell_newborns.proofs.Newborns.{of_atlas}
use Rattle.cell_newborns.proofs.containers.make_with_atlas.Goals as goal

pub returns-clause-made : goal.returns-clause-made
returns-clause-made c me s words a isa =
    let new = c.make_part.new in
    let l = locus_of c.args.locus.now in
    let here = ap (part_of s words) c.in-Atlas.is in
    of_atlas (λ a. MakesNewborn (outcome s l (wanted me l) a NotBorn) (LocusCell (locus_of new.locus)) (AtlasCell (atlas_state new.atlas)) (part_of s words new.newborn) (length a.containers + 1) (Replied c.make_part.result))
    (atlas_state c.in-Atlas.directory) a (sym here ∙ isa) (c.make_part.ensures.made me s words)
