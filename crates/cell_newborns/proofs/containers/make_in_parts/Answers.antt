use Rattle.std.proofs.Common.{◌+◌, length, sym, ap, ◌∙◌}
use Rattle.cell_states.specs.model_kernel.Acts.{wanted}
use Rattle.cell_states.specs.model_kernel.Outcomes.{outcome}
use Rattle.cell_states.specs.model_kernel.State.{NotBorn, LocusCell}
use Rattle.cell_states.specs.act_alone.Loci.{locus_of}
use Rattle.cell_states.specs.Cells.{part_of}
use Rattle.cell_states.specs.declared.cells.Part.TheVariants as part
use Rattle.cell_newborns.specs.Bearing.{MakesNewborn}
use Rattle.cell_newborns.proofs.Newborns.{of_locus}
use Rattle.cell_newborns.proofs.containers.make_in_parts.Goals as goal

pub returns-clause-made : goal.returns-clause-made
returns-clause-made c me s words l a isl isa =
    let new = c.make_with_atlas.new in
    let here = ap (part_of s words) (c.in-Locus-Some.is ∙ ap part.Locus c.in-Locus-Some.field-0-is) in
    of_locus (λ l. MakesNewborn (outcome s l (wanted me l) a NotBorn) (LocusCell (locus_of new.locus)) (part_of s words new.atlas) (part_of s words new.newborn) (length a.containers + 1) c.make_with_atlas.result)
    (locus_of c.in-Locus-Some.locus) l (sym here ∙ isl) (c.make_with_atlas.ensures.made me s words a isa)
