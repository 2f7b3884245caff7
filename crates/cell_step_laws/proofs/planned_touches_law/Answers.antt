use Rattle.std.proofs.Common.{ap, ◌∙◌}
use Rattle.act_atlas_laws.specs.act_alone.Loci.{locus_of}
use Rattle.cell_newborns.specs.cell_states.Cells.{part_of}
use Rattle.cell_step_laws.proofs.Noted.{made}
use Rattle.cell_step_laws.proofs.Touched.{plan_writes}
use Rattle.cell_step_laws.proofs.planned_touches_law.Goals as goal

pub returns : goal.returns
returns c s words w v e cell i r x planned has is h =
    plan_writes s cell.clock.entity w e (locus_of planned.locus) i r x (made s cell.clock.entity w v e is) (has.part ∙ ap (part_of s words) planned.runs.is) planned.wants h
