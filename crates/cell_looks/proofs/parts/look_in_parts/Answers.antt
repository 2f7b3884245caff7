use Rattle.std.proofs.Common.{ℕ, Some, sym, ap, subst, ◌∙◌}
use Rattle.std.specs.Prelude.{◌↔◌, IsErrOf}
use Rattle.act_look.specs.edge_disk.declared.disk.NoBlocks.{NoBlocks}
use Rattle.act_look.specs.page_store.declared.faults.PageFault.TheVariants as fault
use Rattle.cell_states.specs.declared.cells.Part.{Part}
use Rattle.cell_states.specs.declared.cells.Part.TheVariants as part
use Rattle.cell_looks.specs.Looking.{IsLookShortIn}
use Rattle.cell_looks.proofs.parts.look_in_parts.Goals as goal

pub returns-clause-no_blocks : goal.returns-clause-no_blocks
returns-clause-no_blocks g c =
    subst (λ (p : Part). (n : NoBlocks) → IsErrOf c.look_at_part.result (fault.NoBlocks n) ↔ IsLookShortIn g.B.PageStore c.args.store.now p c.args.other.now n) (sym (c.in-Locus-Some.is ∙ ap part.Locus c.in-Locus-Some.field-0-is))
    c.look_at_part.ensures.no_blocks
