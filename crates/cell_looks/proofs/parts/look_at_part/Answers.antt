use Rattle.std.proofs.Common.{ℕ, Some, sym, subst}
use Rattle.std.specs.Prelude.{◌↔◌, IsErrOf}
use Rattle.act_look.specs.edge_disk.declared.disk.NoBlocks.{NoBlocks}
use Rattle.act_look.specs.page_store.declared.faults.PageFault.TheVariants as fault
use Rattle.cell_states.specs.declared.cells.Part.{Part}
use Rattle.cell_states.specs.declared.cells.Part.TheVariants as part
use Rattle.cell_looks.specs.Looking.{IsLookShortIn, TurnsPart}
use Rattle.cell_looks.proofs.parts.look_at_part.Goals as goal

pub returns-clause-no_blocks : goal.returns-clause-no_blocks
returns-clause-no_blocks g c =
    subst (λ (p : Part). (n : NoBlocks) → IsErrOf c.look_at_storage.result (fault.NoBlocks n) ↔ IsLookShortIn g.B.PageStore c.args.store.now (part.Locus (Some c.args.locus.now)) p n) (sym c.in-Container.is)
    c.look_at_storage.ensures.no_blocks

pub returns-clause-turned : goal.returns-clause-turned
returns-clause-turned g c =
    subst (λ (p : Part). (n : NoBlocks) → IsErrOf c.look_at_storage.result (fault.NoBlocks n) → TurnsPart p (part.Container c.look_at_storage.new.storage)) (sym c.in-Container.is)
    c.look_at_storage.ensures.turned
