use Rattle.std.proofs.Common.{◌∙◌, None, subst, sym}
use Rattle.page_memory.specs.declared.paged.PagedMemory.{PagedMemory}
use Rattle.kernel_record_facts.specs.cell_states.declared.cells.Part.TheVariants as kernel
use Rattle.table_opened.specs.Opened.{IsChosenPart}
use Rattle.table_opened.proofs.OnePart.{unborn_atlas, unborn_container}
use Rattle.table_opened.proofs.parts.unborn_part.Goals as goal

pub returns-in-Atlas : goal.returns-in-Atlas
returns-in-Atlas c = unborn_atlas c.args.frames c.args.x c.new.result (sym c.kind.ensures ∙ c.in-Atlas.is) c.new.ensures

pub returns-in_ok-new-in-Container : goal.returns-in_ok-new-in-Container
returns-in_ok-new-in-Container c =
    subst (λ (m : PagedMemory). IsChosenPart c.args.frames c.args.x None (kernel.Container (record { head = None; memory = m }))) (sym c.in_ok-new-in-Container.ensures)
    (unborn_container c.args.frames c.args.x (sym c.kind.ensures ∙ c.in-Container.is))
