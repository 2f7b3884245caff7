use Rattle.std.proofs.Common.{Option, subst, sym}
use Rattle.image_chosen_facts.specs.image_fits.Chosen.{part_in}
use Rattle.image_chosen_facts.specs.Tables.{IsTableOf, blocks_in}
use Rattle.image_chosen.proofs.Placing.{empty_table}
use Rattle.image_chosen.proofs.tables.table_for.Goals as goal

pub returns-in-None : goal.returns-in-None
returns-in-None c = subst (λ (o : Option _). IsTableOf (blocks_in (part_in o)) c.new.result.0) (sym c.in-None.is) (empty_table c.new.result.0 c.new.ensures)
