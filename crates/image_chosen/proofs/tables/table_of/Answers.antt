use Rattle.std.proofs.Common.{List, ℕ, subst, sym}
use Rattle.image_chosen_facts.specs.Tables.{IsTableOf}
use Rattle.image_chosen.proofs.Placing.{empty_table, no_pages}
use Rattle.image_chosen.proofs.tables.table_of.Goals as goal

pub returns-in_default : goal.returns-in_default
returns-in_default c = subst (λ (blocks : List ℕ). IsTableOf blocks c.new.result.0) (sym (no_pages c.args.part.now c.in_default.not-Container)) (empty_table c.new.result.0 c.new.ensures)
