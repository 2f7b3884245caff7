use Rattle.std.proofs.Common.{arith}
use Rattle.image_chosen.proofs.Placing.{empty_table, zero_table}
use Rattle.image_chosen.proofs.tables.filled.Goals as goal

pub loop-page-init : goal.loop-page-init
loop-page-init c =
    let table = c.new-table.result.0 in
    record {
      long = (empty_table table c.new-table.ensures).long;
      below = λ page lt. absurd (omega (arith, lt));
      above = λ page le. zero_table table page c.new-table.ensures;
    }
