use Rattle.std.proofs.Common.{arith}
use Rattle.std.proofs.lemmas.Option.{slice_get-get_or}
use Rattle.std.proofs.Common.{get_or}
use Rattle.table_laws.proofs.Facing.{other_apart}
use Rattle.table_steps.proofs.besides.go_beside.Goals as goal

pub go_beside_higher-requires-clause-higher : goal.go_beside_higher-requires-clause-higher
go_beside_higher-requires-clause-higher c =
    let cs = c.args.cells.now in
    let is = slice_get-get_or cs c.args.other c.requires.planned.cell (let small = c.number.ensures.small in let len = c.requires.order.orderly.numbers.len in omega (arith, small, len, c.number.ensures.number)) in
    let apart = other_apart c.requires.order.held cs c.requires.order.orderly c.args.me c.args.other c.args.instr c.requires.planned (get_or cs c.args.other c.requires.planned.cell) is in
    omega arith
