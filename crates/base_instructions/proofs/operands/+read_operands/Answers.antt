use Rattle.std.proofs.Common.{◌≡◌, ◌+◌, arith}
use Rattle.std.proofs.lemmas.List.{take_rest}
use Rattle.base_instructions.proofs.Tails.{bad_blank, bad_operand, bad_later}
use Rattle.base_instructions.proofs.operands.+read_operands.Goals as goal

pub returns-in_default-strip_byte-clause-err : goal.returns-in_default-strip_byte-clause-err
returns-in_default-strip_byte-clause-err t c = rw c.in-Some.ensures.cases.0 (bad_blank _ _ _ c.in_default-strip_byte.ensures)

pub returns-in_default-operand-clause-err : goal.returns-in_default-operand-clause-err
returns-in_default-operand-clause-err t c =
    let n = c.read_operand-length.result.0 in
    let place : 1 + n ≡ n + 1 = omega arith in
    rw (c.in-Some.ensures.cases.0, c.in-Some-strip_byte.ensures, place) (bad_operand _ _ _ n (rw c.in_default-operand.is at c.read_operand-length.ensures))

pub returns-in-Err-clause-err : goal.returns-in-Err-clause-err
returns-in-Err-clause-err t c =
    let n = c.read_operand-length.result.0 in
    let place : 1 + n + c.in-Err.place ≡ n + c.in-Err.place + 1 = omega arith in
    rw (c.in-Some.ensures.cases.0, c.in-Some-strip_byte.ensures, place) (bad_later _ _ _ n c.in-Err.place _ (rw c.in-Some-operand.is at c.read_operand-length.ensures) (rw take_rest at c.in-Err.ensures.err))
