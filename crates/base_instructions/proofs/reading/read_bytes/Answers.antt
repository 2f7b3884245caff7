use Rattle.std.proofs.Common.{arith}
use Rattle.std.proofs.lemmas.List.{take_rest}
use Rattle.base_instructions.proofs.Lines.{bad_word, bad_tail, line_read, few_kinds}
use Rattle.base_instructions.proofs.reading.read_bytes.Goals as goal

pub returns-in_default-clause-bad : goal.returns-in_default-clause-bad
returns-in_default-clause-bad c = bad_word c.args.bytes.now _ (rw c.in_default.is at c.read_word-length.ensures)

pub read_operands-requires : goal.read_operands-requires
read_operands-requires c =
    let word = rw c.in-Some.is at c.read_word-length.ensures in
    rw (c.new-operands.ensures, c.form_at.ensures.kinds) (omega (arith, few_kinds c.in-Some.code word.whole.0))

pub returns-in-Ok-clause-read : goal.returns-in-Ok-clause-read
returns-in-Ok-clause-read c =
    let word = rw c.in-Some.is at c.read_word-length.ensures in
    rw (c.build.ensures, c.as_slice.ensures.value)
    (line_read c.args.bytes.now c.read_word-length.result.0 c.in-Some.code _ word (rw (c.form_at.ensures.kinds, take_rest, c.new-operands.ensures) at c.in-Ok.ensures.ok))

pub returns-in-Err-clause-bad : goal.returns-in-Err-clause-bad
returns-in-Err-clause-bad c =
    let word = rw c.in-Some.is at c.read_word-length.ensures in
    bad_tail c.args.bytes.now c.read_word-length.result.0 c.in-Err.place c.in-Some.code word (rw (c.form_at.ensures.kinds, take_rest) at c.in-Err.ensures.err)
