-- The loop ends where no digit goes on, or at the end.
use Rattle.std.proofs.Common.{take, ap, ◌∙◌, arith}
use Rattle.base_instructions.proofs.Digits.{number_ends}
use Rattle.base_instructions.proofs.numbers.read_number.Goals as goal

pub returns-in-None : goal.returns-in-None
returns-in-None c =
    number_ends c.args.greatest c.args.bytes.now _ c.loop-length.found (omega arith) c.loop-length.invariant.0 c.loop-length.invariant.1 (omega arith)
    (λ l m rest le e. c.in-None.ensures.none m rest le e)

pub returns : goal.returns
returns c =
    number_ends c.args.greatest c.args.bytes.now _ c.loop-length.found (omega arith) c.loop-length.invariant.0
    (c.loop-length.invariant.1 ∙ ap (λ k. take k c.args.bytes.now) (omega arith)) (omega arith) (λ l. absurd (omega arith))
