-- A byte goes on exactly where it is a digit, no lone zero stands before it, and the number stays small enough.
use Rattle.std.proofs.Common.{◌≡◌, ◌+◌, ◌-◌, ◌*◌, unwrap_or, ap, sym, ◌∙◌, arith}
use Rattle.std.specs.Fmt.{decimal}
use Rattle.base_instructions.proofs.Digits.{read_more, read_le, read_digit, read_not_zero, digit_from_test, no_digit_from_test, zero_from_test, not_zero_from_test, small_read}
use Rattle.base_instructions.proofs.numbers.with_digit.Goals as goal

pub returns-then-not-is_ascii_digit-clause-none : goal.returns-then-not-is_ascii_digit-clause-none
returns-then-not-is_ascii_digit-clause-none c = λ m rest le e.
    no_digit_from_test c.args.byte (sym c.is_ascii_digit.ensures.value ∙ c.if-not-is_ascii_digit.true) (read_digit c.args.found m c.args.byte rest (omega arith) e)

pub returns-then-eq-clause-none : goal.returns-then-eq-clause-none
returns-then-eq-clause-none c = λ m rest le e.
    read_not_zero c.args.found m c.args.byte rest (omega arith) e (zero_from_test c.args.found (sym c.eq.ensures ∙ c.if-eq.true))

pub returns-then-next-from-clause-some : goal.returns-then-next-from-clause-some
returns-then-next-from-clause-some c =
    let digit = digit_from_test c.args.byte (sym c.is_ascii_digit.ensures.value ∙ c.if-not-is_ascii_digit.false) in
    let is : c.from-tens.result * 10 + c.from-digit.result ≡ unwrap_or c.args.found 0 * 10 + (c.args.byte - 48) = omega arith in
    let more = read_more c.args.found c.args.byte (not_zero_from_test c.args.found (sym c.eq.ensures ∙ c.if-eq.false)) digit (omega arith) in
    (omega arith, ap decimal is ∙ more)

pub returns-else-next-from-clause-none : goal.returns-else-next-from-clause-none
returns-else-next-from-clause-none c = λ m rest le e.
    let least = read_le c.args.found m c.args.byte rest (small_read c.args.found c.args.greatest (omega arith) c.requires) (omega arith) e in
    omega arith
