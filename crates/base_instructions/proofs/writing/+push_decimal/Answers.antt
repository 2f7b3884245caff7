-- The last digit comes behind the number without it.
use Rattle.std.proofs.Common.{◌+◌, ◌/◌, ◌%◌, ◌++◌, ◌∷◌, [], length, ap, sym, ◌∙◌, arith, length-append, append_assoc}
use Rattle.std.specs.Fmt.{decimal}
use Rattle.std.proofs.lemmas.Fmt.{decimal_digit, decimal_step}
use Rattle.base_instructions.proofs.writing.+push_decimal.Goals as goal

pub push_byte-requires-clause-room : goal.push_byte-requires-clause-room
push_byte-requires-clause-room t c = omega (arith, ap length (decimal_digit c.args.n c.if-n-lt10.true))

pub returns-then-n-lt10 : goal.returns-then-n-lt10
returns-then-n-lt10 t c = c.push_byte.ensures ∙ ap (λ z. c.args.out.now.bytes ++ z) (sym (decimal_digit c.args.n c.if-n-lt10.true))

pub push_decimal-requires : goal.push_decimal-requires
push_decimal-requires t c =
    let step = decimal_step c.args.n c.if-n-lt10.false c.ranges.n.fits in
    (omega arith, omega (arith, ap length step, length-append (decimal (c.args.n / 10)) ((48 + c.args.n % 10) ∷ [])))

pub push_byte-requires-2-clause-room : goal.push_byte-requires-2-clause-room
push_byte-requires-2-clause-room t c =
    let step = decimal_step c.args.n c.if-n-lt10.false c.ranges.n.fits in
    omega (arith, ap length step, length-append (decimal (c.args.n / 10)) ((48 + c.args.n % 10) ∷ []), ap length c.push_decimal.ensures, length-append c.args.out.now.bytes (decimal (c.args.n / 10)))

pub returns : goal.returns
returns t c =
    c.push_byte-2.ensures ∙ ap (λ z. z ++ (48 + c.args.n % 10) ∷ []) c.push_decimal.ensures ∙ append_assoc c.args.out.now.bytes (decimal (c.args.n / 10)) ((48 + c.args.n % 10) ∷ [])
    ∙ ap (λ z. c.args.out.now.bytes ++ z) (sym (decimal_step c.args.n c.if-n-lt10.false c.ranges.n.fits))
