use Rattle.base_instructions.proofs.Letters.{letters_next}
use Rattle.base_instructions.proofs.operands.+read_letters.Goals as goal

pub returns-in-Some-strip_byte : goal.returns-in-Some-strip_byte
returns-in-Some-strip_byte t c =
    let first = c.in-Some.ensures.cases.0 in
    rw (first, c.in-Some-strip_byte.ensures) (letters_next c.in-Some.letter.now c.in-Some.letters.now (rw first at c.requires.differ) _ _ _ c.read_letters-length.ensures)
