use Rattle.std.proofs.Common.{Ok, ap, sym, ◌∙◌, arith}
use Rattle.base_instructions.specs.Spelling.{IsSpelling}
use Rattle.base_instructions.proofs.Lines.{place_small, spelling_same, bad_no_member}
use Rattle.base_instructions.proofs.reading.read_line.Goals as goal

pub overflow_cast-result : goal.overflow_cast-result
overflow_cast-result c = omega (arith, place_small c.as_bytes.result.now c.in-Err.place c.in-Err.ensures.bad)

pub returns-in-Ok-clause-spelled : goal.returns-in-Ok-clause-spelled
returns-in-Ok-clause-spelled c = λ i h e.
    let read = c.in-Ok.ensures.read in
    ap Ok (spelling_same c.in-Ok.instr i read.0 h (read.1 ∙ c.as_bytes.ensures.value ∙ sym e))

pub returns-in-Err-clause-spelled : goal.returns-in-Err-clause-spelled
returns-in-Err-clause-spelled c = λ i h e.
    absurd (bad_no_member IsSpelling c.as_bytes.result.now c.in-Err.place c.in-Err.ensures.bad (i, h, e ∙ sym c.as_bytes.ensures.value))
