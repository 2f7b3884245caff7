-- Each operand fits, since the whole line does.
use Rattle.std.proofs.Common.{◌≡◌, ◌++◌, ◌∷◌, [], take, ap, ◌∙◌, arith, length-append, length}
use Rattle.base_instructions.specs.declared.forms.Operand.TheVariants.{Register}
use Rattle.base_instructions.specs.Forms.{word_at, tail, operands_of}
use Rattle.base_instructions.proofs.Lines.{next_fits_in, whole_line}
use Rattle.base_instructions.proofs.writing.write_line.Goals as goal

pub push_byte-requires-clause-room : goal.push_byte-requires-clause-room
push_byte-requires-clause-room c =
    let os = c.as_slice-operand-items.result.now in
    let k = c.loop-operand.operand-index in
    let same : os ≡ operands_of c.args.instr.now = c.as_slice-operand-items.ensures.value ∙ c.parts-code.ensures.operands in
    let so_far = ap length (c.loop-operand.invariant ∙ ap (λ code. word_at code ++ tail (take k os)) c.parts-code.ensures.code) in
    omega (arith, next_fits_in c.args.instr.now c.requires os k (Register 0) same c.loop-operand-test.true, so_far)

pub push_operand-requires : goal.push_operand-requires
push_operand-requires c =
    let os = c.as_slice-operand-items.result.now in
    let k = c.loop-operand.operand-index in
    let same : os ≡ operands_of c.args.instr.now = c.as_slice-operand-items.ensures.value ∙ c.parts-code.ensures.operands in
    let so_far = ap length (c.loop-operand.invariant ∙ ap (λ code. word_at code ++ tail (take k os)) c.parts-code.ensures.code) in
    omega (arith, next_fits_in c.args.instr.now c.requires os k (Register 0) same c.loop-operand-test.true, so_far, ap length c.push_byte.ensures, length-append c.loop-operand.out.bytes (32 ∷ []))

pub returns : goal.returns
returns c =
    let os = c.as_slice-operand-items.result.now in
    let k = c.loop-operand.operand-index in
    c.loop-operand.invariant ∙ ap (λ code. word_at code ++ tail (take k os)) c.parts-code.ensures.code
    ∙ whole_line c.args.instr.now c.requires os k (c.as_slice-operand-items.ensures.value ∙ c.parts-code.ensures.operands) c.loop-operand-test.false
