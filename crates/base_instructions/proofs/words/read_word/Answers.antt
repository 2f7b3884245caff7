use Rattle.std.proofs.Common.{arith}
use Rattle.base_instructions.proofs.WordFronts.{word_ends}
use Rattle.base_instructions.proofs.words.read_word.Goals as goal

pub returns : goal.returns
returns c =
    let i = c.loop-code.invariant in
    word_ends c.args.bytes.now c.loop-code.longest _ i.within i.some (λ k m small. i.tried k m (omega arith)) c.code_of_word.ensures.some c.code_of_word.ensures.none
