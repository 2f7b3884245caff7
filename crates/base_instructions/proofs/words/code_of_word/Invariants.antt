use Rattle.std.proofs.Common.{◌≢◌, ℕ, ◌<◌}
use Rattle.base_instructions.specs.Forms.{word_at}
use Rattle.base_instructions.proofs.words.code_of_word.Given as goal

abbrev pub invariant-loop-code : goal.invariant-loop-code
invariant-loop-code l = (k : ℕ) → k < l.code → word_at k ≢ l.word
