-- The generator gives its first word, and the others are left.
use Rattle.std.proofs.Common.{ℕ, ◌%◌, ap}
use Rattle.rand_pcg.specs.Lcg.{Lcg, state_after}
use Rattle.drawn_words.specs.Words.{words_of}
use Rattle.drawn_words.proofs.draw.Goals as goal

pub returns-clause-value : goal.returns-clause-value
unfolding words_of state_after
returns-clause-value c = ap (λ (p : ℕ × Lcg). p.0 % c.args.below) c.next_word.ensures

pub returns-clause-left : goal.returns-clause-left
unfolding words_of state_after
returns-clause-left c = ap (λ (p : ℕ × Lcg). words_of p.1) c.next_word.ensures
