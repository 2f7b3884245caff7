-- Streams of words.
use Rattle.std.specs.Prelude.{ℕ, suc}
use Rattle.rand_pcg.specs.Lcg.{Lcg, state_after, started, increment_of}
use Rattle.rand_pcg.specs.Pcg.{multiplier_64, output_xsh_rr}

-- words by their place from 0
abbrev pub Words : Type 0
Words = ℕ → ℕ

-- the words of a PCG generator (XSH RR 64/32), from its state on
unfoldable pub words_of : Lcg → Words
words_of g = λ k. output_xsh_rr (state_after 64 multiplier_64 g.increment k g.state)

-- the words of the generator that was made of this number, on this stream
abbrev pub words_numbered : ℕ → ℕ → Words
words_numbered number stream = words_of (started 64 multiplier_64 number (increment_of 64 stream))

-- the words behind the first
abbrev pub rest : Words → Words
rest ws = λ k. ws (suc k)
