-- Streams of words, and what is drawn from them.
use Rattle.std.specs.Prelude.{ℕ, zero, suc, ◌%◌, List, [], ◌∷◌, ◌++◌}
use Rattle.rand_pcg.specs.Lcg.{Lcg, state_after, started, increment_of}
use Rattle.rand_pcg.specs.Pcg.{multiplier_64, output_xsh_rr}

-- words by their place from 0
abbrev pub Words : Type 0
Words = ℕ → ℕ

-- the words of a PCG generator (XSH RR 64/32), from its state on
unfoldable pub words_of : Lcg → Words
words_of g = λ k. output_xsh_rr (state_after 64 multiplier_64 g.increment k g.state)

-- the words of the generator with this number, on stream 54
abbrev pub words_numbered : ℕ → Words
words_numbered n = words_of (started 64 multiplier_64 n (increment_of 64 54))

-- the words behind the first
abbrev pub rest : Words → Words
rest ws = λ k. ws (suc k)

-- what was drawn, and the words that are left
abbrev pub Drawn : Type 0 → Type 0
Drawn A = A × Words

-- one word modulo a number, and what is made of it
abbrev pub one_drawn : {A : Type 0} → ℕ → (ℕ → A) → Words → Drawn A
one_drawn k make ws = (make (ws 0 % k), rest ws)

-- two words, each modulo a number
abbrev pub two_drawn : {A : Type 0} → ℕ → ℕ → (ℕ → ℕ → A) → Words → Drawn A
two_drawn j k make ws = (make (ws 0 % j) (ws 1 % k), rest (rest ws))

-- the things with the places 0 to n - 1, drawn in this order
unfoldable pub each : {A : Type 0} → (ℕ → Words → Drawn A) → ℕ → Words → Drawn (List A)
each one zero ws = ([], ws)
each one (suc n) ws = ((each one n ws).0 ++ (one n (each one n ws).1).0 ∷ [], (one n (each one n ws).1).1)
