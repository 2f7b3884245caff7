-- Counts that stay at their end, which is 2 ^ 64 - 1.
use Rattle.std.specs.Prelude.{ℕ, ◌+◌, ◌-◌, ◌^◌, ◌<◌, min}

-- one more, or the same at the end
abbrev pub raised : ℕ → ℕ
raised count = min (count + 1) (2 ^ 64 - 1)

-- the count rose; one that stands at its end stays there, and that counts as having risen
abbrev pub Rose : ℕ → ℕ → Type 0
Rose before now = before < 2 ^ 64 - 1 → before < now
