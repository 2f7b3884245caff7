-- Versions of entities, by number.
use Rattle.std.specs.Prelude.{◌≡◌, ◌≤◌, ℕ}

-- entities have numbers below 64: from there on nothing has a version
abbrev pub OnlyBelow64 : (ℕ → ℕ) → Type 0
OnlyBelow64 versions = (x : ℕ) → 64 ≤ x → versions x ≡ 0
