-- Bytes that are written one behind another.
use Rattle.std.specs.Prelude.{ℕ, ◌+◌, ◌≤◌, List, length}

-- a blob of these bytes can take so many more
abbrev pub HasRoom : List ℕ → ℕ → Type 0
HasRoom bytes more = length bytes + more ≤ 8192
