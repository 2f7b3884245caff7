-- What was true of a disk when it was handed in, and the first moment behind that.
use Rattle.std.specs.Prelude.{◌+◌, ◌-◌, ◌^◌, ℕ, nat_lt, if◌then◌else◌}

-- the moment after the next write or sync; a clock stands still at its end
abbrev pub next_moment : ℕ → ℕ
next_moment clock = if nat_lt clock (2 ^ 64 - 1) then clock + 1 else clock
