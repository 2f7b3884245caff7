-- The answers of the two managers that a kernel has by default.
use Rattle.std.specs.Prelude.{ℕ, ◌+◌, ◌*◌, ◌%◌, ◌^◌, Bool, ◌==◌, ◌&&◌, not, nat_le, if◌then◌else◌}

-- the words count up from the tag, in 64 bits, and tag 0 has only zeros
abbrev pub counted_word : ℕ → ℕ → ℕ → ℕ
counted_word tag page place = if tag == 0 then 0 else (tag + page * 128 + place) % 2 ^ 64

-- a snapshot is due from `every` versions on, and never where `every` is 0
abbrev pub is_due : ℕ → ℕ → Bool
is_due every since = not (every == 0) && nat_le every since
