-- What is drawn for a round.
use Rattle.std.specs.Prelude.{ℕ, ◌%◌, ◌==◌, Bool, true, false, nat_lt, if◌then◌else◌}
use Rattle.drawn_words.specs.Words.{Words, rest}
use Rattle.node_world.specs.Rounds.{Draws}
use Rattle.node_draws.specs.declared.RoundDraws.{RoundDraws}

-- of a hundred as many as the loss tells are lost
abbrev pub is_lost : ℕ → ℕ → Bool
is_lost loss word = nat_lt (word % 100) loss

-- THE DRAWS OF A ROUND: the packet, its second coming where it comes, and the count
abbrev pub drawn : ℕ → Words → Draws
drawn loss ws =
    if is_lost loss (ws 0)
    then record { packet_lost = true; comes_twice = false; count_lost = is_lost loss (ws 1) }
    else record { packet_lost = false; comes_twice = ws 1 % 8 == 0; count_lost = is_lost loss (ws 2) }

-- the words behind them
abbrev pub left : ℕ → Words → Words
left loss ws = if is_lost loss (ws 0) then rest (rest ws) else rest (rest (rest ws))

-- as the code has them
abbrev pub draws_in : RoundDraws → Draws
draws_in d = record { packet_lost = d.packet_lost; comes_twice = d.comes_twice; count_lost = d.count_lost }
