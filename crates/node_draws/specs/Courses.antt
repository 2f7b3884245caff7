-- Rounds of a sender and a receiver by their draws, in numbers alone.
use Rattle.std.specs.Prelude.{◌≡◌, ℕ, ◌+◌, ◌<◌, ◌≤◌, ◌==◌, nat_lt, if◌then◌else◌, List, [], ◌∷◌, length, replicate}
use Rattle.drawn_words.specs.Words.{Words}
use Rattle.node_world.specs.Rounds.{Draws}
use Rattle.node_world.specs.Worlds.{World}
use Rattle.node_draws.specs.Drawing.{drawn, left}

-- HOW FAR THE TWO ARE: how many shipments are acknowledged to the sender, and how many the receiver has
pub record Tally : Type 0 where
  pub acked : ℕ
  pub kept : ℕ

abbrev pub tally_of : {A : Type 0} → World A → Tally
tally_of w = record { acked = w.sender.acked; kept = length w.kept }

-- what the receiver has behind the packet that follows the acknowledged ones: one more only where it has just those
abbrev pub with_next : Tally → ℕ
with_next t = if t.kept == t.acked then t.kept + 1 else t.kept

abbrev pub kept_behind : Draws → Tally → ℕ
kept_behind d t = if d.packet_lost then t.kept else with_next t

-- BEHIND A ROUND, where something is not acknowledged
abbrev pub tally_behind : Draws → Tally → Tally
tally_behind d t = record { acked = if d.count_lost then t.acked else kept_behind d t; kept = kept_behind d t }

-- how far they are, and the words that are left to draw from
pub record Course : Type 0 where
  pub tally : Tally
  pub words : Words

-- A ROUND, where so many are offered: nothing is drawn and sent where all that is acknowledged
abbrev pub round_of : ℕ → ℕ → Course → Course
round_of loss offered c =
    if nat_lt c.tally.acked offered
    then record { tally = tally_behind (drawn loss c.words) c.tally; words = left loss c.words }
    else c

-- ROUNDS, before each of which so many are offered
abbrev pub rounds_of : ℕ → List ℕ → Course → Course
rounds_of loss [] c = c
rounds_of loss (offered ∷ more) c = rounds_of loss more (round_of loss offered c)

-- what is acknowledged the receiver has, and no more than is offered
pub record IsInOrder (offered : ℕ) (t : Tally) : Type 0 where
  pub acked : t.acked ≤ t.kept
  pub kept : t.kept ≤ offered

-- neither number falls
pub record IsNoLess (old new : Tally) : Type 0 where
  pub acked : old.acked ≤ new.acked
  pub kept : old.kept ≤ new.kept

abbrev pub OrderLaw : Type 0
OrderLaw = (loss offered : ℕ) (c : Course) → IsInOrder offered c.tally
    → IsInOrder offered (round_of loss offered c).tally × IsNoLess c.tally (round_of loss offered c).tally

-- WHERE NOTHING IS LOST as many rounds as are lacking acknowledge all
abbrev pub LosslessLaw : Type 0
LosslessLaw = (offered many : ℕ) (c : Course) → IsInOrder offered c.tally → offered ≤ c.tally.acked + many
    → (rounds_of 0 (replicate many offered) c).tally ≡ record { acked = offered; kept = offered }

-- WHERE THE RECEIVER LACKS SOME behind rounds, in each of them something was not acknowledged
abbrev pub AllMadeLaw : Type 0
AllMadeLaw = (loss offered many before : ℕ) (c : Course) → IsInOrder offered c.tally → before < many
    → (rounds_of loss (replicate many offered) c).tally.kept < offered
    → (rounds_of loss (replicate before offered) c).tally.acked < offered
