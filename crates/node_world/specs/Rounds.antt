-- Rounds of a sender and a receiver: the first shipment that isn't acknowledged is sent, and then the receiver's count, as draws decide.
use Rattle.std.specs.Prelude.{◌+◌, Bool, true, ◌&&◌, not, nat_lt, if◌then◌else◌, List, [], ◌∷◌, ◌++◌}
use Rattle.node_world.specs.Worlds.{Event, Comes, Heard, Send, Sending, Tell, World, after_events, offered}

-- what is drawn for a round: the packet is lost; it comes a second time, where it comes; the count is lost
pub record Draws : Type 0 where
  pub packet_lost : Bool
  pub comes_twice : Bool
  pub count_lost : Bool

abbrev pub nothing_lost : Draws → Bool
nothing_lost d = not d.packet_lost && not d.count_lost

abbrev pub coming_once_more : Bool → List Event
coming_once_more twice = if twice then Comes 0 true ∷ [] else []

abbrev pub packet_comes : Bool → Bool → List Event
packet_comes lost twice = if lost then [] else Comes 0 true ∷ coming_once_more twice

abbrev pub count_comes : Bool → List Event
count_comes lost = if lost then [] else Heard 0 ∷ []

-- A ROUND: nothing where all that was offered is acknowledged. Else the packet is sent, and comes or not; the count is told, and heard or not.
abbrev pub drawn_round : {A : Type 0} → Sending A → Draws → List Event
drawn_round s d =
    if nat_lt s.acked (offered s)
    then Send (s.acked + 1) ∷ (packet_comes d.packet_lost d.comes_twice ++ (Tell ∷ count_comes d.count_lost))
    else []

-- one round after another
abbrev pub after_rounds : {A : Type 0} → List Draws → World A → World A
after_rounds [] w = w
after_rounds (d ∷ ds) w = after_rounds ds (after_events (drawn_round w.sender d) w)
