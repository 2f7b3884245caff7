use Rattle.std.proofs.Common.{◌≡◌, ◌+◌, nat_lt, drop}
use Rattle.std.specs.List.{position_or_len}
use Rattle.plain_states.proofs.tables.place_of_page.Given as goal

abbrev pub invariant-loop-place : goal.invariant-loop-place
invariant-loop-place l = l.place + position_or_len (λ other. nat_lt l.at other.at) (drop l.place l.regions) ≡ position_or_len (λ other. nat_lt l.at other.at) l.regions
