use Rattle.std.proofs.Common.{◌≡◌, ◌+◌, drop}
use Rattle.std.specs.List.{position_or_len}
use Rattle.plain_facts.specs.Acts.{stands_before}
use Rattle.plain_steps.proofs.local_acts.place_of_private.Given as goal

abbrev pub invariant-loop-place : goal.invariant-loop-place
invariant-loop-place l = l.place + position_or_len (stands_before l.p) (drop l.place l.privates) ≡ position_or_len (stands_before l.p) l.privates
