use Rattle.std.proofs.Common.{◌≡◌, ◌≤◌, take}
use Rattle.std.specs.Prelude.{slice_index}
use Rattle.base_types.specs.Edges.{upto}
use Rattle.store_facts.specs.Choosing.{chosen_list}
use Rattle.store_snapshots.proofs.choosing.chosen_recs.Given as goal

abbrev pub invariant-loop-x : goal.invariant-loop-x
invariant-loop-x l = record { few : l.used ≤ l.x; taken : take l.used l.chosen ≡ chosen_list (slice_index l.cut.0) l.recs (upto l.x) }
