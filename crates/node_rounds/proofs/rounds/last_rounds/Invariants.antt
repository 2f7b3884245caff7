use Rattle.std.proofs.Common.{◌≡◌, List, replicate}
use Rattle.base_types.specs.declared.histories.Entry.{Entry}
use Rattle.drawn_words.specs.Words.{words_of}
use Rattle.node_rounds.proofs.rounds.last_rounds.Given as goal
use Rattle.node_rounds.specs.Going.{AllShip, AreInStep, GoesBy}
use Rattle.node_standby.specs.Following.{Follows}
use Rattle.node_standby.specs.Standing.{KeepsCount}
use Rattle.node_standby.specs.node_shipments.kernel_invariant.Beginnings.{Beginning}
use Rattle.node_world.specs.Worlds.{offered}

abbrev pub invariant-loop : goal.invariant-loop
invariant-loop g l = record {
  step : AreInStep l.sender l.standby;
  same : offered l.sender ≡ offered l.fn.sender;
  rounds : GoesBy l.loss (replicate l.counter (offered l.fn.sender)) (words_of l.fn.words) (words_of l.words) l.fn.sender l.sender l.fn.standby l.standby;
  counts : KeepsCount g.D.Disk l.fn.standby l.standby;
  follows : (b : Beginning) (es : List Entry) → Follows b es g.D.Disk l.fn.standby → AllShip b es l.fn.sender → Follows b es g.D.Disk l.standby;
}
