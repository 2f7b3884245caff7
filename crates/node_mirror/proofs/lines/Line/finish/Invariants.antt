use Rattle.std.proofs.Common.{◌≡◌, ◌*◌, List, replicate}
use Rattle.base_types.specs.declared.histories.Entry.{Entry}
use Rattle.node_mirror.proofs.lines.Line.finish.Given as goal
use Rattle.node_mirror.specs.Lines.{Runs}
use Rattle.node_rounds.specs.Going.{AllShip, AreInStep}
use Rattle.node_rounds.specs.node_standby.Following.{Follows}
use Rattle.node_rounds.specs.node_standby.Standing.{KeepsCount}
use Rattle.node_rounds.specs.node_standby.node_shipments.kernel_invariant.Beginnings.{Beginning}
use Rattle.node_world.specs.Worlds.{offered}

abbrev pub invariant-loop : goal.invariant-loop
invariant-loop g l = record {
  step : AreInStep l.self.sender l.self.standby;
  loss : l.self.loss ≡ l.fn.self.loss;
  same : offered l.self.sender ≡ offered l.fn.self.sender;
  goes : Runs (replicate (l.counter * offered l.fn.self.sender) (offered l.fn.self.sender)) l.fn.self l.self;
  counts : KeepsCount g.E.Disk l.fn.self.standby l.self.standby;
  follows : (b : Beginning) (es : List Entry) → Follows b es g.E.Disk l.fn.self.standby → AllShip b es l.fn.self.sender → Follows b es g.E.Disk l.self.standby;
}
