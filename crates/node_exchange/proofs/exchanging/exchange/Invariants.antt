use Rattle.std.specs.Prelude.{length, take}
use Rattle.node_exchange.specs.Playing.{HasPlayed, TakesOn}
use Rattle.node_exchange.specs.Wires.{AreInStep}
use Rattle.node_exchange.proofs.exchanging.exchange.Given as goal

-- the events so far are played
abbrev pub invariant-loop-event : goal.invariant-loop-event
invariant-loop-event g l = record {
  step : AreInStep l.lines l.standby.count (length l.made);
  takes : TakesOn g.D.Disk l.made l.fn.standby l.standby;
  played : HasPlayed l.made (take l.event-index l.events) l.fn.lines l.lines l.fn.standby l.standby;
}
