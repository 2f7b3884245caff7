use Rattle.command_outcomes.proofs.Endings.{gains}
use Rattle.command_outcomes.specs.Seen.{seen_sink}
use Rattle.command_mirror.proofs.Puts.{put_halted}
use Rattle.command_mirror.proofs.ending.put_mirrored.Goals as goal

pub returns-in-Some : goal.returns-in-Some
returns-in-Some g c =
    let sink = seen_sink g.W.Sink.held g.W.Sink.faults c.args.sink.now c.put_cut_short.new.sink in
    record {
      put =
          put_halted c.args.stopped c.in-Some.fault sink _ _ c.status_of.result c.in-Some.is c.status_of.ensures
          (gains sink c.put_cut_short.result _ c.put_cut_short.ensures.bytes c.put_cut_short.ensures.cause);
    }
