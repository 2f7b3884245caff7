use Rattle.command_outcomes.proofs.Endings.{gains}
use Rattle.command_outcomes.specs.Seen.{seen_sink}
use Rattle.command_open.proofs.command_promises_lemmas.Played.{put_met}
use Rattle.command_run.proofs.putting.put_run.Goals as goal

pub returns-in-Some-clause-put : goal.returns-in-Some-clause-put
returns-in-Some-clause-put g c =
    let sink = seen_sink g.W.Sink.held g.W.Sink.faults c.args.sink.now c.put_cut_short.new.sink in
    put_met c.args.met c.in-Some.fault sink _ c.status_of.result c.in-Some.is c.status_of.ensures
    (gains sink c.put_cut_short.result _ c.put_cut_short.ensures.bytes c.put_cut_short.ensures.cause)
