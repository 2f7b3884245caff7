use Rattle.kernel_run_facts.specs.Running.{picks_in}
use Rattle.kernel_run_facts.proofs.Serial.{ends_serial}
use Rattle.kernel_run_facts.proofs.Watched.{unwatched_rounds}
use Rattle.kernel_runs.proofs.rounds.finish.Goals as goal

pub returns-clause-behind : goal.returns-clause-behind
returns-clause-behind g c = λ told going b first made given along.
    let w = c.go_round-went in
    unwatched_rounds g.D.Disk (g.P.Policy.wish c.args.gate.now.policy) c.args.kernel.now.parts b w.new.kernel first w.result w.ensures.ends w.ensures.caused
    (w.ensures.run told b first made given (record { along = along; knows = tt }))

pub returns-clause-run : goal.returns-clause-run
returns-clause-run g c = λ told going b made given along. ends_serial g.D.Disk b c.go_round-went.new.kernel (returns-clause-behind g c told going b (picks_in b) made given along)
