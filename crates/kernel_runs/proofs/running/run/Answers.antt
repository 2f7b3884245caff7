use Rattle.kernel_run_facts.proofs.Watched.{unwatched_run}
use Rattle.kernel_runs.proofs.running.run.Goals as goal

pub returns-clause-run : goal.returns-clause-run
returns-clause-run g c = λ told going b supply policy script lives.
    let w = c.run_watched-went in
    unwatched_run g.D.Disk (g.P.Policy.wish c.args.gate.now.policy) c.args.kernel.now.parts b w.new.kernel w.result (w.ensures.ends going) (w.ensures.caused going)
    (w.ensures.run told going b supply policy script lives tt)
