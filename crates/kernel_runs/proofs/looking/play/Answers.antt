use Rattle.kernel_run_facts.proofs.Watched.{unwatched_looks}
use Rattle.script_types.specs.model_kernel.Serial.{looks_of}
use Rattle.kernel_run_facts.specs.Running.{opened_in}
use Rattle.kernel_runs.proofs.looking.play.Goals as goal

pub returns-clause-run : goal.returns-clause-run
returns-clause-run g c = λ told going b given order along.
    let w = c.look_for_all-went in
    unwatched_looks g.D.Disk (g.P.Policy.wish c.args.gate.now.policy) c.args.kernel.now.parts b w.new.kernel (looks_of b.script (opened_in b) 0) w.result w.ensures.ends w.ensures.caused
    (w.ensures.run told b given order (record { along = along; knows = tt }))
