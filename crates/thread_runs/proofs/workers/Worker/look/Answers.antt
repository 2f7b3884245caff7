use Rattle.thread_runs.proofs.Parting.{look_noted}
use Rattle.thread_runs.proofs.workers.Worker.look.Goals as goal

pub returns-in-Ok : goal.returns-in-Ok
returns-in-Ok g c =
    let noted = c.in-Ok.ensures.item in
    look_noted c.args.locus c.args.pass.now.number c.went_last.result noted.0 c.args.pass.now.items c.step.new.pass.items noted.3 noted.1 (c.went_last.ensures c.args.pass.now.items _ noted.3)
