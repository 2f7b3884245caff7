use Rattle.std.proofs.Common.{arith}
use Rattle.kernel_run_facts.proofs.Called.{born_before}
use Rattle.kernel_runs.proofs.rounds.loci_end.Goals as goal

pub returns-clause-past : goal.returns-clause-past
returns-clause-past g c = λ told b lives.
    let d = g.D.Disk in
    let within = born_before d b c.args.kernel.now c.atlas.result.now lives c.atlas.ensures in
    let number = c.named.ensures.number in
    omega (arith, within, number)
