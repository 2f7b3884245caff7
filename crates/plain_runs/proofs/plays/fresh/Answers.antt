use Rattle.plain_steps.specs.model_kernel.State.{empty_state}
use Rattle.plain_runs.proofs.Beginning.{can_begin}
use Rattle.plain_runs.proofs.plays.fresh.Goals as goal

pub returns : goal.returns
returns c s script rules code =
    let e = c.empty.ensures in
    c.begin.ensures.stands s script empty_state
    (can_begin s script c.empty.result (record { containers = e.containers; loci = e.loci; names = e.names; locus_names = e.locus_names; edges = e.edges }) rules code)
