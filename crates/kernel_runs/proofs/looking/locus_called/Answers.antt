use Rattle.std.proofs.Common.{sym, ◌∙◌}
use Rattle.kernel_run_facts.proofs.Called.{finds, none_born}
use Rattle.kernel_runs.proofs.looking.locus_called.Goals as goal

pub returns-then-named-eq0 : goal.returns-then-named-eq0
returns-then-named-eq0 g c = λ told b l lives here.
    let d = g.D.Disk in
    absurd (none_born d b c.args.kernel.now c.atlas-atlas.result.now lives c.atlas-atlas.ensures c.args.name.now l (sym c.named.ensures.number ∙ c.if-named-eq0.true) here)

pub returns : goal.returns
returns g c = λ told b l lives here.
    let d = g.D.Disk in
    c.find.ensures ∙ finds d b c.args.kernel.now c.atlas-atlas.result.now lives c.atlas-atlas.ensures c.args.name.now l c.named.ensures.names here
