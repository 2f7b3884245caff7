use Rattle.std.proofs.Common.{◌==◌, if◌then◌else◌, max, refl, ap, ◌∙◌}
use Rattle.data_stamps.specs.Stamps.{component}
use Rattle.cell_clocks.proofs.Changing.{carries_one}
use Rattle.cell_clocks.proofs.write_one.Goals as goal

pub returns-clause-carries : goal.returns-clause-carries
returns-clause-carries c w has j =
    let a = c.args.a.now in
    let first = c.step_touch-first.ensures in
    carries_one c.args.event c.args.actor c.args.answer w a _ c.entry.result j has refl (ap (λ t. t.version) first)
    (λ y. c.raise.ensures y ∙ (λ i. max (component a.stamp y) (if (first i).entity == y then (first i).version else 0)))
    (cc)
