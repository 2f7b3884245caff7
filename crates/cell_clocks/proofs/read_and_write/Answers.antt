use Rattle.std.proofs.Common.{◌==◌, if◌then◌else◌, max, refl, ap, ◌∙◌}
use Rattle.data_stamps.specs.Stamps.{component}
use Rattle.cell_clocks.proofs.Changing.{carries_read}
use Rattle.cell_clocks.proofs.read_and_write.Goals as goal

pub returns-clause-carries : goal.returns-clause-carries
returns-clause-carries c w hasa hasb k =
    let a = c.args.a.now in
    let b = c.args.b.now in
    let first = c.read_touch-first.ensures in
    let second = c.step_touch-second.ensures in
    carries_read c.args.event c.args.actor c.args.answer w a b _ c.entry.result k hasa hasb c.requires.apart refl (ap (λ t. t.version) second)
    (λ y. c.join.ensures y ∙ (λ i. max (max (max (component b.stamp y) (component a.stamp y)) (if (first i).entity == y then (first i).version else 0)) (if (second i).entity == y then (second i).version else 0)))
    (cc)
