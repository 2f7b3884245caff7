use Rattle.std.proofs.Common.{◌==◌, if◌then◌else◌, max, refl, ap, ◌∙◌}
use Rattle.data_stamps.specs.Stamps.{component}
use Rattle.cell_clocks.proofs.Changing.{carries_two}
use Rattle.cell_clocks.proofs.write_two.Goals as goal

pub returns-clause-carries : goal.returns-clause-carries
returns-clause-carries c w hasa hasb j k =
    let a = c.args.a.now in
    let b = c.args.b.now in
    let first = c.step_touch-first.ensures in
    let second = c.step_touch-second.ensures in
    carries_two c.args.event c.args.actor c.args.answer w a b _ _ c.entry.result j k hasa hasb c.requires.apart refl refl (ap (λ t. t.version) first) (ap (λ t. t.version) second)
    (λ y. c.join.ensures y ∙ (λ i. max (max (max (component a.stamp y) (component b.stamp y)) (if (first i).entity == y then (first i).version else 0)) (if (second i).entity == y then (second i).version else 0)))
    refl (cc)
