use Rattle.std.proofs.Common.{◌==◌, if◌then◌else◌, max, refl, ap, ◌∙◌}
use Rattle.data_stamps.specs.Stamps.{component}
use Rattle.cell_clocks.proofs.Changing.{carries_three}
use Rattle.cell_clocks.proofs.write_three.Goals as goal

pub returns-clause-carries : goal.returns-clause-carries
returns-clause-carries c w hasa hasb hasc j k l =
    let a = c.args.a.now in
    let b = c.args.b.now in
    let d = c.args.c.now in
    let first = c.step_touch-first.ensures in
    let second = c.step_touch-second.ensures in
    let third = c.step_touch-third.ensures in
    carries_three c.args.event c.args.actor c.args.answer w a b d _ _ _ c.entry.result j k l hasa hasb hasc c.requires.first_apart c.requires.second_apart
    refl refl refl (ap (λ t. t.version) first) (ap (λ t. t.version) second) (ap (λ t. t.version) third)
    (λ y.
    c.raise.ensures y ∙ ap (λ n. max n (if c.step_touch-third.result.entity == y then c.step_touch-third.result.version else 0)) (c.meet.ensures.greater y ∙ ap (λ n. max n (component d.stamp y)) (c.join.ensures y))
    ∙ (λ i. max (max (max (max (max (component a.stamp y) (component b.stamp y)) (if (first i).entity == y then (first i).version else 0)) (if (second i).entity == y then (second i).version else 0)) (component d.stamp y)) (if (third i).entity == y then (third i).version else 0)))
    refl refl (cc)
