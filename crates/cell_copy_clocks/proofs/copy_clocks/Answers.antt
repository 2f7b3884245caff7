use Rattle.std.proofs.Common.{◌+◌, ◌==◌, if◌then◌else◌, max, refl, ap, arith, ◌∙◌}
use Rattle.data_stamps.specs.Stamps.{component}
use Rattle.cell_copy_clocks.proofs.Copying.{carries}
use Rattle.cell_copy_clocks.proofs.copy_clocks.Goals as goal

pub returns-clause-carries : goal.returns-clause-carries
returns-clause-carries c w hasa hass hasn j k =
    let a = c.args.atlas.now in
    let s = c.args.source.now in
    let n = c.args.newborn.now in
    carries w a s n _ _ hasa hass hasn j k (λ e. (let lt = c.requires.first_apart in let no : ⊥ = omega (arith, lt, e) in no)) (λ e. (let one = c.requires.first_apart in let two = c.requires.second_apart in let no : ⊥ = omega (arith, one, two, e) in no))
    (λ e. (let lt = c.requires.second_apart in let no : ⊥ = omega (arith, lt, e) in no)) refl refl refl refl
    (λ y. c.raise-3.ensures y ∙ ap (λ m. max m (if n.entity == y then n.version + 1 else 0)) (c.raise-2.ensures y ∙ ap (λ m. max m (if s.entity == y then s.version else 0)) (c.raise.ensures y
    ∙ ap (λ m. max m (if a.entity == y then a.version + 1 else 0)) (c.meet-2.ensures.greater y ∙ ap (λ m. max m (component n.stamp y)) (c.meet.ensures.greater y)))))
    refl
