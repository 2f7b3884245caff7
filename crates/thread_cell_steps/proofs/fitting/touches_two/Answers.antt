use Rattle.std.proofs.Common.{◌≡◌, ◌∷◌, [], sym, ap, ◌∙◌, arith}
use Rattle.std.proofs.lemmas.Bool.Decides.{nat_tests}
use Rattle.std.proofs.lemmas.Option.{same_Some}
use Rattle.thread_cell_steps.specs.Advancing.{second_of}
use Rattle.thread_cell_steps.proofs.Touching.{second_is, second_touched}
use Rattle.thread_cell_steps.proofs.fitting.touches_two.Goals as goal

pub returns-in-Some-clause-fits : goal.returns-in-Some-clause-fits
returns-in-Some-clause-fits c same a shows =
    let none : c.args.atlas.now.clock.entity ≡ 0 = (let no = c.if-number-ne0.false in let is = c.number.ensures.number in grind (arith, nat_tests)) in
    let here : c.in-Some.number ≡ c.args.other.now.clock.entity = (let is = c.number-in-Some.ensures.number in grind (arith, nat_tests)) in
    let d = shows none in
    let second = ap (λ b. second_of b c.args.reach) (sym d.2) ∙ sym (c.beside_atlas.ensures d.0 d.1) ∙ c.in-Some.is in
    ap (λ n. n ∷ c.args.other.now.clock.entity ∷ []) none ∙ ap (λ n. 0 ∷ n ∷ []) (sym here) ∙ second_touched a c.args.reach c.in-Some.number second

pub returns-in-Some-clause-unfit : goal.returns-in-Some-clause-unfit
returns-in-Some-clause-unfit c other a shows fits =
    let f = second_is a c.args.reach c.args.atlas.now.clock.entity c.args.other.now.clock.entity fits in
    let d = shows f.0 in
    let second = ap (λ b. second_of b c.args.reach) (sym d.2) ∙ sym (c.beside_atlas.ensures d.0 d.1) ∙ c.in-Some.is in
    let here : c.in-Some.number ≡ c.args.other.now.clock.entity = same_Some c.in-Some.number c.args.other.now.clock.entity (sym second ∙ f.1) in
    let is = c.number-in-Some.ensures.number in
    absurd (grind (arith, nat_tests))

pub returns-in-None-clause-unfit : goal.returns-in-None-clause-unfit
returns-in-None-clause-unfit c other a shows fits =
    let f = second_is a c.args.reach c.args.atlas.now.clock.entity c.args.other.now.clock.entity fits in
    let d = shows f.0 in
    let second = sym (ap (λ b. second_of b c.args.reach) (sym d.2) ∙ sym (c.beside_atlas.ensures d.0 d.1) ∙ c.in-None.is) ∙ f.1 in
    absurd (cc second)
