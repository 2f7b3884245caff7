use Rattle.std.proofs.Common.{◌<◌, ◌≤◌, length, sym, ◌∙◌, subst, arith}
use Rattle.image_fits.specs.Chosen.{part_of}
use Rattle.image_fits.specs.Fits.{IsFitBy}
use Rattle.image_fits.specs.declared.chosen.ChosenEntity.{ChosenEntity}
use Rattle.image_fits.proofs.Choices.{first_here, fit_all, fit_more}
use Rattle.image_fits.proofs.fits.first_unfit_by.Goals as goal
use Rattle.image_fits.proofs.fits.first_unfit_by.Goals.{in-Some+else-not-fits, in_default}
use Rattle.std.proofs.lemmas.Option.{same_Some}

pub returns-then-not-fits-clause-found : goal.returns-then-not-fits-clause-found
returns-then-not-fits-clause-found c =
    let within : c.loop-number.number < length c.args.entities.now = let lt = c.loop-number-test.true in let all = c.requires in omega (arith, lt, all) in
    first_here c.args.uses.now c.args.entities.now c.of-x.result c.loop-number.number c.index-entities-number.result c.in-Some.entity c.fits.result
    c.of-x.ensures within c.index-entities-number.is c.in-Some.is c.if-not-fits.true c.fits.ensures.1 c.loop-number.invariant

pub loop-number-preserved : goal.loop-number-preserved
loop-number-preserved c =
    let uses = c.args.uses.now in
    let es = c.args.entities.now in
    let n = c.loop-number.number in
    let o = c.index-entities-number.result in
    let within : n < length es = let lt = c.loop-number-test.true in let all = c.requires in omega (arith, lt, all) in
    elim c.match-entities-number.branch [
      | in-Some+else-not-fits w ↦ fit_more uses es n o within c.index-entities-number.is
          (λ e is. let same = same_Some w.in-Some.entity e (sym w.in-Some.is ∙ is) in
          subst (λ (f : ChosenEntity). IsFitBy uses es n (part_of f.part)) same
          (subst (λ z. IsFitBy uses es z (part_of w.in-Some.entity.part)) w.of-x.ensures (w.fits.ensures.0 w.if-not-fits.false)))
          c.loop-number.invariant
      | in_default w ↦ fit_more uses es n o within c.index-entities-number.is (λ e is. absurd (w.in_default.not-Some e is)) c.loop-number.invariant
    ]

pub returns-clause-none : goal.returns-clause-none
returns-clause-none c =
    let past : length c.args.entities.now ≤ c.loop-number.number = let lt = c.loop-number-test.false in let all = c.requires in omega (arith, lt, all) in
    fit_all c.args.uses.now c.args.entities.now c.loop-number.number past c.loop-number.invariant
