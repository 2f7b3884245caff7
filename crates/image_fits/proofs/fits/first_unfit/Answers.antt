use Rattle.std.proofs.Common.{List, ℕ, length, sym, ap, ◌∙◌, subst}
use Rattle.image_fit_facts.specs.Naming.{AreUses}
use Rattle.image_fits.specs.Naming.{names_of}
use Rattle.image_fits.proofs.Fitting.{all_fit, first_unfit_is}
use Rattle.image_fits.proofs.fits.first_unfit.Goals as goal

pub returns-clause-found : goal.returns-clause-found
returns-clause-found c = λ recs chosen.
    let uses = c.deref.result.now in
    let same = c.deref.ensures.value in
    let es = c.args.entities.now in
    first_unfit_is c.args.count recs es uses (ap length same ∙ c.in_ok-uses.ensures.blocks)
    (subst (λ (l : List ℕ). AreUses l (names_of es)) (sym same) c.in_ok-uses.ensures.uses) chosen c.first_unfit_by.result c.first_unfit_by.ensures.found

pub returns-clause-none : goal.returns-clause-none
returns-clause-none c = λ recs chosen.
    let uses = c.deref.result.now in
    let same = c.deref.ensures.value in
    let es = c.args.entities.now in
    all_fit c.args.count recs es uses (ap length same ∙ c.in_ok-uses.ensures.blocks)
    (subst (λ (l : List ℕ). AreUses l (names_of es)) (sym same) c.in_ok-uses.ensures.uses) chosen c.first_unfit_by.result c.first_unfit_by.ensures.none
