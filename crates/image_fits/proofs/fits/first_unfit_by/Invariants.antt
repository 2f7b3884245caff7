use Rattle.std.proofs.Common.{◌≡◌, ◌<◌, ℕ, Some}
use Rattle.image_fit_facts.specs.image_meaning.Parts.{Part}
use Rattle.image_fits.specs.Chosen.{parts_of}
use Rattle.image_fits.specs.Fits.{IsFitBy}
use Rattle.image_fits.proofs.fits.first_unfit_by.Given as goal

abbrev pub invariant-loop-number : goal.invariant-loop-number
invariant-loop-number l = (y : ℕ) (p : Part) → y < l.number → parts_of l.entities y ≡ Some p → IsFitBy l.uses l.entities y p
