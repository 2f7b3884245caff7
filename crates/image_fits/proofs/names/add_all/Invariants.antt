use Rattle.std.proofs.Common.{ℕ, ◌+◌, take}
use Rattle.image_fit_facts.specs.Naming.{AreUses}
use Rattle.image_fits.specs.Naming.{names_of}
use Rattle.image_fits.proofs.names.add_all.Given as goal

abbrev pub invariant-loop-chosen : goal.invariant-loop-chosen
invariant-loop-chosen l = (f : ℕ → ℕ) → AreUses l.fn.uses f → AreUses l.uses (λ b. f b + names_of (take l.chosen-index l.entities) b)
