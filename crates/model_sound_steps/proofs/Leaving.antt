-- The cells that an act leaves.
use Rattle.std.proofs.Common.{ℕ, Bool, [], ◌∷◌, Option, Some}
use Rattle.model_kernel.specs.State.{Cell, LocusCell}
use Rattle.model_kernel.specs.Outcomes.{Outcome}
use Rattle.model_kernel.specs.Soundness.{IsSound}
use Rattle.model_kernel.specs.Steps.{with_atlas_access, with_newborn_access, with_other_access}
use Rattle.model_kernel.proofs.Writes.{cell_with}

-- the locus `me` leaves a sound state by this outcome, where the act touches the atlas or not, and another entity or not
abbrev pub Leaves : (ℕ → Cell) → ℕ → Bool → Option ℕ → Outcome → Type 0
Leaves cells me atlas other o =
    IsSound (λ y. cell_with (with_atlas_access atlas o.atlas (with_other_access other o.other (with_newborn_access o.newborn (record { entity = me; new = Some (LocusCell o.locus) } ∷ [])))) y (cells y))
