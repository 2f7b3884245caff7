-- The versions that an image gives its entities.
use Rattle.std.specs.Prelude.{◌≡◌, ℕ, List}
use Rattle.base_types.specs.declared.records.Rec.{Rec}
use Rattle.image_meaning.specs.model_kernel.State.{KernelState}
use Rattle.image_meaning.specs.Parts.{cut_of}

abbrev pub AreCutVersions : List Rec → KernelState → Type 0
AreCutVersions recs v = (x : ℕ) → (v x).version ≡ cut_of recs x
