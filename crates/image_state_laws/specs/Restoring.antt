-- Records and parts that make up a state, without an image.
use Rattle.std.specs.Prelude.{◌≡◌, ℕ, ◌<◌, List, Option, Some, slice_get, take}
use Rattle.base_types.specs.declared.records.Rec.{Rec}
use Rattle.image_meaning.specs.image_facts.Logs.{IsInRange}
use Rattle.image_meaning.specs.Fits.{IsFit}
use Rattle.image_meaning.specs.Parts.{AreFormed, AreTaken, Part}

-- THE RECORDS AND PARTS MAKE UP A STATE: each record is in range behind those before it, the versions of an entity ascend, and what is
-- chosen has parts in form, which fit each other in an image of so many blocks
pub record MakeUpState (count : ℕ) (recs : List Rec) (parts : ℕ → Option Part) : Type 0 where
  pub in_range : (i : ℕ) (r : Rec) → slice_get recs i ≡ Some r → IsInRange count (take i recs) r
  pub ascending : (i k : ℕ) (r q : Rec) → k < i → slice_get recs k ≡ Some q → slice_get recs i ≡ Some r → q.entity ≡ r.entity → q.version < r.version
  pub taken : AreTaken recs parts
  pub formed : AreFormed parts
  pub fit : (x : ℕ) (part : Part) → parts x ≡ Some part → IsFit count recs parts x part
