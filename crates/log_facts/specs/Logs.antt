-- Records in range, each newer than those of its entity before it.
use Rattle.std.specs.Prelude.{◌≡◌, ◌<◌, ℕ, List, Some, slice_get, take}
use Rattle.image_blocks.specs.base_types.declared.records.Rec.{Rec}
use Rattle.image_blocks.specs.image_facts.Logs.{IsInRange}

-- each of these is in range behind the ones before it
abbrev pub AreInRange : ℕ → List Rec → Type 0
AreInRange count recs = (i : ℕ) (r : Rec) → slice_get recs i ≡ Some r → IsInRange count (take i recs) r

-- the version is below that of a later record of the same entity
abbrev pub IsOlder : Rec → Rec → Type 0
IsOlder r s = r.entity ≡ s.entity → r.version < s.version
