-- What a slot and a walk name.
use Rattle.std.specs.Prelude.{Bool, true, IsTrue, Option, Some, None}
use Rattle.std.specs.Option.{ForSome}
use Rattle.base_types.specs.declared.capabilities.Cap.{Cap}
use Rattle.base_types.specs.declared.instructions.Walk.{Walk}
use Rattle.image_meaning.specs.model_kernel.Refusals.{instr_at}
use Rattle.image_meaning.specs.model_kernel.Soundness.{is_born, is_born_container, looks}
use Rattle.image_meaning.specs.model_kernel.State.{AtlasState, LocusState}

-- the slot is empty or names an entity that is born
abbrev pub slot_born : AtlasState → Option Cap → Bool
slot_born a None = true
slot_born a (Some cap) = is_born a cap.entity

-- a walk is at a container that is born, and the locus with it has a load or store at its place
pub record IsTiedWalk (a : AtlasState) (l : LocusState) : Type 0 where
  pub at : ForSome l.walk (λ (walk : Walk). IsTrue (is_born_container a walk.at))
  pub looking : ForSome l.walk (λ walk. IsTrue (looks (instr_at l)))
