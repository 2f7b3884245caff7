-- Acts of a locus that name the locus itself.
use Rattle.std.specs.Prelude.{◌≡◌, ℕ, IsTrue, Some, None}
use Rattle.model_acts.specs.base_types.declared.instructions.Instr.{Instr}
use Rattle.model_sound_steps.specs.model_kernel.Acts.{alone, wanted}
use Rattle.model_sound_steps.specs.model_kernel.State.{LocusState}
use Rattle.model_acts.specs.Views.{may_name_itself}

-- the locus with the number me wants this act, which names itself, and touches it once
pub record WantsItself (l : LocusState) (i : Instr) (me : ℕ) : Type 0 where
  pub instr : (wanted 64 l).instr ≡ i
  pub allowed : (wanted 64 l).refused ≡ None
  pub other : (wanted 64 l).other ≡ Some me
  pub once : wanted me l ≡ alone i None
  pub names : IsTrue (may_name_itself i)
