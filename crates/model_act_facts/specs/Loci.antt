-- Which acts touch the locus alone.
use Rattle.std.specs.Prelude.{◌≡◌, Bool, true, false, None}
use Rattle.model_acts.specs.base_types.declared.instructions.Instr.{Instr}
use Rattle.model_acts.specs.base_types.declared.instructions.Instr.TheVariants.{Set, Copy, Add, Sub, Jump, Jz, Lmap, Lunmap, Drop, Stabilise, Print, Halt}
use Rattle.model_sound_steps.specs.model_kernel.Acts.{Act}

-- nothing besides the locus is touched
pub record IsAlone (act : Act) : Type 0 where
  pub atlas : act.atlas ≡ false
  pub other : act.other ≡ None
  pub newborn : act.newborn ≡ None

-- where the locus alone doesn't refuse it, the instruction touches the locus alone
abbrev pub touches_alone : Instr → Bool
touches_alone (Set d n) = true
touches_alone (Copy d s) = true
touches_alone (Add d s) = true
touches_alone (Sub d s) = true
touches_alone (Jump p) = true
touches_alone (Jz s p) = true
touches_alone (Lmap a c b n rights) = true
touches_alone (Lunmap a) = true
touches_alone (Drop s) = true
touches_alone (Stabilise c) = true
touches_alone (Print s) = true
touches_alone Halt = true
touches_alone i = false
