-- What an act on plain states rests on.
use Rattle.std.specs.Prelude.{ℕ, ◌≤◌, Bool, true, false, List, All}
use Rattle.model_acts.specs.base_types.declared.capabilities.Region.{Region}
use Rattle.model_acts.specs.base_types.declared.instructions.Instr.{Instr}
use Rattle.model_acts.specs.base_types.declared.instructions.Instr.TheVariants.{Map, Unmap}
use Rattle.model_acts.specs.Views.{IsInside}

-- the acts that leave the atlas when they touch a container
abbrev pub leaves_atlas : Instr → Bool
leaves_atlas (Map d a c b n rights) = false
leaves_atlas (Unmap d a) = false
leaves_atlas i = true

pub record IsReadyContainer (pages : ℕ) (regions : List Region) : Type 0 where
  pub size : pages ≤ 256
  pub each : All IsInside regions
