-- Whether the new names of a script can be born into an atlas.
use Rattle.std.specs.Prelude.{ℕ, ◌+◌, ◌≤◌, List, length, count_by, is_none}
use Rattle.model_sound_runs.specs.model_kernel.Scripts.{ContainerTable, LocusTable, Script, number_of}
use Rattle.model_sound_runs.specs.model_kernel.State.{AtlasState}
use Rattle.model_sound_runs.specs.Kinds.{AreOfOneKind}

-- the names of a kind that are not born yet
abbrev pub new_containers : AtlasState → List ContainerTable → ℕ
new_containers a tables = count_by (λ t. is_none (number_of a t.name)) tables

abbrev pub new_loci : AtlasState → List LocusTable → ℕ
new_loci a tables = count_by (λ t. is_none (number_of a t.name)) tables

-- and there are numbers for all new names
pub record Fits (a : AtlasState) (script : Script) : Type 0 where
  pub kinds : AreOfOneKind a script
  pub containers : length a.containers + new_containers a script.containers ≤ 40
  pub loci : length a.loci + new_loci a script.loci ≤ 23
