-- Names that stay in an atlas.
use Rattle.std.specs.Prelude.{◌≡◌, List, ◌++◌}
use Rattle.script_types.specs.model_kernel.State.{AtlasState}

-- the list goes on with others, if any
abbrev pub IsFront : {A : Type 0} → List A → List A → Type 0
IsFront {A} xs ys = (rest : List A) × (ys ≡ xs ++ rest)

-- names stay, and others may follow
pub record KeepsNames (a b : AtlasState) : Type 0 where
  pub containers : IsFront a.containers b.containers
  pub loci : IsFront a.loci b.loci
