-- Names of a script that stand in an atlas with the other kind.
use Rattle.std.specs.Prelude.{◌≡◌, None, All}
use Rattle.script_types.specs.model_kernel.Scripts.{ContainerTable, LocusTable, Script, container_named, locus_named}
use Rattle.script_types.specs.model_kernel.State.{AtlasState, KernelState}
use Rattle.script_types.specs.model_kernel.Steps.{atlas_in}

-- no name of the script's containers is a locus's in the atlas
abbrev pub NamesNoLocus : Script → KernelState → Type 0
NamesNoLocus script w = All (λ (t : ContainerTable). locus_named (atlas_in (w 0).cell) t.name ≡ None) script.containers

-- no name of the script stands in the atlas with the other kind
pub record AreOfOneKind (a : AtlasState) (script : Script) : Type 0 where
  pub containers : All (λ (t : ContainerTable). locus_named a t.name ≡ None) script.containers
  pub loci : All (λ (t : LocusTable). container_named a t.name ≡ None) script.loci
