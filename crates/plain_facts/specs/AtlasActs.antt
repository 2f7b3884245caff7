-- What mappings and births by a program make.
use Rattle.std.specs.Prelude.{◌≡◌, ℕ, ◌+◌, List, length, Option, Some, None}
use Rattle.base_types.specs.declared.capabilities.Region.{Region}
use Rattle.base_types.specs.declared.histories.Answer.{Answer}
use Rattle.model_kernel.specs.Outcomes.{Outcome}
use Rattle.model_kernel.specs.State.{Supply, AtlasState, ContainerState, LocusState, Cell, ContainerCell, LocusCell}
use Rattle.plain_states.specs.Plains.{atlas_of, container_of, locus_of}
use Rattle.plain_states.specs.declared.plain.PlainAtlas.{PlainAtlas}
use Rattle.plain_states.specs.declared.plain.PlainContainer.{PlainContainer}
use Rattle.plain_states.specs.declared.plain.PlainLocus.{PlainLocus}

abbrev pub with_regions : ContainerState → List Region → ContainerState
with_regions c rs = record c { regions = rs }

-- the outcome of an act on the atlas and a container, both of which it writes
pub record ActedOnBoth (o : Outcome) (l : LocusState) (a : AtlasState) (c : Cell) (answer : Answer) : Type 0 where
  pub locus : l ≡ o.locus
  pub answers : answer ≡ o.answer
  pub atlas : a ≡ o.atlas
  pub other : o.other ≡ Some c
  pub newborn : o.newborn ≡ None

-- the outcome of a birth by a program
pub record ActedOnAtlas (o : Outcome) (l : LocusState) (a : AtlasState) (bears : Option (ℕ × Cell)) (answer : Answer) : Type 0 where
  pub locus : l ≡ o.locus
  pub answers : answer ≡ o.answer
  pub atlas : a ≡ o.atlas
  pub other : o.other ≡ None
  pub newborn : o.newborn ≡ bears

-- what is born, under the number that was free
abbrev pub container_bears : Supply → PlainAtlas → Option PlainContainer → Option (ℕ × Cell)
container_bears s a None = None
container_bears s a (Some c) = Some (length (atlas_of a).containers + 1, ContainerCell (container_of s c))

abbrev pub locus_bears : PlainAtlas → Option PlainLocus → Option (ℕ × Cell)
locus_bears a None = None
locus_bears a (Some l) = Some (length (atlas_of a).loci + 41, LocusCell (locus_of l))
