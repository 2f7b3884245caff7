-- The copying of a container: one more container in a state, as one that is there.
use Rattle.std.specs.Prelude.{◌≡◌, ℕ, ◌&&◌, if◌then◌else◌, List, [], ◌∷◌, replicate, Option, Some, None, is_none}
use Rattle.base_types.specs.declared.capabilities.Region.{Region}
use Rattle.base_types.specs.declared.histories.Answer.TheVariants.{Quiet}
use Rattle.base_types.specs.declared.histories.Entry.{Entry}
use Rattle.base_types.specs.declared.histories.Event.TheVariants.{Birth}
use Rattle.model_sound_states.specs.model_kernel.Births.{with_container_name, with_edge}
use Rattle.model_sound_states.specs.model_kernel.Changes.{Change, acts}
use Rattle.model_sound_states.specs.model_kernel.Outcomes.{free_container}
use Rattle.model_sound_states.specs.model_kernel.Scripts.{container_named, number_of}
use Rattle.model_sound_states.specs.model_kernel.Soundness.{is_given_name}
use Rattle.model_sound_states.specs.model_kernel.State.{AtlasCell, AtlasState, Cell, ContainerCell, ContainerState, KernelState, LocusCell, NotBorn, Text}
use Rattle.model_sound_states.specs.model_kernel.Steps.{atlas_in}

-- a container as the other, with its words and regions, and without capabilities
abbrev pub copied_container : ContainerState → ContainerState
copied_container c = record c { caps = replicate 32 None }

-- an edge from n for each of these regions
abbrev pub with_edges : ℕ → List Region → AtlasState → AtlasState
with_edges n [] a = a
with_edges n (r ∷ rs) a = with_edge (with_edges n rs a) n r.target

abbrev pub copied_atlas : AtlasState → Text → ℕ → List Region → AtlasState
copied_atlas a fresh n regions = with_edges n regions (with_container_name a fresh)

-- the atlas and the new container are written, and the one that is copied is read
abbrev pub copy_of : AtlasState → ℕ → Text → ℕ → ContainerState → Change
copy_of a source fresh n c = record {
  accesses =
      record { entity = 0; new = Some (AtlasCell (copied_atlas a fresh n c.regions)) }
      ∷ record { entity = source; new = None }
      ∷ record { entity = n; new = Some (ContainerCell (copied_container c)) }
      ∷ [];
  answer = Quiet;
}

abbrev pub copy_in : AtlasState → ℕ → Text → ℕ → Cell → Option (ℕ × Change)
copy_in a source fresh n (ContainerCell c) = Some (n, copy_of a source fresh n c)
copy_in a source fresh n NotBorn = None
copy_in a source fresh n (AtlasCell b) = None
copy_in a source fresh n (LocusCell l) = None

-- where the name is a container's, and a number is free
abbrev pub copy_numbered : KernelState → AtlasState → Text → Option ℕ → Option ℕ → Option (ℕ × Change)
copy_numbered w a fresh None n = None
copy_numbered w a fresh (Some source) None = None
copy_numbered w a fresh (Some source) (Some n) = copy_in a source fresh n (w source).cell

abbrev pub copy_named : Text → Text → KernelState → AtlasState → Option (ℕ × Change)
copy_named name fresh w a = if is_given_name fresh && is_none (number_of a fresh) then copy_numbered w a fresh (container_named a name) (free_container a) else None

unfoldable pub copy_change : Text → Text → KernelState → Option (ℕ × Change)
copy_change name fresh w = copy_named name fresh w (atlas_in (w 0).cell)

-- THE COPYING OF A CONTAINER as an event: it gives the entry and the state where the first name is a container's, the second a well-formed name
-- of nobody, and a number is free
abbrev pub copying : Text → Text → KernelState → Option (Entry × KernelState)
copying name fresh = acts Birth (copy_change name fresh)

-- THE STATE IS THE OTHER WITH A COPY
pub record IsCopied (name fresh : Text) (v w : KernelState) : Type 0 where
  pub entry : Entry
  pub is : copying name fresh v ≡ Some (entry, w)
