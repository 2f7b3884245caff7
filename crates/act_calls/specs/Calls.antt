-- What the calls of capabilities rest on, and what they make.
use Rattle.std.specs.Prelude.{◌≡◌, ℕ, ◌+◌, length, Bool, true, false, IsTrue, List, Option, Some, None, slice_get}
use Rattle.base_types.specs.declared.capabilities.Cap.{Cap}
use Rattle.base_types.specs.declared.histories.Answer.TheVariants.{Reply as Replied}
use Rattle.base_types.specs.declared.instructions.Instr.{Instr}
use Rattle.base_types.specs.declared.instructions.Instr.TheVariants.{Map, Unmap, Take, Give, Make, Spawn, Stop, Go}
use Rattle.base_types.specs.declared.instructions.Reply.{Reply}
use Rattle.act_invoke.specs.model_kernel.State.{Supply, AtlasState, LocusState, Cell, ContainerCell, LocusCell}
use Rattle.act_invoke.specs.model_kernel.Acts.{wanted}
use Rattle.act_invoke.specs.model_kernel.Outcomes.{Outcome, supplied}
use Rattle.act_invoke.specs.model_kernel.Words.{is_container}
use Rattle.act_invoke.specs.act_alone.Loci.{locus_of, container_with}
use Rattle.act_invoke.specs.act_alone.declared.loci.Head.{Head}
use Rattle.act_invoke.specs.act_alone.declared.loci.Locus.{Locus}
use Rattle.data_atlas.specs.data_atlas_facts.Directory.{Directory, edges_of, IsBornContainer}

-- what the directory is in the model
abbrev pub atlas_state : Directory → AtlasState
atlas_state d = record { containers = d.containers; loci = d.loci; edges = edges_of d }

abbrev pub is_map : Instr → Bool
is_map (Map d a c b n rights) = true
is_map i = false

abbrev pub is_unmap : Instr → Bool
is_unmap (Unmap d a) = true
is_unmap i = false

abbrev pub is_take : Instr → Bool
is_take (Take d c y) = true
is_take i = false

abbrev pub is_give : Instr → Bool
is_give (Give d c s rights) = true
is_give i = false

abbrev pub is_make : Instr → Bool
is_make (Make d n t entry) = true
is_make i = false

abbrev pub is_spawn : Instr → Bool
is_spawn (Spawn d p) = true
is_spawn i = false

abbrev pub is_stop : Instr → Bool
is_stop (Stop c) = true
is_stop i = false

abbrev pub is_go : Instr → Bool
is_go (Go c) = true
is_go i = false

-- the locus wants an act of this kind that bears, which it doesn't refuse alone
pub record WantsBirth (is : Instr → Bool) (l : LocusState) : Type 0 where
  pub instr : IsTrue (is (wanted 64 l).instr)
  pub allowed : (wanted 64 l).refused ≡ None

-- the containers that the capabilities name are born
abbrev pub NamesBorn : Directory → List (Option Cap) → Type 0
NamesBorn d caps = (slot : ℕ) (cap : Cap) → slice_get caps slot ≡ Some (Some cap) → IsTrue (is_container cap.entity) → IsBornContainer d cap.entity

-- the outcome of a call: the locus, the reply, and the other entity where there is one
pub record CallMade (o : Outcome) (m : LocusState) (reply : Reply) (cell : Option Cell) : Type 0 where
  pub locus : m ≡ o.locus
  pub answer : Replied reply ≡ o.answer
  pub other : o.other ≡ cell
  pub newborn : o.newborn ≡ None

-- the outcome of a call that touches the atlas too
pub record AtlasCallMade (o : Outcome) (m : LocusState) (reply : Reply) (a : AtlasState) (cell : Option Cell) (born : Option (ℕ × Cell)) : Type 0 where
  pub locus : m ≡ o.locus
  pub answer : Replied reply ≡ o.answer
  pub atlas : a ≡ o.atlas
  pub other : o.other ≡ cell
  pub newborn : o.newborn ≡ born

-- what is born, under the lowest free number
abbrev pub born_head : Supply → AtlasState → Option Head → Option (ℕ × Cell)
born_head s a None = None
born_head s a (Some h) = Some (length a.containers + 1, ContainerCell (container_with (supplied s h.tag) h))

abbrev pub born_locus : AtlasState → Option Locus → Option (ℕ × Cell)
born_locus a None = None
born_locus a (Some l) = Some (length a.loci + 41, LocusCell (locus_of l))
