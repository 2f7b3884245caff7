-- Mappings over the cells of a locus, the atlas and a container.
use Rattle.std.specs.Prelude.{◌≡◌, ℕ, IsTrue, ◌||◌, ◌==◌, count_by, Some, None}
use Rattle.base_types.specs.declared.histories.Answer.{Answer}
use Rattle.base_types.specs.declared.instructions.Instr.{Instr}
use Rattle.cell_states.specs.model_kernel.Acts.{wanted}
use Rattle.cell_states.specs.model_kernel.Outcomes.{Outcome}
use Rattle.cell_states.specs.model_kernel.State.{LocusState, Cell, AtlasCell, LocusCell}
use Rattle.data_atlas.specs.data_atlas_facts.Directory.{Directory, edges_of, IsBornContainer}
use Rattle.cell_states.specs.act_alone.declared.loci.Head.{Head}
use Rattle.cell_states.specs.page_memory.declared.paged.PagedMemory.{PagedMemory}
use Rattle.cell_states.specs.act_calls.Calls.{is_map, is_unmap, NamesBorn}
use Rattle.cell_states.specs.declared.cells.Part.{Part}
use Rattle.cell_states.specs.declared.cells.Part.TheVariants as part

-- the locus wants to map pages into the container, or to unmap them, and doesn't refuse it alone
pub record WantsMapping (l : LocusState) (i : Instr) (x : ℕ) : Type 0 where
  pub instr : (wanted 64 l).instr ≡ i
  pub maps : IsTrue (is_map i || is_unmap i)
  pub allowed : (wanted 64 l).refused ≡ None
  pub other : (wanted 64 l).other ≡ Some x

-- the container is born, with the containers that the locus's capabilities name, and the directory counts its regions
pub record MayMap (d : Directory) (l : LocusState) (x : ℕ) (h : Head) : Type 0 where
  pub number : IsBornContainer d x
  pub caps : NamesBorn d l.caps
  pub counted : (y : ℕ) → edges_of d x y ≡ count_by (λ r. r.target == y) h.regions

-- the part is this directory
pub record IsDirectoryPart (p : Part) (d : Directory) : Type 0 where
  pub is : p ≡ part.Atlas d

-- the part is a container with this head
pub record IsHeadPart (p : Part) (h : Head) : Type 0 where
  pub memory : PagedMemory
  pub is : p ≡ part.Container (record { head = Some h; memory = memory })

-- the outcome of a mapping: the new cells of all three, and the answer
pub record MakesThree (o : Outcome) (locus atlas other : Cell) (answer : Answer) : Type 0 where
  pub locus_made : locus ≡ LocusCell o.locus
  pub answers : answer ≡ o.answer
  pub atlas_made : atlas ≡ AtlasCell o.atlas
  pub other_made : o.other ≡ Some other
  pub newborn : o.newborn ≡ None
