-- What a cell of the kernel is in the model.
use Rattle.std.specs.Prelude.{◌≡◌, ℕ, List, Option, Some, None}
use Rattle.base_types.specs.declared.instructions.Condition.TheVariants.{Running}
use Rattle.cell_clocks.specs.model_kernel.State.{Supply, Cell as ModelCell, NotBorn, AtlasCell, ContainerCell, LocusCell, KernelState}
use Rattle.act_calls.specs.model_acts.Views.{IsReadyLocus}
use Rattle.act_calls.specs.act_alone.declared.loci.Head.{Head}
use Rattle.act_calls.specs.act_alone.declared.loci.Locus.{Locus}
use Rattle.act_calls.specs.act_alone.Loci.{locus_of, container_with}
use Rattle.act_calls.specs.Calls.{atlas_state}
use Rattle.page_memory.specs.declared.paged.PagedMemory.{PagedMemory}
use Rattle.page_memory.specs.Words.{words_of}
use Rattle.cell_clocks.specs.Clocks.{HasClock}
use Rattle.cell_states.specs.declared.cells.Cell.{Cell}
use Rattle.cell_states.specs.declared.cells.Part.{Part}
use Rattle.cell_states.specs.declared.cells.Part.TheVariants as part

-- a container with the words of its memory, by what the blocks of a store hold
abbrev pub container_cell : Supply → (ℕ → List ℕ) → PagedMemory → Option Head → ModelCell
container_cell s words m None = NotBorn
container_cell s words m (Some h) = ContainerCell (container_with (words_of s words m) h)

abbrev pub locus_cell : Option Locus → ModelCell
locus_cell None = NotBorn
locus_cell (Some l) = LocusCell (locus_of l)

-- what an entity's part is in the model
abbrev pub part_of : Supply → (ℕ → List ℕ) → Part → ModelCell
part_of s words (part.Atlas a) = AtlasCell (atlas_state a)
part_of s words (part.Container b) = container_cell s words b.memory b.head
part_of s words (part.Locus l) = locus_cell l

-- the state has the cell at its number
pub record HasCell (s : Supply) (words : ℕ → List ℕ) (w : KernelState) (c : Cell) : Type 0 where
  pub part : (w c.clock.entity).cell ≡ part_of s words c.part
  pub clock : HasClock w c.clock

-- the part is this locus, which runs
pub record IsRunning (p : Part) (l : Locus) : Type 0 where
  pub is : p ≡ part.Locus (Some l)
  pub runs : l.condition ≡ Running
  pub ready : IsReadyLocus (locus_of l)
