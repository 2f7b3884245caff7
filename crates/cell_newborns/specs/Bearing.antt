-- Births by a program, over the cells of a locus, the atlas and the newborn.
use Rattle.std.specs.Prelude.{◌≡◌, ◌⊎◌, ◌≤◌, ℕ, Bool, List, length, Some, None}
use Rattle.base_types.specs.declared.histories.Answer.{Answer}
use Rattle.cell_states.specs.model_kernel.Outcomes.{Outcome}
use Rattle.cell_states.specs.model_kernel.State.{Supply, LocusState, Cell, AtlasCell, LocusCell}
use Rattle.data_atlas.specs.data_atlas_facts.Directory.{Directory}
use Rattle.cell_states.specs.act_alone.declared.loci.Head.{Head}
use Rattle.cell_states.specs.act_calls.Calls.{WantsBirth, is_make, is_spawn}
use Rattle.cell_states.specs.page_memory.declared.paged.PagedMemory.{PagedMemory}
use Rattle.cell_states.specs.page_memory.Words.{AreCleanTrue, IsSoundTable}
use Rattle.cell_states.specs.declared.cells.Part.{Part}
use Rattle.cell_states.specs.declared.cells.Part.TheVariants as part

-- the part is that of a container that isn't born, or of a locus that isn't
pub record IsUnbornContainer (p : Part) : Type 0 where
  pub memory : PagedMemory
  pub is : p ≡ part.Container (record { head = None; memory = memory })

-- the part is a container whose memory may be looked at, whatever blocks a store holds
pub record IsNewContainer (p : Part) : Type 0 where
  pub head : Head
  pub memory : PagedMemory
  pub is : p ≡ part.Container (record { head = Some head; memory = memory })
  pub tag : memory.tag ≡ head.tag
  pub pages : memory.pages ≡ head.pages
  pub table : (held : ℕ → Bool) → IsSoundTable held memory
  pub clean : (s : Supply) (words : ℕ → List ℕ) → AreCleanTrue s words memory

-- the outcome of a birth: the new cells of the locus and the atlas, the newborn under its number, and the answer
pub record MakesNewborn (o : Outcome) (locus atlas newborn : Cell) (x : ℕ) (answer : Answer) : Type 0 where
  pub locus_made : locus ≡ LocusCell o.locus
  pub answers : answer ≡ o.answer
  pub atlas_made : atlas ≡ AtlasCell o.atlas
  pub no_other : o.other ≡ None
  pub newborn_made : o.newborn ≡ Some (x, newborn)

-- the locus wants to give birth, and no number is free
pub record NoNumberFree (l : LocusState) (d : Directory) : Type 0 where
  pub is : (WantsBirth is_make l × (40 ≤ length d.containers)) ⊎ (WantsBirth is_spawn l × (23 ≤ length d.loci))

-- the outcome of a birth where no number is free: the new cell of the locus, the atlas as it was, and the answer
pub record MakesNone (o : Outcome) (locus atlas : Cell) (answer : Answer) : Type 0 where
  pub locus_made : locus ≡ LocusCell o.locus
  pub answers : answer ≡ o.answer
  pub same_atlas : atlas ≡ AtlasCell o.atlas
  pub no_other : o.other ≡ None
  pub no_newborn : o.newborn ≡ None
