-- Steps of a locus beside another entity.
use Rattle.std.specs.Prelude.{◌≡◌, ℕ, Bool, true, false, IsTrue, IsSome, nat_lt, if◌then◌else◌, List, [], ◌∷◌, Option, Some, None, option_map}
use Rattle.base_types.specs.declared.histories.Answer.{Answer}
use Rattle.base_types.specs.declared.instructions.Instr.{Instr}
use Rattle.base_types.specs.declared.instructions.Instr.TheVariants.{Invoke, Leave, Return, Take, Give, Snap}
use Rattle.cell_states.specs.model_kernel.Acts.{wanted}
use Rattle.cell_states.specs.model_kernel.Changes.{Access}
use Rattle.cell_states.specs.model_kernel.Outcomes.{Outcome}
use Rattle.cell_states.specs.model_kernel.State.{LocusState, Cell, LocusCell}
use Rattle.cell_states.specs.model_acts.Views.{may_name_itself}
use Rattle.cell_states.specs.act_alone.declared.loci.Head.{Head}
use Rattle.cell_states.specs.page_memory.declared.paged.PagedMemory.{PagedMemory}
use Rattle.cell_states.specs.cell_clocks.Clocks.{writing}
use Rattle.cell_states.specs.declared.cells.Part.{Part}
use Rattle.cell_states.specs.declared.cells.Part.TheVariants as part

-- the locus wants this act beside the entity, and doesn't refuse it alone
pub record WantsOther (l : LocusState) (i : Instr) (x : ℕ) : Type 0 where
  pub instr : (wanted 64 l).instr ≡ i
  pub allowed : (wanted 64 l).refused ≡ None
  pub other : (wanted 64 l).other ≡ Some x

-- acts beside a container, but for looks and mappings
abbrev pub calls_container : Instr → Bool
calls_container (Invoke c) = true
calls_container (Leave c) = true
calls_container Return = true
calls_container (Take d c y) = true
calls_container (Give d c r rights) = true
calls_container (Snap c) = true
calls_container i = false

abbrev pub is_snap : Instr → Bool
is_snap (Snap c) = true
is_snap i = false

-- the part is born, and of a kind on which the instruction works
abbrev pub FitsBeside : Instr → Part → Type 0
FitsBeside i (part.Container b) = IsSome b.head × IsTrue (calls_container i)
FitsBeside i (part.Locus l) = IsSome l × IsTrue (may_name_itself i)
FitsBeside i (part.Atlas a) = IsTrue (is_snap i)

-- the outcome of an act that writes the locus and another entity: their new cells and the answer
pub record MakesBoth (o : Outcome) (locus other : Cell) (answer : Answer) : Type 0 where
  pub locus_made : locus ≡ LocusCell o.locus
  pub answers : answer ≡ o.answer
  pub other_made : o.other ≡ Some other
  pub newborn : o.newborn ≡ None

-- the locus and another entity are written, the lower number first
abbrev pub pair_of : ℕ → Cell → ℕ → Cell → List Access
pair_of me j x k = if nat_lt x me then writing x k ∷ writing me j ∷ [] else writing me j ∷ writing x k ∷ []

-- the memory of a container, and its head where it is born
abbrev pub memory_of : Part → Option PagedMemory
memory_of (part.Container b) = Some b.memory
memory_of p = None

abbrev pub head_of : Part → Option Head
head_of (part.Container b) = b.head
head_of p = None

-- the part's memory is the same, of a container with the same tag and as many pages
pub record KeepsMemory (old new : Part) : Type 0 where
  pub memory : memory_of new ≡ memory_of old
  pub tag : option_map (λ (h : Head). h.tag) (head_of new) ≡ option_map (λ (h : Head). h.tag) (head_of old)
  pub pages : option_map (λ (h : Head). h.pages) (head_of new) ≡ option_map (λ (h : Head). h.pages) (head_of old)
