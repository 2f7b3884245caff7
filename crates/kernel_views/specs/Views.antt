-- A kernel as its cells and its store make it.
use Rattle.std.specs.Prelude.{◌≡◌, ℕ, Bool, false, List, Option, Some, None, slice_get}
use Rattle.edge_disk.specs.Image.{Image}
use Rattle.base_types.specs.declared.histories.Entry.{Entry}
use Rattle.kernel_records.specs.model_kernel.State.{Supply}
use Rattle.kernel_records.specs.cell_states.declared.cells.Cell.{Cell}
use Rattle.table_laws.specs.Tables.{HasTableWishes, state_in, tables_in}
use Rattle.kernel_records.specs.kernel_record_facts.Cells.{words_on}
use Rattle.kernel_laws.specs.store_books.Books.{Books}
use Rattle.kernel_records.specs.store_facts.State.{State, books}
use Rattle.kernel_laws.specs.kernel_invariant.Beginnings.{Beginning, run_of}
use Rattle.kernel_laws.specs.kernel_invariant.Live.{KernelView}
use Rattle.kernel_laws.specs.kernel_invariant.declared.stopping.Stopped.{Stopped}

abbrev pub newest_at : Option Cell → ℕ
newest_at (Some c) = c.wish.newest
newest_at None = 0

abbrev pub by_step_at : Option Cell → Bool
by_step_at (Some c) = c.wish.by_step
by_step_at None = false

abbrev pub asked_at : Option Cell → Bool
asked_at (Some c) = c.wish.asked
asked_at None = false

-- a number past the cells has made no step
abbrev pub left_at : ℕ → Option Cell → ℕ
left_at steps (Some c) = c.left
left_at steps None = steps

-- THE KERNEL that these cells and books make, over what the disk reads
abbrev pub view_in : Supply → ℕ → Image → List Cell → Books → List Entry → List ℕ → Option Stopped → KernelView
view_in s steps image cs b es marks stop = record {
  state = state_in s (words_on image) cs;
  tables = tables_in cs;
  newest = λ x. newest_at (slice_get cs x);
  by_step = λ x. by_step_at (slice_get cs x);
  asked = λ x. asked_at (slice_get cs x);
  left = λ x. left_at steps (slice_get cs x);
  history = es;
  marks = marks;
  stop = stop;
  books = b;
}

-- and with a store
abbrev pub view_of : {D : Type 0} → (D → Image) → Beginning → List Cell → State D → List Entry → List ℕ → Option Stopped → KernelView
view_of reading b cs st es marks stop = view_in b.supply b.script.steps (reading st.disk) cs (books st) es marks stop

-- the cells are what the run makes
pub record FollowsRun (b : Beginning) (words : ℕ → List ℕ) (cs : List Cell) (es : List Entry) : Type 0 where
  pub state : state_in b.supply words cs ≡ (run_of b es).state
  pub wishes : HasTableWishes b.script.steps (run_of b es) cs
