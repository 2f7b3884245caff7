-- How many blocks a kernel may use.
use Rattle.std.specs.Prelude.{◌≡◌, ℕ, ◌+◌, ◌*◌, ◌≤◌, Bool, true, false, not, ◌==◌, List, [], length, count_by}
use Rattle.std.specs.List.{sum_by}
use Rattle.base_types.specs.Edges.{upto}
use Rattle.kernel_invariant.specs.model_kernel.State.{AtlasCell, Cell, ContainerCell, KernelState, LocusCell, NotBorn}
use Rattle.kernel_invariant.specs.image_facts.Bodies.{blob_blocks}
use Rattle.kernel_invariant.specs.image_facts.Layout.{pool_at}
use Rattle.kernel_invariant.specs.store_books.Books.{Books, Logged, kept_in}

-- the blocks that a page table names, each place counted
abbrev pub named_in : List ℕ → ℕ
named_in table = count_by (λ n. not (n == 0)) table

-- those of a record's blob and of its pages
abbrev pub blocks_of : Logged → ℕ
blocks_of l = length (blob_blocks l.rec) + named_in l.table

-- those of all kept records
abbrev pub kept_blocks : Books → ℕ
kept_blocks b = sum_by blocks_of (kept_in b)

-- those of all working page tables
abbrev pub working_blocks : (ℕ → List ℕ) → ℕ
working_blocks tables = sum_by (λ x. named_in (tables x)) (upto 64)

-- THE ROOM THAT ENTITIES WANT

-- a container's pages
abbrev pub pages_in : Cell → ℕ
pages_in (ContainerCell c) = c.pages
pages_in NotBorn = 0
pages_in (AtlasCell a) = 0
pages_in (LocusCell l) = 0

abbrev pub is_there : Cell → Bool
is_there NotBorn = false
is_there (AtlasCell a) = true
is_there (ContainerCell c) = true
is_there (LocusCell l) = true

-- the pages of all containers
abbrev pub all_pages : KernelState → ℕ
all_pages w = sum_by (λ x. pages_in (w x).cell) (upto 64)

-- how many entities are born, the atlas among them
abbrev pub all_born : KernelState → ℕ
all_born w = count_by (λ x. is_there (w x).cell) (upto 64)

-- With so many blocks no call of a kernel lacks one: of each entity there are at most five kept records, each of at most its pages and
-- eight blocks of a blob, beside its working pages.
abbrev pub enough_blocks : KernelState → ℕ
enough_blocks w = pool_at + 6 * all_pages w + 40 * all_born w

-- each working page table names at most its container's pages, and entities have numbers below 64
abbrev pub AreTablesWithin : KernelState → (ℕ → List ℕ) → Type 0
AreTablesWithin w tables = (x : ℕ) → (named_in (tables x) ≤ pages_in (w x).cell) × (64 ≤ x → tables x ≡ [])
