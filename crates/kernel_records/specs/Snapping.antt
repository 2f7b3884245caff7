-- When a snapshot of a cell is made.
use Rattle.std.specs.Prelude.{ℕ, Bool, ◌&&◌, List, nat_lt}
use Rattle.page_store.specs.model_kernel.Histories.{Policy}
use Rattle.page_store.specs.model_kernel.State.{Supply}
use Rattle.cell_wish_laws.specs.cell_states.declared.cells.Cell.{Cell}
use Rattle.cell_wish_laws.specs.cell_states.Cells.{part_of}
use Rattle.cell_wish_laws.specs.cell_states.Wishes.{is_open}
use Rattle.store_snapshots.specs.store_facts.Shelves.{records_of}
use Rattle.kernel_block_laws.specs.store_books.Books.{Books, kept_in}

-- FULL: the store keeps four records of the entity or more
abbrev pub has_room : Books → ℕ → Bool
has_room b x = nat_lt (records_of x (kept_in b)) 4

-- A SNAPSHOT IS MADE where one of the cell is wished, and its entity isn't full (what the blocks hold is beside the point)
abbrev pub is_snapped : Policy → Supply → (ℕ → List ℕ) → Cell → Books → Bool
is_snapped policy s words c b = is_open policy (part_of s words c.part) c.clock.version c.wish && has_room b c.clock.entity
