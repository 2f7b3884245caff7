-- The store of an image as a store of pages.
use Rattle.edge_disk.specs.declared.disk.Disk.{Ghosts}
use Rattle.page_store.specs.declared.store.PageStore.{Ghosts as Pages}
use Rattle.kernel_core_facts.specs.kernel_record_facts.Cells.{words_on}
use Rattle.kernel_core_facts.specs.store_books.Books.{free_in, kept_names}
use Rattle.kernel_core_facts.specs.store_facts.State.{State, books}
use Rattle.kernel_core_facts.specs.kernel_book_laws.store_snapshots.Paging.{GoesByPages}

abbrev pub pages_of : {D : Type 0} → Ghosts D → Pages (State D)
pages_of disks = record {
  tells = disks.tells;
  held = λ st. (books st).held;
  kept_names = λ st. kept_names (books st);
  words = λ st. words_on (disks.reading st.disk);
  free = λ st. free_in (books st);
  is_shut = λ st. (books st).shut;
  faults = λ st. disks.faults st.disk;
  written = λ st. (books st).begun;
  read_calls = λ st. st.read_calls;
  Pages = GoesByPages disks;
}
