-- What a commit of one cell left, by its laws.
use Rattle.std.proofs.Common.{◌≡◌, ℕ, Bool, ◌||◌, List, [], ◌∷◌, sym, ap, subst, arith}
use Rattle.std.proofs.lemmas.Bool.{false≢true}
use Rattle.edge_disk.specs.declared.disk.Disk.{Ghosts}
use Rattle.kernel_records.specs.cell_clocks.declared.Clock.{Clock}
use Rattle.kernel_records.specs.store_facts.State.{State, books}
use Rattle.kernel_records.specs.cell_states.declared.cells.Cell.{Cell}
use Rattle.kernel_records.specs.cell_states.declared.cells.Wish.{Wish}
use Rattle.table_laws.specs.Lending.{Lends}
use Rattle.table_laws.specs.Tables.{IsOrderly}
use Rattle.kernel_records.specs.cell_wish_laws.Founded.{IsFounded, IsFoundedCell, IsRecordedNow}
use Rattle.kernel_records.specs.kernel_record_facts.Cells.{words_on}
use Rattle.kernel_records.specs.Committing.{HasPages, LeavesCell}
use Rattle.kernel_views.proofs.Ordering.{orderly_again}

-- a cell that was recorded, and one whose commit failed, rest their wishes on changes
pub recorded_founded : (c d : Cell) → IsRecordedNow c d → IsFoundedCell d
recorded_founded c d r = subst (λ (w : Wish). IsFounded w.newest d.clock.version (w.by_step || w.asked)) (sym r.wish) (record {
  past = (let same = ap (λ (k : Clock). k.version) r.same_clock in omega (arith, same));
  changed = λ noted. absurd (false≢true noted);
})

module _ {D : Type 0} (disks : Ghosts D) where
  -- behind the pages the cells are in order
  pub pages_order : (cs cs' : List Cell) (c d : Cell) (old fl : State D) → d.clock ≡ c.clock → Lends cs cs' (c ∷ []) (d ∷ []) → IsFoundedCell d
      → HasPages disks c.part d.part old fl → IsOrderly (books old).held cs → IsOrderly (books fl).held cs'
  pages_order cs cs' c d old fl same lends founded pages ord =
      orderly_again disks (λ (st : State D). words_on (disks.reading st.disk)) old fl cs cs' c d same lends founded pages.flushes pages.table ord

  pub order : (cs cs' : List Cell) (c d : Cell) (old new : State D) → IsOrderly (books old).held cs → Lends cs cs' (c ∷ []) (d ∷ [])
      → IsFoundedCell d → LeavesCell disks c d old new → IsOrderly (books new).held cs'
  order cs cs' c d old new ord lends founded l =
      subst (λ (held : ℕ → Bool). IsOrderly held cs') (sym l.holds.same_held) (pages_order cs cs' c d old l.flushed l.same_clock lends founded l.pages ord)
