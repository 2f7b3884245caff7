-- What a kernel is left with where a record fails.
use Rattle.std.proofs.Common.{◌≡◌, ℕ, ◌<◌, ◌≤◌, List, length, Err, sym, ap, subst, ◌∙◌, arith, length-append}
use Rattle.std.specs.Prelude.{Result}
use Rattle.edge_disk.specs.declared.disk.Disk.{Ghosts}
use Rattle.edge_disk.specs.declared.disk.NoBlocks.{NoBlocks}
use Rattle.base_types.specs.declared.histories.Entry.{Entry}
use Rattle.kernel_commit_facts.specs.table_laws.Tables.{IsOrderly}
use Rattle.kernel_commit_facts.specs.store_facts.State.{books}
use Rattle.kernel_commit_facts.specs.cell_wish_laws.Founded.{IsFoundedCell}
use Rattle.kernel_commit_facts.proofs.kernel_views_lemmas.Behind.{order}
use Rattle.kernel_commit_facts.specs.Parts.{Parts}
use Rattle.kernel_commit_facts.specs.Recording.{HasTried, IsShort}
use Rattle.kernel_commits.specs.Recording.{Fails}
use Rattle.kernel_commits.specs.Stops.{LeavesStopped}
use Rattle.kernel_commit_facts.specs.kernel_invariant.declared.stopping.Stopped.{Stopped}
use Rattle.kernel_commit_facts.specs.kernel_invariant.declared.stopping.Stopped.TheVariants as reason
use Rattle.edge_disk.proofs.Ticks.{Rose-before}

module _ {D : Type 0} (disks : Ghosts D) (x : ℕ) (mid new : Parts D)
    (ord : IsOrderly (books mid.store).held mid.cells) where
  pub tried_orderly : HasTried disks x mid new → IsOrderly (books new.store).held new.cells
  tried_orderly t =
      order disks mid.cells new.cells t.failed.before t.failed.after mid.store new.store ord t.failed.commits.lends
      (subst IsFoundedCell (sym t.failed.failed.only_part) (ord.founded t.failed.before.clock.entity t.failed.before t.failed.commits.lends.stood.0)) t.failed.failed.leaves

  fewer : (n : NoBlocks) → IsShort disks x mid n → n.free < n.need
  fewer n short =
      let free = ap (λ (q : NoBlocks). q.free) short.short.numbers in
      let need = ap (λ (q : NoBlocks). q.need) short.short.numbers in
      let lt = short.short.fewer in
      omega (arith, free, need, lt)

  -- a record that fails behind others
  module _ (old : Parts D) (marks : length mid.noted.marks ≤ length mid.noted.entries) (before : disks.faults old.store.disk ≤ disks.faults mid.store.disk) (later : disks.faults mid.store.disk ≤ disks.faults new.store.disk)
      {T : Type 0} (r : Result T Stopped) (fails : Fails disks x r mid new) (short : (n : NoBlocks) → r ≡ Err (reason.NoBlocks n) → IsShort disks x mid n)
      (P : NoBlocks → Type 0) (wants : (n : NoBlocks) → r ≡ Err (reason.NoBlocks n) → P n) where
    wanting_by : (why : Stopped) → r ≡ Err why → (n : NoBlocks) → why ≡ reason.NoBlocks n → P n
    wanting_by why is n same = wants n (subst (λ (w : Stopped). r ≡ Err w) same is)

    pub stop_left : (why : Stopped) → r ≡ Err why → LeavesStopped disks.faults P old new why
    stop_left (reason.NoBlocks n) is = record {
      orderly = subst (λ (p : Parts D). IsOrderly (books p.store).held p.cells) (sym (fails.untouched n is)) ord;
      marks = subst (λ (p : Parts D). length p.noted.marks ≤ length p.noted.entries) (sym (fails.untouched n is)) marks;
      cause = fewer n (short n is);
      wanting = wanting_by (reason.NoBlocks n) is;
    }
    stop_left reason.ReadFault is = absurd (fails.no_read is)
    stop_left reason.WriteFault is =
        let t = fails.tried is in
        record {
          orderly = tried_orderly t;
          marks =
              let more = ap (λ (es : List Entry). length es) t.entries ∙ length-append mid.noted.entries _ in
              let same_marks = ap (λ (ms : List ℕ). length ms) t.marks in
              omega (arith, marks, more, same_marks);
          cause = Rose-before (disks.faults old.store.disk) (disks.faults mid.store.disk) (disks.faults new.store.disk) before later t.rose;
          wanting = wanting_by reason.WriteFault is;
        }
