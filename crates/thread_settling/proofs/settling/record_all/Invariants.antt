use Rattle.std.specs.Prelude.{map}
use Rattle.std.specs.Sync.Mutex.{mutex_guard_value}
use Rattle.thread_commits.specs.kernel_commit_facts.Parts.{parts_of}
use Rattle.thread_settling.specs.Rows.{AllFit, AreSameSeats, IsRow}
use Rattle.thread_settling.proofs.Turns.{IsBehind}
use Rattle.thread_settling.proofs.settling.record_all.Given as goal

abbrev pub invariant-loop-i : goal.invariant-loop-i
invariant-loop-i g l = record {
  row : IsRow (map (λ it. g.C.CellInLock.keeping (mutex_guard_value it)) l.cells);
  seats : AreSameSeats (map (λ it. g.C.CellInLock.keeping (mutex_guard_value it)) l.fn.cells) (map (λ it. g.C.CellInLock.keeping (mutex_guard_value it)) l.cells);
  lawful : AllFit g.C.LentCell.fits (map (λ it. g.C.CellInLock.keeping (mutex_guard_value it)) l.fn.cells) (parts_of l.store l.all l.notes);
  behind : IsBehind g.D.Disk (parts_of l.fn.store l.fn.all l.fn.notes) l.i (parts_of l.store l.all l.notes);
}
