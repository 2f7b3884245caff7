use Rattle.edge_managers.specs.Managers.{counted_word}
use Rattle.kernel_core.specs.kernel_core_facts.kernel_record_facts.Cells.{words_on}
use Rattle.kernel_core.specs.kernel_core_facts.store_facts.State.{books}
use Rattle.thread_cell_steps.specs.table_laws.Tables.{AreClean, IsOrderly}
use Rattle.thread_step_clients.proofs.tests.steps.Given as goal

abbrev pub invariant-loop : goal.invariant-loop
invariant-loop g l = record {
  orderly : IsOrderly (books l.store).held l.cells;
  clean : g.D.Disk.tells → AreClean counted_word (words_on (g.D.Disk.reading l.store.disk)) l.cells;
}
