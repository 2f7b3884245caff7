use Rattle.std.proofs.Common.{◌∷◌, []}
use Rattle.edge_managers.specs.Managers.{counted_word, is_due}
use Rattle.edge_disk.specs.MemoryDisk.{faults_of}
use Rattle.kernel_core.specs.kernel_core_facts.kernel_laws.Opening.{empty_script}
use Rattle.kernel_core.specs.table_births.model_kernel.State.{empty_state}
use Rattle.test_boards.specs.Caused.{counts_before}
use Rattle.test_boards.proofs.boards.on_board.Given as goal

abbrev pub ghosts-driven-B-Bond : goal.ghosts-driven-B-Bond
ghosts-driven-B-Bond g a = record { values_table = a.opening.cells; first_values = a.opening.kernel.parts.cells }

abbrev pub ghosts-driven-B-Run : goal.ghosts-driven-B-Run
ghosts-driven-B-Run g a = record { table = a.opening.history; kept = a.opening.kernel.parts.noted.entries }

-- of the run itself only the managers' answers are named, since the disk tells nothing
abbrev pub ghosts-driven-B-Board : goal.ghosts-driven-B-Board
ghosts-driven-B-Board g a = record {
  begin = record { supply = counted_word; policy = is_due; script = empty_script 1; state = empty_state; since = 0; first = 0 };
  terms = record {
    counts = counts_before a.opening.kernel (λ d. faults_of d.memory);
    told = ⊥;
  };
  store_table = a.opening.stores;
  first_stores = a.opening.kernel.parts.store ∷ [];
}

abbrev pub ghosts-driven-B-Bench : goal.ghosts-driven-B-Bench
ghosts-driven-B-Bench g a = record { slate = a.opening.slate; all = 1 }

abbrev pub ghosts-driven-B-Ledger : goal.ghosts-driven-B-Ledger
ghosts-driven-B-Ledger g a = record { name = a.opening.ledger; parts = 1 }
