-- In the serial run, where the picks of the script's order are looked at first: what was stopped, left or over behind them is so in the serial history.
use Rattle.std.proofs.Common.{◌≡◌, List, Some, Ok, Err, sym, subst, ◌∙◌}
use Rattle.std.proofs.lemmas.Option.{same_Some}
use Rattle.std.specs.Prelude.{Result, ⊤}
use Rattle.edge_disk.specs.declared.disk.Disk.{Ghosts}
use Rattle.base_types.specs.declared.histories.Entry.{Entry}
use Rattle.kernel_core.specs.model_serial.Serial.{IsStopped}
use Rattle.kernel_core.proofs.model_serial_turns_lemmas.Stops.{stopped_looks}
use Rattle.kernel_core.proofs.kernel_commit_facts_lemmas.Dues.{short_looks}
use Rattle.kernel_core.specs.kernel_core_facts.Kernels.{Held}
use Rattle.kernel_core.specs.kernel_invariant.Beginnings.{Beginning}
use Rattle.kernel_core.specs.kernel_invariant.declared.stopping.Stopped.{Stopped}
use Rattle.kernel_core.specs.kernel_invariant.declared.stopping.Stopped.TheVariants as reason
use Rattle.kernel_run_facts.specs.declared.halts.Halt.{Halt}
use Rattle.kernel_run_facts.specs.declared.halts.Halt.TheVariants as halt
use Rattle.kernel_run_facts.specs.Running.{EndsBehind, EndsRun, HasStopped, HasStoppedBehind, IsOver, IsOverBehind, picks_in}
use Rattle.kernel_run_facts.specs.Watching.{RoundsLeave, RunLeaves}
use Rattle.kernel_run_facts.proofs.Alongs.{as_serial}

module _ {D : Type 0} (disks : Ghosts D) (b : Beginning) (k : Held D) where
  pub stopped_serial : (why : Stopped) → k.stop ≡ Some why → HasStoppedBehind disks b (picks_in b) why k → HasStopped disks b k
  stopped_serial why is h =
      let p = h.piece in
      let first = as_serial b h.looked h.begins in
      record {
        lives = h.lives;
        part =
            subst (IsStopped b.supply b.policy b.script b.state) (sym p.part.entries)
            (stopped_looks b.supply b.script b.policy b.state h.looked p.front p.all p.part.part h.looks first p.part.is);
        short = λ n at. short_looks disks b n h.looked p.front p.all k.parts h.looks first (p.enough n (same_Some why (reason.NoBlocks n) (sym is ∙ at)));
      }

  over_serial : IsOverBehind disks b (picks_in b) k → IsOver disks b k
  over_serial h = record { lives = h.lives; whole = record { rounds_made = h.rounds_made; same = h.looks.same; over = h.idle } }

  pub ends_serial : EndsBehind disks b (picks_in b) k → EndsRun disks b k
  ends_serial h = record { over = λ going. over_serial (h.over going); stopped = λ why is. stopped_serial why is (h.stopped why is) }

  module _ (watches leaves : Beginning → List Entry → Type 0) where
    pub rounds_serial : (r : Result ⊤ Halt) → RoundsLeave disks watches leaves b (picks_in b) r k → RunLeaves disks watches leaves b r k
    rounds_serial (Ok y) h = record { over = over_serial h.over; knows = h.knows }
    rounds_serial (Err (halt.Kernel why)) h = record { stopped = stopped_serial h.why h.stop h.stopped; knows = h.knows }
    rounds_serial (Err halt.Watcher) h = record { looked = h.looked; first = as_serial b h.looked h.begins; along = h.along; knows = h.knows }
