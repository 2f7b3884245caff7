use Rattle.std.proofs.Common.{subst, sym}
use Rattle.kernel_invariant.specs.Live.{IsCalm}
use Rattle.kernel_laws.proofs.Going.{event_runs, reads_run, snap_runs, stop_lives, tried_lives}
use Rattle.kernel_laws.proofs.Snaps.{stable_runs}
use Rattle.kernel_laws.proofs.going_law.Goals as goal

pub returns-clause-event : goal.returns-clause-event
returns-clause-event g c b old new disk after e r m =
    event_runs b g.D.Disk g.met.D.Disk.counts_later g.met.D.Disk.only_now old new disk after r e m

pub returns-clause-snap : goal.returns-clause-snap
returns-clause-snap g c b old new disk after e r m =
    snap_runs b g.D.Disk g.met.D.Disk.counts_later g.met.D.Disk.only_now old new disk after r e m

pub returns-clause-stop : goal.returns-clause-stop
returns-clause-stop g c b old new disk after r m =
    stop_lives b g.D.Disk g.met.D.Disk.counts_later g.met.D.Disk.only_now old new disk after r m

pub returns-clause-tried : goal.returns-clause-tried
returns-clause-tried g c b old new disk after e r m =
    tried_lives b g.D.Disk g.met.D.Disk.counts_later g.met.D.Disk.only_now old new disk after r e m

pub returns-clause-stable : goal.returns-clause-stable
returns-clause-stable g c b old new disk e r m = stable_runs b g.D.Disk old new disk e r m

pub returns-clause-reads : goal.returns-clause-reads
returns-clause-reads g c b old new disk after l m = record {
  running = reads_run b g.D.Disk g.met.D.Disk.counts_later g.met.D.Disk.only_now old new disk after l.running m;
  calm = λ none. subst (IsCalm b) (sym m.history) (l.calm m.was_going);
}
