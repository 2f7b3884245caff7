-- What a run in some order of looks leaves, as a run on threads does.
use Rattle.std.proofs.Common.{◌≡◌, Bool, Option, None, Some, refl}
use Rattle.edge_disk.specs.declared.disk.Disk.{Ghosts}
use Rattle.command_open.specs.kernel_core_facts.Kernels.{Held, Lives}
use Rattle.command_open.specs.kernel_invariant.Beginnings.{Beginning}
use Rattle.command_open.specs.kernel_invariant.declared.stopping.Stopped.{Stopped}
use Rattle.command_open.specs.kernel_invariant.declared.stopping.Stopped.TheVariants as reason
use Rattle.command_open.specs.command_promises.Manners.{Telling, on_threads}
use Rattle.command_open.specs.command_promises.Playing.{EndsAs}
use Rattle.thread_runs.specs.Ran.{EndsInSomeOrder}

module _ {D : Type 0} (disks : Ghosts D) (telling : Telling) (b : Beginning) (lacked : Bool) (k : Held D) (ends : EndsInSomeOrder disks b lacked k) where
  lives_by : (o : Option Stopped) → k.stop ≡ o → Lives disks b k
  lives_by None is = (ends.along is).1.lives
  lives_by (Some why) is = (ends.stopped why is).1.lives

  pub ends_in_order : EndsAs disks (on_threads telling) b lacked k
  ends_in_order = record {
    lives = lives_by k.stop refl;
    over = λ is fed. (let o = ends.over fed is in record { first = o.0; rounds_made = o.1.rounds_made; looks = o.1.looks; over = o.1.idle });
    stopped = λ why is. (let p = (ends.stopped why is).1.piece in record { front = p.front; all = p.all; next = p.next; part = p.part });
    short = λ n is.
        (let p = (ends.stopped (reason.NoBlocks n) is).1.piece in
        let l = p.enough n refl in
        (l.lacks, record { front = p.front; all = p.all; next = p.next; due = l.due }, l.within));
    lacking = λ is yes. (let a = ends.along is in record { looked = a.0; looks = a.1.looks });
  }
