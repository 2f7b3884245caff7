use Rattle.std.proofs.Common.{List, subst}
use Rattle.std.specs.Prelude.{IfErr, OnErr}
use Rattle.base_types.specs.declared.histories.Touch.{Touch}
use Rattle.kernel_commit_facts.specs.model_serial.Serial.{wished_snaps, written_in}
use Rattle.kernel_commit_facts.specs.kernel_invariant.Beginnings.{run_of}
use Rattle.kernel_commit_facts.specs.Lacking.{LacksIn}
use Rattle.kernel_commit_facts.specs.Pieces.{StopsIn}
use Rattle.kernel_commit_facts.specs.Short.{AreSnapsShort}
use Rattle.kernel_commits.specs.Stops.{LeavesStopped}
use Rattle.kernel_commits.proofs.snapping.snap_written.Goals as goal

pub returns-clause-stopped : goal.returns-clause-stopped
returns-clause-stopped g c =
    subst (λ (ts : List Touch). IfErr c.snap_touched.result (LeavesStopped g.D.Disk.faults (AreSnapsShort g.D.Disk (g.P.Policy.wish c.args.gate.now.policy) (written_in ts) c.snap_touched.new.core) c.args.core.now c.snap_touched.new.core)) c.as_slice.ensures.touches
    c.snap_touched.ensures.stopped

pub returns-clause-part : goal.returns-clause-part
returns-clause-part g c = λ told b free.
    subst (λ (ts : List Touch). OnErr c.snap_touched.result (StopsIn b (wished_snaps b.supply (g.P.Policy.wish c.args.gate.now.policy) b.script (run_of b c.args.core.now.noted.entries) (written_in ts)) c.args.core.now.noted.entries c.snap_touched.new.core.noted.entries)) c.as_slice.ensures.touches
    (c.snap_touched.ensures.part told b free)

pub returns-clause-enough : goal.returns-clause-enough
returns-clause-enough g c = λ told b free n is.
    subst (λ (ts : List Touch). LacksIn g.D.Disk b n (wished_snaps b.supply (g.P.Policy.wish c.args.gate.now.policy) b.script (run_of b c.args.core.now.noted.entries) (written_in ts)) c.args.core.now.noted.entries c.snap_touched.new.core) c.as_slice.ensures.touches
    (c.snap_touched.ensures.enough told b free n is)
