use Rattle.std.proofs.Common.{Some, None, if◌then◌else◌, sym, subst}
use Rattle.std.specs.Prelude.{IfErr}
use Rattle.kernel_core_facts.specs.model_serial.Serial.{kept_behind, written_in}
use Rattle.kernel_core_facts.specs.kernel_invariant.Beginnings.{run_of}
use Rattle.kernel_core_facts.specs.kernel_commit_facts.Lacking.{LacksIn}
use Rattle.kernel_core_facts.specs.kernel_commit_facts.Short.{AreShortBehind}
use Rattle.kernel_core_facts.specs.kernel_commits.Stops.{LeavesStopped}
use Rattle.kernel_core.proofs.looking.keep_behind.Goals as goal

pub returns-then-owes-clause-stopped : goal.returns-then-owes-clause-stopped
returns-then-owes-clause-stopped g c =
    let d = g.D.Disk in
    let new = c.settle.new.core in
    subst (λ t. IfErr c.settle.result (LeavesStopped d.faults (AreShortBehind d (g.P.Policy.wish c.args.gate.now.policy) t (written_in c.args.entry.now.touched) new) c.args.core.now new)) (sym c.if-owes.true)
    c.settle.ensures.stopped

pub returns-clause-stopped : goal.returns-clause-stopped
returns-clause-stopped g c =
    let d = g.D.Disk in
    let new = c.snap_written.new.core in
    subst (λ t. IfErr c.snap_written.result (LeavesStopped d.faults (AreShortBehind d (g.P.Policy.wish c.args.gate.now.policy) t (written_in c.args.entry.now.touched) new) c.args.core.now new)) (sym c.if-owes.false)
    c.snap_written.ensures.stopped

pub returns-then-owes-clause-enough : goal.returns-then-owes-clause-enough
returns-then-owes-clause-enough g c = λ told b owes free n is.
    let es = c.args.core.now.noted.entries in
    let e = c.args.entry.now in
    subst (λ t. LacksIn g.D.Disk b n (kept_behind b.supply (g.P.Policy.wish c.args.gate.now.policy) b.script (run_of b es) (written_in e.touched) (if t then Some e.actor else None)) es c.settle.new.core) (sym c.if-owes.true)
    (c.settle.ensures.enough told b (owes c.if-owes.true) n is)

pub returns-clause-enough : goal.returns-clause-enough
returns-clause-enough g c = λ told b owes free n is.
    let es = c.args.core.now.noted.entries in
    let e = c.args.entry.now in
    subst (λ t. LacksIn g.D.Disk b n (kept_behind b.supply (g.P.Policy.wish c.args.gate.now.policy) b.script (run_of b es) (written_in e.touched) (if t then Some e.actor else None)) es c.snap_written.new.core) (sym c.if-owes.false)
    (c.snap_written.ensures.enough told b (free c.if-owes.false) n is)
