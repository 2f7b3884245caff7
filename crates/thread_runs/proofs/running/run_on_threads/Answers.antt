use Rattle.std.proofs.Common.{false, Err, sym, ap, subst, ◌∙◌}
use Rattle.edge_managers.specs.declared.Gate.{Gate}
use Rattle.script_types.specs.Scripts.{tables_of}
use Rattle.kernel_runs.specs.kernel_core_facts.Kernels.{StaysClean}
use Rattle.kernel_runs.proofs.kernel_run_facts_lemmas.Alongs.{run_by}
use Rattle.kernel_runs.proofs.kernel_run_facts_lemmas.Caused.{births_cause, cause_kept}
use Rattle.kernel_runs.proofs.kernel_run_facts_lemmas.Watched.{stopped_for}
use Rattle.thread_runs.specs.Ran.{IsSpokenOf, counts_of}
use Rattle.thread_runs.proofs.Counted.{counted_before, counted_call}
use Rattle.thread_runs.proofs.Orders.{ends_stopped}
use Rattle.thread_runs.proofs.running.run_on_threads.Goals as goal

pub work_on_board-requires : goal.work_on_board-requires
work_on_board-requires g c κs within =
    (within.0, (within.1.0, (within.1.1.0, (within.1.1.1.0, (within.1.1.1.1, (c.requires.1.1.1.1.1.0, (c.requires.1.1.1.1.1.1.0, (c.requires.1.1.1.1.1.1.1.0, (c.requires.1.1.1.1.1.1.1.1.0, (c.requires.1.1.1.1.1.1.1.1.1.0, (c.requires.1.1.1.1.1.1.1.1.1.1.0, (c.requires.1.1.1.1.1.1.1.1.1.1.1.0, (c.requires.1.1.1.1.1.1.1.1.1.1.1.1.0, (c.requires.1.1.1.1.1.1.1.1.1.1.1.1.1.0, (c.in_default.ensures.ends c.requires.1.1.1.1.1.1.1.1.1.1.1.1.1.1.1.1.1.1.0, subst (λ s. StaysClean g.D.Disk s c.births.new.self) (sym c.requires.1.1.1.1.1.1.1.1.1.1.1.1.1.0.0) (c.births.ensures.clean (g.S.Supplier.word c.args.gate.supply) c.requires.1.1.1.1.1.1.1.1.1.1.1.1.1.1.1.1.1.1.1.1))))))))))))))))

pub finished-requires : goal.finished-requires
finished-requires g c =
    let left = c.work_on_board.result in
    let same = sym c.work_on_board.ensures.gate in
    record {
      keeps = subst (λ (x : Gate g.row.S.Denot g.row.P.Denot). g.S.Supplier.keeps x.supply × g.P.Policy.keeps x.policy) same c.requires.1.1.1.1.1.1.1.1.1.1.1.1.0;
      clean =
          subst (λ s. StaysClean g.D.Disk s left.kernel) (c.requires.1.1.1.1.1.1.1.1.1.1.1.1.1.0.0 ∙ ap (λ (x : Gate g.row.S.Denot g.row.P.Denot). g.S.Supplier.word x.supply) same) c.work_on_board.ensures.clean;
    }

pub returns-in-Err-clause-counted : goal.returns-in-Err-clause-counted
returns-in-Err-clause-counted g c =
    let d = g.D.Disk in
    let old = c.args.kernel in
    let new = c.births.new.self in
    let policy = g.P.Policy.wish c.args.gate.policy in
    counted_call d old new c.births.ensures.counts.later c.births.ensures.counts.same_count
    (cause_kept {T = Unit {0}} d policy old.parts new.parts (Err c.in-Err.field-0) new.stop (c.in-Err.ensures.ends c.requires.1.1.1.1.1.1.1.1.1.1.1.1.1.1.1.1.1.1.0)
    (births_cause d policy (tables_of c.args.script.now) old.parts new.parts c.in-Err.field-0 (c.in-Err.ensures.no_blocks c.requires.1.1.1.1.1.1.1.1.1.1.1.1.1.1.1.1.1.1.0) (c.in-Err.ensures.fails c.requires.1.1.1.1.1.1.1.1.1.1.1.1.1.1.1.1.1.1.0)))

pub returns-in-Err-clause-run : goal.returns-in-Err-clause-run
returns-in-Err-clause-run g c = λ told lives.
    let d = g.D.Disk in
    let old = c.args.kernel in
    let new = c.births.new.self in
    let n = c.births.ensures in
    let policy = g.P.Policy.wish c.args.gate.policy in
    let stop = stopped_for d policy old.parts new.parts c.in-Err.field-0 new.stop (c.in-Err.ensures.ends c.requires.1.1.1.1.1.1.1.1.1.1.1.1.1.1.1.1.1.1.0)
    (births_cause d policy (tables_of c.args.script.now) old.parts new.parts c.in-Err.field-0 (c.in-Err.ensures.no_blocks c.requires.1.1.1.1.1.1.1.1.1.1.1.1.1.1.1.1.1.1.0) (c.in-Err.ensures.fails c.requires.1.1.1.1.1.1.1.1.1.1.1.1.1.1.1.1.1.1.0)) in
    ends_stopped d g.b new false stop.0 stop.1 (n.run told g.b c.requires.1.1.1.1.1.1.1.1.1.1.1.1.1.1.0 lives)
    (c.births_law.ensures g.b old new c.requires.1.1.1.1.1.1.1.1.1.1.1.1.1.1.1.1.1.0 (n.notes told g.b c.requires.1.1.1.1.1.1.1.1.1.1.1.1.1.1.0 lives c.requires.1.1.1.1.1.1.1.1.1.1.1.1.1.1.1.1.1.1.0))

pub returns-clause-counted : goal.returns-clause-counted
returns-clause-counted g c =
    let d = g.D.Disk in
    let n = c.births.ensures.counts in
    c.finished.ensures.counted (counts_of d c.args.kernel) (counted_before d c.args.kernel c.births.new.self c.work_on_board.result.kernel n.later n.same_count c.work_on_board.ensures.counted)

pub returns-clause-run : goal.returns-clause-run
returns-clause-run g c = λ told lives.
    let d = g.D.Disk in
    let old = c.args.kernel in
    let new = c.births.new.self in
    let n = c.births.ensures in
    let left = c.work_on_board.result in
    let same = sym c.work_on_board.ensures.gate in
    let spoken : IsSpokenOf d g.b new = (
      told,
      n.run told g.b c.requires.1.1.1.1.1.1.1.1.1.1.1.1.1.1.0 lives,
      c.births_law.ensures g.b old new c.requires.1.1.1.1.1.1.1.1.1.1.1.1.1.1.1.1.1.0 (n.notes told g.b c.requires.1.1.1.1.1.1.1.1.1.1.1.1.1.1.0 lives c.requires.1.1.1.1.1.1.1.1.1.1.1.1.1.1.1.1.1.1.0),
    ) in
    let supply = c.requires.1.1.1.1.1.1.1.1.1.1.1.1.1.0.0 ∙ ap (λ (x : Gate g.row.S.Denot g.row.P.Denot). g.S.Supplier.word x.supply) same in
    let policy = c.requires.1.1.1.1.1.1.1.1.1.1.1.1.1.0.1 ∙ ap (λ (x : Gate g.row.S.Denot g.row.P.Denot). g.P.Policy.wish x.policy) same in
    let given = run_by d (g.S.Supplier.word left.gate.supply) (g.P.Policy.wish left.gate.policy) g.b (tables_of c.args.script.now) old supply policy c.requires.1.1.1.1.1.1.1.1.1.1.1.1.1.1.0 c.requires.1.1.1.1.1.1.1.1.1.1.1.1.1.1.1.1.1.0 c.requires.1.1.1.1.1.1.1.1.1.1.1.1.1.1.1.1.0 lives in
    c.finished.ensures.run told g.b given (c.work_on_board.ensures.run spoken) (c.work_on_board.ensures.along spoken)
