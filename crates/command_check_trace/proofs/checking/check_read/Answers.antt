use Rattle.std.proofs.Common.{sym, subst}
use Rattle.trace_checker.specs.trace_step_facts.Standing.{Managers}
use Rattle.command_outcomes.specs.Seen.{gave, seen_disk, seen_sink}
use Rattle.command_outcomes.specs.Statuses.{ending}
use Rattle.command_outcomes.proofs.SeenDisks.{only_read}
use Rattle.command_promises.specs.TraceLeaving.{TraceLeaves}
use Rattle.command_promises.specs.Sources.{from_parts}
use Rattle.command_check_trace.specs.Sources.{traced_of}
use Rattle.command_check_trace.specs.Verdicts.{IsJudged}
use Rattle.command_check_trace.proofs.Ending.{ends_by}
use Rattle.command_check_trace.proofs.checking.check_read.Goals as goal

pub returns-clause-leaves : goal.returns-clause-leaves
returns-clause-leaves g c =
    let d = g.D.Disk in
    let seen = seen_disk d c.args.disk in
    let m : Managers = record { word = g.N.Answers.word; wish = g.N.Answers.wish } in
    let traced = traced_of c.args.traced.now in
    let sink = seen_sink g.W.Sink.held g.W.Sink.faults c.args.sink.now c.end_by.new.sink in
    let given = gave c.end_by.result in
    let judged = subst (λ (by : Managers). IsJudged by traced.script traced.trace (seen c.judge_by-verdict.new.disk) c.judge_by-verdict.result) (sym c.requires.booked) c.judge_by-verdict.ensures.judged in
    subst (λ after. TraceLeaves m (from_parts traced) sink (seen after) given (ending given.status)) (sym c.end_by.ensures.disk)
    (record {
      only_read = only_read d c.args.disk c.judge_by-verdict.new.disk c.judge_by-verdict.ensures.same;
      ends = ends_by m traced sink (seen c.judge_by-verdict.new.disk) given c.judge_by-verdict.result judged c.end_by.ensures.ends;
    })
