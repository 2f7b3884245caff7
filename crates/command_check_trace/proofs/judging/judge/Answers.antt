use Rattle.std.proofs.Common.{Err, ap, sym, subst}
use Rattle.script_types.specs.Scripts.{tables_of}
use Rattle.command_outcomes.specs.Seen.{seen_disk}
use Rattle.command_outcomes.specs.declared.faults.Fault.{Fault}
use Rattle.trace_checker.specs.trace_step_facts.Standing.{Managers}
use Rattle.command_check_trace.specs.Verdicts.{StopsJudging}
use Rattle.command_check_trace.proofs.Verdicts.{judged, unread}
use Rattle.command_check_trace.proofs.judging.judge.Goals as goal

pub returns-in-Ok-clause-judged : goal.returns-in-Ok-clause-judged
returns-in-Ok-clause-judged g c =
    let d = g.D.Disk in
    judged (record { word = g.N.Answers.word; wish = g.N.Answers.wish }) (tables_of c.args.script.now) c.args.trace.now (seen_disk d c.args.disk.now c.read_image.new.disk) c.in-Ok.field-0.state c.in-Ok.field-0.cut.0
    c.in-Ok.ensures.meaning c.verdict_from.result c.verdict_from.ensures

pub returns-clause-judged : goal.returns-clause-judged
returns-clause-judged g c =
    let d = g.D.Disk in
    let disk = seen_disk d c.args.disk.now c.read_image.new.disk in
    let m : Managers = record { word = g.N.Answers.word; wish = g.N.Answers.wish } in
    subst (λ (f : Fault). StopsJudging m (tables_of c.args.script.now) c.args.trace.now disk f) (sym c.from.ensures)
    (unread m (tables_of c.args.script.now) c.args.trace.now disk c.in-Err.fault (λ told bad is. c.in-Err.ensures.foreign told bad (ap Err is)) (λ is. c.in-Err.ensures.cause (ap Err is)))
