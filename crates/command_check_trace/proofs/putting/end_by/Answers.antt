use Rattle.std.proofs.Common.{sym, subst}
use Rattle.command_outcomes.specs.Seen.{gave, seen_sink}
use Rattle.command_outcomes.proofs.Endings.{gains}
use Rattle.command_check_trace.specs.Verdicts.{EndsWith}
use Rattle.command_check_trace.specs.declared.judging.Verdict.{Verdict}
use Rattle.command_check_trace.proofs.putting.end_by.Goals as goal

pub returns-in-Wrong-clause-ends : goal.returns-in-Wrong-clause-ends
returns-in-Wrong-clause-ends g c =
    let sink = seen_sink g.W.Sink.held g.W.Sink.faults c.args.sink.now c.put_wrong.new.sink in
    let end = c.empty_outcome-in-Wrong in
    subst (λ (v : Verdict). EndsWith sink (gave end.result) v) (sym c.in-Wrong.is)
    (end.ensures.empty, end.ensures.status, gains sink c.put_wrong.result _ c.put_wrong.ensures.bytes c.put_wrong.ensures.cause)
