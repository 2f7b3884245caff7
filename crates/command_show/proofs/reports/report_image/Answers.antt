use Rattle.std.proofs.Common.{Err, sym, ap, subst, rules}
use Rattle.edge_disk.specs.Counts.{Rose}
use Rattle.command_outcomes.specs.Seen.{gave, seen_disk, seen_sink}
use Rattle.command_outcomes.specs.Statuses.{IsComplete, ending}
use Rattle.command_outcomes.proofs.Endings.{put_complete}
use Rattle.command_outcomes.proofs.SeenDisks.{only_read}
use Rattle.command_show.specs.Reports.{IsReported, ReportLeaves}
use Rattle.command_show.proofs.Ended.{IsReadingFault, read_leaves, unread_complete, unread_leaves}
use Rattle.command_show.proofs.reports.report_image.Goals as goal

pub returns-in-Ok-clause-leaves : goal.returns-in-Ok-clause-leaves
returns-in-Ok-clause-leaves g c =
    let d = g.D.Disk in
    let seen = seen_disk d c.args.disk in
    let new = seen c.read_image.new.disk in
    let sink = seen_sink g.W.Sink.held g.W.Sink.faults c.args.sink.now c.put_report-status.new.sink in
    let given = gave c.empty_outcome.result in
    subst (λ after. ReportLeaves (seen after) sink given (ending given.status)) (sym c.empty_outcome.ensures.disk)
    (read_leaves new sink given (IsReported new given) (only_read d c.args.disk c.read_image.new.disk c.in-Ok.ensures.same)
    _ c.put_report-status.result c.empty_outcome.ensures.status c.put_report-status.ensures.put (λ Puts put. record {
      empty = c.empty_outcome.ensures.empty;
      log = c.in-Ok.facts.log;
      cut = c.in-Ok.facts.cut.0;
      has = λ told. record { accepted = (c.in-Ok.ensures.meaning told).means.accepted; is = c.in-Ok.ensures.log told };
      whole = search rules;
      is_cut = c.in-Ok.ensures.cut;
      output = put;
    }))

pub returns-in-Err-clause-leaves : goal.returns-in-Err-clause-leaves
returns-in-Err-clause-leaves g c =
    let d = g.D.Disk in
    let seen = seen_disk d c.args.disk in
    let new = seen c.read_image.new.disk in
    let sink = seen_sink g.W.Sink.held g.W.Sink.faults c.args.sink.now c.end_with.new.sink in
    let given = gave c.end_with.result in
    let why : IsReadingFault new c.in-Err.fault = record { foreign = λ told bad is. c.in-Err.ensures.foreign told bad (ap Err is); cause = λ is. c.in-Err.ensures.cause (ap Err is) } in
    subst (λ after. ReportLeaves (seen after) sink given (ending given.status)) (sym c.end_with.ensures.disk)
    (unread_leaves new sink given (IsReported new given) (only_read d c.args.disk c.read_image.new.disk c.in-Err.ensures.same)
    c.in-Err.fault c.from.result c.from.ensures c.end_with.ensures.status c.end_with.ensures.unrun why)

pub returns-in-Ok-clause-complete : goal.returns-in-Ok-clause-complete
returns-in-Ok-clause-complete g c told accepted calm quiet =
    subst IsComplete (sym c.empty_outcome.ensures.status)
    (put_complete (seen_sink g.W.Sink.held g.W.Sink.faults c.args.sink.now c.put_report-status.new.sink) _ c.put_report-status.result c.put_report-status.ensures.put quiet)

pub returns-in-Err-clause-complete : goal.returns-in-Err-clause-complete
returns-in-Err-clause-complete g c told accepted calm quiet =
    let d = g.D.Disk in
    let seen = seen_disk d c.args.disk in
    let new = seen c.read_image.new.disk in
    let why : IsReadingFault new c.in-Err.fault = record { foreign = λ told bad is. c.in-Err.ensures.foreign told bad (ap Err is); cause = λ is. c.in-Err.ensures.cause (ap Err is) } in
    unread_complete new c.in-Err.fault c.from.result c.end_with.result.status c.from.ensures c.end_with.ensures.status why told accepted
    (λ rose. calm (subst (λ after. Rose (d.faults c.args.disk) (d.faults after)) (sym c.end_with.ensures.disk) rose))
