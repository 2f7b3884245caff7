use Rattle.std.proofs.Common.{Err, sym, ap, subst}
use Rattle.edge_disk.specs.Counts.{Rose}
use Rattle.image_reading.specs.plain_states.Plains.{cells_of}
use Rattle.command_outcomes.specs.Seen.{gave, seen_disk, seen_sink}
use Rattle.command_outcomes.specs.Statuses.{IsComplete, ending}
use Rattle.command_outcomes.proofs.Endings.{put_complete}
use Rattle.command_outcomes.proofs.SeenDisks.{only_read}
use Rattle.command_show.specs.Shows.{IsShown, ShowLeaves}
use Rattle.command_show.proofs.Ended.{IsReadingFault, read_leaves, unread_complete, unread_leaves}
use Rattle.command_show.proofs.shows.show_image.Goals as goal

pub returns-in-Ok-clause-leaves : goal.returns-in-Ok-clause-leaves
returns-in-Ok-clause-leaves g c =
    let d = g.D.Disk in
    let seen = seen_disk d c.args.disk in
    let new = seen c.read_image.new.disk in
    let sink = seen_sink g.W.Sink.held g.W.Sink.faults c.args.sink.now c.put_show-status.new.sink in
    let given = gave c.empty_outcome.result in
    subst (λ after. ShowLeaves g.s (seen after) sink given (ending given.status)) (sym c.empty_outcome.ensures.disk)
    (read_leaves new sink given (IsShown g.s new given) (only_read d c.args.disk c.read_image.new.disk c.in-Ok.ensures.same)
    _ c.put_show-status.result c.empty_outcome.ensures.status c.put_show-status.ensures.put (λ Puts put. record {
      empty = c.empty_outcome.ensures.empty;
      cells = cells_of g.s c.in-Ok.facts.state;
      sound = c.in-Ok.ensures.sound;
      meant = λ told. (let m = c.in-Ok.ensures.meaning told in record { state = m.state; means = m.means; same = m.has.cells });
      output = put;
    }))

pub returns-in-Err-clause-leaves : goal.returns-in-Err-clause-leaves
returns-in-Err-clause-leaves g c =
    let d = g.D.Disk in
    let seen = seen_disk d c.args.disk in
    let new = seen c.read_image.new.disk in
    let sink = seen_sink g.W.Sink.held g.W.Sink.faults c.args.sink.now c.end_with.new.sink in
    let given = gave c.end_with.result in
    let why : IsReadingFault new c.in-Err.fault = record { foreign = λ told bad is. c.in-Err.ensures.foreign told bad (ap Err is); cause = λ is. c.in-Err.ensures.cause (ap Err is) } in
    subst (λ after. ShowLeaves g.s (seen after) sink given (ending given.status)) (sym c.end_with.ensures.disk)
    (unread_leaves new sink given (IsShown g.s new given) (only_read d c.args.disk c.read_image.new.disk c.in-Err.ensures.same)
    c.in-Err.fault c.from.result c.from.ensures c.end_with.ensures.status c.end_with.ensures.unrun why)

pub returns-in-Ok-clause-complete : goal.returns-in-Ok-clause-complete
returns-in-Ok-clause-complete g c told accepted calm quiet =
    subst IsComplete (sym c.empty_outcome.ensures.status)
    (put_complete (seen_sink g.W.Sink.held g.W.Sink.faults c.args.sink.now c.put_show-status.new.sink) _ c.put_show-status.result c.put_show-status.ensures.put quiet)

pub returns-in-Err-clause-complete : goal.returns-in-Err-clause-complete
returns-in-Err-clause-complete g c told accepted calm quiet =
    let d = g.D.Disk in
    let seen = seen_disk d c.args.disk in
    let new = seen c.read_image.new.disk in
    let why : IsReadingFault new c.in-Err.fault = record { foreign = λ told bad is. c.in-Err.ensures.foreign told bad (ap Err is); cause = λ is. c.in-Err.ensures.cause (ap Err is) } in
    unread_complete new c.in-Err.fault c.from.result c.end_with.result.status c.from.ensures c.end_with.ensures.status why told accepted
    (λ rose. calm (subst (λ after. Rose (d.faults c.args.disk) (d.faults after)) (sym c.end_with.ensures.disk) rose))
