use Rattle.std.proofs.Common.{sym, ap, subst, ◌∙◌, rules}
use Rattle.command_outcomes.specs.Ends.{IsUnrun}
use Rattle.command_outcomes.specs.Seen.{gave, seen_disk, seen_sink}
use Rattle.command_outcomes.specs.Statuses.{ending, status_by}
use Rattle.command_outcomes.proofs.Endings.{by_done}
use Rattle.command_format.specs.Formats.{FormatLeaves}
use Rattle.command_format.proofs.Formatted.{stopped}
use Rattle.command_format.proofs.formatting.format_image.Goals as goal

pub returns-in-Ok-clause-leaves : goal.returns-in-Ok-clause-leaves
returns-in-Ok-clause-leaves g c =
    let d = g.D.Disk in
    let sink = seen_sink g.W.Sink.held g.W.Sink.faults c.args.sink.now c.args.sink.now in
    let given = gave c.empty_outcome.result in
    subst (λ after. FormatLeaves c.args.blocks (seen_disk d c.args.disk after) sink given (ending given.status)) (sym c.empty_outcome.ensures.disk)
    (by_done (FormatLeaves c.args.blocks (seen_disk d c.args.disk c.in-Ok.disk) sink given) given.status c.empty_outcome.ensures.status
    (record {
      silent = record { empty = c.empty_outcome.ensures.empty; output = search rules };
      enough = c.in-Ok.ensures.enough;
      made = c.in-Ok.ensures.made;
      stable = c.in-Ok.ensures.stable;
      means = c.in-Ok.ensures.means;
    }))

pub returns-in-Err-clause-leaves : goal.returns-in-Err-clause-leaves
returns-in-Err-clause-leaves g c =
    let d = g.D.Disk in
    let sink = seen_sink g.W.Sink.held g.W.Sink.faults c.args.sink.now c.end_with.new.sink in
    let given = gave c.end_with.result in
    let is = c.fault_of.ensures in
    stopped d c.args.blocks c.args.disk sink given c.in-Err.fault
    (subst (λ f. IsUnrun sink given f) is c.end_with.ensures.unrun) c.end_with.result.disk c.end_with.ensures.disk
    (c.end_with.ensures.status ∙ ap status_by is) c.in-Err.ensures.too_few c.in-Err.ensures.write_fault c.in-Err.ensures.any_moment
