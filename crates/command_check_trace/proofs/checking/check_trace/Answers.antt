use Rattle.std.proofs.Common.{◌≤◌, ◌∙◌, ℕ, List, ap, length, subst, sym}
use Rattle.command_outcomes.specs.Seen.{Call, gave, seen_disk, seen_sink, seen_source}
use Rattle.command_outcomes.specs.Statuses.{ending}
use Rattle.command_promises.specs.Sources.{from_bytes, from_source, most_bytes}
use Rattle.command_promises.proofs.Traced.{complete}
use Rattle.command_check_trace.proofs.Ending.{in_time_source, leaves_from, of_source, refused_source, unread_leaves, untouched}
use Rattle.command_check_trace.proofs.checking.check_trace.Goals as goal

pub returns-in-Ok-clause-leaves : goal.returns-in-Ok-clause-leaves
returns-in-Ok-clause-leaves g c =
    let d = g.D.Disk in
    let source = seen_source g.R.Source.left g.R.Source.faults c.args.source.now c.read_bytes.new.source in
    let sink = seen_sink g.W.Sink.held g.W.Sink.faults c.args.sink.now c.check_bytes.new.sink in
    let disk = seen_disk d c.args.disk c.check_bytes.result.disk in
    let given = gave c.check_bytes.result in
    let read = c.deref.result.now in
    let bytes = c.in-Ok.bytes.items in
    let size = sym c.deref.ensures.len ∙ ap (λ (l : List ℕ). length l) c.deref.ensures.value in
    let short : length bytes ≤ most_bytes = subst (λ (n : ℕ). n ≤ most_bytes) size c.in-Ok.ensures.short in
    leaves_from g.m (from_bytes read) (from_source source) sink disk given (of_source source bytes read c.in-Ok.ensures.whole c.deref.ensures.value c.in-Ok.ensures.end)
    (refused_source source bytes read c.in-Ok.ensures.whole c.deref.ensures.value) (λ none. absurd none)
    (λ fault none. in_time_source source bytes read c.in-Ok.ensures.whole c.deref.ensures.value c.in-Ok.ensures.taken short fault) (ending given.status) c.check_bytes.ensures.leaves

pub returns-in-Err-clause-leaves : goal.returns-in-Err-clause-leaves
returns-in-Err-clause-leaves g c =
    let d = g.D.Disk in
    let source = seen_source g.R.Source.left g.R.Source.faults c.args.source.now c.read_bytes.new.source in
    let sink = seen_sink g.W.Sink.held g.W.Sink.faults c.args.sink.now c.end_with.new.sink in
    let disk = seen_disk d c.args.disk c.end_with.result.disk in
    unread_leaves g.m source sink disk (gave c.end_with.result) c.in-Err.fault c.end_with.ensures.status c.in-Err.ensures.fault c.in-Err.ensures.stops c.end_with.ensures.unrun c.end_with.ensures.disk
    (untouched d c.args.disk c.end_with.result.disk c.end_with.ensures.disk)

pub returns-in-Ok-clause-complete : goal.returns-in-Ok-clause-complete
returns-in-Ok-clause-complete g c can source disk sink =
    let d = g.D.Disk in
    let call : Call = record {
      source = seen_source g.R.Source.left g.R.Source.faults c.args.source.now c.read_bytes.new.source;
      sink = seen_sink g.W.Sink.held g.W.Sink.faults c.args.sink.now c.check_bytes.new.sink;
      disk = seen_disk d c.args.disk c.check_bytes.result.disk;
    } in
    complete g.m call can (gave c.check_bytes.result) c.check_bytes.result.status (returns-in-Ok-clause-leaves g c) source disk sink

pub returns-in-Err-clause-complete : goal.returns-in-Err-clause-complete
returns-in-Err-clause-complete g c can source disk sink =
    let d = g.D.Disk in
    let call : Call = record {
      source = seen_source g.R.Source.left g.R.Source.faults c.args.source.now c.read_bytes.new.source;
      sink = seen_sink g.W.Sink.held g.W.Sink.faults c.args.sink.now c.end_with.new.sink;
      disk = seen_disk d c.args.disk c.end_with.result.disk;
    } in
    complete g.m call can (gave c.end_with.result) c.end_with.result.status (returns-in-Err-clause-leaves g c) source disk sink
