use Rattle.std.proofs.Common.{string_bytes, map}
use Rattle.hopper_clients.proofs.Carried.{called_then}
use Rattle.hopper_clients.proofs.calling.call_on_threads.Goals as goal

pub returns : goal.returns
returns g c =
    let streams = c.in_ok-source in
    let made = c.hopper_counted-outcome in
    called_then (map string_bytes c.args.words.now) c.args.text.now c.args.disk made.result streams.source made.new.source streams.sink made.new.sink streams.ensures.0 streams.ensures.1 made.ensures.leaves
    made.ensures.causes c.called_by.result c.called_by.ensures
