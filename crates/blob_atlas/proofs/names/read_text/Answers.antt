use Rattle.std.proofs.Common.{arith}
use Rattle.blob_reading.proofs.blob_facts_lemmas.TextsRead.{all_read, begun, longer, refused, wanting}
use Rattle.blob_atlas.proofs.names.read_text.Goals as goal

pub loop-place-init : goal.loop-place-init
loop-place-init c = begun c.args.atlas.now c.args.number c.args.size c.args.bytes.now c.new-text.result.bytes c.new-text.ensures c.requires.some

pub returns-in_default-clause-refused : goal.returns-in_default-clause-refused
returns-in_default-clause-refused c =
    wanting c.args.atlas.now c.args.number c.args.size c.args.bytes.now c.loop-place._place c.loop-place.text.bytes c.loop-place.rest.now c.loop-place-test.true c.loop-place.invariant c.in_default.ensures.cases

pub longer-requires-clause-room : goal.longer-requires-clause-room
longer-requires-clause-room c =
    let long = c.loop-place.invariant.long in
    let more = c.loop-place-test.true in
    let size = c.requires.size in
    omega (arith, long, more, size)

pub returns-in_default-longer-clause-refused : goal.returns-in_default-longer-clause-refused
returns-in_default-longer-clause-refused c =
    refused c.args.atlas.now c.args.number c.args.size c.args.bytes.now c.loop-place._place c.loop-place.text.bytes c.loop-place.rest.now c.loop-place-test.true c.loop-place.invariant
    c.requires.directory c.requires.number c.requires.free c.requires.size c.in-Some.first.now c.in-Some.behind.now c.in-Some.ensures.cases.0 c.in_default-longer.ensures.none

pub loop-place-preserved : goal.loop-place-preserved
loop-place-preserved c =
    longer c.args.atlas.now c.args.number c.args.size c.args.bytes.now c.loop-place._place c.loop-place.text.bytes c.loop-place.rest.now c.loop-place-test.true c.loop-place.invariant
    c.requires.directory c.requires.number c.requires.free c.requires.size c.in-Some.first.now c.in-Some.behind.now c.in-Some.ensures.cases.0 c.in-Some-longer.front.bytes c.in-Some-longer.ensures.text c.in-Some-longer.ensures.some

pub returns-clause-read : goal.returns-clause-read
returns-clause-read c =
    all_read c.args.atlas.now c.args.number c.args.size c.args.bytes.now c.loop-place._place c.loop-place.text.bytes c.loop-place.rest.now c.loop-place-test.false c.loop-place.invariant
