use Rattle.blob_facts.specs.Parts.{slot_with}
use Rattle.blob_reading.proofs.Exits.{hands_on}
use Rattle.blob_facts.proofs.SlotLists.{added, begun, caps_found, slot_refused, slots_refused}
use Rattle.blob_reading.proofs.slots.read_caps.Goals as goal

pub returns-in_err-count-clause-refused : goal.returns-in_err-count-clause-refused
returns-in_err-count-clause-refused c =
    hands_on _ c.from_residual.result c.from_residual.ensures.1 (slots_refused c.args.bytes.now c.in_err-count.field-0.0.rest.now c.in_err-count.ensures.refused)

pub loop-place-init : goal.loop-place-init
loop-place-init c = begun c.in_ok-count.count c.in_ok-count.rest.now c.args.caps.now c.requires c.in_ok-count.ensures.read.spelled.high

pub returns-in-Err-clause-refused : goal.returns-in-Err-clause-refused
returns-in-Err-clause-refused c =
    slot_refused c.in_ok-count.count c.in_ok-count.rest.now c.loop-place.place c.loop-place.least c.loop-place.caps c.loop-place.rest.now c.in-Err.stuck.rest.now
    c.loop-place-test.true c.loop-place.invariant c.args.bytes.now c.in_ok-count.ensures.read c.in-Err.ensures.refused

pub loop-place-preserved : goal.loop-place-preserved
loop-place-preserved c =
    added c.in_ok-count.count c.in_ok-count.rest.now c.loop-place.place c.loop-place.least c.loop-place.caps c.loop-place.rest.now c.in-Ok.read.1.now
    c.loop-place-test.true c.loop-place.invariant (slot_with c.in-Ok.read.0.0 c.in-Ok.read.0.1.entity c.in-Ok.read.0.1.rights.0) c.set.new.self c.in-Ok.ensures.read c.set.ensures.set

pub returns-clause-read : goal.returns-clause-read
returns-clause-read c =
    caps_found c.in_ok-count.count c.in_ok-count.rest.now c.loop-place.place c.loop-place.least c.loop-place.caps c.loop-place.rest.now c.args.bytes.now
    c.loop-place-test.false c.in_ok-count.ensures.read c.loop-place.invariant
