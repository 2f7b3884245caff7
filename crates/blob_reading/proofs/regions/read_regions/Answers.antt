use Rattle.std.proofs.Common.{◌+◌, sym, subst, arith}
use Rattle.blob_facts.specs.Fields.{IsByteIn, IsFound, IsRefused, Spells}
use Rattle.blob_reading.proofs.Exits.{hands_on}
use Rattle.blob_facts.proofs.RegionLists.{count_refused, item_refused, regions_found}
use Rattle.blob_facts.proofs.RegionsRead.{SoFar, added, all_added, begun, ends_before, put, region_refused}
use Rattle.blob_reading.proofs.regions.read_regions.Goals as goal

pub returns-in_err-count-clause-refused : goal.returns-in_err-count-clause-refused
returns-in_err-count-clause-refused c =
    hands_on _ c.from_residual.result c.from_residual.ensures.1
    (count_refused c.args.pages c.requires.size (subst (λ m. IsRefused (Spells (IsByteIn 0 m)) c.args.bytes.now c.in_err-count.field-0.0.rest.now) c.min-most.ensures c.in_err-count.ensures.refused))

pub loop-place-init : goal.loop-place-init
loop-place-init c =
    begun c.args.pages c.in_ok-count.count c.in_ok-count.rest.now c.args.regions.now c.requires.empty
    (let h = c.in_ok-count.ensures.read.spelled.high in let m = c.min-most.ensures in omega (arith, h, m))

pub read_region-requires-clause-some : goal.read_region-requires-clause-some
read_region-requires-clause-some c =
    let room = c.loop-place.invariant.1 in
    let more = c.loop-place-test.true in
    omega (arith, room, more)

pub returns-in-Err-clause-refused : goal.returns-in-Err-clause-refused
returns-in-Err-clause-refused c =
    item_refused c.args.pages (subst (λ m. IsFound (IsByteIn 0 m) c.args.bytes.now c.in_ok-count.count c.in_ok-count.rest.now) c.min-most.ensures c.in_ok-count.ensures.read)
    (region_refused c.args.pages c.in_ok-count.count c.in_ok-count.rest.now c.loop-place.place c.loop-place.least c.loop-place.regions c.loop-place.rest.now c.in-Err.stuck.rest.now
    c.requires.size c.loop-place-test.true c.loop-place.invariant c.in-Err.ensures.refused)

pub loop-place-preserved : goal.loop-place-preserved
loop-place-preserved c =
    let len = c.loop-place.invariant.0 in
    let more = c.loop-place-test.true in
    let few = c.in_ok-count.ensures.read.spelled.high in
    let most = c.min-most.ensures in
    let before = ends_before c.args.pages c.in_ok-count.count c.in_ok-count.rest.now c.loop-place.place c.loop-place.least c.loop-place.regions c.loop-place.rest.now c.in-Ok.read.1.now
    c.requires.size c.loop-place-test.true c.loop-place.invariant c.in-Ok.read.0 c.in-Ok.ensures.read in
    subst (λ n. SoFar c.args.pages c.in_ok-count.count c.in_ok-count.rest.now (c.loop-place.place + 1) n c.add-added.new.self c.in-Ok.read.1.now) (sym c.end_of-least.ensures)
    (added c.args.pages c.in_ok-count.count c.in_ok-count.rest.now c.loop-place.place c.loop-place.least c.loop-place.regions c.loop-place.rest.now c.in-Ok.read.1.now
    c.requires.size c.loop-place-test.true c.loop-place.invariant c.in-Ok.read.0 c.add-added.new.self c.in-Ok.ensures.read
    (put c.in-Ok.read.0 c.loop-place.regions c.add-added.new.self c.add-added.result before (omega (arith, len, more, few, most)) c.add-added.ensures.answer c.add-added.ensures.ok))

pub returns-clause-read : goal.returns-clause-read
returns-clause-read c =
    regions_found c.args.pages c.args.bytes.now c.in_ok-count.rest.now c.loop-place.rest.now c.in_ok-count.count c.loop-place.regions
    (subst (λ m. IsFound (IsByteIn 0 m) c.args.bytes.now c.in_ok-count.count c.in_ok-count.rest.now) c.min-most.ensures c.in_ok-count.ensures.read)
    (all_added c.args.pages c.in_ok-count.count c.in_ok-count.rest.now c.loop-place.place c.loop-place.least c.loop-place.regions c.loop-place.rest.now c.loop-place-test.false c.loop-place.invariant)
