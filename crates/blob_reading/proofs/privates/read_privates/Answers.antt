use Rattle.std.proofs.Common.{◌+◌, sym, subst, arith}
use Rattle.blob_reading.proofs.Exits.{hands_on}
use Rattle.blob_facts.proofs.PrivateLists.{count_refused, item_refused, privates_found}
use Rattle.blob_facts.proofs.PrivatesRead.{SoFar, added, all_added, private_refused}
use Rattle.blob_reading.proofs.privates.read_privates.Goals as goal

pub returns-in_err-count-clause-refused : goal.returns-in_err-count-clause-refused
returns-in_err-count-clause-refused c =
    hands_on _ c.from_residual.result c.from_residual.ensures.1
    (count_refused c.args.least c.args.most c.requires.few c.args.bytes.now c.in_err-count.field-0.0.rest.now c.in_err-count.ensures.refused)

pub returns-in-Err-clause-refused : goal.returns-in-Err-clause-refused
returns-in-Err-clause-refused c =
    let few = c.in_ok-count.ensures.read.spelled.high in
    let most = c.requires.few in
    item_refused c.args.least c.args.most c.args.bytes.now c.in_ok-count.rest.now c.in-Err.stuck.rest.now c.in_ok-count.count c.in_ok-count.ensures.read
    (private_refused c.in_ok-count.count c.in_ok-count.rest.now c.loop-place.place c.loop-place.host c.loop-place.page c.loop-place.privates c.loop-place.rest.now c.in-Err.stuck.rest.now
    (omega (arith, few, most)) c.loop-place-test.true c.loop-place.invariant c.in-Err.ensures.refused)

pub loop-place-preserved : goal.loop-place-preserved
loop-place-preserved c =
    let few = c.in_ok-count.ensures.read.spelled.high in
    let most = c.requires.few in
    subst (λ n. SoFar c.in_ok-count.count c.in_ok-count.rest.now (c.loop-place.place + 1) c.number-host.result n c.push.new.self c.in-Ok.read.1.now) (sym c.end_of-page.ensures)
    (subst (λ n. SoFar c.in_ok-count.count c.in_ok-count.rest.now (c.loop-place.place + 1) n (c.in-Ok.read.0.region.at + c.in-Ok.read.0.region.count) c.push.new.self c.in-Ok.read.1.now) (sym c.number-host.ensures.number)
    (added c.in_ok-count.count c.in_ok-count.rest.now c.loop-place.place c.loop-place.host c.loop-place.page c.loop-place.privates c.loop-place.rest.now c.in-Ok.read.1.now
    (omega (arith, few, most)) c.loop-place-test.true c.loop-place.invariant c.in-Ok.read.0 c.push.new.self c.in-Ok.ensures.read c.push.ensures))

pub returns-clause-read : goal.returns-clause-read
returns-clause-read c =
    privates_found c.args.least c.args.most c.args.bytes.now c.in_ok-count.rest.now c.loop-place.rest.now c.in_ok-count.count c.loop-place.privates c.in_ok-count.ensures.read
    (all_added c.in_ok-count.count c.in_ok-count.rest.now c.loop-place.place c.loop-place.host c.loop-place.page c.loop-place.privates c.loop-place.rest.now c.loop-place-test.false c.loop-place.invariant)
