use Rattle.std.proofs.Common.{◌≡◌, [], ◌∷◌, ◌+◌, length, ◌∙◌, arith}
use Rattle.std.proofs.lemmas.List.{length-append}
use Rattle.blob_facts.specs.Loci.{IsCallSpelled}
use Rattle.blob_facts.proofs.CallFields.{call_tells, calls_found, calls_refused, one_call_refused}
use Rattle.blob_reading.proofs.Exits.{hands_on}
use Rattle.blob_facts.proofs.Plain.{plain_all, plain_more}
use Rattle.blob_reading.proofs.calls.read_calls.Goals as goal

pub returns-in_err-count-clause-refused : goal.returns-in_err-count-clause-refused
returns-in_err-count-clause-refused c =
    hands_on _ c.from_residual.result c.from_residual.ensures.1 (calls_refused c.args.most c.args.bytes.now [] c.in_err-count.field-0.0.rest.now c.in_err-count.ensures.refused)

pub returns-in-Err-clause-refused : goal.returns-in-Err-clause-refused
returns-in-Err-clause-refused c =
    one_call_refused c.args.most c.args.bytes.now c.in_ok-count.rest.now c.in-Err.stuck.rest.now c.in_ok-count.count c.loop-place.place c.loop-place.chain c.loop-place.rest.now
    c.in_ok-count.ensures.read c.loop-place-test.true c.loop-place.invariant.1 c.in-Err.ensures.refused

pub loop-place-preserved : goal.loop-place-preserved
loop-place-preserved c =
    let len = c.loop-place.invariant.0 in
    let is = c.push.ensures in
    let more = length-append c.loop-place.chain (c.in-Ok.read.0 ∷ []) in (
      (λ i. length (is i)) ∙ more ∙ (let e : length c.loop-place.chain + 1 ≡ c.loop-place.place + 1 = omega (arith, len) in e),
      plain_more IsCallSpelled c.in_ok-count.count c.in_ok-count.rest.now c.loop-place.place c.loop-place.chain c.loop-place.rest.now c.in-Ok.read.1.now c.in-Ok.read.0 c.push.new.self
          call_tells c.loop-place-test.true c.loop-place.invariant.1 c.in-Ok.ensures.read is,
    )

pub returns-clause-read : goal.returns-clause-read
returns-clause-read c =
    calls_found c.args.most c.args.bytes.now c.in_ok-count.rest.now c.loop-place.rest.now c.in_ok-count.count c.loop-place.chain c.in_ok-count.ensures.read
    (plain_all IsCallSpelled c.in_ok-count.count c.in_ok-count.rest.now c.loop-place.place c.loop-place.chain c.loop-place.rest.now c.loop-place-test.false c.loop-place.invariant.1)
