use Rattle.std.proofs.Common.{◌+◌, slice_set, take, subst, ◌∙◌, arith}
use Rattle.std.proofs.lemmas.List.{length-set, take_more_set}
use Rattle.blob_facts.specs.Fields.{IsFound}
use Rattle.blob_facts.specs.Parts.{IsCodeSpelled, IsInstrSpelled}
use Rattle.blob_reading.proofs.Exits.{hands_on}
use Rattle.blob_facts.proofs.InstrFields.{instr_tells}
use Rattle.blob_facts.proofs.Plain.{plain_all, plain_more}
use Rattle.blob_facts.proofs.Tables.{code_found, instr_refused, instrs_refused}
use Rattle.blob_reading.proofs.lists.read_code.Goals as goal

pub returns-in_err-count-clause-refused : goal.returns-in_err-count-clause-refused
returns-in_err-count-clause-refused c =
    hands_on _ c.from_residual.result c.from_residual.ensures.1 (instrs_refused c.args.bytes.now c.in_err-count.field-0.0.rest.now c.in_err-count.ensures.refused)

pub returns-in-Err-clause-refused : goal.returns-in-Err-clause-refused
returns-in-Err-clause-refused c =
    instr_refused c.args.bytes.now c.in_ok-count.rest.now c.in-Err.stuck.rest.now c.in_ok-count.count c.loop-place.place (take c.loop-place.place c.loop-place.instrs) c.loop-place.rest.now
    c.in_ok-count.ensures.read c.loop-place-test.true c.loop-place.invariant.1 c.in-Err.ensures.refused

pub loop-place-preserved : goal.loop-place-preserved
loop-place-preserved c =
    let len = c.loop-place.invariant.0 in
    let more = c.loop-place-test.true in
    let most = c.in_ok-count.ensures.read.spelled.high in (
      length-set c.loop-place.instrs c.loop-place.place c.in-Ok.read.0 ∙ len,
      plain_more IsInstrSpelled c.in_ok-count.count c.in_ok-count.rest.now c.loop-place.place (take c.loop-place.place c.loop-place.instrs) c.loop-place.rest.now c.in-Ok.read.1.now c.in-Ok.read.0
          (take (c.loop-place.place + 1) (slice_set c.loop-place.instrs c.loop-place.place c.in-Ok.read.0))
          instr_tells c.loop-place-test.true c.loop-place.invariant.1 c.in-Ok.ensures.read (take_more_set c.loop-place.instrs c.loop-place.place c.in-Ok.read.0 (omega (arith, len, more, most))),
    )

pub returns-clause-read : goal.returns-clause-read
returns-clause-read c =
    let end = c.loop-place-test.false in
    let within = c.loop-place.auto.place-end in
    subst (λ n. IsFound IsCodeSpelled c.args.bytes.now (take n c.loop-place.instrs) c.loop-place.rest.now) (omega (arith, end, within))
    (code_found c.args.bytes.now c.in_ok-count.rest.now c.loop-place.rest.now c.in_ok-count.count (take c.loop-place.place c.loop-place.instrs) c.in_ok-count.ensures.read
    (plain_all IsInstrSpelled c.in_ok-count.count c.in_ok-count.rest.now c.loop-place.place (take c.loop-place.place c.loop-place.instrs) c.loop-place.rest.now end c.loop-place.invariant.1))
