use Rattle.std.proofs.Common.{◌+◌, refl, slice_set, take, subst, ◌∙◌, arith}
use Rattle.std.proofs.lemmas.List.{length-set, take_all, take_more_set}
use Rattle.blob_facts.specs.Fields.{IsFound}
use Rattle.blob_facts.specs.Loci.{AreRegistersSpelled}
use Rattle.blob_facts.proofs.Numbers.{tells}
use Rattle.blob_facts.proofs.Plain.{plain_all, plain_more}
use Rattle.blob_facts.proofs.RegisterLists.{Register, last_number, register_refused, registers_found}
use Rattle.blob_reading.proofs.calls.read_registers.Goals as goal

pub returns-in-Err-clause-refused : goal.returns-in-Err-clause-refused
returns-in-Err-clause-refused c =
    register_refused 8 refl c.args.bytes.now c.loop-place.place (take c.loop-place.place c.loop-place.registers) c.loop-place.rest.now c.in-Err.stuck.rest.now
    c.loop-place-test.true c.loop-place.invariant.1 c.in-Err.ensures.refused

pub loop-place-preserved : goal.loop-place-preserved
loop-place-preserved c =
    let len = c.loop-place.invariant.0 in
    let more = c.loop-place-test.true in (
      length-set c.loop-place.registers c.loop-place.place c.in-Ok.read.0 ∙ len,
      plain_more Register 8 c.args.bytes.now c.loop-place.place (take c.loop-place.place c.loop-place.registers) c.loop-place.rest.now c.in-Ok.read.1.now c.in-Ok.read.0
          (take (c.loop-place.place + 1) (slice_set c.loop-place.registers c.loop-place.place c.in-Ok.read.0))
          (tells 8 0 last_number (omega arith)) c.loop-place-test.true c.loop-place.invariant.1 c.in-Ok.ensures.read (take_more_set c.loop-place.registers c.loop-place.place c.in-Ok.read.0 (omega (arith, len, more))),
    )

pub returns-clause-read : goal.returns-clause-read
returns-clause-read c =
    let end = c.loop-place-test.false in
    let len = c.loop-place.invariant.0 in
    subst (λ l. IsFound AreRegistersSpelled c.args.bytes.now l c.loop-place.rest.now) (take_all c.loop-place.place c.loop-place.registers (omega (arith, end, len)))
    (registers_found 8 refl c.args.bytes.now c.loop-place.rest.now (take c.loop-place.place c.loop-place.registers)
    (plain_all Register 8 c.args.bytes.now c.loop-place.place (take c.loop-place.place c.loop-place.registers) c.loop-place.rest.now end c.loop-place.invariant.1))
