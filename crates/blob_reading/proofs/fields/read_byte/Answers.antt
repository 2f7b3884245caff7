use Rattle.std.proofs.Common.{◌≤◌, arith}
use Rattle.blob_facts.specs.Fields.{IsByteIn}
use Rattle.blob_facts.proofs.Bytes.{byte_found, byte_outside, byte_refused, byte_wanting, one_byte, some_byte}
use Rattle.blob_reading.proofs.fields.read_byte.Goals.{then-first-least-via-then-first-least, then-first-least-via-else-first-least+then-most-first}
use Rattle.blob_reading.proofs.fields.read_byte.Goals as goal

pub returns-in_default-clause-refused : goal.returns-in_default-clause-refused
returns-in_default-clause-refused c =
    byte_wanting (IsByteIn c.args.least c.args.most) (one_byte c.args.least c.args.most) (some_byte c.args.least c.args.most c.requires) c.args.bytes.now c.in_default.ensures.cases

pub returns-then-first-least-clause-refused : goal.returns-then-first-least-clause-refused
returns-then-first-least-clause-refused c =
    byte_refused (IsByteIn c.args.least c.args.most) (one_byte c.args.least c.args.most) (some_byte c.args.least c.args.most c.requires) c.args.bytes.now c.in-Some.first.now c.in-Some.rest.now c.in-Some.ensures.cases.0
    (byte_outside c.args.least c.args.most c.in-Some.first.now (elim c.then-first-least.branch as (λ _. (c.args.least ≤ c.in-Some.first.now → c.in-Some.first.now ≤ c.args.most → ⊥)) [
      | then-first-least-via-then-first-least w ↦ λ low high. (let h = w.if-first-least.true in omega (arith, h, low))
      | then-first-least-via-else-first-least+then-most-first w ↦ λ low high. (let h = w.if-most-first.true in omega (arith, h, high))
    ]))

pub returns-clause-read : goal.returns-clause-read
returns-clause-read c =
    byte_found c.args.least c.args.most c.in-Some.first.now c.args.bytes.now c.in-Some.rest.now c.in-Some.ensures.cases.0 c.if-first-least.false c.if-most-first.false
