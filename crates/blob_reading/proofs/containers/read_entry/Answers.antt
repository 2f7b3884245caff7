use Rattle.std.proofs.Common.{arith}
use Rattle.blob_facts.specs.Parts.{IsEntrySpelled}
use Rattle.blob_facts.proofs.Bytes.{byte_refused, byte_wanting}
use Rattle.blob_facts.proofs.Entries.{no_entry, one_entry, some_entry}
use Rattle.blob_reading.proofs.containers.read_entry.Goals as goal

pub returns-in_default-clause-refused : goal.returns-in_default-clause-refused
returns-in_default-clause-refused c = byte_wanting IsEntrySpelled one_entry some_entry c.args.bytes.now c.in_default.ensures.cases

pub returns-clause-refused : goal.returns-clause-refused
returns-clause-refused c =
    byte_refused IsEntrySpelled one_entry some_entry c.args.bytes.now c.in-Some.first.now c.in-Some.rest.now c.in-Some.ensures.cases.0
    (no_entry c.in-Some.first.now c.if-first.false (λ small. let h = c.if-first-2.false in omega (arith, h, small)))
