use Rattle.blob_reading.proofs.blob_facts_lemmas.ShortNames.{size_refused, size_wanting}
use Rattle.blob_atlas.proofs.names.read_size.Goals as goal

pub returns-in_default-clause-refused : goal.returns-in_default-clause-refused
returns-in_default-clause-refused c = size_wanting c.args.atlas.now c.args.bytes.now c.in_default.ensures.cases

pub returns-then-not-is_size-clause-refused : goal.returns-then-not-is_size-clause-refused
returns-then-not-is_size-clause-refused c =
    size_refused c.args.atlas.now c.args.bytes.now c.in-Some.size.now c.in-Some.rest.now c.in-Some.ensures.cases.0 c.if-not-is_size.ensures.no
