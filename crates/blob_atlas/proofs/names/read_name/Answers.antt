use Rattle.std.proofs.Common.{[]}
use Rattle.blob_reading.proofs.Exits.{hands_on}
use Rattle.blob_reading.proofs.blob_facts_lemmas.NameFields.{begins_size, name_found, size_refused, text_refused}
use Rattle.blob_atlas.proofs.names.read_name.Goals as goal

pub returns-in_err-size-clause-refused : goal.returns-in_err-size-clause-refused
returns-in_err-size-clause-refused c =
    hands_on _ c.from_residual.result c.from_residual.ensures.1
    (size_refused c.args.atlas.now c.requires.directory c.args.number c.requires.number c.requires.free c.args.bytes.now [] c.in_err-size.field-0.0.rest.now c.in_err-size.ensures.refused)

pub read_text-requires-clause-some : goal.read_text-requires-clause-some
read_text-requires-clause-some c =
    let size = c.in_ok-size.ensures.read.spelled.good in
    begins_size c.args.atlas.now c.requires.directory c.args.number c.requires.number c.requires.free c.in_ok-size.size size.some size.few size.short

pub returns-in-Err-clause-refused : goal.returns-in-Err-clause-refused
returns-in-Err-clause-refused c =
    text_refused c.args.atlas.now c.requires.directory c.args.number c.requires.number c.requires.free c.args.bytes.now c.in_ok-size.rest.now c.in-Err.stuck.rest.now c.in_ok-size.size c.in_ok-size.ensures.read c.in-Err.ensures.refused

pub returns-clause-read : goal.returns-clause-read
returns-clause-read c =
    name_found c.args.atlas.now c.requires.directory c.args.number c.requires.number c.requires.free c.args.bytes.now c.in_ok-size.rest.now c.in-Ok.read.1.now c.in_ok-size.size c.in-Ok.read.0.bytes c.in_ok-size.ensures.read c.in-Ok.ensures.read
