use Rattle.std.proofs.Common.{length}
use Rattle.base_types.specs.declared.entities.Kind.TheVariants.{Locus}
use Rattle.blob_facts.specs.act_alone.Loci.{locus_of}
use Rattle.blob_facts.specs.Loci.{IsLocusSpelled}
use Rattle.blob_reading.proofs.Whole.{all, malformed, near, near_past, none_left, not_none, too_long}
use Rattle.blob_reading.proofs.loci.read_locus.Goals as goal

pub place_of-requires-clause-near : goal.place_of-requires-clause-near
place_of-requires-clause-near c = near Locus c.args.bytes.now c.in-Err.stuck.rest.now c.in-Err.ensures.refused

pub returns-in-Err-clause-refused : goal.returns-in-Err-clause-refused
returns-in-Err-clause-refused c = malformed Locus c.args.bytes.now c.in-Err.stuck.rest.now c.place_of.result c.in-Err.ensures.refused c.place_of.ensures

pub place_of-requires-then-not-is_empty-clause-near : goal.place_of-requires-then-not-is_empty-clause-near
place_of-requires-then-not-is_empty-clause-near c =
    let f = c.in-Ok.ensures.read in
    near_past Locus c.args.bytes.now f.front c.in-Ok.read.1.now (locus_of c.in-Ok.read.0, f.spelled) f.is

pub returns-then-not-is_empty-clause-refused : goal.returns-then-not-is_empty-clause-refused
returns-then-not-is_empty-clause-refused c =
    let f = c.in-Ok.ensures.read in
    too_long Locus c.args.bytes.now f.front c.in-Ok.read.1.now (locus_of c.in-Ok.read.0, f.spelled) f.is
    c.place_of-then-not-is_empty.result (not_none (length c.in-Ok.read.1.now) c.if-not-is_empty.ensures) c.place_of-then-not-is_empty.ensures

pub returns-clause-read : goal.returns-clause-read
returns-clause-read c =
    let f = c.in-Ok.ensures.read in
    all (IsLocusSpelled c.in-Ok.read.0) c.args.bytes.now f.front c.in-Ok.read.1.now f.spelled f.is (none_left c.in-Ok.read.1.now c.if-not-is_empty.ensures)
