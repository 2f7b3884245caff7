use Rattle.std.proofs.Common.{length, replicate, take, refl}
use Rattle.base_types.specs.declared.entities.Kind.TheVariants.{Container}
use Rattle.blob_grammar.specs.Forms.{SpellsContainer}
use Rattle.blob_facts.specs.act_alone.Loci.{container_with}
use Rattle.blob_reading.proofs.Whole.{all, malformed, near, near_past, none_left, not_none, still_zero, too_long}
use Rattle.blob_reading.proofs.containers.read_container.Goals as goal

pub place_of-requires-clause-near : goal.place_of-requires-clause-near
place_of-requires-clause-near c = near Container c.args.bytes.now c.in-Err.stuck.rest.now c.in-Err.ensures.refused

pub returns-in-Err-clause-refused : goal.returns-in-Err-clause-refused
returns-in-Err-clause-refused c = malformed Container c.args.bytes.now c.in-Err.stuck.rest.now c.place_of.result c.in-Err.ensures.refused c.place_of.ensures

pub place_of-requires-then-not-is_empty-clause-near : goal.place_of-requires-then-not-is_empty-clause-near
place_of-requires-then-not-is_empty-clause-near c =
    let f = c.in-Ok.ensures.read in
    near_past Container c.args.bytes.now f.front c.in-Ok.read.1.now (container_with (λ _. 0) c.in-Ok.read.0, take c.in-Ok.read.0.pages c.read_parts.new.page_table, f.spelled (λ _. 0)) f.is

pub returns-then-not-is_empty-clause-refused : goal.returns-then-not-is_empty-clause-refused
returns-then-not-is_empty-clause-refused c =
    let f = c.in-Ok.ensures.read in
    too_long Container c.args.bytes.now f.front c.in-Ok.read.1.now (container_with (λ _. 0) c.in-Ok.read.0, take c.in-Ok.read.0.pages c.read_parts.new.page_table, f.spelled (λ _. 0)) f.is
    c.place_of-then-not-is_empty.result (not_none (length c.in-Ok.read.1.now) c.if-not-is_empty.ensures) c.place_of-then-not-is_empty.ensures

pub returns-clause-read : goal.returns-clause-read
returns-clause-read c =
    let f = c.in-Ok.ensures.read in
    λ words. all (SpellsContainer (container_with words c.in-Ok.read.0) (take c.in-Ok.read.0.pages c.read_parts.new.page_table)) c.args.bytes.now f.front c.in-Ok.read.1.now
    (f.spelled words) f.is (none_left c.in-Ok.read.1.now c.if-not-is_empty.ensures)

pub returns-clause-none_past : goal.returns-clause-none_past
returns-clause-none_past c =
    still_zero c.in-Ok.read.0.pages (replicate 256 0) c.read_parts.new.page_table refl c.read_parts.array_long c.in-Ok.ensures.others
