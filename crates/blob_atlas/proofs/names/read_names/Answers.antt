use Rattle.std.proofs.Common.{◌≡◌, ◌<◌, None, sym, subst}
use Rattle.data_atlas.specs.data_atlas_facts.Directory.{name_of}
use Rattle.blob_reading.specs.blob_facts.Fields.{IsFound, IsRefused, Spells}
use Rattle.blob_reading.specs.blob_facts.Names.{IsNameIn}
use Rattle.blob_reading.proofs.blob_facts_lemmas.NamesRead.{all_added, begun, in_range, name_added, name_refused, next_free, room}
use Rattle.blob_atlas.proofs.names.read_names.Goals as goal

pub loop-place-init : goal.loop-place-init
loop-place-init c = begun c.args.kind c.args.count c.args.atlas.now c.args.bytes.now c.requires.none

pub read_name-requires-clause-number : goal.read_name-requires-clause-number
read_name-requires-clause-number c =
    subst (λ n. n < 64) (sym c.next_number-number.ensures.number) (in_range c.args.kind c.requires.kind c.loop-place.atlas (room c.args.kind c.args.count c.args.atlas.now c.args.bytes.now c.requires.kind c.requires.few c.loop-place._place c.loop-place.atlas c.loop-place.rest.now c.loop-place.rest.now c.loop-place-test.true c.next_number-number.ensures.directory c.loop-place.invariant))

pub read_name-requires-clause-free : goal.read_name-requires-clause-free
read_name-requires-clause-free c =
    subst (λ n. name_of c.loop-place.atlas n ≡ None) (sym c.next_number-number.ensures.number)
    (next_free c.args.kind c.requires.kind c.loop-place.atlas (room c.args.kind c.args.count c.args.atlas.now c.args.bytes.now c.requires.kind c.requires.few c.loop-place._place c.loop-place.atlas c.loop-place.rest.now c.loop-place.rest.now c.loop-place-test.true c.next_number-number.ensures.directory c.loop-place.invariant))

pub returns-in-Err-clause-others : goal.returns-in-Err-clause-others
returns-in-Err-clause-others c = c.loop-place.invariant.others

pub returns-in-Err-clause-refused : goal.returns-in-Err-clause-refused
returns-in-Err-clause-refused c =
    name_refused c.args.kind c.args.count c.args.atlas.now c.args.bytes.now c.requires.kind c.requires.few c.loop-place._place c.loop-place.atlas c.loop-place.rest.now c.in-Err.stuck.rest.now c.loop-place-test.true c.next_number-number.ensures.directory c.loop-place.invariant
    (subst (λ n. IsRefused (Spells (IsNameIn c.loop-place.atlas n)) c.loop-place.rest.now c.in-Err.stuck.rest.now) c.next_number-number.ensures.number c.in-Err.ensures.refused)

pub give_birth-requires-clause-room : goal.give_birth-requires-clause-room
give_birth-requires-clause-room c =
    room c.args.kind c.args.count c.args.atlas.now c.args.bytes.now c.requires.kind c.requires.few c.loop-place._place c.loop-place.atlas c.loop-place.rest.now c.loop-place.rest.now c.loop-place-test.true c.next_number-number.ensures.directory c.loop-place.invariant

pub loop-place-preserved : goal.loop-place-preserved
loop-place-preserved c =
    name_added c.args.kind c.args.count c.args.atlas.now c.args.bytes.now c.requires.kind c.requires.few c.loop-place._place c.loop-place.atlas c.loop-place.rest.now c.in-Ok.read.1.now c.loop-place-test.true c.next_number-number.ensures.directory c.loop-place.invariant c.in-Ok.read.0.bytes c.give_birth.new.atlas
    (subst (λ n. IsFound (IsNameIn c.loop-place.atlas n) c.loop-place.rest.now c.in-Ok.read.0.bytes c.in-Ok.read.1.now) c.next_number-number.ensures.number c.in-Ok.ensures.read) c.give_birth.ensures

pub returns-clause-read : goal.returns-clause-read
returns-clause-read c = all_added c.args.kind c.args.count c.args.atlas.now c.args.bytes.now c.loop-place._place c.loop-place.atlas c.loop-place.rest.now c.loop-place-test.false c.loop-place.invariant

pub returns-clause-others : goal.returns-clause-others
returns-clause-others c = c.loop-place.invariant.others
