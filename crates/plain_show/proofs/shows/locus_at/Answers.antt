-- The named locus is in the list.
use Rattle.std.proofs.Common.{rules, ◌≡◌, ◌<◌, length, Some, slice_get, refl}
use Rattle.std.proofs.lemmas.Option.{slice_get_read, slice_get_within}
use Rattle.plain_states.specs.Plains.{atlas_of}
use Rattle.plain_states.proofs.CellLemmas.{cell_at_locus}
use Rattle.plain_show.proofs.Places.{locus_there}
use Rattle.plain_show.proofs.shows.locus_at.Goals as goal

pub index-requires : goal.index-requires
index-requires g c =
    let st = c.args.state.now in
    let there = locus_there g.s st c.args.place c.requires.0 c.requires.1 in
    let within : c.args.place < length st.loci.items = slice_get_within st.loci.items c.args.place there.locus there.at in
    search rules

pub returns : goal.returns
returns g c =
    let st = c.args.state.now in
    let j = c.args.place in
    let ls = st.loci.items in
    let there = locus_there g.s st j c.requires.0 c.requires.1 in
    let is : slice_get ls j ≡ Some c.index.result.now = slice_get_read ls (length ls) j c.index.result.now refl (slice_get_within ls j there.locus there.at) c.index.ensures in
    cell_at_locus g.s (atlas_of st.atlas) st.containers.items ls j c.index.result.now _ refl is
