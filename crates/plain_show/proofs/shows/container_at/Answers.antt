-- The named container is in the list.
use Rattle.std.proofs.Common.{rules, ◌≡◌, ◌<◌, ◌≤◌, length, Some, slice_get, refl, sym, subst, ◌∙◌}
use Rattle.std.proofs.lemmas.Option.{slice_get_read, slice_get_within}
use Rattle.plain_states.specs.Plains.{atlas_of}
use Rattle.plain_states.specs.declared.plain.PlainContainer.{PlainContainer}
use Rattle.plain_states.proofs.CellLemmas.{cell_at_container}
use Rattle.plain_show.proofs.Places.{container_there}
use Rattle.plain_show.proofs.shows.container_at.Goals as goal

pub index-requires : goal.index-requires
index-requires g c =
    let st = c.args.state.now in
    let there = container_there g.s st c.args.place c.requires.0 c.requires.1 in
    let within : c.args.place < length st.containers.items = slice_get_within st.containers.items c.args.place there.container there.at in
    search rules

pub returns : goal.returns
returns g c =
    let st = c.args.state.now in
    let i = c.args.place in
    let cs = st.containers.items in
    let there = container_there g.s st i c.requires.0 c.requires.1 in
    let is : slice_get cs i ≡ Some c.index.result.now = slice_get_read cs (length cs) i c.index.result.now refl (slice_get_within cs i there.container there.at) c.index.ensures in
    let same : there.container ≡ c.index.result.now = some_same _ _ (sym there.at ∙ is) in
    record {
      cell = cell_at_container g.s (atlas_of st.atlas) cs st.loci.items i c.index.result.now _ refl there.low is;
      size = subst (λ (b : PlainContainer). b.pages ≤ 256) same there.size;
    }
  where
    some_same : (b d : PlainContainer) → Some b ≡ Some d → b ≡ d
    some_same b d e = cc
