use Rattle.std.proofs.Common.{◌≡◌, subst}
use Rattle.edge_streams.specs.Streams.{Puts}
use Rattle.plain_states.specs.Plains.{atlas_of, cells_of, container_of}
use Rattle.plain_states.specs.declared.plain.PlainAtlas.{PlainAtlas}
use Rattle.plain_show.specs.Show.{container_lines}
use Rattle.plain_show.proofs.Places.{container_shown}
use Rattle.plain_show.proofs.shows.put_container_at.Goals as goal

pub returns-clause-bytes : goal.returns-clause-bytes
returns-clause-bytes g c =
    let st = c.args.state.now in
    let k = container_of g.s c.container_at-c.result.now in
    let named : c.names_of-names.result.atlas.now ≡ st.atlas = c.names_of-names.ensures.names in
    container_shown _ _ _ g.s (atlas_of st.atlas) (cells_of g.s st) _ c.in-Some.entity k c.container_at-c.ensures.cell c.in-Some.ensures.made
    (subst (λ (p : PlainAtlas). Puts (g.W.Sink.held c.args.sink.now) (g.W.Sink.held c.put_container.new.sink) c.put_container.result (container_lines g.s (atlas_of p) c.in-Some.entity k)) named c.put_container.ensures.bytes)
