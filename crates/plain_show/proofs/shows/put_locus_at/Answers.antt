use Rattle.std.proofs.Common.{◌≡◌, subst}
use Rattle.edge_streams.specs.Streams.{Puts}
use Rattle.plain_states.specs.Plains.{atlas_of, cells_of, locus_of}
use Rattle.plain_states.specs.declared.plain.PlainAtlas.{PlainAtlas}
use Rattle.plain_show.specs.Show.{locus_lines}
use Rattle.plain_show.proofs.Places.{locus_shown}
use Rattle.plain_show.proofs.shows.put_locus_at.Goals as goal

pub returns-clause-bytes : goal.returns-clause-bytes
returns-clause-bytes g c =
    let st = c.args.state.now in
    let k = locus_of c.locus_at-l.result.now in
    let named : c.names_of-names.result.atlas.now ≡ st.atlas = c.names_of-names.ensures.names in
    locus_shown _ _ _ g.s (atlas_of st.atlas) (cells_of g.s st) _ c.in-Some.entity k c.locus_at-l.ensures c.in-Some.ensures.made
    (subst (λ (p : PlainAtlas). Puts (g.W.Sink.held c.args.sink.now) (g.W.Sink.held c.put_locus.new.sink) c.put_locus.result (locus_lines (atlas_of p) c.in-Some.entity k)) named c.put_locus.ensures.bytes)
