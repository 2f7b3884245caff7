use Rattle.std.proofs.Common.{◌+◌, ◌<◌, length, refl, arith}
use Rattle.plain_states.specs.Plains.{atlas_of, cells_of}
use Rattle.plain_show.specs.Show.{entity_lines}
use Rattle.line_text.proofs.Puts.{Appends-upto, AppendsPart-upto, Puts-cut}
use Rattle.plain_show.proofs.shows.put_loci.Goals as goal

pub returns-in_err-put_locus_at-clause-bytes : goal.returns-in_err-put_locus_at-clause-bytes
returns-in_err-put_locus_at-clause-bytes g c =
    let st = c.args.state.now in
    let names = st.atlas.loci.items in
    let i = c.loop-place.place in
    let within : i < length names = omega arith in
    Puts-cut _ _ _ _ _ c.from_residual.ensures.1
    (AppendsPart-upto (λ i. entity_lines g.s (atlas_of st.atlas) (cells_of g.s st) (i + 41)) _ _ _ (length names) i within c.loop-place.invariant.put c.in_err-put_locus_at.ensures.bytes)

pub loop-place-preserved : goal.loop-place-preserved
loop-place-preserved g c =
    let st = c.args.state.now in
    record {
      put = Appends-upto (λ i. entity_lines g.s (atlas_of st.atlas) (cells_of g.s st) (i + 41)) _ _ _ c.loop-place.place _ refl c.loop-place.invariant.put c.in_ok-put_locus_at.ensures.bytes;
      count = omega arith;
    }
