-- The names are as many as the model's.
use Rattle.std.proofs.Common.{string_bytes}
use Rattle.std.proofs.lemmas.List.{length-map}
use Rattle.edge_streams.proofs.Streams.{AppendsPart-more}
use Rattle.line_text.proofs.Puts.{Puts-cut, Puts-then}
use Rattle.plain_show.proofs.shows.write_show.Goals as goal

pub returns-in_err-put_containers-clause-bytes : goal.returns-in_err-put_containers-clause-bytes
returns-in_err-put_containers-clause-bytes g c =
    let names = c.args.state.now.atlas in
    rw (length-map names.containers.items string_bytes) (Puts-cut _ _ _ _ _ c.from_residual.ensures.1 (AppendsPart-more _ _ _ _ c.in_err-put_containers.ensures.bytes))

pub returns-clause-bytes : goal.returns-clause-bytes
returns-clause-bytes g c =
    let names = c.args.state.now.atlas in
    rw (length-map names.containers.items string_bytes, length-map names.loci.items string_bytes) (Puts-then _ _ _ _ _ _ c.in_ok-put_containers.ensures.bytes c.put_loci.ensures.bytes)
