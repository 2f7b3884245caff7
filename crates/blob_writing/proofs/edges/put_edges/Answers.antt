use Rattle.std.proofs.Common.{◌≡◌, ◌++◌, ◌∙◌, ℕ, List, length, ap, append_assoc}
use Rattle.std.specs.List.{flat_map}
use Rattle.byteorder.specs.Endian.{little_bytes}
use Rattle.data_atlas.specs.data_atlas_facts.Directory.{edges_of}
use Rattle.blob_grammar.specs.Spelling.{Counted, counted_edges, edge_bytes, edges_bytes}
use Rattle.blob_facts.specs.Pieces.{rows_edges}
use Rattle.blob_facts.proofs.RowsPut.{rows_all}
use Rattle.blob_writing.proofs.edges.put_edges.Goals as goal

both : (es fs : List Counted) (number : ℕ) (old counted all : List ℕ) → es ≡ fs → number ≡ length es → counted ≡ old ++ little_bytes 2 number
    → all ≡ counted ++ flat_map edge_bytes es → all ≡ old ++ edges_bytes fs
both es fs number old counted all same is p q =
    let together : all ≡ (old ++ little_bytes 2 (length es)) ++ flat_map edge_bytes es = q ∙ ap (λ (l : List ℕ). l ++ flat_map edge_bytes es) (p ∙ ap (λ n. old ++ little_bytes 2 n) is) in
    together ∙ append_assoc old (little_bytes 2 (length es)) (flat_map edge_bytes es) ∙ ap (λ (l : List Counted). old ++ edges_bytes l) same

pub returns : goal.returns
returns c =
    both (rows_edges (edges_of c.args.atlas.now) 41 41) (counted_edges (edges_of c.args.atlas.now)) c.count_rows.result c.args.blob.now c.put_u16.new.self c.put_rows.new.blob
    (rows_all (edges_of c.args.atlas.now)) c.count_rows.ensures c.put_u16.ensures c.put_rows.ensures
