use Rattle.std.proofs.Common.{◌≡◌, ◌+◌, [], refl, sym, ap, subst, ◌∙◌, arith}
use Rattle.data_atlas.specs.data_atlas_facts.Directory.{Directory, edges_of}
use Rattle.data_atlas.specs.data_atlas_facts.Reached.{with_edge}
use Rattle.blob_reading.proofs.Exits.{bounds_as, hands_on}
use Rattle.blob_atlas.specs.Edges.{counted_as}
use Rattle.blob_reading.proofs.blob_facts_lemmas.EdgeLists.{edges_found, items_refused, number_refused}
use Rattle.blob_reading.proofs.blob_facts_lemmas.EdgesRead.{SoFar, all_added, begun, edge_added, edge_refused}
use Rattle.blob_atlas.proofs.edges.read_edges.Goals as goal

pub returns-in_err-number-clause-refused : goal.returns-in_err-number-clause-refused
returns-in_err-number-clause-refused c =
    hands_on _ c.from_residual.result c.from_residual.ensures.1
    (number_refused c.args.bytes.now [] c.in_err-number.field-0.0.rest.now c.in_err-number.ensures.refused)

pub loop-place-init : goal.loop-place-init
loop-place-init c = (begun c.in_ok-number.number c.in_ok-number.rest.now (edges_of c.args.atlas.now) c.requires.none c.in_ok-number.ensures.read.spelled.high, refl, refl)

pub read_edge-requires-clause-some : goal.read_edge-requires-clause-some
read_edge-requires-clause-some c =
    let room = c.loop-place.invariant.0.1 in
    let more = c.loop-place-test.true in
    omega (arith, room, more)

pub returns-in-Err-clause-refused : goal.returns-in-Err-clause-refused
returns-in-Err-clause-refused c =
    items_refused c.args.bytes.now c.in_ok-number.rest.now c.in-Err.stuck.rest.now c.in_ok-number.number c.in_ok-number.ensures.read
    (edge_refused c.in_ok-number.number c.in_ok-number.rest.now c.loop-place.place c.loop-place.least (edges_of c.loop-place.atlas) c.loop-place.rest.now c.in-Err.stuck.rest.now
    c.in_ok-number.ensures.read.spelled.high c.loop-place-test.true c.loop-place.invariant.0 c.in-Err.ensures.refused)

pub loop-place-preserved : goal.loop-place-preserved
loop-place-preserved c =
    let same = c.set_count.ensures.count in (
      subst (λ n. SoFar c.in_ok-number.number c.in_ok-number.rest.now (c.loop-place.place + 1) (n + 1) (edges_of c.set_count.new.self) c.in-Ok.read.1.now) (sym c.pair-least.ensures)
          (edge_added c.in_ok-number.number c.in_ok-number.rest.now c.loop-place.place c.loop-place.least (edges_of c.loop-place.atlas) c.loop-place.rest.now c.in-Ok.read.1.now
          c.in_ok-number.ensures.read.spelled.high c.loop-place-test.true c.loop-place.invariant.0 (counted_as c.in-Ok.read.0) (edges_of c.set_count.new.self) c.in-Ok.ensures.read (bounds_as (λ x y. edges_of c.set_count.new.self ≡ with_edge (edges_of c.loop-place.atlas) x y c.in-Ok.read.0.count) c.of.ensures c.of-in-loop-place.ensures c.set_count.ensures.edge)),
      ap (λ (d : Directory). d.containers) same ∙ c.loop-place.invariant.1,
      ap (λ (d : Directory). d.loci) same ∙ c.loop-place.invariant.2,
    )

pub returns-clause-read : goal.returns-clause-read
returns-clause-read c =
    let so_far = c.loop-place.invariant.0 in
    edges_found c.args.bytes.now c.in_ok-number.rest.now c.loop-place.rest.now c.in_ok-number.number (edges_of c.loop-place.atlas) so_far.0.counts c.in_ok-number.ensures.read
    (all_added c.in_ok-number.number c.in_ok-number.rest.now c.loop-place.place c.loop-place.least (edges_of c.loop-place.atlas) c.loop-place.rest.now c.loop-place-test.false so_far)
