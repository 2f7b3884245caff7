-- Each item is read behind the others, and its fault is the list's.
use Rattle.std.proofs.Common.{◌≡◌, [], Ok, length, map, string_bytes, sym, ap, ◌∙◌, arith}
use Rattle.std.proofs.lemmas.List.{length-map}
use Rattle.toml.specs.View.{view, table_view}
use Rattle.script_meaning.specs.Fields.{each}
use Rattle.script_meaning.specs.Meaning.{a_pick, order_at}
use Rattle.script_meaning.specs.Reading.{IsFaultOf, ◌>>=◌}
use Rattle.script_types.specs.Rules.{locus_names}
use Rattle.script_types.specs.Scripts.{locus_of}
use Rattle.script_meaning.proofs.Each.{each_done, each_handed_on}
use Rattle.script_reading.proofs.reading.read_order.Goals as goal

pub returns-in_err-pick : goal.returns-in_err-pick
returns-in_err-pick c =
    let vs = c.in_ok-values.values.now in
    let read = a_pick (locus_names (map locus_of c.args.loci.now)) in
    let ts = c.loop-value.order.items in
    let e = c.in_err-pick.field-0.0 in
    let place : length (map string_bytes ts) ≡ c.len-place.result = rw length-map (omega (arith, c.len-place.ensures, c.loop-value.order.ok.0)) in
    let item : IsFaultOf (read (map string_bytes ts) (view c.value-item.result)) e = c.in_err-pick.ensures (map string_bytes ts) place in
    let whole : order_at (locus_names (map locus_of c.args.loci.now)) (table_view c.args.table.now) ≡ each read [] (map view vs) = ap (λ r. r >>= each read []) c.in_ok-values.ensures in
    each_handed_on _ _ _ read string_bytes vs c.loop-value.value-index c.value-item.result ts e c.loop-value-test.true c.value-item.is item (whole ∙ sym c.loop-value.invariant) c.from_residual-in_err-pick.ensures

pub loop-value-preserved : goal.loop-value-preserved
loop-value-preserved c =
    let vs = c.in_ok-values.values.now in
    let read = a_pick (locus_names (map locus_of c.args.loci.now)) in
    let ts = c.loop-value.order.items in
    let t = c.in_ok-pick.pick in
    let place : length (map string_bytes ts) ≡ c.len-place.result = rw length-map (omega (arith, c.len-place.ensures, c.loop-value.order.ok.0)) in
    let item : read (map string_bytes ts) (view c.value-item.result) ≡ Ok (string_bytes t) = c.in_ok-pick.ensures (map string_bytes ts) place in
    each_done read string_bytes vs c.loop-value.value-index c.value-item.result ts c.push.new.self.items t c.loop-value-test.true c.value-item.is item c.in_ok-push.ensures.items ∙ c.loop-value.invariant
