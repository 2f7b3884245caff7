-- Each item is read behind the others, and its fault is the list's.
use Rattle.std.proofs.Common.{◌≡◌, [], Ok, map, sym, ap, ◌∙◌}
use Rattle.toml.specs.View.{view, table_view}
use Rattle.script_meaning.specs.Fields.{each}
use Rattle.script_meaning.specs.Meaning.{a_locus, loci_at}
use Rattle.script_meaning.specs.Reading.{IsFaultOf, ◌>>=◌}
use Rattle.script_types.specs.Scripts.{container_of, locus_of}
use Rattle.script_meaning.proofs.Each.{each_done, each_handed_on}
use Rattle.script_reading.proofs.tables.read_loci.Goals as goal

pub returns-in_err-locus : goal.returns-in_err-locus
returns-in_err-locus c =
    let vs = c.in_ok-values.values.now in
    let read = a_locus (map container_of c.args.containers.now) in
    let ts = c.loop-value.loci.items in
    let e = c.in_err-locus.field-0.0 in
    let item : IsFaultOf (read (map locus_of ts) (view c.value-item.result)) e = rw (← c.as_slice.ensures.value) c.in_err-locus.ensures in
    let whole : loci_at (map container_of c.args.containers.now) (table_view c.args.table.now) ≡ each read [] (map view vs) = ap (λ r. r >>= each read []) c.in_ok-values.ensures in
    each_handed_on _ _ _ read locus_of vs c.loop-value.value-index c.value-item.result ts e c.loop-value-test.true c.value-item.is item (whole ∙ sym c.loop-value.invariant) c.from_residual-in_err-locus.ensures

pub loop-value-preserved : goal.loop-value-preserved
loop-value-preserved c =
    let vs = c.in_ok-values.values.now in
    let read = a_locus (map container_of c.args.containers.now) in
    let ts = c.loop-value.loci.items in
    let t = c.in_ok-locus.locus in
    let item : read (map locus_of ts) (view c.value-item.result) ≡ Ok (locus_of t) = rw (← c.as_slice.ensures.value) c.in_ok-locus.ensures in
    each_done read locus_of vs c.loop-value.value-index c.value-item.result ts c.push.new.self.items t c.loop-value-test.true c.value-item.is item c.in_ok-push.ensures.items ∙ c.loop-value.invariant
