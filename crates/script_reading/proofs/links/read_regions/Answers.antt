-- Each item is read behind the others, and its fault is the list's.
use Rattle.std.proofs.Common.{◌≡◌, [], Ok, codes, map, string_bytes, sym, ap, ◌∙◌}
use Rattle.toml.specs.View.{view, table_view}
use Rattle.script_meaning.specs.Fields.{each}
use Rattle.script_meaning.specs.Meaning.{a_region, regions_at}
use Rattle.script_meaning.specs.Reading.{dotted, IsFaultOf, ◌>>=◌}
use Rattle.script_types.specs.Rules.{container_names}
use Rattle.script_types.specs.Scripts.{region_of, container_of}
use Rattle.script_meaning.proofs.Each.{each_done, each_handed_on}
use Rattle.script_reading.proofs.links.read_regions.Goals as goal

pub returns-in_err-region : goal.returns-in_err-region
returns-in_err-region c =
    let vs = c.in_ok-values.values.now in
    let read = a_region (container_names (map container_of c.args.earlier.now)) c.args.pages (string_bytes c.in_ok-list_key.list_key) in
    let ts = c.loop-value.regions.items in
    let e = c.in_err-region.field-0.0 in
    let item : IsFaultOf (read (map region_of ts) (view c.value-item.result)) e = rw (← c.as_str.ensures.value, ← c.as_slice.ensures.value) c.in_err-region.ensures in
    let whole : regions_at (container_names (map container_of c.args.earlier.now)) c.args.pages c.args.key.now (table_view c.args.table.now) ≡ each read [] (map view vs) = ap (λ r. r >>= each (a_region (container_names (map container_of c.args.earlier.now)) c.args.pages (dotted c.args.key.now (codes "regions"))) []) c.in_ok-values.ensures ∙ ap (λ k. each (a_region (container_names (map container_of c.args.earlier.now)) c.args.pages k) [] (map view vs)) (sym c.in_ok-list_key.ensures) in
    each_handed_on _ _ _ read region_of vs c.loop-value.value-index c.value-item.result ts e c.loop-value-test.true c.value-item.is item (whole ∙ sym c.loop-value.invariant) c.from_residual-in_err-region.ensures

pub loop-value-preserved : goal.loop-value-preserved
loop-value-preserved c =
    let vs = c.in_ok-values.values.now in
    let read = a_region (container_names (map container_of c.args.earlier.now)) c.args.pages (string_bytes c.in_ok-list_key.list_key) in
    let ts = c.loop-value.regions.items in
    let t = c.in_ok-region.region in
    let item : read (map region_of ts) (view c.value-item.result) ≡ Ok (region_of t) = rw (← c.as_str.ensures.value, ← c.as_slice.ensures.value) c.in_ok-region.ensures in
    each_done read region_of vs c.loop-value.value-index c.value-item.result ts c.push.new.self.items t c.loop-value-test.true c.value-item.is item c.in_ok-push.ensures.items ∙ c.loop-value.invariant
