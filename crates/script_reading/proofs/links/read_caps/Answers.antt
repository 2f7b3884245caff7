-- Each item is read behind the others, and its fault is the list's.
use Rattle.std.proofs.Common.{◌≡◌, [], Ok, length, codes, map, string_bytes, sym, ap, ◌∙◌, arith}
use Rattle.std.proofs.lemmas.List.{length-map}
use Rattle.toml.specs.View.{view, table_view}
use Rattle.script_meaning.specs.Fields.{each}
use Rattle.script_meaning.specs.Meaning.{a_cap, caps_at}
use Rattle.script_meaning.specs.Reading.{dotted, IsFaultOf, ◌>>=◌}
use Rattle.script_types.specs.Scripts.{cap_of}
use Rattle.script_reading.specs.Views.{names_known}
use Rattle.script_meaning.proofs.Each.{each_done, each_handed_on}
use Rattle.script_reading.proofs.links.read_caps.Goals as goal

pub returns-in_err-cap : goal.returns-in_err-cap
returns-in_err-cap c =
    let vs = c.in_ok-values.values.now in
    let read = a_cap (names_known c.args.known) (string_bytes c.in_ok-list_key.list_key) in
    let ts = c.loop-value.caps.items in
    let e = c.in_err-cap.field-0.0 in
    let place : length (map cap_of ts) ≡ c.len-place.result = rw length-map (omega (arith, c.len-place.ensures, c.loop-value.caps.ok.0)) in
    let item : IsFaultOf (read (map cap_of ts) (view c.value-item.result)) e = rw (← c.as_str.ensures.value) (c.in_err-cap.ensures (map cap_of ts) place) in
    let whole : caps_at (names_known c.args.known) c.args.key.now (table_view c.args.table.now) ≡ each read [] (map view vs) = ap (λ r. r >>= each (a_cap (names_known c.args.known) (dotted c.args.key.now (codes "caps"))) []) c.in_ok-values.ensures ∙ ap (λ k. each (a_cap (names_known c.args.known) k) [] (map view vs)) (sym c.in_ok-list_key.ensures) in
    each_handed_on _ _ _ read cap_of vs c.loop-value.value-index c.value-item.result ts e c.loop-value-test.true c.value-item.is item (whole ∙ sym c.loop-value.invariant) c.from_residual-in_err-cap.ensures

pub loop-value-preserved : goal.loop-value-preserved
loop-value-preserved c =
    let vs = c.in_ok-values.values.now in
    let read = a_cap (names_known c.args.known) (string_bytes c.in_ok-list_key.list_key) in
    let ts = c.loop-value.caps.items in
    let t = c.in_ok-cap.cap in
    let place : length (map cap_of ts) ≡ c.len-place.result = rw length-map (omega (arith, c.len-place.ensures, c.loop-value.caps.ok.0)) in
    let item : read (map cap_of ts) (view c.value-item.result) ≡ Ok (cap_of t) = rw (← c.as_str.ensures.value) (c.in_ok-cap.ensures (map cap_of ts) place) in
    each_done read cap_of vs c.loop-value.value-index c.value-item.result ts c.push.new.self.items t c.loop-value-test.true c.value-item.is item c.in_ok-push.ensures.items ∙ c.loop-value.invariant
