-- Each item is read behind the others, and its fault is the list's.
use Rattle.std.proofs.Common.{◌≡◌, [], Ok, map, sym, ap, ◌∙◌}
use Rattle.toml.specs.View.{view, table_view}
use Rattle.script_meaning.specs.Fields.{each}
use Rattle.script_meaning.specs.Meaning.{a_container, containers_at}
use Rattle.script_meaning.specs.Reading.{IsFaultOf, ◌>>=◌}
use Rattle.script_types.specs.Scripts.{container_of}
use Rattle.script_reading.specs.Views.{program_of}
use Rattle.script_meaning.proofs.Each.{each_done, each_handed_on}
use Rattle.script_reading.proofs.tables.read_containers.Goals as goal

pub returns-in_err-container : goal.returns-in_err-container
returns-in_err-container c =
    let vs = c.in_ok-values.values.now in
    let read = a_container (map program_of c.args.programs.now) in
    let ts = c.loop-value.containers.items in
    let e = c.in_err-container.field-0.0 in
    let item : IsFaultOf (read (map container_of ts) (view c.value-item.result)) e = rw (← c.as_slice.ensures.value) c.in_err-container.ensures in
    let whole : containers_at (map program_of c.args.programs.now) (table_view c.args.table.now) ≡ each read [] (map view vs) = ap (λ r. r >>= each read []) c.in_ok-values.ensures in
    each_handed_on _ _ _ read container_of vs c.loop-value.value-index c.value-item.result ts e c.loop-value-test.true c.value-item.is item (whole ∙ sym c.loop-value.invariant) c.from_residual-in_err-container.ensures

pub loop-value-preserved : goal.loop-value-preserved
loop-value-preserved c =
    let vs = c.in_ok-values.values.now in
    let read = a_container (map program_of c.args.programs.now) in
    let ts = c.loop-value.containers.items in
    let t = c.in_ok-container.container in
    let item : read (map container_of ts) (view c.value-item.result) ≡ Ok (container_of t) = rw (← c.as_slice.ensures.value) c.in_ok-container.ensures in
    each_done read container_of vs c.loop-value.value-index c.value-item.result ts c.push.new.self.items t c.loop-value-test.true c.value-item.is item c.in_ok-push.ensures.items ∙ c.loop-value.invariant
