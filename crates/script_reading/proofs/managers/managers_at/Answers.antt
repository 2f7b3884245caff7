-- Each item is read behind the others, and its fault is the list's.
use Rattle.std.proofs.Common.{◌≡◌, [], Ok, map, sym, ap, ◌∙◌}
use Rattle.base_managers.specs.Managing.{manager_of}
use Rattle.toml.specs.View.{view, table_view}
use Rattle.script_meaning.specs.Fields.{each}
use Rattle.script_meaning.specs.Meaning.{a_manager, managers_at}
use Rattle.script_meaning.specs.Reading.{IsFaultOf, ◌>>=◌}
use Rattle.script_reading.specs.Views.{program_of}
use Rattle.script_meaning.proofs.Each.{each_done, each_handed_on}
use Rattle.script_reading.proofs.managers.managers_at.Goals as goal

pub returns-in_err-manager : goal.returns-in_err-manager
returns-in_err-manager c =
    let vs = c.in_ok-values.values.now in
    let programs = map program_of c.args.programs.now in
    let read = a_manager c.args.greatest programs c.args.key.now in
    let ts = c.loop-value.managers.items in
    let e = c.in_err-manager.field-0.0 in
    let item : IsFaultOf (read (map manager_of ts) (view c.value-item.result)) e = rw (← c.as_slice.ensures.value) c.in_err-manager.ensures in
    let whole : managers_at c.args.greatest programs c.args.key.now (table_view c.args.table.now) ≡ each read [] (map view vs) = ap (λ r. r >>= each read []) c.in_ok-values.ensures in
    each_handed_on _ _ _ read manager_of vs c.loop-value.value-index c.value-item.result ts e c.loop-value-test.true c.value-item.is item (whole ∙ sym c.loop-value.invariant) c.from_residual-in_err-manager.ensures

pub loop-value-preserved : goal.loop-value-preserved
loop-value-preserved c =
    let vs = c.in_ok-values.values.now in
    let read = a_manager c.args.greatest (map program_of c.args.programs.now) c.args.key.now in
    let ts = c.loop-value.managers.items in
    let t = c.in_ok-manager.manager in
    let item : read (map manager_of ts) (view c.value-item.result) ≡ Ok (manager_of t) = rw (← c.as_slice.ensures.value) c.in_ok-manager.ensures in
    each_done read manager_of vs c.loop-value.value-index c.value-item.result ts c.push.new.self.items t c.loop-value-test.true c.value-item.is item c.in_ok-push.ensures.items ∙ c.loop-value.invariant
