use Rattle.std.proofs.Common.{◌≡◌, false, is_some, string_bytes, sym, ◌∙◌, arith}
use Rattle.std.proofs.lemmas.List.{length-map}
use Rattle.std.proofs.lemmas.Result.{err_from_is_err_and}
use Rattle.script_types.specs.Scripts.{tables_of}
use Rattle.plain_states.proofs.ActLemmas.{some_by}
use Rattle.plain_runs.proofs.Answering.{goes_after, keeps_on, standing_on, where_none, where_some}
use Rattle.plain_runs.proofs.Placing.{picks_over}
use Rattle.plain_runs.proofs.looks.picks_from.Goals as goal

pub loop-i-init : goal.loop-i-init
loop-i-init g c = record { keeps = λ w es h. h; place = c.requires.1.1.1.1.0; owed = c.requires.1.1.1.0 }

pub pick-requires : goal.pick-requires
pick-requires g c κs lives =
    let script = tables_of c.args.script.now in
    let k = c.loop-i.invariant in
    (λ a mem. lives a mem, (c.requires.1.0, (c.requires.1.1.0, (omega (arith, c.loop-i-test.true, c.len-i-end.ensures, c.args.script.now.order.ok.0), (k.owed, (k.place, standing_on g.s script c.args.run.now c.loop-i.run k.keeps c.requires.1.1.1.1.1))))))

pub returns-in_err-entry-clause-err : goal.returns-in_err-entry-clause-err
returns-in_err-entry-clause-err g c =
    let script = tables_of c.args.script.now in
    let e = err_from_is_err_and c.from_residual.result c.from_residual.ensures.1 in
    rw e.1 (keeps_on g.s script c.args.run.now c.loop-i.run c.pick.new.run c.loop-i.invariant.keeps c.in_err-entry.ensures.err)

pub returns-then-is_some-clause-further : goal.returns-then-is_some-clause-further
returns-then-is_some-clause-further g c = some_by c.in_ok-entry.entry (λ e k. goes_after g.s (tables_of c.args.script.now) c.args.run.now c.loop-i.run c.pick.new.run e c.loop-i.invariant.keeps k) c.in_ok-entry.ensures.further

pub loop-i-preserved : goal.loop-i-preserved
loop-i-preserved g c =
    let script = tables_of c.args.script.now in
    let entry = c.in_ok-entry.entry in
    let none : is_some entry ≡ false = sym c.is_some.ensures ∙ c.if-is_some.false in
    record {
      keeps = keeps_on g.s script c.args.run.now c.loop-i.run c.pick.new.run c.loop-i.invariant.keeps (where_none entry none c.in_ok-entry.ensures.none);
      place = where_none entry none c.in_ok-entry.ensures.place;
      owed = where_none entry none c.in_ok-entry.ensures.owed;
    }

pub returns-clause-none : goal.returns-clause-none
returns-clause-none g c w es h =
    let k = c.loop-i.invariant in
    picks_over g.s (tables_of c.args.script.now) w c.loop-i.run c.loop-i.i es (omega (arith, c.loop-i-test.false, c.len-i-end.ensures, c.args.script.now.order.ok.0, length-map c.args.script.now.order.items string_bytes)) k.owed k.place (k.keeps w es h)

pub returns-clause-owed : goal.returns-clause-owed
returns-clause-owed g c = c.loop-i.invariant.owed

pub returns-then-is_some-clause-none : goal.returns-then-is_some-clause-none
returns-then-is_some-clause-none g c = where_some _ c.in_ok-entry.entry (sym c.is_some.ensures ∙ c.if-is_some.true)

pub returns-then-is_some-clause-place : goal.returns-then-is_some-clause-place
returns-then-is_some-clause-place g c = where_some _ c.in_ok-entry.entry (sym c.is_some.ensures ∙ c.if-is_some.true)

pub returns-then-is_some-clause-owed : goal.returns-then-is_some-clause-owed
returns-then-is_some-clause-owed g c = where_some _ c.in_ok-entry.entry (sym c.is_some.ensures ∙ c.if-is_some.true)
