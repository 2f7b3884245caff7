use Rattle.std.proofs.Common.{◌≡◌, false, is_some, sym, ap, ◌∙◌, arith}
use Rattle.std.proofs.lemmas.Result.{err_from_is_err_and}
use Rattle.script_types.specs.Scripts.{tables_of}
use Rattle.plain_states.proofs.ActLemmas.{some_by}
use Rattle.plain_runs.specs.declared.serial.Place.TheVariants.{Round}
use Rattle.plain_runs.proofs.Answering.{goes_after, idle_more, keeps_on, standing_on, where_none, where_some}
use Rattle.plain_runs.proofs.Placing.{round_over, round_within}
use Rattle.plain_runs.proofs.looks.round_from.Goals as goal

pub loop-number-init : goal.loop-number-init
loop-number-init g c = record { keeps = λ w es h. h; idle = λ w es h l low high. absurd (omega (arith, low, high)); place = c.requires.1.1.1.1.0; owed = c.requires.1.1.1.0 }

pub round_look-requires : goal.round_look-requires
round_look-requires g c κs lives =
    let script = tables_of c.args.script.now in
    let k = c.loop-number.invariant in
    let at = standing_on g.s script c.args.run.now c.loop-number.run k.keeps c.requires.1.1.1.1.1 in
    let within = round_within g.s script at.0 c.loop-number.run c.loop-number.number at.1 k.owed k.place at.2 in
    (λ a mem. lives a mem, (c.requires.1.0, (c.requires.1.1.0, (within.0, (omega (arith, c.loop-number-test.true), (k.owed, (k.place, at)))))))

pub returns-in_err-entry-clause-err : goal.returns-in_err-entry-clause-err
returns-in_err-entry-clause-err g c =
    let script = tables_of c.args.script.now in
    let e = err_from_is_err_and c.from_residual.result c.from_residual.ensures.1 in
    rw e.1 (keeps_on g.s script c.args.run.now c.loop-number.run c.round_look.new.run c.loop-number.invariant.keeps c.in_err-entry.ensures.err)

pub returns-then-is_some-clause-further : goal.returns-then-is_some-clause-further
returns-then-is_some-clause-further g c = some_by c.in_ok-entry.entry (λ e k. goes_after g.s (tables_of c.args.script.now) c.args.run.now c.loop-number.run c.round_look.new.run e c.loop-number.invariant.keeps k) c.in_ok-entry.ensures.further

pub returns-then-is_some-clause-none : goal.returns-then-is_some-clause-none
returns-then-is_some-clause-none g c = where_some _ c.in_ok-entry.entry (sym c.is_some.ensures ∙ c.if-is_some.true)

pub returns-then-is_some-clause-idle : goal.returns-then-is_some-clause-idle
returns-then-is_some-clause-idle g c = where_some _ c.in_ok-entry.entry (sym c.is_some.ensures ∙ c.if-is_some.true)

pub returns-then-is_some-clause-place : goal.returns-then-is_some-clause-place
returns-then-is_some-clause-place g c = where_some _ c.in_ok-entry.entry (sym c.is_some.ensures ∙ c.if-is_some.true)

pub returns-then-is_some-clause-owed : goal.returns-then-is_some-clause-owed
returns-then-is_some-clause-owed g c = where_some _ c.in_ok-entry.entry (sym c.is_some.ensures ∙ c.if-is_some.true)

pub loop-number-preserved : goal.loop-number-preserved
loop-number-preserved g c =
    let script = tables_of c.args.script.now in
    let entry = c.in_ok-entry.entry in
    let k = c.loop-number.invariant in
    let none : is_some entry ≡ false = sym c.is_some.ensures ∙ c.if-is_some.false in
    record {
      keeps = keeps_on g.s script c.args.run.now c.loop-number.run c.round_look.new.run k.keeps (where_none entry none c.in_ok-entry.ensures.none);
      idle = idle_more g.s script c.args.first c.loop-number.number c.args.run.now c.loop-number.run k.idle k.keeps (where_none entry none c.in_ok-entry.ensures.idle);
      place = where_none entry none c.in_ok-entry.ensures.place;
      owed = where_none entry none c.in_ok-entry.ensures.owed;
    }

pub returns-clause-none : goal.returns-clause-none
returns-clause-none g c w es h =
    let script = tables_of c.args.script.now in
    let k = c.loop-number.invariant in
    let at = k.keeps w es h in
    let within = round_within g.s script w c.loop-number.run c.loop-number.number es k.owed k.place at in
    let last : c.loop-number.number ≡ 64 = omega (arith, within.1, c.loop-number-test.false) in
    round_over g.s script w c.loop-number.run es k.owed (k.place ∙ ap Round last) at

pub returns-clause-idle : goal.returns-clause-idle
returns-clause-idle g c w es h l low high = c.loop-number.invariant.idle w es h l low (omega (arith, high, c.loop-number-test.false))

pub returns-clause-owed : goal.returns-clause-owed
returns-clause-owed g c = c.loop-number.invariant.owed
