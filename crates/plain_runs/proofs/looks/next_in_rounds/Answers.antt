use Rattle.std.proofs.lemmas.Result.{err_from_is_err_and}
use Rattle.script_types.specs.Scripts.{tables_of}
use Rattle.plain_states.proofs.ActLemmas.{err_by, none_by, ok_by, some_by}
use Rattle.plain_runs.proofs.Answering.{goes_after, keeps_on, standing_on}
use Rattle.plain_runs.proofs.Placing.{all_over}
use Rattle.plain_runs.proofs.looks.next_in_rounds.Goals as goal

pub round_from-requires-2 : goal.round_from-requires-2
round_from-requires-2 g c κs lives =
    let keeps = rw c.in_default.is at c.in_ok-entry.ensures.none in
    let owed = rw c.in_default.is at c.in_ok-entry.ensures.owed in
    let place = rw c.in_default.is at c.in_ok-entry.ensures.place in
    (λ a mem. lives a mem, (c.requires.1.0, (c.requires.1.1.0, (owed, (place, standing_on g.s (tables_of c.args.script.now) c.args.run.now c.round_from.new.run keeps c.requires.1.1.1.1.1)))))

pub returns-in-Some-clause-further : goal.returns-in-Some-clause-further
returns-in-Some-clause-further g c = rw c.in-Some.is at c.in_ok-entry.ensures.further

pub returns-clause-further : goal.returns-clause-further
returns-clause-further g c =
    let keeps = rw c.in_default.is at c.in_ok-entry.ensures.none in
    ok_by c.round_from-2.result (λ o h. some_by o (λ e k. goes_after g.s (tables_of c.args.script.now) c.args.run.now c.round_from.new.run c.round_from-2.new.run e keeps k) h) c.round_from-2.ensures.further

pub returns-clause-none : goal.returns-clause-none
returns-clause-none g c =
    let keeps = rw c.in_default.is at c.in_ok-entry.ensures.none in
    ok_by c.round_from-2.result (λ o h. none_by o (λ k. keeps_on g.s (tables_of c.args.script.now) c.args.run.now c.round_from.new.run c.round_from-2.new.run keeps k) h) c.round_from-2.ensures.none

pub returns-clause-err : goal.returns-clause-err
returns-clause-err g c =
    let keeps = rw c.in_default.is at c.in_ok-entry.ensures.none in
    err_by c.round_from-2.result (λ k. keeps_on g.s (tables_of c.args.script.now) c.args.run.now c.round_from.new.run c.round_from-2.new.run keeps k) c.round_from-2.ensures.err

pub returns-clause-over : goal.returns-clause-over
returns-clause-over g c =
    let script = tables_of c.args.script.now in
    let mid = c.round_from.new.run in
    let keeps = rw c.in_default.is at c.in_ok-entry.ensures.none in
    let owed = rw c.in_default.is at c.in_ok-entry.ensures.owed in
    let place = rw c.in_default.is at c.in_ok-entry.ensures.place in
    ok_by c.round_from-2.result (λ o h. none_by o (λ idle w es at. let here = keeps w es at in all_over g.s script w mid es owed place here (λ l low high. idle w es here l low high)) h) c.round_from-2.ensures.idle

pub returns-in_err-entry-clause-err : goal.returns-in_err-entry-clause-err
returns-in_err-entry-clause-err g c =
    let e = err_from_is_err_and c.from_residual.result c.from_residual.ensures.1 in
    rw e.1 c.in_err-entry.ensures.err
