use Rattle.std.proofs.lemmas.Result.{err_from_is_err_and}
use Rattle.script_types.specs.Scripts.{tables_of}
use Rattle.plain_states.proofs.ActLemmas.{err_by, none_by, ok_by, some_by}
use Rattle.plain_runs.proofs.Answering.{goes_after, keeps_on, standing_on}
use Rattle.plain_runs.proofs.serial.next_event.Goals as goal

pub returns-in_err-entry-clause-err : goal.returns-in_err-entry-clause-err
returns-in_err-entry-clause-err g c =
    let e = err_from_is_err_and c.from_residual.result c.from_residual.ensures.1 in
    rw e.1 c.in_err-entry.ensures.err

pub returns-in-Some-clause-further : goal.returns-in-Some-clause-further
returns-in-Some-clause-further g c = rw c.in-Some.is at c.in_ok-entry.ensures.further

pub next_pick-requires : goal.next_pick-requires
next_pick-requires g c κs lives =
    let keeps = rw c.in_default.is at c.in_ok-entry.ensures.none in
    let owed = rw c.in_default.is at c.in_ok-entry.ensures.owed in
    let past = rw c.in_default.is at c.in_ok-entry.ensures.past in
    (λ a mem. lives a mem, (c.requires.1.0, (c.requires.1.1.0, (owed, (past, standing_on g.s (tables_of c.args.script.now) c.args.run.now c.next_birth.new.run keeps c.requires.1.1.1.1)))))

pub returns-in_err-entry-2-clause-err : goal.returns-in_err-entry-2-clause-err
returns-in_err-entry-2-clause-err g c =
    let keeps = rw c.in_default.is at c.in_ok-entry.ensures.none in
    let e = err_from_is_err_and c.from_residual-in_err-entry-2.result c.from_residual-in_err-entry-2.ensures.1 in
    rw e.1 (keeps_on g.s (tables_of c.args.script.now) c.args.run.now c.next_birth.new.run c.next_pick.new.run keeps c.in_err-entry-2.ensures.err)

pub returns-in-Some-2-clause-further : goal.returns-in-Some-2-clause-further
returns-in-Some-2-clause-further g c =
    let keeps = rw c.in_default.is at c.in_ok-entry.ensures.none in
    let further = rw c.in-Some-2.is at c.in_ok-entry-2.ensures.further in
    goes_after g.s (tables_of c.args.script.now) c.args.run.now c.next_birth.new.run c.next_pick.new.run c.in-Some-2.entry keeps further

pub next_in_rounds-requires : goal.next_in_rounds-requires
next_in_rounds-requires g c κs lives =
    let script = tables_of c.args.script.now in
    let keeps = rw c.in_default.is at c.in_ok-entry.ensures.none in
    let last = rw c.in_default-2.is at c.in_ok-entry-2.ensures.none in
    let owed = rw c.in_default-2.is at c.in_ok-entry-2.ensures.owed in
    let place = rw c.in_default-2.is at c.in_ok-entry-2.ensures.place in
    let all = keeps_on g.s script c.args.run.now c.next_birth.new.run c.next_pick.new.run keeps last in
    (λ a mem. lives a mem, (c.requires.1.0, (c.requires.1.1.0, (owed, (place, standing_on g.s script c.args.run.now c.next_pick.new.run all c.requires.1.1.1.1)))))

pub returns-clause-further : goal.returns-clause-further
returns-clause-further g c =
    let script = tables_of c.args.script.now in
    let keeps = rw c.in_default.is at c.in_ok-entry.ensures.none in
    let last = rw c.in_default-2.is at c.in_ok-entry-2.ensures.none in
    let all = keeps_on g.s script c.args.run.now c.next_birth.new.run c.next_pick.new.run keeps last in
    ok_by c.next_in_rounds.result (λ o h. some_by o (λ e k. goes_after g.s script c.args.run.now c.next_pick.new.run c.next_in_rounds.new.run e all k) h) c.next_in_rounds.ensures.further

pub returns-clause-none : goal.returns-clause-none
returns-clause-none g c =
    let script = tables_of c.args.script.now in
    let keeps = rw c.in_default.is at c.in_ok-entry.ensures.none in
    let last = rw c.in_default-2.is at c.in_ok-entry-2.ensures.none in
    let all = keeps_on g.s script c.args.run.now c.next_birth.new.run c.next_pick.new.run keeps last in
    ok_by c.next_in_rounds.result (λ o h. none_by o (λ k. keeps_on g.s script c.args.run.now c.next_pick.new.run c.next_in_rounds.new.run all k) h) c.next_in_rounds.ensures.none

pub returns-clause-over : goal.returns-clause-over
returns-clause-over g c =
    let script = tables_of c.args.script.now in
    let keeps = rw c.in_default.is at c.in_ok-entry.ensures.none in
    let last = rw c.in_default-2.is at c.in_ok-entry-2.ensures.none in
    let all = keeps_on g.s script c.args.run.now c.next_birth.new.run c.next_pick.new.run keeps last in
    ok_by c.next_in_rounds.result (λ o h. none_by o (λ over w es at. over w es (all w es at)) h) c.next_in_rounds.ensures.over

pub returns-clause-err : goal.returns-clause-err
returns-clause-err g c =
    let script = tables_of c.args.script.now in
    let keeps = rw c.in_default.is at c.in_ok-entry.ensures.none in
    let last = rw c.in_default-2.is at c.in_ok-entry-2.ensures.none in
    let all = keeps_on g.s script c.args.run.now c.next_birth.new.run c.next_pick.new.run keeps last in
    err_by c.next_in_rounds.result (λ k. keeps_on g.s script c.args.run.now c.next_pick.new.run c.next_in_rounds.new.run all k) c.next_in_rounds.ensures.err
