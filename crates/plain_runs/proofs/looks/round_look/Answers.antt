use Rattle.std.proofs.Common.{◌≡◌, false, refl, subst, arith}
use Rattle.plain_steps.specs.model_kernel.Serial.{can_step}
use Rattle.script_types.specs.Scripts.{tables_of}
use Rattle.plain_runs.specs.Looking.{IsTurn}
use Rattle.plain_steps.specs.plain_facts.Standing.{run_from}
use Rattle.plain_runs.proofs.Answering.{on_both, on_err, on_none, on_some, past_round}
use Rattle.plain_runs.proofs.Placing.{ready, round_idles, round_turns, still_stands}
use Rattle.plain_runs.proofs.looks.round_look.Goals as goal

pub look_then-requires : goal.look_then-requires
look_then-requires g c κs lives =
    let q = c.requires.1.1.1 in
    let run = c.args.run.now in
    let n = c.args.number in
    let at = q.1.1.1.1 in
    let here : c.in-Some.locus ≡ n = c.in-Some.ensures.made in
    let first = q.0 in
    (λ a mem. lives a mem, (c.requires.1.0, (c.requires.1.1.0, (omega (arith, here, first), (at.0, at.1, ready g.s (tables_of c.args.script.now) at.0 run at.1 q.1.1.0 (past_round run n q.1.1.1.0) at.2)))))

pub unreachable-requires : goal.unreachable-requires
unreachable-requires g c =
    let h = rw c.in-None.is at c.new.ensures.none in
    let past = h.0 refl in
    let last = c.requires.1.1.1.1.0 in
    omega (arith, past, last)

pub returns-clause-further : goal.returns-clause-further
returns-clause-further g c =
    let q = c.requires.1.1.1 in
    let run = c.args.run.now in
    let n = c.args.number in
    let script = tables_of c.args.script.now in
    let here : c.in-Some.locus ≡ n = c.in-Some.ensures.made in
    on_some c.look_then.result
    (λ e place t w es h. round_turns g.s script w run c.look_then.new.run n es e q.0 q.1.0 q.1.1.0 q.1.1.1.0 place c.look_then.ensures.names h (subst (λ l. IsTurn g.s script w l es e c.look_then.new.run) here (t w es (ready g.s script w run es q.1.1.0 (past_round run n q.1.1.1.0) h))))
    c.look_then.ensures.place c.look_then.ensures.some

pub returns-clause-none : goal.returns-clause-none
returns-clause-none g c =
    let q = c.requires.1.1.1 in
    let run = c.args.run.now in
    let n = c.args.number in
    let script = tables_of c.args.script.now in
    let here : c.in-Some.locus ≡ n = c.in-Some.ensures.made in
    on_both c.look_then.result
    (λ place idle still w es h.
    let r = ready g.s script w run es q.1.1.0 (past_round run n q.1.1.1.0) h in
    round_idles g.s script w run c.look_then.new.run n es q.0 q.1.0 q.1.1.0 q.1.1.1.0 place c.look_then.ensures.names h (still w es r) (subst (λ l. can_step script (run_from g.s script w es) l ≡ false) here (idle w es r)))
    c.look_then.ensures.place c.look_then.ensures.idle c.look_then.ensures.none

pub returns-clause-idle : goal.returns-clause-idle
returns-clause-idle g c =
    let q = c.requires.1.1.1 in
    let run = c.args.run.now in
    let n = c.args.number in
    let script = tables_of c.args.script.now in
    let here : c.in-Some.locus ≡ n = c.in-Some.ensures.made in
    on_none c.look_then.result
    (λ place idle w es h l low high.
    let same : c.in-Some.locus ≡ l = omega (arith, here, low, high) in
    subst (λ l. can_step script (run_from g.s script w es) l ≡ false) same (idle w es (ready g.s script w run es q.1.1.0 (past_round run n q.1.1.1.0) h)))
    c.look_then.ensures.place c.look_then.ensures.idle

pub returns-clause-place : goal.returns-clause-place
returns-clause-place g c = on_none c.look_then.result (λ place still. place) c.look_then.ensures.place c.look_then.ensures.none

pub returns-clause-owed : goal.returns-clause-owed
returns-clause-owed g c =
    let q = c.requires.1.1.1 in
    let run = c.args.run.now in
    let at = q.1.1.1.1 in
    on_none c.look_then.result (λ place still. (still at.0 at.1 (ready g.s (tables_of c.args.script.now) at.0 run at.1 q.1.1.0 (past_round run c.args.number q.1.1.1.0) at.2)).owed) c.look_then.ensures.place c.look_then.ensures.none

pub returns-clause-err : goal.returns-clause-err
returns-clause-err g c =
    let q = c.requires.1.1.1 in
    let run = c.args.run.now in
    let script = tables_of c.args.script.now in
    let past = past_round run c.args.number q.1.1.1.0 in
    on_err c.look_then.result (λ stays still w es h. still_stands g.s script w run c.look_then.new.run es q.1.1.0 past stays c.look_then.ensures.names h (still w es (ready g.s script w run es q.1.1.0 past h))) c.look_then.ensures.stays c.look_then.ensures.err
