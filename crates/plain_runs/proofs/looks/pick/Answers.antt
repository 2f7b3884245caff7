use Rattle.std.proofs.Common.{◌≡◌, ◌<◌, ◌≤◌, [], None, Some, length, get_or, map, string_bytes, subst, sym, ap, ◌∙◌, arith}
use Rattle.std.proofs.lemmas.List.{length-map}
use Rattle.plain_steps.specs.model_kernel.Scripts.{locus_named, place_of}
use Rattle.plain_states.specs.Plains.{atlas_of}
use Rattle.script_types.specs.Scripts.{tables_of}
use Rattle.plain_runs.proofs.Answering.{few_names_of, on_both, on_err, on_none, on_some, order_at, past_pick}
use Rattle.plain_runs.proofs.Placing.{pick_idles, pick_passes, pick_turns, ready, still_stands}
use Rattle.plain_runs.proofs.looks.pick.Goals as goal
use Rattle.plain_steps.proofs.model_kernel_lemmas.BirthTallies.{place_low}

pub number_among-requires : goal.number_among-requires
number_among-requires g c =
    let h = c.requires.1.1.1.1.1.1.2 in
    let few = (few_names_of g.s c.args.run.now.state h.reaches.sound).loci in
    let same = ap length c.deref.ensures.value in
    omega (arith, few, same)

pub look_then-requires : goal.look_then-requires
look_then-requires g c κs lives =
    let q = c.requires.1.1.1 in
    let run = c.args.run.now in
    let text = c.as_str-name.result.now in
    let at = q.1.1.1 in
    let low : 41 ≤ c.in-Some.locus = place_low text (map string_bytes c.deref.result.now) 41 c.in-Some.locus (sym c.number_among.ensures ∙ c.in-Some.is) in
    (λ a mem. lives a mem, (c.requires.1.0, (c.requires.1.1.0, (low, (at.0, at.1, ready g.s (tables_of c.args.script.now) at.0 run at.1 q.1.0 (past_pick run c.args.i q.1.1.0) at.2)))))

pub returns-in-Some-clause-further : goal.returns-in-Some-clause-further
returns-in-Some-clause-further g c =
    let q = c.requires.1.1.1 in
    let run = c.args.run.now in
    let script = tables_of c.args.script.now in
    let order = c.args.script.now.order.items in
    let i = c.args.i in
    let text = c.as_str-name.result.now in
    let within : i < length script.order = subst (λ n. i < n) (sym (length-map order string_bytes)) q.0 in
    let at : get_or script.order i [] ≡ text = order_at string_bytes order i c.index.result.now q.0 c.index.ensures ∙ sym c.as_str-name.ensures.value in
    let named : locus_named (atlas_of run.state.atlas) text ≡ Some c.in-Some.locus = ap (λ ls. place_of text (map string_bytes ls) 41) (sym c.deref.ensures.value) ∙ sym c.number_among.ensures ∙ c.in-Some.is in
    on_some c.look_then.result
    (λ e place t w es h. pick_turns g.s script w run c.look_then.new.run i c.in-Some.locus text es e within at named q.1.0 q.1.1.0 place c.look_then.ensures.names h (t w es (ready g.s script w run es q.1.0 (past_pick run i q.1.1.0) h)))
    c.look_then.ensures.place c.look_then.ensures.some

pub returns-in-Some-clause-none : goal.returns-in-Some-clause-none
returns-in-Some-clause-none g c =
    let q = c.requires.1.1.1 in
    let run = c.args.run.now in
    let script = tables_of c.args.script.now in
    let order = c.args.script.now.order.items in
    let i = c.args.i in
    let text = c.as_str-name.result.now in
    let within : i < length script.order = subst (λ n. i < n) (sym (length-map order string_bytes)) q.0 in
    let at : get_or script.order i [] ≡ text = order_at string_bytes order i c.index.result.now q.0 c.index.ensures ∙ sym c.as_str-name.ensures.value in
    let named : locus_named (atlas_of run.state.atlas) text ≡ Some c.in-Some.locus = ap (λ ls. place_of text (map string_bytes ls) 41) (sym c.deref.ensures.value) ∙ sym c.number_among.ensures ∙ c.in-Some.is in
    on_both c.look_then.result
    (λ place idle still w es h.
    let r = ready g.s script w run es q.1.0 (past_pick run i q.1.1.0) h in
    pick_idles g.s script w run c.look_then.new.run i c.in-Some.locus text es within at named q.1.0 q.1.1.0 place c.look_then.ensures.names h (still w es r) (idle w es r))
    c.look_then.ensures.place c.look_then.ensures.idle c.look_then.ensures.none

pub returns-in-Some-clause-owed : goal.returns-in-Some-clause-owed
returns-in-Some-clause-owed g c =
    let q = c.requires.1.1.1 in
    let run = c.args.run.now in
    let at = q.1.1.1 in
    on_none c.look_then.result (λ place still. (still at.0 at.1 (ready g.s (tables_of c.args.script.now) at.0 run at.1 q.1.0 (past_pick run c.args.i q.1.1.0) at.2)).owed) c.look_then.ensures.place c.look_then.ensures.none

pub returns-in-Some-clause-err : goal.returns-in-Some-clause-err
returns-in-Some-clause-err g c =
    let q = c.requires.1.1.1 in
    let run = c.args.run.now in
    let script = tables_of c.args.script.now in
    let past = past_pick run c.args.i q.1.1.0 in
    on_err c.look_then.result (λ stays still w es h. still_stands g.s script w run c.look_then.new.run es q.1.0 past stays c.look_then.ensures.names h (still w es (ready g.s script w run es q.1.0 past h))) c.look_then.ensures.stays c.look_then.ensures.err

pub returns-in-None-clause-none : goal.returns-in-None-clause-none
returns-in-None-clause-none g c w es h =
    let q = c.requires.1.1.1 in
    let run = c.args.run.now in
    let script = tables_of c.args.script.now in
    let order = c.args.script.now.order.items in
    let i = c.args.i in
    let text = c.as_str-name.result.now in
    let within : i < length script.order = subst (λ n. i < n) (sym (length-map order string_bytes)) q.0 in
    let at : get_or script.order i [] ≡ text = order_at string_bytes order i c.index.result.now q.0 c.index.ensures ∙ sym c.as_str-name.ensures.value in
    let named : locus_named (atlas_of run.state.atlas) text ≡ None = ap (λ ls. place_of text (map string_bytes ls) 41) (sym c.deref.ensures.value) ∙ sym c.number_among.ensures ∙ c.in-None.is in
    pick_passes g.s script w run i text es within at named q.1.0 q.1.1.0 h

pub returns-in-Some-clause-place : goal.returns-in-Some-clause-place
returns-in-Some-clause-place g c = on_none c.look_then.result (λ place still. place) c.look_then.ensures.place c.look_then.ensures.none
