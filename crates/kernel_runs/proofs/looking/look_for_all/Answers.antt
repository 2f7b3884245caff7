use Rattle.std.proofs.Common.{◌≡◌, ◌+◌, ◌*◌, ◌≤◌, ◌<◌, Some, length, slice_get, refl, sym, ap, subst, ◌∙◌, arith, Err}
use Rattle.std.specs.Option.{option_map}
use Rattle.std.specs.Prelude.{string_bytes, ⊤}
use Rattle.std.proofs.lemmas.List.{length-map}
use Rattle.std.proofs.lemmas.Option.{slice_get-map, slice_get_read}
use Rattle.kernel_run_facts.specs.model_serial_turns.Turns.{before_pick}
use Rattle.kernel_run_facts.proofs.model_serial_turns_lemmas.Course.{all_picked}
use Rattle.kernel_run_facts.specs.Running.{look_most, opened_in}
use Rattle.kernel_run_facts.specs.Watching.{GoesAlong, answer_of}
use Rattle.kernel_run_facts.proofs.kernel_commit_facts_lemmas.Counting.{CountsWithin-fewer, CountsWithin-stay, CountsWithin-then}
use Rattle.kernel_run_facts.proofs.Watched.{cause_behind}
use Rattle.kernel_run_facts.proofs.kernel_commits_lemmas.Telling.{adds_none, adds_then, answers_behind}
use Rattle.kernel_runs.proofs.looking.look_for_all.Goals as goal

pub loop-i-init : goal.loop-i-init
loop-i-init g c = record {
  going = c.requires.going;
  tries = adds_none c.args.kernel.now.parts.noted.entries c.args.kernel.now.parts.noted.entries refl;
  clean = c.requires.clean;
  counts = CountsWithin-stay g.D.Disk 0 c.args.kernel.now.parts.store;
  run = λ told b given order goes. goes;
}

pub loop-i-preserved : goal.loop-i-preserved
loop-i-preserved g c =
    let d = g.D.Disk in
    let i = c.loop-i.i in
    let xs = c.args.order.now in
    let low : i < length xs = omega (arith, c.loop-i-test.true) in
    record {
      going = c.in_default.ensures.ends;
      tries = adds_then c.args.kernel.now.parts.noted.entries c.loop-i.kernel.parts.noted.entries c.look_for.new.kernel.parts.noted.entries c.loop-i.invariant.tries c.in_default.ensures.tries;
      clean = c.look_for.ensures.clean;
      counts =
          CountsWithin-fewer d (i * look_most + look_most) ((i + 1) * look_most) c.args.kernel.now.parts.store c.look_for.new.kernel.parts.store (omega arith)
          (CountsWithin-then d (i * look_most) look_most c.args.kernel.now.parts.store c.loop-i.kernel.parts.store c.look_for.new.kernel.parts.store c.loop-i.invariant.counts c.look_for.ensures.counts);
      run = λ told b given order goes.
          let here : slice_get b.script.order i ≡ Some c.as_str.result.now =
          ap (λ ns. slice_get ns i) order ∙ slice_get-map string_bytes xs i ∙ ap (option_map string_bytes) (slice_get_read xs (length xs) i c.index-order-i.result refl low c.index-order-i.is) ∙ ap Some (sym c.as_str.ensures.value) in
          c.in_default.ensures.run told b i given here (c.loop-i.invariant.run told b given order goes);
    }

pub returns-in-Err-clause-caused : goal.returns-in-Err-clause-caused
returns-in-Err-clause-caused g c =
    cause_behind g.D.Disk (g.P.Policy.wish c.args.gate.now.policy) c.args.kernel.now.parts c.loop-i.kernel.parts c.look_for.new.kernel.parts (answer_of (Err c.in-Err.halt)) c.loop-i.invariant.counts.later c.look_for.ensures.counts.later c.in-Err.ensures.caused

pub returns-in-Err-clause-counts : goal.returns-in-Err-clause-counts
returns-in-Err-clause-counts g c =
    let d = g.D.Disk in
    let i = c.loop-i.i in
    let low : i < length c.args.order.now = omega (arith, c.loop-i-test.true) in
    CountsWithin-fewer d (i * look_most + look_most) (length c.args.order.now * look_most) c.args.kernel.now.parts.store c.look_for.new.kernel.parts.store (omega (arith, low))
    (CountsWithin-then d (i * look_most) look_most c.args.kernel.now.parts.store c.loop-i.kernel.parts.store c.look_for.new.kernel.parts.store c.loop-i.invariant.counts c.look_for.ensures.counts)

pub returns-clause-counts : goal.returns-clause-counts
returns-clause-counts g c =
    let d = g.D.Disk in
    let end : c.loop-i.i ≤ length c.args.order.now = omega (arith, c.loop-i.auto.i-end) in
    CountsWithin-fewer d (c.loop-i.i * look_most) (length c.args.order.now * look_most) c.args.kernel.now.parts.store c.loop-i.kernel.parts.store (omega (arith, end)) c.loop-i.invariant.counts

pub returns-in-Err-clause-run : goal.returns-in-Err-clause-run
returns-in-Err-clause-run g c = λ told b given order goes.
    let xs = c.args.order.now in
    let i = c.loop-i.i in
    let low : i < length xs = omega (arith, c.loop-i-test.true) in
    let here : slice_get b.script.order i ≡ Some c.as_str.result.now =
    ap (λ ns. slice_get ns i) order ∙ slice_get-map string_bytes xs i ∙ ap (option_map string_bytes) (slice_get_read xs (length xs) i c.index-order-i.result refl low c.index-order-i.is) ∙ ap Some (sym c.as_str.ensures.value) in
    c.in-Err.ensures.run told b i given here (c.loop-i.invariant.run told b given order goes)

pub returns-clause-run : goal.returns-clause-run
returns-clause-run g c = λ told b given order goes.
    let xs = c.args.order.now in
    let done : c.loop-i.i ≡ length b.script.order = (let e = c.loop-i.auto.i-end in let f = c.loop-i-test.false in let same : c.loop-i.i ≡ length xs = omega (arith, e, f) in same ∙ sym (length-map xs string_bytes) ∙ sym (ap length order)) in
    let all = ap (before_pick b.script (opened_in b)) done ∙ all_picked b.script (opened_in b) in
    subst (λ ls. GoesAlong g.D.Disk (g.W.Watcher.watches c.loop-i.watcher) b ls c.loop-i.kernel) all (c.loop-i.invariant.run told b given order goes)

pub returns-in-Err-clause-tries : goal.returns-in-Err-clause-tries
returns-in-Err-clause-tries g c =
    answers_behind {T = ⊤} (answer_of (Err c.in-Err.halt)) c.args.kernel.now.parts.noted.entries c.loop-i.kernel.parts.noted.entries c.look_for.new.kernel.parts.noted.entries c.loop-i.invariant.tries c.in-Err.ensures.tries
