use Rattle.std.proofs.Common.{◌≤◌, ◌<◌, ◌+◌, ◌-◌, ◌*◌, ◌++◌, ◌∷◌, [], sym, ap, subst, ◌∙◌, arith, Err, refl}
use Rattle.std.proofs.lemmas.List.{append-nil}
use Rattle.script_types.specs.model_kernel.Serial.{rounds}
use Rattle.kernel_run_facts.specs.Running.{IsFrontOf, loci_before, look_most}
use Rattle.kernel_run_facts.specs.Watching.{GoesAlong, answer_of}
use Rattle.std.specs.Prelude.{⊤}
use Rattle.kernel_run_facts.proofs.Watched.{cause_behind}
use Rattle.kernel_run_facts.proofs.kernel_commits_lemmas.Telling.{adds_none, adds_then, answers_behind}
use Rattle.kernel_run_facts.proofs.Alongs.{locus_first, locus_next}
use Rattle.kernel_run_facts.proofs.Born.{round_over}
use Rattle.kernel_run_facts.proofs.kernel_commit_facts_lemmas.Counting.{CountsWithin-fewer, CountsWithin-stay, CountsWithin-then}
use Rattle.kernel_runs.proofs.rounds.round.Goals as goal

pub loop-number-init : goal.loop-number-init
loop-number-init g c = record {
  low = omega arith;
  high = omega arith;
  going = c.requires.going;
  tries = adds_none c.args.kernel.now.parts.noted.entries c.args.kernel.now.parts.noted.entries refl;
  clean = c.requires.clean;
  counts = CountsWithin-stay g.D.Disk 0 c.args.kernel.now.parts.store;
  run = λ told b first made given goes. subst (λ ls. GoesAlong g.D.Disk (g.W.Watcher.watches c.args.watcher.now) b ls c.args.kernel.now) (sym (append-nil (first ++ rounds made))) goes;
}

pub loop-number-preserved : goal.loop-number-preserved
loop-number-preserved g c =
    let d = g.D.Disk in
    let n = c.loop-number.number in
    let low : 41 ≤ n = c.loop-number.invariant.low in
    let high : n < 64 = (let few = c.loci_end.ensures.few in let lt = c.loop-number-test.true in omega (arith, few, lt)) in
    record {
      low = omega (arith, low);
      high = omega (arith, high);
      going = c.in_default.ensures.ends;
      tries = adds_then c.args.kernel.now.parts.noted.entries c.loop-number.kernel.parts.noted.entries c.look_watched.new.kernel.parts.noted.entries c.loop-number.invariant.tries c.in_default.ensures.tries;
      clean = c.look_watched.ensures.clean;
      counts =
          CountsWithin-fewer d ((n - 41) * look_most + look_most) ((n + 1 - 41) * look_most) c.args.kernel.now.parts.store c.look_watched.new.kernel.parts.store (omega (arith, low))
          (CountsWithin-then d ((n - 41) * look_most) look_most c.args.kernel.now.parts.store c.loop-number.kernel.parts.store c.look_watched.new.kernel.parts.store c.loop-number.invariant.counts c.look_watched.ensures.counts);
      run = λ told b first made given goes.
          let begins = subst (λ x. IsFrontOf first (loci_before first made n ++ x ∷ [])) (sym c.of.ensures) (locus_first b first made n low high) in
          let next = ap (λ x. loci_before first made n ++ x ∷ []) c.of.ensures ∙ sym (locus_next b first made n low high) in
          subst (λ ls. GoesAlong d (g.W.Watcher.watches c.look_watched.new.watcher) b ls c.look_watched.new.kernel) next
          (c.in_default.ensures.run told b first (loci_before first made n) given begins (c.loop-number.invariant.run told b first made given goes));
    }

pub returns-in-Err-clause-caused : goal.returns-in-Err-clause-caused
returns-in-Err-clause-caused g c =
    cause_behind g.D.Disk (g.P.Policy.wish c.args.gate.now.policy) c.args.kernel.now.parts c.loop-number.kernel.parts c.look_watched.new.kernel.parts (answer_of (Err c.in-Err.halt)) c.loop-number.invariant.counts.later c.look_watched.ensures.counts.later c.in-Err.ensures.caused

pub returns-in-Err-clause-counts : goal.returns-in-Err-clause-counts
returns-in-Err-clause-counts g c =
    let d = g.D.Disk in
    let n = c.loop-number.number in
    let high : n < 64 = (let few = c.loci_end.ensures.few in let lt = c.loop-number-test.true in omega (arith, few, lt)) in
    CountsWithin-fewer d ((n - 41) * look_most + look_most) (23 * look_most) c.args.kernel.now.parts.store c.look_watched.new.kernel.parts.store (omega (arith, high))
    (CountsWithin-then d ((n - 41) * look_most) look_most c.args.kernel.now.parts.store c.loop-number.kernel.parts.store c.look_watched.new.kernel.parts.store c.loop-number.invariant.counts c.look_watched.ensures.counts)

pub returns-in-Err-clause-run : goal.returns-in-Err-clause-run
returns-in-Err-clause-run g c = λ told b first made given goes.
    let n = c.loop-number.number in
    let high : n < 64 = (let few = c.loci_end.ensures.few in let lt = c.loop-number-test.true in omega (arith, few, lt)) in
    let begins = subst (λ x. IsFrontOf first (loci_before first made n ++ x ∷ [])) (sym c.of.ensures) (locus_first b first made n c.loop-number.invariant.low high) in
    c.in-Err.ensures.run told b first (loci_before first made n) given begins (c.loop-number.invariant.run told b first made given goes)

pub returns-clause-counts : goal.returns-clause-counts
returns-clause-counts g c =
    let d = g.D.Disk in
    let high = c.loop-number.invariant.high in
    CountsWithin-fewer d ((c.loop-number.number - 41) * look_most) (23 * look_most) c.args.kernel.now.parts.store c.loop-number.kernel.parts.store (omega (arith, high)) c.loop-number.invariant.counts

pub returns-clause-run : goal.returns-clause-run
returns-clause-run g c = λ told b first made given goes.
    let n = c.loop-number.number in
    let at = c.loop-number.invariant.run told b first made given goes in
    let r = at.along.lives.live.running in
    let past = c.loci_end.ensures.past told b at.along.lives in
    let behind = c.loop-number-test.false in
    record {
      along = record {
        lives = at.along.lives;
        looks = round_over b c.loop-number.kernel.parts.noted.entries r.begins r.legal first made n c.loop-number.invariant.low c.loop-number.invariant.high (omega (arith, past, behind)) at.along.looks;
      };
      knows = at.knows;
    }

pub returns-in-Err-clause-tries : goal.returns-in-Err-clause-tries
returns-in-Err-clause-tries g c =
    answers_behind {T = ⊤} (answer_of (Err c.in-Err.halt)) c.args.kernel.now.parts.noted.entries c.loop-number.kernel.parts.noted.entries c.look_watched.new.kernel.parts.noted.entries c.loop-number.invariant.tries c.in-Err.ensures.tries
