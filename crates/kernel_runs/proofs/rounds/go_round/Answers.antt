use Rattle.std.proofs.Common.{◌≤◌, ◌+◌, ◌*◌, ◌^◌, length, arith, Err, refl}
use Rattle.kernel_run_facts.specs.Running.{look_most}
use Rattle.std.specs.Prelude.{⊤}
use Rattle.kernel_run_facts.specs.Watching.{answer_of}
use Rattle.kernel_run_facts.proofs.Watched.{cause_behind}
use Rattle.kernel_run_facts.proofs.kernel_commits_lemmas.Telling.{adds_none, adds_then, answers_behind}
use Rattle.kernel_run_facts.proofs.Alongs.{ends}
use Rattle.kernel_run_facts.proofs.kernel_commit_facts_lemmas.Counting.{CountsWithin-fewer, CountsWithin-stay, CountsWithin-then}
use Rattle.kernel_runs.proofs.rounds.go_round.Goals as goal

pub loop-halt-init : goal.loop-halt-init
loop-halt-init g c = record {
  going = c.requires.going;
  tries = adds_none c.args.kernel.now.parts.noted.entries c.args.kernel.now.parts.noted.entries refl;
  clean = c.requires.clean;
  counts = CountsWithin-stay g.D.Disk (length c.args.kernel.now.parts.noted.entries * (23 * look_most)) c.args.kernel.now.parts.store;
  run = λ told b first made given goes. (made, goes);
}

pub loop-halt-preserved : goal.loop-halt-preserved
loop-halt-preserved g c =
    let d = g.D.Disk in
    let n = length c.loop-halt.kernel.parts.noted.entries in
    let m = length c.round.new.kernel.parts.noted.entries in
    let more : n + 1 ≤ m = (let was = c.entries_noted-noted.ensures.count in let is = c.entries_noted.ensures.count in let gt = c.if-entries_noted-noted.false in omega (arith, was, is, gt)) in
    record {
      going = c.in_default.ensures.ends;
      tries = adds_then c.args.kernel.now.parts.noted.entries c.loop-halt.kernel.parts.noted.entries c.round.new.kernel.parts.noted.entries c.loop-halt.invariant.tries c.in_default.ensures.tries;
      clean = c.round.ensures.clean;
      counts =
          CountsWithin-fewer d (n * (23 * look_most) + 23 * look_most) (m * (23 * look_most)) c.args.kernel.now.parts.store c.round.new.kernel.parts.store (omega (arith, more))
          (CountsWithin-then d (n * (23 * look_most)) (23 * look_most) c.args.kernel.now.parts.store c.loop-halt.kernel.parts.store c.round.new.kernel.parts.store c.loop-halt.invariant.counts c.round.ensures.counts);
      run = λ told b first made given goes.
          let at = c.loop-halt.invariant.run told b first made given goes in
          (at.0 + 1, c.in_default.ensures.run told b first at.0 given at.1);
    }

pub loop-halt-smaller : goal.loop-halt-smaller
loop-halt-smaller g c =
    let was = c.entries_noted-noted.ensures.count in
    let is = c.entries_noted.ensures.count in
    let few = c.entries_noted.ensures.few c.in_default.ensures.ends in
    let gt = c.if-entries_noted-noted.false in
    omega (arith, was, is, few, gt)

pub returns-in-Err-clause-caused : goal.returns-in-Err-clause-caused
returns-in-Err-clause-caused g c =
    cause_behind g.D.Disk (g.P.Policy.wish c.args.gate.now.policy) c.args.kernel.now.parts c.loop-halt.kernel.parts c.round.new.kernel.parts (answer_of (Err c.in-Err.halt)) c.loop-halt.invariant.counts.later c.round.ensures.counts.later c.in-Err.ensures.caused

pub returns-in-Err-clause-counts : goal.returns-in-Err-clause-counts
returns-in-Err-clause-counts g c =
    let d = g.D.Disk in
    let n = length c.loop-halt.kernel.parts.noted.entries in
    let few : n ≤ 2 ^ 22 = (let was = c.entries_noted-noted.ensures.count in let most = c.entries_noted-noted.ensures.few c.loop-halt.invariant.going in omega (arith, was, most)) in
    CountsWithin-fewer d (n * (23 * look_most) + 23 * look_most) ((2 ^ 22 + 1) * (23 * look_most)) c.args.kernel.now.parts.store c.round.new.kernel.parts.store (omega (arith, few))
    (CountsWithin-then d (n * (23 * look_most)) (23 * look_most) c.args.kernel.now.parts.store c.loop-halt.kernel.parts.store c.round.new.kernel.parts.store c.loop-halt.invariant.counts c.round.ensures.counts)

pub returns-in-Err-clause-run : goal.returns-in-Err-clause-run
returns-in-Err-clause-run g c = λ told b first made given goes.
    let at = c.loop-halt.invariant.run told b first made given goes in
    c.in-Err.ensures.run told b first at.0 given at.1

pub returns-then-entries_noted-noted-clause-counts : goal.returns-then-entries_noted-noted-clause-counts
returns-then-entries_noted-noted-clause-counts g c =
    let d = g.D.Disk in
    let n = length c.loop-halt.kernel.parts.noted.entries in
    let few : n ≤ 2 ^ 22 = (let was = c.entries_noted-noted.ensures.count in let most = c.entries_noted-noted.ensures.few c.loop-halt.invariant.going in omega (arith, was, most)) in
    CountsWithin-fewer d (n * (23 * look_most) + 23 * look_most) ((2 ^ 22 + 1) * (23 * look_most)) c.args.kernel.now.parts.store c.round.new.kernel.parts.store (omega (arith, few))
    (CountsWithin-then d (n * (23 * look_most)) (23 * look_most) c.args.kernel.now.parts.store c.loop-halt.kernel.parts.store c.round.new.kernel.parts.store c.loop-halt.invariant.counts c.round.ensures.counts)

pub returns-then-entries_noted-noted-clause-run : goal.returns-then-entries_noted-noted-clause-run
returns-then-entries_noted-noted-clause-run g c = λ told b first made given goes.
    let d = g.D.Disk in
    let at = c.loop-halt.invariant.run told b first made given goes in
    let next = c.in_default.ensures.run told b first at.0 given at.1 in
    let few : length c.round.new.kernel.parts.noted.entries ≤ length c.loop-halt.kernel.parts.noted.entries =
    (let was = c.entries_noted-noted.ensures.count in let is = c.entries_noted.ensures.count in let le = c.if-entries_noted-noted.true in omega (arith, was, is, le)) in
    record {
      over = ends d (g.S.Supplier.word c.args.gate.now.supply) (g.P.Policy.wish c.args.gate.now.policy) b first at.0 c.loop-halt.kernel c.round.new.kernel given at.1.along next.along few;
      knows = next.knows;
    }

pub returns-in-Err-clause-tries : goal.returns-in-Err-clause-tries
returns-in-Err-clause-tries g c =
    answers_behind {T = ⊤} (answer_of (Err c.in-Err.halt)) c.args.kernel.now.parts.noted.entries c.loop-halt.kernel.parts.noted.entries c.round.new.kernel.parts.noted.entries c.loop-halt.invariant.tries c.in-Err.ensures.tries

pub returns-then-entries_noted-noted-clause-tries : goal.returns-then-entries_noted-noted-clause-tries
returns-then-entries_noted-noted-clause-tries g c =
    adds_then c.args.kernel.now.parts.noted.entries c.loop-halt.kernel.parts.noted.entries c.round.new.kernel.parts.noted.entries c.loop-halt.invariant.tries c.in_default.ensures.tries
