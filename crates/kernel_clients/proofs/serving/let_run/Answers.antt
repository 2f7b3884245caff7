use Rattle.std.proofs.Common.{◌≡◌, ◌++◌, ◌∷◌, ◌+◌, ℕ, List, [], Err, take, append_assoc, sym, ap, subst, ◌∙◌, arith}
use Rattle.std.proofs.lemmas.List.{append-nil, take_all, take_more}
use Rattle.kernel_core.specs.kernel_commits.Telling.{told_again}
use Rattle.kernel_clients.specs.Serving.{Serves}
use Rattle.kernel_clients.proofs.Turns.{serves_more}
use Rattle.kernel_clients.proofs.serving.let_run.Goals as goal

pub loop-i-init : goal.loop-i-init
loop-i-init g c = record {
  serves = λ told b looked supply policy s. subst (λ (ls : List ℕ). Serves g.D.Disk b ls c.args.kernel.now) (sym (append-nil looked)) s;
  clean = c.requires.clean;
}

pub step-requires-clause-clean : goal.step-requires-clause-clean
step-requires-clause-clean g c = c.loop-i.invariant.clean

pub loop-i-preserved : goal.loop-i-preserved
loop-i-preserved g c =
    let d = g.D.Disk in
    let xs = c.args.turns.now in
    let i = c.loop-i.i in
    let x = c.index-turns-i.result in
    let more : take (i + 1) xs ≡ take i xs ++ x ∷ [] = take_more xs i x c.loop-i-test.true ∙ ap (λ (y : ℕ). take i xs ++ y ∷ []) (sym c.index-turns-i.is) in
    record {
      serves = λ told b looked supply policy s.
          let before = c.loop-i.invariant.serves told b looked supply policy s in
          let n = c.step.ensures in
          subst (λ (ls : List ℕ). Serves d b ls c.step.new.self) (append_assoc looked (take i xs) (x ∷ []) ∙ ap (λ (ls : List ℕ). looked ++ ls) (sym more))
          (serves_more d (λ why. c.step.result ≡ Err (told_again why)) b (looked ++ take i xs) x c.loop-i.kernel c.step.new.self before n.was_stopped (n.run told b supply policy before.lives) (λ going. (n.notes told b supply policy before.lives going).whole));
      clean = c.step.ensures.clean;
    }

pub returns-clause-serves : goal.returns-clause-serves
returns-clause-serves g c = λ told b looked supply policy s.
    let xs = c.args.turns.now in
    let all : take c.loop-i.i xs ≡ xs = (let over = c.loop-i-test.false in take_all c.loop-i.i xs (omega (arith, over))) in
    subst (λ (ls : List ℕ). Serves g.D.Disk b (looked ++ ls) c.loop-i.kernel) all (c.loop-i.invariant.serves told b looked supply policy s)

pub returns-clause-clean : goal.returns-clause-clean
returns-clause-clean g c = c.loop-i.invariant.clean
