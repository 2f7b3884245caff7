use Rattle.std.proofs.Common.{◌≡◌, ◌++◌, ℕ, List, Err, sym, subst}
use Rattle.std.proofs.lemmas.List.{append-nil}
use Rattle.kernel_core.specs.kernel_commits.Telling.{told_again}
use Rattle.kernel_runs.specs.kernel_run_facts.Running.{RunsAlong}
use Rattle.kernel_clients.proofs.Turns.{serves_to_end}
use Rattle.kernel_clients.proofs.serving.run_to_end.Goals as goal

pub returns-clause-ends : goal.returns-clause-ends
returns-clause-ends g c = λ told b looked given s.
    let n = c.finish.ensures in
    let old = c.let_run.new.kernel in
    let looks = looked ++ c.args.turns.now in
    serves_to_end g.D.Disk (λ why. c.finish.result ≡ Err (told_again why)) b looks old c.finish.new.kernel (c.let_run.ensures.serves told b looked given.same_supply given.same_policy s) n.was_stopped
    (λ going along. n.behind told going b looks 0 given (subst (λ (ls : List ℕ). RunsAlong g.D.Disk b ls old) (sym (append-nil looks)) along))
