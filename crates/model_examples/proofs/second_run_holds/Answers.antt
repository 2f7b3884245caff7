use Rattle.std.proofs.Common.{◌≡◌, refl, sym, ap, subst}
use Rattle.model_run_laws.specs.model_kernel.Changes.{changed}
use Rattle.model_run_laws.specs.model_kernel.Histories.{Run}
use Rattle.model_examples.specs.Snapshots.{entities_and_versions}
use Rattle.model_examples.proofs.SecondRun.{all_are, born_on, cut, legal}
use Rattle.model_examples.proofs.second_run_holds.Goals as goal

pub returns-clause-left : goal.returns-clause-left
returns-clause-left c = refl

pub returns-clause-legal : goal.returns-clause-legal
returns-clause-legal c = legal

pub returns-clause-again : goal.returns-clause-again
unfolding changed
returns-clause-again c = subst (λ (r : Run). ((r.state 1).version ≡ 2) × ((r.state 1).stamp 41 ≡ 0) × ((r.state 1).stamp 42 ≡ 1)) (sym born_on) (refl, refl, refl)

pub returns-clause-records : goal.returns-clause-records
returns-clause-records c = ap entities_and_versions all_are

pub returns-clause-cut : goal.returns-clause-cut
returns-clause-cut c = cut

pub returns-clause-state : goal.returns-clause-state
returns-clause-state c = ap (λ (r : Run). r.state) born_on
