use Rattle.std.proofs.Common.{◌≡◌, [], true, false, sym, ap, subst}
use Rattle.model_run_laws.specs.model_kernel.Histories.{May, Run, has_wish, is_due, is_full}
use Rattle.model_examples.specs.FullContainer.{each_so_many, recorded_at}
use Rattle.model_examples.specs.Snapshots.{entities_and_versions, no_tables, no_words}
use Rattle.model_examples.proofs.FullContainer.{all_on, commits_are, cut, full_6, full_7, legal, no_record, not_due_7, seven_on, six_on, wish_7}
use Rattle.model_examples.proofs.full_container_holds.Goals as goal

pub returns-clause-legal : goal.returns-clause-legal
returns-clause-legal c = legal

pub returns-clause-full : goal.returns-clause-full
returns-clause-full c = subst (λ (r : Run). is_full r 1 ≡ true) (sym (six_on [])) full_6

pub returns-clause-met_full : goal.returns-clause-met_full
returns-clause-met_full c =
    subst (λ (r : Run). (has_wish each_so_many r 1 ≡ true) × (is_full r 1 ≡ true) × (is_due each_so_many r 1 ≡ false)) (sym (seven_on [])) (wish_7, full_7, not_due_7)

pub returns-clause-no_record : goal.returns-clause-no_record
returns-clause-no_record c = subst (λ (r : Run). May no_words each_so_many no_tables r (recorded_at 5) → ⊥) (sym (seven_on [])) no_record

pub returns-clause-records : goal.returns-clause-records
returns-clause-records c = ap entities_and_versions commits_are

pub returns-clause-cut : goal.returns-clause-cut
returns-clause-cut c = cut

pub returns-clause-state : goal.returns-clause-state
returns-clause-state c = ap (λ (r : Run). r.state) all_on
