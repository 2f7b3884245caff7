use Rattle.std.proofs.Common.{◌≡◌, [], ◌∷◌, Some, sym, ap, subst}
use Rattle.base_types.specs.declared.histories.Event.TheVariants.{Stable}
use Rattle.model_run_laws.specs.model_kernel.Histories.{May, Run, mark, never, next_changed}
use Rattle.model_examples.specs.CutShort.{first_record}
use Rattle.model_examples.specs.Snapshots.{entities_and_versions, no_tables, no_words}
use Rattle.model_examples.proofs.CutShort.{behind_two, legal, completed_are, no_stable, owes, still_owes, tried_are, with_it, without}
use Rattle.model_examples.proofs.cut_short_holds.Goals as goal

pub returns-clause-legal : goal.returns-clause-legal
returns-clause-legal c = legal

pub returns-clause-owed : goal.returns-clause-owed
returns-clause-owed c = subst (λ (r : Run). (r.owed ≡ Some 41) × (next_changed r ≡ Some 1)) (sym (behind_two [])) owes

pub returns-clause-still_owed : goal.returns-clause-still_owed
returns-clause-still_owed c = subst (λ (r : Run). (r.owed ≡ Some 41) × (next_changed r ≡ Some 41)) (sym (behind_two (first_record ∷ []))) still_owes

pub returns-clause-not_whole : goal.returns-clause-not_whole
returns-clause-not_whole c = subst (λ (r : Run). May no_words never no_tables r (mark Stable 41 0) → ⊥) (sym (behind_two (first_record ∷ []))) no_stable

pub returns-clause-records : goal.returns-clause-records
returns-clause-records c = (ap entities_and_versions completed_are, ap entities_and_versions tried_are)

pub returns-clause-without : goal.returns-clause-without
returns-clause-without c = without

pub returns-clause-with_it : goal.returns-clause-with_it
returns-clause-with_it c = with_it

pub returns-clause-state : goal.returns-clause-state
returns-clause-state c = ap (λ (r : Run). r.state) (behind_two [])
