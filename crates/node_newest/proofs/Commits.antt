-- The newest commit of an entity has the version and the clock that the entity had there.
use Rattle.std.proofs.Common.{◌≡◌, ◌⊎◌, inl, inr, ℕ, ◌<◌, Bool, true, false, ◌==◌, if◌then◌else◌, List, [], ◌∷◌, ◌++◌, Option, Some, None, refl, eqb-true}
use Rattle.base_types.specs.declared.histories.Entry.{Entry}
use Rattle.model_new_commits.proofs.Positive.{all_positive}
use Rattle.model_new_commits.specs.Found.{last_from, newest_commit}
use Rattle.model_run_rules.proofs.model_kernel_lemmas.CommitStamps.{AllCommits}
use Rattle.model_run_rules.specs.Newest.{newest_from, newest_in}
use Rattle.model_run_rules.specs.Records.{AreRecordsOf, IsRecordOf}
use Rattle.model_run_rules.specs.model_kernel.Choices.{Commit}
use Rattle.model_run_rules.specs.model_kernel.Scripts.{Script}
use Rattle.model_run_rules.specs.model_kernel.State.{KernelState, Supply}
use Rattle.node_shipments.specs.kernel_invariant.Beginnings.{Beginning, IsLegal, completed, with_tried}

module _ (x : ℕ) (Good : Commit → Type 0) where
  -- a commit of the entity with this version, or none and 0
  abbrev pub IsFoundAs : Option Commit → ℕ → Type 0
  IsFoundAs o n = ((o ≡ None) × (n ≡ 0)) ⊎ ((c : Commit) × (o ≡ Some c) × (c.entity ≡ x) × (c.version ≡ n) × Good c)

  pub found_from : (cs : List Commit) (o : Option Commit) (n : ℕ) → AllCommits Good cs → IsFoundAs o n → IsFoundAs (last_from o cs x) (newest_from n cs x)
  found_from [] o n all is = is
  found_from (c ∷ cs) o n all is = by_test (c.entity == x) refl (λ p m. found_from cs p m all.1)
    where
      by_test : (t : Bool) → (c.entity == x) ≡ t → ((p : Option Commit) (m : ℕ) → IsFoundAs p m → IsFoundAs (last_from p cs x) (newest_from m cs x))
          → IsFoundAs (last_from (if t then Some c else o) cs x) (newest_from (if t then c.version else n) cs x)
      by_test true e rest = rest (Some c) c.version (inr (c, refl, eqb-true c.entity x e, refl, all.0))
      by_test false e rest = rest o n is

module _ (s : Supply) (script : Script) (w : KernelState) (es : List Entry) where
  front_records : (cs ds : List Commit) → AreRecordsOf s script w es (cs ++ ds) → AllCommits (λ c. 0 < c.version) cs → AllCommits (λ c. (0 < c.version) × IsRecordOf s script w es c) cs
  front_records [] ds all some = tt
  front_records (c ∷ cs) ds all some = ((some.0, all.0), front_records cs ds all.1 some.1)

-- of a run, where each commit is a record of it
pub newest_found : (b : Beginning) (es : List Entry) (x : ℕ) → IsLegal b es → AreRecordsOf b.supply b.script b.state es (with_tried b es)
    → IsFoundAs x (λ c. (0 < c.version) × IsRecordOf b.supply b.script b.state es c) (newest_commit (completed b es) x) (newest_in (completed b es) x)
newest_found b es x legal all =
    found_from x (λ c. (0 < c.version) × IsRecordOf b.supply b.script b.state es c) (completed b es) None 0
    (front_records b.supply b.script b.state es (completed b es) _ all (all_positive b.supply b.policy b.script b.state es legal))
    (inl (refl, refl))
