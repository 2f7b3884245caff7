-- The commits of a legal run have versions from 1 on.
use Rattle.std.proofs.Common.{◌≡◌, ℕ, ◌-◌, ◌<◌, ◌&&◌, true, false, nat_lt, cond, List, [], ◌∷◌, filter, inl, inr, refl, arith}
use Rattle.std.proofs.lemmas.Bool.{ltb-true, or_cases}
use Rattle.base_types.specs.Edges.{upto}
use Rattle.base_types.specs.declared.histories.Entry.{Entry}
use Rattle.base_types.specs.declared.histories.Event.TheVariants.{Birth, Step, Snap as SnapEvent, Stable, Tried}
use Rattle.model_run_rules.specs.model_kernel.State.{KernelState, Supply}
use Rattle.model_run_rules.specs.model_kernel.Scripts.{Script}
use Rattle.model_run_rules.specs.model_kernel.Choices.{Commit}
use Rattle.model_run_rules.specs.model_kernel.Histories.{IsLegalFrom, IsLegalRun, May, MayCommit, Policy, Run, chosen_commits, commit_of, commits_of, every_of, goes_on, has_changed, may, run_after, start_run, version_of, went_on}
use Rattle.model_run_rules.proofs.model_kernel_lemmas.CommitStamps.{AllCommits, all_append}
use Rattle.model_run_rules.proofs.model_kernel_lemmas.Basics.{and_left}
use Rattle.model_run_rules.proofs.model_run_laws_lemmas.Few.{found_true}
use Rattle.model_run_rules.proofs.Fresh.{IsFresh, fresh_next, fresh_start}

abbrev pub ArePositive : List Commit → Type 0
ArePositive cs = AllCommits (λ c. 0 < c.version) cs

-- at the start
chosen_positive : (w : KernelState) (xs : List ℕ) → ArePositive (chosen_commits w (filter (λ x. nat_lt 0 (w x).version) xs))
chosen_positive w [] = tt
chosen_positive w (x ∷ xs) =
    let rest = filter (λ x. nat_lt 0 (w x).version) xs in
    elim (nat_lt 0 (w x).version) as (λ b. nat_lt 0 (w x).version ≡ b → ArePositive (chosen_commits w (cond b (x ∷ rest) rest))) [
      | true ↦ λ is. (ltb-true _ _ is, chosen_positive w xs)
      | false ↦ λ _. chosen_positive w xs
    ] refl

pub start_positive : (w : KernelState) → ArePositive (start_run w).commits
start_positive w = chosen_positive w (upto 64)

-- of a Stable
changed_positive : (r : Run) (xs : List ℕ) → ArePositive (commits_of r (filter (has_changed r) xs))
changed_positive r [] = tt
changed_positive r (x ∷ xs) =
    let rest = filter (has_changed r) xs in
    elim (has_changed r x) as (λ b. has_changed r x ≡ b → ArePositive (commits_of r (cond b (x ∷ rest) rest))) [
      | true ↦ λ is. ((let lt = ltb-true (r.newest x) (version_of r x) is in omega (arith, lt)), changed_positive r xs)
      | false ↦ λ _. changed_positive r xs
    ] refl

-- of a Snap
commit_positive : (policy : Policy) (r : Run) (x : ℕ) → IsFresh r → MayCommit policy r x → 0 < version_of r x
commit_positive policy r x fresh m = elim m as (λ _. 0 < version_of r x) [
  | inl c ↦ elim (or_cases (r.by_step x && policy (every_of (r.state x).cell) (version_of r x - r.newest x)) (r.asked x) c.0) as (λ _. 0 < version_of r x) [
    | inl h ↦ (let lt = fresh.by_step x (and_left (r.by_step x) _ h) in omega (arith, lt))
    | inr h ↦ (let lt = fresh.asked x h in omega (arith, lt))
  ]
  | inr c ↦ (let lt = ltb-true (r.newest x) (version_of r x) (found_true (has_changed r) (upto 64) x c.1) in omega (arith, lt))
]

module _ (s : Supply) (policy : Policy) (script : Script) where
  positive_next : (r : Run) (e : Entry) → May s policy script r e → IsFresh r → ArePositive r.commits → ArePositive (goes_on s script r e).commits
  positive_next r e m fresh k =
      elim e.event as (λ ev. may s policy script r e ev → ArePositive (went_on s script r e ev).commits) [
        | Birth ↦ λ m. k
        | Step ↦ λ m. k
        | SnapEvent ↦ λ m. all_append (λ c. 0 < c.version) r.commits (commit_of r e.actor ∷ []) k (commit_positive policy r e.actor fresh m.1, tt)
        | Stable ↦ λ m. all_append (λ c. 0 < c.version) r.commits _ k (changed_positive r (upto 64))
        | Tried ↦ λ m. k
      ] m.1

  positive_over : (es : List Entry) (r : Run) → IsLegalFrom s policy script r es → IsFresh r → ArePositive r.commits → ArePositive (run_after s script r es).commits
  positive_over [] r legal fresh k = k
  positive_over (e ∷ es) r legal fresh k =
      positive_over es (goes_on s script r e) legal.1 (fresh_next s policy script r e legal.0 fresh) (positive_next r e legal.0 fresh k)

  pub all_positive : (w : KernelState) (es : List Entry) → IsLegalRun s policy w script es → ArePositive (run_after s script (start_run w) es).commits
  all_positive w es legal = positive_over es (start_run w) legal (fresh_start w) (start_positive w)
