-- A run makes no number too large for an image.
use Rattle.std.proofs.Common.{◌≡◌, ℕ, suc, ◌+◌, ◌*◌, ◌^◌, ◌≤◌, ◌<◌, List, [], ◌∷◌, filter, length, refl, ap, arith, length-append}
use Rattle.std.specs.Prelude.{nat_lt, Bool}
use Rattle.std.proofs.lemmas.List.Sums.{count_by-le-length, length-filter}
use Rattle.base_types.specs.Edges.{upto}
use Rattle.base_types.specs.declared.histories.Entry.{Entry}
use Rattle.base_types.specs.declared.histories.Event.TheVariants.{Birth, Step, Snap as SnapEvent, Stable, Tried}
use Rattle.image_state_laws.specs.model_kernel.Histories.{Run, chosen_commits, commits_of, goes_on, has_changed, run_after, start_run, went_on, writes}
use Rattle.image_state_laws.specs.model_kernel.State.{KernelState}
use Rattle.image_state_laws.specs.image_facts.Layout.{last_number}
use Rattle.image_state_laws.proofs.model_run_laws_lemmas.Tellings.{versions_told}
use Rattle.image_state_laws.proofs.model_sound_runs_lemmas.Lengths.{length_bound}
use Rattle.image_state_laws.proofs.model_sound_states_lemmas.States.{run_state}
use Rattle.kernel_invariant.specs.Beginnings.{Beginning, BeginsRight, IsLegal, completed, state_after}

commits_long : (r : Run) (xs : List ℕ) → length (commits_of r xs) ≡ length xs
commits_long r [] = refl
commits_long r (x ∷ xs) = ap suc (commits_long r xs)

chosen_long : (w : KernelState) (xs : List ℕ) → length (chosen_commits w xs) ≡ length xs
chosen_long w [] = refl
chosen_long w (x ∷ xs) = ap suc (chosen_long w xs)

few_of_64 : (f : ℕ → Bool) → length (filter f (upto 64)) ≤ 64
few_of_64 f =
    let count = length-filter f (upto 64) in
    let few = count_by-le-length f (upto 64) in
    let long : length (upto 64) ≡ 64 = refl in
    omega (arith, count, few, long)

module _ (b : Beginning) where
  entry_commits : (r : Run) (e : Entry) → length (goes_on b.supply b.script r e).commits ≤ length r.commits + 64
  entry_commits r e = elim e.event as (λ ev. length (went_on b.supply b.script r e ev).commits ≤ length r.commits + 64) [
    | Birth ↦ omega arith
    | Step ↦ omega arith
    | SnapEvent ↦ (let sum = length-append r.commits (commits_of r (e.actor ∷ [])) in let one = commits_long r (e.actor ∷ []) in omega (arith, sum, one))
    | Stable ↦ (
        let xs : List ℕ = filter (has_changed r) (upto 64) in
        let sum = length-append r.commits (commits_of r xs) in
        let long = commits_long r xs in
        let few = few_of_64 (has_changed r) in
        omega (arith, sum, long, few))
    | Tried ↦ omega arith
  ]

  run_commits : (r : Run) (es : List Entry) → length (run_after b.supply b.script r es).commits ≤ length r.commits + 64 * length es
  run_commits r [] = omega arith
  run_commits r (e ∷ es) = (let one = entry_commits r e in let rest = run_commits (goes_on b.supply b.script r e) es in omega (arith, one, rest))

  -- each entry completes at most one commit of each entity
  pub commits_bound : (es : List Entry) → length (completed b es) ≤ 64 * (length es + 1)
  commits_bound es =
      let run = run_commits (start_run b.state) es in
      let first = chosen_long b.state (filter (λ x. nat_lt 0 (b.state x).version) (upto 64)) in
      let few = few_of_64 (λ x. nat_lt 0 (b.state x).version) in
      omega (arith, run, first, few)

  module _ (es : List Entry) (right : BeginsRight b) (legal : IsLegal b es) where
    history_few : length es ≤ 3680200
    history_few =
        let bound = length_bound b.supply b.policy b.script right.script b.state es right.names right.sound.sound legal in
        let steps = right.script.steps.1 in
        omega (arith, bound, steps)

    pub version_small : (x : ℕ) → (state_after b es x).version ≤ last_number
    version_small x =
        let start = right.small x in
        let now = versions_told b.supply b.policy b.script b.state es x legal in
        let count = count_by-le-length (λ e. writes e x) es in
        let few = history_few in
        omega (arith, start, now, count, few)

    pub stamp_small : (x y : ℕ) → (state_after b es x).stamp y ≤ last_number
    stamp_small x y =
        let below = (run_state b.supply b.script right.script b.policy b.state es (right.sound, right.names) legal).below x y in
        let small = version_small y in
        omega (arith, below, small)

    pub epoch_small : (n : ℕ) → n ≤ 2 ^ 61 + 1 + length (completed b es) → n < last_number
    epoch_small n low =
        let commits = commits_bound es in
        let few = history_few in
        omega (arith, low, commits, few)
