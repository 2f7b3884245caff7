-- The run that follows one whose snapshot was abandoned.
use Rattle.std.proofs.Common.{◌≡◌, ℕ, ◌≤◌, true, false, ◌==◌, if◌then◌else◌, ◌⊎◌, inl, inr, List, [], ◌∷◌, Some, lit≤, max, option_map, refl, sym, ap, subst, arith, eqb-true}
use Rattle.base_types.specs.declared.histories.Event.TheVariants.{Stable}
use Rattle.model_run_laws.specs.model_kernel.Births.{next_birth, next_birth_change}
use Rattle.model_run_laws.specs.model_kernel.Changes.{changed}
use Rattle.model_run_laws.specs.model_kernel.Choices.{Among, Commit, IsBelow, IsGreatest}
use Rattle.model_run_laws.specs.model_kernel.Histories.{IsLegalRun, May, Run, commits_in, goes_on, mark, never, start_run}
use Rattle.model_examples.specs.Snapshots.{no_words, recorded, version_at}
use Rattle.model_examples.specs.SecondRun.{bears, behind_birth, chosen_again, second_run, with_helper, with_newborn}
use Rattle.model_examples.proofs.Choosing.{all_below, at_start, other_way, zero_below}
use Rattle.model_examples.proofs.Stepwise.{entry_in, birth_on, one_more, run_more}

born_is : next_birth no_words with_helper recorded ≡ Some (bears, with_newborn)
unfolding next_birth_change
born_is = refl

pub born_on : goes_on no_words with_helper (start_run recorded) bears ≡ behind_birth
born_on = birth_on no_words with_helper (start_run recorded) bears with_newborn refl born_is

may_bear : May no_words never with_helper (start_run recorded) bears
may_bear = (refl, (refl, ap (option_map entry_in) born_is))

may_keep : May no_words never with_helper behind_birth (mark Stable 0 0)
unfolding changed
may_keep = (refl, (refl, refl, refl))

pub legal : IsLegalRun no_words never recorded with_helper second_run
legal = one_more no_words with_helper never (start_run recorded) behind_birth bears (mark Stable 0 0 ∷ []) may_bear born_on (may_keep, tt)

-- THE RECORDS

-- the clock that the birth leaves
abbrev joint : ℕ → ℕ
joint y = max (max (if 0 == y then 2 else 0) (if 0 == y then 3 else 0)) (max (max (if 1 == y then 1 else 0) (if 1 == y then 2 else 0)) (max (max (if 42 == y then 0 else 0) (if 42 == y then 1 else 0)) 0))

abbrev born_at : ℕ → ℕ → Commit
born_at x version = record { entity = x; version = version; stamp = joint }

abbrev all_six : List Commit
all_six = at_start 0 ∷ at_start 1 ∷ at_start 41 ∷ born_at 0 3 ∷ born_at 1 2 ∷ born_at 42 1 ∷ []

pub all_are : commits_in no_words with_helper recorded second_run ≡ all_six
unfolding changed
all_are = ap (λ (r : Run). r.commits) (run_more no_words with_helper (start_run recorded) behind_birth bears (mark Stable 0 0 ∷ []) born_on)

-- at each of the three that were written, and elsewhere
at_three : (P : ℕ → Type 0) → P 0 → P 1 → P 42 → ((y : ℕ) → (0 == y) ≡ false → (1 == y) ≡ false → (42 == y) ≡ false → P y) → (y : ℕ) → P y
at_three P atlas one other rest y =
    elim (0 == y) as (λ b. (0 == y) ≡ b → P y) [
      | true ↦ λ is. subst P (eqb-true 0 y is) atlas
      | false ↦ λ none. elim (1 == y) as (λ b. (1 == y) ≡ b → P y) [
        | true ↦ λ is. subst P (eqb-true 1 y is) one
        | false ↦ λ no'. elim (42 == y) as (λ b. (42 == y) ≡ b → P y) [
          | true ↦ λ is. subst P (eqb-true 42 y is) other
          | false ↦ λ nor. rest y none no' nor
        ] refl
      ] refl
    ] refl

joint_low : (y : ℕ) → joint y ≤ chosen_again y
joint_low = at_three (λ y. joint y ≤ chosen_again y) (lit≤ tt) (lit≤ tt) (lit≤ tt) (λ y a b c. zero_below (joint y) (chosen_again y) (rw (a, b, c) refl))

same_elsewhere : (x : ℕ) → (0 == x) ≡ false → (1 == x) ≡ false → (42 == x) ≡ false → chosen_again x ≡ version_at x
same_elsewhere x a b c = rw (other_way 0 x a, other_way 1 x b, other_way 42 x c) refl

start_low : (x : ℕ) → version_at x ≤ chosen_again x
start_low = at_three (λ x. version_at x ≤ chosen_again x) (lit≤ tt) (lit≤ tt) (lit≤ tt) (λ x a b c. let e = same_elsewhere x a b c in omega (arith, e))

abbrev IsChosen : ℕ → Type 0
IsChosen x = (chosen_again x ≡ version_at x) ⊎ Among all_six (λ c. (c.entity ≡ x) × (c.version ≡ chosen_again x) × IsBelow c.stamp chosen_again)

chosen_closed : (x : ℕ) → IsChosen x
chosen_closed = at_three IsChosen
    (inr (inr (inr (inr (inl (refl, refl, joint_low))))))
    (inr (inr (inr (inr (inr (inl (refl, refl, joint_low)))))))
    (inr (inr (inr (inr (inr (inr (inl (refl, refl, joint_low))))))))
    (λ x a b c. inl (same_elsewhere x a b c))

all_greatest : IsGreatest version_at all_six chosen_again
all_greatest = record {
  closed = chosen_closed;
  greatest = λ q closed. all_below version_at chosen_again q start_low all_six (inl (lit≤ tt), (inl (lit≤ tt), (inl (lit≤ tt), (inl (lit≤ tt), (inl (lit≤ tt), (inl (lit≤ tt), tt)))))) closed;
}

pub cut : IsGreatest version_at (commits_in no_words with_helper recorded second_run) chosen_again
cut = subst (λ cs. IsGreatest version_at cs chosen_again) (sym all_are) all_greatest
