-- The run of a Stable that is cut short.
use Rattle.std.proofs.Common.{◌≡◌, ℕ, ◌≤◌, true, false, ◌==◌, if◌then◌else◌, ◌⊎◌, inl, inr, List, [], ◌∷◌, ◌++◌, Some, option_to_list, lit<, lit≤, max, option_map, refl, sym, ap, subst, ◌∙◌, arith, eqb-true}
use Rattle.std.proofs.lemmas.Bool.{false≢true}
use Rattle.base_types.specs.declared.histories.Entry.{Entry}
use Rattle.base_types.specs.declared.histories.Event.TheVariants.{Stable}
use Rattle.model_run_laws.specs.model_kernel.Acts.{allowed, wanted}
use Rattle.model_run_laws.specs.model_kernel.Changes.{changed}
use Rattle.model_run_laws.specs.model_kernel.Choices.{Among, Commit, IsBelow, IsGreatest}
use Rattle.model_run_laws.specs.model_kernel.Fronts.{tried_commits}
use Rattle.model_run_laws.specs.model_kernel.Histories.{IsLegalRun, May, Run, commits_in, goes_on, mark, never, next_changed, run_after, start_run}
use Rattle.model_run_laws.specs.model_kernel.Outcomes.{local_act, on_cell, outcome, store, with_newborn}
use Rattle.model_run_laws.specs.model_kernel.Refusals.{refusal}
use Rattle.model_run_laws.specs.model_kernel.Steps.{change_of, step, step_change}
use Rattle.model_examples.specs.Snapshots.{no_tables, no_words, version_at, wrote}
use Rattle.model_examples.specs.CutShort.{behind_record, behind_stabilise, behind_store, first, first_record, reached_by_both, saver, second, second_tried, stabilises, stopped, stores, third, with_first_record}
use Rattle.model_examples.proofs.Choosing.{all_below, at_start, other_way, zero_below, only_version}
use Rattle.model_examples.proofs.Stepwise.{entry_in, one_calm, one_more, run_more, step_on, two_calm}
use Rattle.model_examples.proofs.Snapshots.{joint}

-- THE STEPS

stores_is : step no_words 41 first ≡ Some (stores, second)
unfolding refusal allowed wanted local_act store on_cell with_newborn outcome change_of step_change
stores_is = refl

stabilises_is : step no_words 41 second ≡ Some (stabilises, third)
unfolding refusal allowed wanted local_act store on_cell with_newborn outcome changed change_of step_change
stabilises_is = refl

store_on : goes_on no_words no_tables (start_run first) stores ≡ behind_store
store_on = step_on no_words no_tables (start_run first) stores (saver 0) second refl refl stores_is

stabilise_on : goes_on no_words no_tables behind_store stabilises ≡ behind_stabilise
unfolding changed
stabilise_on = step_on no_words no_tables behind_store stabilises (saver 1) third refl refl stabilises_is

-- LEGAL

may_store : May no_words never no_tables (start_run first) stores
may_store = (refl, (refl, refl, lit< tt, two_calm never (start_run first) (wrote 1 2) (wrote 41 2) refl refl, ap (option_map entry_in) stores_is))

may_stabilise : May no_words never no_tables behind_store stabilises
unfolding changed
may_stabilise = (refl, (refl, refl, lit< tt, one_calm never behind_store (wrote 41 3) refl, ap (option_map entry_in) stabilises_is))

may_record : May no_words never no_tables behind_stabilise first_record
unfolding changed
may_record = (refl, (refl, inr (refl, refl)))

may_try : May no_words never no_tables behind_record second_tried
unfolding changed
may_try = (refl, (refl, inr (refl, refl)))

pub legal : IsLegalRun no_words never first no_tables stopped
legal =
    one_more no_words no_tables never (start_run first) behind_store stores (stabilises ∷ first_record ∷ second_tried ∷ []) may_store store_on
    (one_more no_words no_tables never behind_store behind_stabilise stabilises (first_record ∷ second_tried ∷ []) may_stabilise stabilise_on
    (may_record, (may_try, tt)))

-- PLACES

pub behind_two : (es : List Entry) → run_after no_words no_tables (start_run first) (stores ∷ stabilises ∷ es) ≡ run_after no_words no_tables behind_stabilise es
behind_two es =
    run_more no_words no_tables (start_run first) behind_store stores (stabilises ∷ es) store_on
    ∙ run_more no_words no_tables behind_store behind_stabilise stabilises es stabilise_on

pub owes : (behind_stabilise.owed ≡ Some 41) × (next_changed behind_stabilise ≡ Some 1)
unfolding changed
owes = (refl, refl)

pub still_owes : (behind_record.owed ≡ Some 41) × (next_changed behind_record ≡ Some 41)
unfolding changed
still_owes = (refl, refl)

pub no_stable : May no_words never no_tables behind_record (mark Stable 41 0) → ⊥
no_stable m = false≢true (sym m.1.1)

-- THE RECORDS

abbrev later : ℕ → ℕ
later y = max (max (joint y) (if 41 == y then 3 else 0)) 0

abbrev of_container : Commit
of_container = record { entity = 1; version = 2; stamp = joint }

abbrev of_locus : Commit
of_locus = record { entity = 41; version = 3; stamp = later }

abbrev completed : List Commit
completed = at_start 0 ∷ at_start 1 ∷ at_start 41 ∷ of_container ∷ []

abbrev with_tried : List Commit
with_tried = at_start 0 ∷ at_start 1 ∷ at_start 41 ∷ of_container ∷ of_locus ∷ []

pub completed_are : commits_in no_words no_tables first with_first_record ≡ completed
unfolding changed
completed_are = ap (λ (r : Run). r.commits) (behind_two (first_record ∷ []))

pub tried_are : tried_commits no_words no_tables first stopped ≡ with_tried
unfolding changed
tried_are = ap (λ (r : Run). r.commits ++ option_to_list r.tried) (behind_two (first_record ∷ second_tried ∷ []))

-- WITHOUT THE SECOND RECORD

start_low : (x : ℕ) → version_at x ≤ version_at x
start_low x = omega arith

without_second : IsGreatest version_at completed version_at
without_second = record {
  closed = λ x. inl refl;
  greatest = λ q closed.
      let one : q 41 ≡ 1 = only_version version_at q 41 1 completed refl (inl (λ e. cc), (inl (λ e. cc), (inr refl, (inl (λ e. cc), tt)))) closed in
      all_below version_at version_at q start_low completed
      (inl (lit≤ tt), (inl (lit≤ tt), (inl (lit≤ tt), (inr (λ below. (let rests : 2 ≤ q 41 = below 41 in omega (arith, rests, one))), tt)))) closed;
}

pub without : IsGreatest version_at (commits_in no_words no_tables first with_first_record) version_at
without = subst (λ cs. IsGreatest version_at cs version_at) (sym completed_are) without_second

-- WITH IT

reached_more : (x : ℕ) → version_at x ≤ reached_by_both x
reached_more x = elim (x == 0) as (λ b. (if b then 2 else if x == 1 then 1 else if x == 41 then 1 else 0) ≤ (if b then 2 else if x == 1 then 2 else if x == 41 then 3 else 0)) [
  | true ↦ omega arith
  | false ↦ elim (x == 1) as (λ b. (if b then 1 else if x == 41 then 1 else 0) ≤ (if b then 2 else if x == 41 then 3 else 0)) [
    | true ↦ omega arith
    | false ↦ elim (x == 41) as (λ b. (if b then 1 else 0) ≤ (if b then 3 else 0)) [ true ↦ omega arith | false ↦ omega arith ]
  ]
]

-- at each of the two that were written, and elsewhere
at_both : (P : ℕ → Type 0) → P 1 → P 41 → ((y : ℕ) → (1 == y) ≡ false → (41 == y) ≡ false → P y) → (y : ℕ) → P y
at_both P one other rest y =
    elim (1 == y) as (λ b. (1 == y) ≡ b → P y) [
      | true ↦ λ is. subst P (eqb-true 1 y is) one
      | false ↦ λ no'. elim (41 == y) as (λ b. (41 == y) ≡ b → P y) [
        | true ↦ λ is. subst P (eqb-true 41 y is) other
        | false ↦ λ nor. rest y no' nor
      ] refl
    ] refl

joint_low : (y : ℕ) → joint y ≤ reached_by_both y
joint_low = at_both (λ y. joint y ≤ reached_by_both y) (lit≤ tt) (lit≤ tt) (λ y a b. zero_below (joint y) (reached_by_both y) (rw (a, b) refl))

later_low : (y : ℕ) → later y ≤ reached_by_both y
later_low = at_both (λ y. later y ≤ reached_by_both y) (lit≤ tt) (lit≤ tt) (λ y a b. zero_below (later y) (reached_by_both y) (rw (a, b) refl))

abbrev IsReached : ℕ → Type 0
IsReached x = (reached_by_both x ≡ version_at x) ⊎ Among with_tried (λ c. (c.entity ≡ x) × (c.version ≡ reached_by_both x) × IsBelow c.stamp reached_by_both)

reached_closed : (x : ℕ) → IsReached x
reached_closed = at_both IsReached (inr (inr (inr (inr (inl (refl, refl, joint_low)))))) (inr (inr (inr (inr (inr (inl (refl, refl, later_low)))))))
    (λ x a b. inl (rw (other_way 1 x a, other_way 41 x b) refl))

with_second : IsGreatest version_at with_tried reached_by_both
with_second = record {
  closed = reached_closed;
  greatest = λ q closed. all_below version_at reached_by_both q reached_more with_tried (inl (lit≤ tt), (inl (lit≤ tt), (inl (lit≤ tt), (inl (lit≤ tt), (inl (lit≤ tt), tt))))) closed;
}

pub with_it : IsGreatest version_at (tried_commits no_words no_tables first stopped) reached_by_both
with_it = subst (λ cs. IsGreatest version_at cs reached_by_both) (sym tried_are) with_second
