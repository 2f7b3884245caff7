-- The run of a container that gets full.
use Rattle.std.proofs.Common.{◌≡◌, ℕ, zero, suc, ◌+◌, ◌≤◌, Bool, true, false, not, ◌&&◌, ◌==◌, cond, nat_le, if◌then◌else◌, inl, inr, List, [], ◌∷◌, Some, lit<, lit≤, max, option_map, refl, sym, ap, subst, ◌∙◌, arith}
use Rattle.std.proofs.lemmas.Bool.{false≢true, or_right}
use Rattle.std.proofs.lemmas.Bool.Decides.{nat_tests}
use Rattle.base_types.specs.declared.histories.Entry.{Entry}
use Rattle.model_run_laws.specs.model_kernel.Acts.{allowed, wanted}
use Rattle.model_run_laws.specs.model_kernel.Changes.{changed}
use Rattle.model_run_laws.specs.model_kernel.Choices.{Commit, IsGreatest, IsNarrow, greatest}
use Rattle.model_run_laws.specs.model_kernel.Histories.{IsLegalRun, May, Run, commits_above, commits_in, goes_on, has_wish, is_due, is_full, run_after}
use Rattle.model_run_laws.specs.model_kernel.Outcomes.{local_act, on_cell, outcome, store, with_newborn}
use Rattle.model_run_laws.specs.model_kernel.Refusals.{refusal}
use Rattle.model_run_laws.specs.model_kernel.Steps.{change_of, step, step_change}
use Rattle.model_run_laws.proofs.model_kernel_lemmas.Lowering.{greatest_is, greatest_one}
use Rattle.model_run_laws.proofs.Few.{above_cons}
use Rattle.model_examples.specs.Snapshots.{no_tables, no_words, version_at, wrote}
use Rattle.model_examples.specs.FullContainer.{begun, behind, each_so_many, place_1, place_2, place_3, place_4, place_5, place_6, place_7, place_8, recorded_at, stores, two_stores_more, writer}
use Rattle.model_examples.proofs.Choosing.{all_below, at_start, only_version}
use Rattle.model_examples.proofs.Stepwise.{entry_in, no_wish, two_not_due, one_more, run_more, step_on, two_calm}

-- THE STORES

store_0 : step no_words 41 (behind 0) ≡ Some (stores 2, behind 1)
unfolding refusal allowed wanted local_act store on_cell with_newborn outcome changed change_of step_change
store_0 = refl

store_1 : step no_words 41 (behind 1) ≡ Some (stores 3, behind 2)
unfolding refusal allowed wanted local_act store on_cell with_newborn outcome changed change_of step_change
store_1 = refl

store_2 : step no_words 41 (behind 2) ≡ Some (stores 4, behind 3)
unfolding refusal allowed wanted local_act store on_cell with_newborn outcome changed change_of step_change
store_2 = refl

store_3 : step no_words 41 (behind 3) ≡ Some (stores 5, behind 4)
unfolding refusal allowed wanted local_act store on_cell with_newborn outcome changed change_of step_change
store_3 = refl

store_4 : step no_words 41 (behind 4) ≡ Some (stores 6, behind 5)
unfolding refusal allowed wanted local_act store on_cell with_newborn outcome changed change_of step_change
store_4 = refl

on_1 : goes_on no_words no_tables begun (stores 2) ≡ place_1
on_1 = step_on no_words no_tables begun (stores 2) (writer 0) (behind 1) refl refl store_0

on_3 : goes_on no_words no_tables place_2 (stores 3) ≡ place_3
unfolding changed
on_3 = step_on no_words no_tables place_2 (stores 3) (writer 1) (behind 2) refl refl store_1

on_5 : goes_on no_words no_tables place_4 (stores 4) ≡ place_5
unfolding changed
on_5 = step_on no_words no_tables place_4 (stores 4) (writer 2) (behind 3) refl refl store_2

on_7 : goes_on no_words no_tables place_6 (stores 5) ≡ place_7
unfolding changed
on_7 = step_on no_words no_tables place_6 (stores 5) (writer 3) (behind 4) refl refl store_3

on_8 : goes_on no_words no_tables place_7 (stores 6) ≡ place_8
unfolding changed
on_8 = step_on no_words no_tables place_7 (stores 6) (writer 4) (behind 5) refl refl store_4

-- THE RECORDS

-- the record behind so many stores
abbrev of_box : ℕ → Commit
of_box n = record { entity = 1; version = n + 1; stamp = (behind n 1).stamp }

abbrev six : List Commit
six = at_start 0 ∷ at_start 1 ∷ at_start 41 ∷ of_box 1 ∷ of_box 2 ∷ of_box 3 ∷ []

six_are : place_6.commits ≡ six
unfolding changed
six_are = refl

narrow_start : (x y : ℕ) → x ≤ 63 → 64 ≤ y → (if x == y then version_at x else 0) ≡ 0
narrow_start x y low high = ap (λ b. if b then version_at x else 0) (apart x y low high)
  where
    apart : (x y : ℕ) → x ≤ 63 → 64 ≤ y → (x == y) ≡ false
    apart x y low high = grind (arith, nat_tests)

-- no clock has a component from 64 on
narrow : (n y : ℕ) → 64 ≤ y → ((behind n 1).stamp y ≡ 0) × ((behind n 41).stamp y ≡ 0)
unfolding changed
narrow zero y high = (narrow_start 1 y (lit≤ tt) high, narrow_start 41 y (lit≤ tt) high)
narrow (suc n) y high =
    let before = narrow n y high in
    let one : (1 == y) ≡ false = off 1 y (lit≤ tt) high in
    let other : (41 == y) ≡ false = off 41 y (lit≤ tt) high in
    let both = none_of ((behind n 1).stamp y) ((behind n 41).stamp y) ((behind n 1).version + 1) ((behind n 41).version + 1) (1 == y) (41 == y) before.0 before.1 one other in
    (both, both)
  where
    off : (x y : ℕ) → x ≤ 63 → 64 ≤ y → (x == y) ≡ false
    off x y low high = grind (arith, nat_tests)

    none_of : (a b v u : ℕ) (p q : Bool) → a ≡ 0 → b ≡ 0 → p ≡ false → q ≡ false → max (max a (if p then v else 0)) (max (max b (if q then u else 0)) 0) ≡ 0
    none_of a b v u p q ea eb ep eq = rw (ea, eb, ep, eq) refl

six_narrow : IsNarrow six
six_narrow = (
  λ y h. narrow_start 0 y (lit≤ tt) h,
  (
    λ y h. narrow_start 1 y (lit≤ tt) h,
    (
      λ y h. narrow_start 41 y (lit≤ tt) h,
      (
        λ y h. (narrow 1 y h).0,
        (
          λ y h. (narrow 2 y h).0,
          (
            λ y h. (narrow 3 y h).0,
            tt,
          ),
        ),
      ),
    ),
  ),
)

-- each record of the container rests on the locus, which has none but the first
rests : (q : ℕ → ℕ) (n : ℕ) → q 41 ≡ 1 → 2 ≤ n → n ≤ q 41 → ⊥
rests q n one many below = omega (arith, one, many, below)

six_greatest : IsGreatest version_at six version_at
unfolding changed
six_greatest = record {
  closed = λ x. inl refl;
  greatest = λ q closed.
      let one : q 41 ≡ 1 = only_version version_at q 41 1 six refl (inl (λ e. cc), (inl (λ e. cc), (inr refl, (inl (λ e. cc), (inl (λ e. cc), (inl (λ e. cc), tt)))))) closed in
      all_below version_at version_at q (λ x. omega arith) six (
        inl (lit≤ tt),
        (
          inl (lit≤ tt),
          (
            inl (lit≤ tt),
            (
              inr (λ below. rests q 2 one (lit≤ tt) (below 41)),
              (
                inr (λ below. rests q 3 one (lit≤ tt) (below 41)),
                (inr (λ below. rests q 4 one (lit≤ tt) (below 41)), tt),
              ),
            ),
          ),
        ),
      ) closed;
}

cut_is : greatest version_at six ≡ version_at
cut_is = greatest_one version_at six (greatest version_at six) version_at (greatest_is version_at six six_narrow) six_greatest

-- FULL AND NOT

-- fewer than four records of the entity
few_above : (cs : List Commit) (cut : ℕ → ℕ) (x : ℕ) → commits_above cs cut x ≤ commits_above cs (λ _. 0) x
few_above [] cut x = omega arith
few_above (c ∷ cs) cut x =
    let a = above_cons c cs cut x in
    let b = above_cons c cs (λ _. 0) x in
    let one = one_above (c.entity == x) (nat_le (cut x) c.version) (nat_le 0 c.version) (from_zero c.version) in
    let rest = few_above cs cut x in
    omega (arith, a, b, one, rest)
  where
    from_zero : (n : ℕ) → nat_le 0 n ≡ true
    from_zero n = grind (arith, nat_tests)

    one_above : (p q r : Bool) → r ≡ true → cond (p && q) 1 0 ≤ cond (p && r) 1 0
    one_above true true true e = omega arith
    one_above true false true e = omega arith
    one_above true q false e = absurd (false≢true e)
    one_above false q r e = omega arith

not_full : (r : Run) (x : ℕ) → commits_above r.commits (λ _. 0) x ≤ 3 → not (is_full r x) ≡ true
not_full r x few = by_count (commits_above r.commits r.cut x) (let le = few_above r.commits r.cut x in omega (arith, le, few))
  where
    by_count : (n : ℕ) → n ≤ 3 → not (nat_le 4 n) ≡ true
    by_count n le = elim (nat_le 4 n) as (λ b. nat_le 4 n ≡ b → not b ≡ true) [ true ↦ λ is. absurd (too_many n is le) | false ↦ λ _. refl ] refl
      where
        too_many : (n : ℕ) → nat_le 4 n ≡ true → n ≤ 3 → ⊥
        too_many n is le = grind (arith, nat_tests)

full_with : (r : Run) → r.commits ≡ six → r.cut ≡ version_at → is_full r 1 ≡ true
full_with r cs cut = λ i. nat_le 4 (commits_above (cs i) (cut i) 1)

pub full_6 : is_full place_6 1 ≡ true
full_6 = full_with place_6 six_are (ap (greatest version_at) six_are ∙ cut_is)

pub full_7 : is_full place_7 1 ≡ true
full_7 = full_with place_7 six_are (ap (greatest version_at) six_are ∙ cut_is)

pub wish_7 : has_wish each_so_many place_7 1 ≡ true
unfolding changed
wish_7 = refl

met_full : (policy : Rattle.model_run_laws.specs.model_kernel.Histories.Policy) (r : Run) (x : ℕ) → r.was_full x ≡ true → is_due policy r x ≡ false
met_full policy r x is = ap (λ b. has_wish policy r x && not b) is ∙ none (has_wish policy r x)
  where
    none : (h : Bool) → (h && false) ≡ false
    none true = refl
    none false = refl

was_full_7 : place_7.was_full 1 ≡ true
was_full_7 = or_right (not true && place_6.was_full 1) (is_full place_7 1) full_7

pub not_due_7 : is_due each_so_many place_7 1 ≡ false
not_due_7 = met_full each_so_many place_7 1 was_full_7

-- LEGAL

may_1 : May no_words each_so_many no_tables begun (stores 2)
may_1 = (refl, (refl, refl, lit< tt, two_calm each_so_many begun (wrote 1 2) (wrote 41 2) refl refl, ap (option_map entry_in) store_0))

may_2 : May no_words each_so_many no_tables place_1 (recorded_at 2)
unfolding changed
may_2 = (refl, (refl, inl (refl, not_full place_1 1 (lit≤ tt), refl)))

may_3 : May no_words each_so_many no_tables place_2 (stores 3)
unfolding changed
may_3 = (refl, (refl, refl, lit< tt, two_calm each_so_many place_2 (wrote 1 3) (wrote 41 3) refl refl, ap (option_map entry_in) store_1))

may_4 : May no_words each_so_many no_tables place_3 (recorded_at 3)
unfolding changed
may_4 = (refl, (refl, inl (refl, not_full place_3 1 (lit≤ tt), refl)))

may_5 : May no_words each_so_many no_tables place_4 (stores 4)
unfolding changed
may_5 = (refl, (refl, refl, lit< tt, two_calm each_so_many place_4 (wrote 1 4) (wrote 41 4) refl refl, ap (option_map entry_in) store_2))

may_6 : May no_words each_so_many no_tables place_5 (recorded_at 4)
unfolding changed
may_6 = (refl, (refl, inl (refl, not_full place_5 1 (lit≤ tt), refl)))

may_7 : May no_words each_so_many no_tables place_6 (stores 5)
unfolding changed
may_7 = (refl, (refl, refl, lit< tt, two_calm each_so_many place_6 (wrote 1 5) (wrote 41 5) refl refl, ap (option_map entry_in) store_3))

may_8 : May no_words each_so_many no_tables place_7 (stores 6)
unfolding changed
may_8 = (refl, (refl, refl, lit< tt, two_not_due each_so_many place_7 (wrote 1 6) (wrote 41 6) not_due_7 (no_wish each_so_many place_7 41 refl), ap (option_map entry_in) store_4))

pub legal : IsLegalRun no_words each_so_many (behind 0) no_tables two_stores_more
legal =
    one_more no_words no_tables each_so_many begun place_1 (stores 2) (recorded_at 2 ∷ stores 3 ∷ recorded_at 3 ∷ stores 4 ∷ recorded_at 4 ∷ stores 5 ∷ stores 6 ∷ []) may_1 on_1 (
      may_2,
      one_more no_words no_tables each_so_many place_2 place_3 (stores 3) (recorded_at 3 ∷ stores 4 ∷ recorded_at 4 ∷ stores 5 ∷ stores 6 ∷ []) may_3 on_3 (
        may_4,
        one_more no_words no_tables each_so_many place_4 place_5 (stores 4) (recorded_at 4 ∷ stores 5 ∷ stores 6 ∷ []) may_5 on_5 (
          may_6,
          one_more no_words no_tables each_so_many place_6 place_7 (stores 5) (stores 6 ∷ []) may_7 on_7
              (may_8, tt),
        ),
      ),
    )

pub six_on : (es : List Entry) → run_after no_words no_tables begun (stores 2 ∷ recorded_at 2 ∷ stores 3 ∷ recorded_at 3 ∷ stores 4 ∷ recorded_at 4 ∷ es) ≡ run_after no_words no_tables place_6 es
six_on es =
    run_more no_words no_tables begun place_1 (stores 2) (recorded_at 2 ∷ stores 3 ∷ recorded_at 3 ∷ stores 4 ∷ recorded_at 4 ∷ es) on_1
    ∙ run_more no_words no_tables place_2 place_3 (stores 3) (recorded_at 3 ∷ stores 4 ∷ recorded_at 4 ∷ es) on_3
    ∙ run_more no_words no_tables place_4 place_5 (stores 4) (recorded_at 4 ∷ es) on_5

pub seven_on : (es : List Entry) → run_after no_words no_tables begun (stores 2 ∷ recorded_at 2 ∷ stores 3 ∷ recorded_at 3 ∷ stores 4 ∷ recorded_at 4 ∷ stores 5 ∷ es) ≡ run_after no_words no_tables place_7 es
seven_on es = six_on (stores 5 ∷ es) ∙ run_more no_words no_tables place_6 place_7 (stores 5) es on_7

pub all_on : run_after no_words no_tables begun two_stores_more ≡ place_8
all_on = seven_on (stores 6 ∷ []) ∙ on_8

pub no_record : May no_words each_so_many no_tables place_7 (recorded_at 5) → ⊥
no_record m = elim m.1.1 as (λ _. ⊥) [
  | inl k ↦ false≢true (sym (ap not full_7) ∙ k.1)
  | inr k ↦ false≢true k.0
]

pub commits_are : commits_in no_words no_tables (behind 0) two_stores_more ≡ six
unfolding changed
commits_are = ap (λ (r : Run). r.commits) all_on ∙ six_are

pub cut : IsGreatest version_at (commits_in no_words no_tables (behind 0) two_stores_more) version_at
cut = subst (λ cs. IsGreatest version_at cs version_at) (sym commits_are) six_greatest
