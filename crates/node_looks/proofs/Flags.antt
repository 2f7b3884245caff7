-- The flags of changed entities, and the number of commits, behind one entry more.
use Rattle.std.proofs.Common.{◌≡◌, ℕ, zero, suc, ◌+◌, ◌^◌, ◌<◌, ◌≤◌, Bool, true, false, cond, if◌then◌else◌, ◌||◌, ◌==◌, nat_lt, List, [], ◌∷◌, ◌++◌, count_by, filter, length, min, refl, sym, ap, subst, ◌∙◌, arith, length-append}
use Rattle.std.specs.Prelude.{replicate}
use Rattle.std.proofs.lemmas.Bool.{eqb-false, eqb-true, lt-ltb}
use Rattle.std.proofs.lemmas.Bool.Decides.{nat_tests}
use Rattle.std.proofs.lemmas.List.Sums.{length-filter, sum_by-append, sum_by-cons}
use Rattle.base_types.specs.Edges.{upto}
use Rattle.base_types.specs.declared.histories.Entry.{Entry}
use Rattle.base_types.specs.declared.histories.Event.TheVariants.{Birth, Step, Snap, Stable, Tried}
use Rattle.kernel_laws.proofs.Numbers.{epoch_small}
use Rattle.kernel_runs.specs.kernel_invariant.Beginnings.{Beginning, BeginsRight, IsLegal, completed, run_of}
use Rattle.model_kernel.proofs.LegalRuns.{state_after}
use Rattle.model_kernel.proofs.StableCuts.{legal_front, run_append}
use Rattle.model_run_laws.proofs.Tellings.{versions_told}
use Rattle.node_looks.specs.Counting.{HaveChanged, flag_at}
use Rattle.script_types.specs.model_kernel.Choices.{Commit}
use Rattle.script_types.specs.model_kernel.Histories.{Run, commits_of, goes_on, has_changed, start_run, version_of, went_on, writes}
use Rattle.script_types.specs.model_kernel.State.{KernelState}

-- TESTS AND COUNTS

lt_more : (n v : ℕ) (t : Bool) → n ≤ v → nat_lt n (v + cond t 1 0) ≡ (t || nat_lt n v)
lt_more n v true le = lt-ltb n (v + 1) (omega (arith, le))
lt_more n v false le = (let none : v + 0 ≡ v = omega arith in ap (nat_lt n) none)

not_less : (n : ℕ) → nat_lt n n ≡ false
not_less n = grind (arith, nat_tests)

count_more : (f : ℕ → Bool) (n : ℕ) → count_by f (upto n ++ n ∷ []) ≡ count_by f (upto n) + cond (f n) 1 0
count_more f n =
    let all : count_by f (upto n ++ n ∷ []) ≡ count_by f (upto n) + count_by f (n ∷ []) = sum_by-append (λ (x : ℕ). cond (f x) 1 0) (upto n) (n ∷ []) in
    let one : count_by f (n ∷ []) ≡ cond (f n) 1 0 + count_by f [] = sum_by-cons (λ (x : ℕ). cond (f x) 1 0) n [] in
    let none : count_by f [] ≡ 0 = refl in
    omega (arith, all, one, none)

-- one number more is counted
pub counted_true : (f : ℕ → Bool) (n count : ℕ) → count ≡ count_by f (upto n) → f n ≡ true → count + 1 ≡ count_by f (upto (suc n))
counted_true f n count is on = (let more = count_more f n in let one : cond {A = ℕ} (f n) 1 0 ≡ 1 = ap (λ t. cond {A = ℕ} t 1 0) on in omega (arith, is, more, one))

pub counted_false : (f : ℕ → Bool) (n count : ℕ) → count ≡ count_by f (upto n) → f n ≡ false → count ≡ count_by f (upto (suc n))
counted_false f n count is off = (let more = count_more f n in let one : cond {A = ℕ} (f n) 1 0 ≡ 0 = ap (λ t. cond {A = ℕ} t 1 0) off in omega (arith, is, more, one))

pub count_low : (f : ℕ → Bool) (n : ℕ) → count_by f (upto n) ≤ n
count_low f zero = omega arith
count_low f (suc n) = (let more = count_more f n in let low = count_low f n in omega (arith, more, low, cond_low (f n)))
  where
    cond_low : (t : Bool) → cond {A = ℕ} t 1 0 ≤ 1
    cond_low true = omega arith
    cond_low false = omega arith

pub same_count : (f g : ℕ → Bool) (n : ℕ) → ((x : ℕ) → x < n → f x ≡ g x) → count_by f (upto n) ≡ count_by g (upto n)
same_count f g zero same = refl
same_count f g (suc n) same =
    let low = same_count f g n (λ x lt. same x (omega (arith, lt))) in
    let here : cond {A = ℕ} (f n) 1 0 ≡ cond (g n) 1 0 = ap (λ t. cond {A = ℕ} t 1 0) (same n (omega arith)) in
    let one = count_more f n in
    let two = count_more g n in
    omega (arith, low, here, one, two)

writes_count : (es : List Entry) (e : Entry) (x : ℕ) → count_by (λ f. writes f x) (es ++ e ∷ []) ≡ count_by (λ f. writes f x) es + cond (writes e x) 1 0
writes_count es e x =
    let all : count_by (λ f. writes f x) (es ++ e ∷ []) ≡ count_by (λ f. writes f x) es + count_by (λ f. writes f x) (e ∷ []) = sum_by-append (λ (f : Entry). cond (writes f x) 1 0) es (e ∷ []) in
    let one : count_by (λ f. writes f x) (e ∷ []) ≡ cond (writes e x) 1 0 + count_by (λ (f : Entry). writes f x) [] = sum_by-cons (λ (f : Entry). cond (writes f x) 1 0) e [] in
    let none : count_by (λ (f : Entry). writes f x) [] ≡ 0 = refl in
    omega (arith, all, one, none)

commits_long : (r : Run) (xs : List ℕ) → length (commits_of r xs) ≡ length xs
commits_long r [] = refl
commits_long r (x ∷ xs) = ap suc (commits_long r xs)

-- ONE ENTRY MORE
module _ (b : Beginning) (es : List Entry) (e : Entry) (legal : IsLegal b (es ++ e ∷ [])) where
  r : Run
  r = run_of b es

  new : Run
  new = run_of b (es ++ e ∷ [])

  whole : new ≡ goes_on b.supply b.script r e
  unfolding r new
  whole = run_append b.supply b.policy b.script (start_run b.state) es (e ∷ [])

  front : IsLegal b es
  front = legal_front b.supply b.policy b.script (start_run b.state) es (e ∷ []) legal

  version_is : (fs : List Entry) (x : ℕ) → IsLegal b fs → version_of (run_of b fs) x ≡ (b.state x).version + count_by (λ f. writes f x) fs
  version_is fs x right =
      ap (λ (w : KernelState). (w x).version) (state_after b.supply b.policy b.script (start_run b.state) fs) ∙ versions_told b.supply b.policy b.script b.state fs x right

  versions : (x : ℕ) → version_of new x ≡ version_of r x + cond (writes e x) 1 0
  unfolding r new
  versions x =
      let now = version_is (es ++ e ∷ []) x legal in
      let was = version_is es x front in
      let more = writes_count es e x in
      omega (arith, now, was, more)

  module _ (flags : List Bool) (old : HaveChanged b es flags) where
    low : (x : ℕ) → x < 64 → r.newest x ≤ version_of r x
    unfolding r
    low x lt = old.newest x lt

    flags_are : (x : ℕ) → x < 64 → flag_at flags x ≡ has_changed r x
    unfolding r
    flags_are x lt = old.flags_are x lt

    -- what an entry leaves that commits nothing
    wrote : (flags' : List Bool) → ((x : ℕ) → x < 64 → flag_at flags' x ≡ (writes e x || flag_at flags x)) → new.newest ≡ r.newest → HaveChanged b (es ++ e ∷ []) flags'
    unfolding new
    wrote flags' is same = record {
      flags_are = λ x lt. is x lt ∙ (ap (λ (t : Bool). writes e x || t) (flags_are x lt)
          ∙ (sym (lt_more (r.newest x) (version_of r x) (writes e x) (low x lt))
          ∙ sym (λ i. nat_lt (same i x) (versions x i))));
      newest = λ x lt. (let le = low x lt in let up = versions x in let at : new.newest x ≡ r.newest x = ap (λ (f : ℕ → ℕ). f x) same in omega (arith, le, up, at));
    }

    pub birth_changed : (flags' : List Bool) → e.event ≡ Birth → ((x : ℕ) → x < 64 → flag_at flags' x ≡ (writes e x || flag_at flags x)) → HaveChanged b (es ++ e ∷ []) flags'
    birth_changed flags' is changed = wrote flags' changed (ap (λ (q : Run). q.newest) (whole ∙ ap (went_on b.supply b.script r e) is))

    pub step_changed : (flags' : List Bool) → e.event ≡ Step → ((x : ℕ) → x < 64 → flag_at flags' x ≡ (writes e x || flag_at flags x)) → HaveChanged b (es ++ e ∷ []) flags'
    step_changed flags' is changed = wrote flags' changed (ap (λ (q : Run). q.newest) (whole ∙ ap (went_on b.supply b.script r e) is))

    pub snap_changed : (flags' : List Bool) → e.event ≡ Snap → flag_at flags' e.actor ≡ false → ((x : ℕ) → (x ≡ e.actor → ⊥) → flag_at flags' x ≡ flag_at flags x) → HaveChanged b (es ++ e ∷ []) flags'
    unfolding new
    snap_changed flags' is off others = record {
      flags_are = λ x lt. by x lt (x == e.actor) refl ∙ sym (λ i. nat_lt (newest i x) (state i x).version);
      newest = λ x lt. low_now x lt (x == e.actor) refl;
    }
      where
        newest : new.newest ≡ (λ x. if x == e.actor then version_of r e.actor else r.newest x)
        newest = ap (λ (q : Run). q.newest) (whole ∙ ap (went_on b.supply b.script r e) is)

        state : new.state ≡ r.state
        state = ap (λ (q : Run). q.state) (whole ∙ ap (went_on b.supply b.script r e) is)

        by : (x : ℕ) → x < 64 → (t : Bool) → (x == e.actor) ≡ t → flag_at flags' x ≡ nat_lt (if t then version_of r e.actor else r.newest x) (version_of r x)
        by x lt true at =
            let same = eqb-true x e.actor at in
            subst (λ y. flag_at flags' y ≡ nat_lt (version_of r e.actor) (version_of r y)) (sym same) (off ∙ sym (not_less (version_of r e.actor)))
        by x lt false at = others x (eqb-false x e.actor at) ∙ flags_are x lt

        low_now : (x : ℕ) → x < 64 → (t : Bool) → (x == e.actor) ≡ t → new.newest x ≤ version_of new x
        low_now x lt t at =
            subst (λ (f : ℕ → ℕ). f x ≤ version_of new x) (sym newest) (subst (λ (w : KernelState). (if x == e.actor then version_of r e.actor else r.newest x) ≤ (w x).version) (sym state)
            (subst (λ (u : Bool). (if u then version_of r e.actor else r.newest x) ≤ version_of r x) (sym at) (here t at)))
          where
            here : (t : Bool) → (x == e.actor) ≡ t → (if t then version_of r e.actor else r.newest x) ≤ version_of r x
            here true at = (let same = eqb-true x e.actor at in subst (λ y. version_of r e.actor ≤ version_of r y) (sym same) (omega arith))
            here false at = low x lt

    pub stable_changed : (flags' : List Bool) → e.event ≡ Stable → ((x : ℕ) → x < 64 → flag_at flags' x ≡ false) → HaveChanged b (es ++ e ∷ []) flags'
    unfolding new
    stable_changed flags' is off = record {
      flags_are = λ x lt. off x lt ∙ (sym (not_less (version_of r x)) ∙ sym (λ i. nat_lt (newest i x) (state i x).version));
      newest = λ x lt. (
          let at : new.newest x ≡ version_of r x = ap (λ (f : ℕ → ℕ). f x) newest in
          let now : version_of new x ≡ version_of r x = ap (λ (w : KernelState). (w x).version) state in
          omega (arith, at, now));
    }
      where
        newest : new.newest ≡ version_of r
        newest = ap (λ (q : Run). q.newest) (whole ∙ ap (went_on b.supply b.script r e) is)

        state : new.state ≡ r.state
        state = ap (λ (q : Run). q.state) (whole ∙ ap (went_on b.supply b.script r e) is)

    pub tried_changed : e.event ≡ Tried → HaveChanged b (es ++ e ∷ []) flags
    unfolding new
    tried_changed is = record {
      flags_are = λ x lt. flags_are x lt ∙ sym (λ i. nat_lt (newest i x) (state i x).version);
      newest = λ x lt. (
          let le = low x lt in
          let at : new.newest x ≡ r.newest x = ap (λ (f : ℕ → ℕ). f x) newest in
          let now : version_of new x ≡ version_of r x = ap (λ (w : KernelState). (w x).version) state in
          omega (arith, le, at, now));
    }
      where
        newest : new.newest ≡ r.newest
        newest = ap (λ (q : Run). q.newest) (whole ∙ ap (went_on b.supply b.script r e) is)

        state : new.state ≡ r.state
        state = ap (λ (q : Run). q.state) (whole ∙ ap (went_on b.supply b.script r e) is)

    -- HOW MANY COMMITS
    commits : (cs : List Commit) → (goes_on b.supply b.script r e).commits ≡ r.commits ++ cs → length (completed b (es ++ e ∷ [])) ≡ length (completed b es) + length cs
    unfolding r new
    commits cs is = ap (λ (q : Run). length q.commits) whole ∙ (ap (λ (ds : List Commit). length ds) is ∙ length-append r.commits cs)

    pub stable_made : (count : ℕ) → e.event ≡ Stable → count ≡ count_by (flag_at flags) (upto 64) → length (completed b (es ++ e ∷ [])) ≡ length (completed b es) + count
    stable_made count is counted =
        let xs = filter (has_changed r) (upto 64) in
        let all = commits (commits_of r xs) (ap (λ (q : Run). q.commits) (ap (went_on b.supply b.script r e) is)) in
        let many : length (commits_of r xs) ≡ count = commits_long r xs ∙ (length-filter (has_changed r) (upto 64) ∙ (sym (same_count (flag_at flags) (has_changed r) 64 flags_are) ∙ sym counted)) in
        all ∙ ap (λ n. length (completed b es) + n) many

    pub snap_made : e.event ≡ Snap → length (completed b (es ++ e ∷ [])) ≡ length (completed b es) + 1
    snap_made is = commits (commits_of r (e.actor ∷ [])) (ap (λ (q : Run). q.commits) (ap (went_on b.supply b.script r e) is))

  same_commits : (goes_on b.supply b.script r e).commits ≡ r.commits → length (completed b (es ++ e ∷ [])) ≡ length (completed b es) + 0
  unfolding r new
  same_commits is = (let same : length (completed b (es ++ e ∷ [])) ≡ length (completed b es) = ap (λ (q : Run). length q.commits) whole ∙ ap (λ (ds : List Commit). length ds) is in omega (arith, same))

  pub birth_made : e.event ≡ Birth → length (completed b (es ++ e ∷ [])) ≡ length (completed b es) + 0
  birth_made is = same_commits (ap (λ (q : Run). q.commits) (ap (went_on b.supply b.script r e) is))

  pub step_made : e.event ≡ Step → length (completed b (es ++ e ∷ [])) ≡ length (completed b es) + 0
  step_made is = same_commits (ap (λ (q : Run). q.commits) (ap (went_on b.supply b.script r e) is))

  pub tried_made : e.event ≡ Tried → length (completed b (es ++ e ∷ [])) ≡ length (completed b es) + 0
  tried_made is = same_commits (ap (λ (q : Run). q.commits) (ap (went_on b.supply b.script r e) is))

-- BEFORE A RUN nothing has changed
pub none_changed : (b : Beginning) (flags : List Bool) → ((x : ℕ) → x < 64 → flag_at flags x ≡ false) → HaveChanged b [] flags
none_changed b flags off = record {
  flags_are = λ x lt. off x lt ∙ sym (not_less (b.state x).version);
  newest = λ x lt. omega arith;
}

-- no number is too large
pub made_small : (b : Beginning) (es : List Entry) → BeginsRight b → IsLegal b es → length (completed b es) < 2 ^ 62
made_small b es right legal = epoch_small b es right legal (length (completed b es)) (omega arith)

pub legal_start : (b : Beginning) (es fs : List Entry) → IsLegal b (es ++ fs) → IsLegal b es
legal_start b es fs legal = legal_front b.supply b.policy b.script (start_run b.state) es fs legal

-- PLAIN FACTS

pub none_flagged : (n x : ℕ) → flag_at (replicate n false) x ≡ false
none_flagged zero x = refl
none_flagged (suc n) zero = refl
none_flagged (suc n) (suc x) = none_flagged n x

-- what a sum that can't pass 64 bits comes to
pub not_capped : (made count result all : ℕ) → result ≡ min (made + count) 18446744073709551615 → all ≡ made + count → all < 2 ^ 62 → result ≡ all
not_capped made count result all is sum low = omega (arith, is, sum, low)
