-- The records of an owed Stable, one after another in ascending number, and the Stable in their place: the rules of runs.
use Rattle.std.proofs.Common.{◌≡◌, inl, inr, ℕ, zero, suc, ◌+◌, ◌<◌, Bool, true, false, cond, filter, List, [], ◌∷◌, ◌++◌, Option, Some, None, is_some, refl, sym, ap, ◌∙◌, arith, append_assoc}
use Rattle.std.specs.Prelude.{find}
use Rattle.std.proofs.lemmas.Bool.{cases_lt}
use Rattle.std.proofs.lemmas.List.{append-nil}
use Rattle.std.proofs.lemmas.List.Elements.{filter-append}
use Rattle.base_types.specs.Edges.{upto}
use Rattle.base_types.specs.declared.histories.Entry.{Entry}
use Rattle.base_types.specs.declared.histories.Event.TheVariants.{Snap, Stable}
use Rattle.image_facts.specs.model_kernel.Histories.{MayCommit, Run, commit_of, commits_of, goes_on, has_changed, mark, next_changed, run_after, start_run, version_of}
use Rattle.image_facts.specs.model_kernel.State.{KernelState}
use Rattle.image_facts.proofs.model_kernel_lemmas.StableCuts.{run_append}
use Rattle.model_serial_turns.specs.model_serial.Serial.{first_snaps}
use Rattle.model_serial_turns.proofs.Stops.{one_more_snap}
use Rattle.kernel_book_laws.specs.kernel_laws.Going.{AreSnaps}
use Rattle.kernel_book_laws.specs.kernel_invariant.Beginnings.{Beginning, completed, run_of}
use Rattle.kernel_book_laws.proofs.kernel_views_lemmas.Legal.{run_next}
use Rattle.kernel_commit_facts.specs.Through.{IsUnderway}

-- THE FIRST NUMBER that passes

found_more : {A : Type 0} (a x : A) (o u : Option A) (t : Bool) → cond t (Some a) o ≡ Some x → (o ≡ Some x → u ≡ Some x) → cond t (Some a) u ≡ Some x
found_more a x o u true is go = is
found_more a x o u false is go = go is

find_more : {A : Type 0} (p : A → Bool) (xs ys : List A) (x : A) → find p xs ≡ Some x → find p (xs ++ ys) ≡ Some x
find_more p [] ys x is = absurd (cc is)
find_more p (a ∷ xs) ys x is = found_more a x (find p xs) (find p (xs ++ ys)) (p a) is (find_more p xs ys x)

found_later : {A : Type 0} (a : A) (o u v : Option A) (t : Bool) → cond t (Some a) o ≡ None → (o ≡ None → u ≡ v) → cond t (Some a) u ≡ v
found_later a o u v true is go = absurd (cc is)
found_later a o u v false is go = go is

find_later : {A : Type 0} (p : A → Bool) (xs ys : List A) → find p xs ≡ None → find p (xs ++ ys) ≡ find p ys
find_later p [] ys is = refl
find_later p (a ∷ xs) ys is = found_later a (find p xs) (find p (xs ++ ys)) (find p ys) (p a) is (find_later p xs ys)

module _ (p : ℕ → Bool) where
  none_before : (n : ℕ) → ((y : ℕ) → y < n → p y ≡ false) → find p (upto n) ≡ None
  none_before zero none = refl
  none_before (suc n) none =
      find_later p (upto n) (n ∷ []) (none_before n (λ y lt. none y (omega (arith, lt)))) ∙ ap (λ t. cond t (Some n) None) (none n (omega arith))

  pub first_is : (n x : ℕ) → x < n → p x ≡ true → ((y : ℕ) → y < x → p y ≡ false) → find p (upto n) ≡ Some x
  first_is zero x lt is none = absurd (omega (arith, lt))
  first_is (suc n) x lt is none = elim (cases_lt x n) as (λ _. find p (upto (suc n)) ≡ Some x) [
    | inl low ↦ find_more p (upto n) (n ∷ []) x (first_is n x low is none)
    | inr high ↦
        (let same : x ≡ n = omega (arith, lt, high) in
        find_later p (upto n) (n ∷ []) (none_before n (λ y below. none y (let e = same in omega (arith, below, e))))
        ∙ (ap (λ t. cond t (Some n) None) (ap p (sym same) ∙ is) ∙ ap Some (sym same)))
  ]

-- LISTS OF COMMITS

commits_more : (r : Run) (xs ys : List ℕ) → commits_of r (xs ++ ys) ≡ commits_of r xs ++ commits_of r ys
commits_more r [] ys = refl
commits_more r (x ∷ xs) ys = ap (λ cs. commit_of r x ∷ cs) (commits_more r xs ys)

snaps_more : (es fs : List Entry) → AreSnaps es → AreSnaps fs → AreSnaps (es ++ fs)
snaps_more [] fs are also = also
snaps_more (e ∷ es) fs are also = (are.0, snaps_more es fs are.1 also)

-- THE RECORDS SO FAR

module _ (b : Beginning) (actor : ℕ) (front : List Entry) where
  abbrev r0 : Run
  r0 = run_of b front

  pub begins : r0.owed ≡ Some actor → r0.tried ≡ None → IsUnderway b actor 0 front front
  begins owed untried = record {
    snaps = [];
    are = tt;
    made = 0;
    first = refl;
    entries = sym (append-nil front);
    owed = owed;
    untried = untried;
    same_state = refl;
    same_steps = refl;
    commits = sym (append-nil (completed b front));
  }

  filter_more : (i : ℕ) (t : Bool) → has_changed r0 i ≡ t → filter (has_changed r0) (upto (suc i)) ≡ filter (has_changed r0) (upto i) ++ cond t (i ∷ []) []
  filter_more i t is = filter-append (has_changed r0) (upto i) (i ∷ []) ∙ ap (λ u. filter (has_changed r0) (upto i) ++ cond u (i ∷ []) []) is

  module _ (i : ℕ) (es : List Entry) (u : IsUnderway b actor i front es) where
    pub skips : has_changed r0 i ≡ false → IsUnderway b actor (suc i) front es
    skips is = record {
      snaps = u.snaps;
      are = u.are;
      made = u.made;
      first = u.first;
      entries = u.entries;
      owed = u.owed;
      untried = u.untried;
      same_state = u.same_state;
      same_steps = u.same_steps;
      commits = u.commits ∙ ap (λ xs. completed b front ++ commits_of r0 xs) (sym (filter_more i false is ∙ append-nil (filter (has_changed r0) (upto i))));
    }

    abbrev rn : Run
    rn = run_of b es

    abbrev e : Entry
    e = mark Snap i (version_of rn i)

    run_is : run_of b (es ++ e ∷ []) ≡ goes_on b.supply b.script rn e
    run_is = run_next b es e

    same_commit : commit_of rn i ≡ commit_of r0 i
    same_commit = ap (λ (w : KernelState). record { entity = i; version = (w i).version; stamp = (w i).stamp }) u.same_state

    pub behind_snaps : run_after b.supply b.script r0 u.snaps ≡ rn
    behind_snaps = sym (ap (run_of b) u.entries ∙ run_append b.supply b.policy b.script (start_run b.state) front u.snaps)

    more_snaps : next_changed rn ≡ Some i → u.snaps ++ e ∷ [] ≡ first_snaps (u.made + 1) b.supply b.script r0
    more_snaps next =
        ap (λ (q : Run). u.snaps ++ mark Snap i (version_of q i) ∷ []) (sym behind_snaps)
        ∙ one_more_snap b.supply b.script r0 [] u.snaps u.made i u.first (ap next_changed behind_snaps ∙ next)

    pub snaps_one : has_changed r0 i ≡ true → next_changed rn ≡ Some i → IsUnderway b actor (suc i) front (es ++ e ∷ [])
    snaps_one is next = record {
      snaps = u.snaps ++ e ∷ [];
      are = snaps_more u.snaps (e ∷ []) u.are (refl, tt);
      made = u.made + 1;
      first = more_snaps next;
      entries = ap (λ fs. fs ++ e ∷ []) u.entries ∙ append_assoc front u.snaps (e ∷ []);
      owed = ap (λ (q : Run). q.owed) run_is ∙ u.owed;
      untried = ap (λ (q : Run). q.tried) run_is ∙ u.untried;
      same_state = ap (λ (q : Run). q.state) run_is ∙ u.same_state;
      same_steps = ap (λ (q : Run). q.steps) run_is ∙ u.same_steps;
      commits =
          ap (λ (q : Run). q.commits) run_is
          ∙ (ap (λ cs. cs ++ commit_of rn i ∷ []) u.commits
          ∙ (ap (λ k. (completed b front ++ commits_of r0 (filter (has_changed r0) (upto i))) ++ k ∷ []) same_commit
          ∙ (append_assoc (completed b front) (commits_of r0 (filter (has_changed r0) (upto i))) (commit_of r0 i ∷ [])
          ∙ ap (λ cs. completed b front ++ cs) (sym (ap (commits_of r0) (filter_more i true is) ∙ commits_more r0 (filter (has_changed r0) (upto i)) (i ∷ []))))));
    }

    -- the next one to be recorded
    pub next_one : i < 64 → ((y : ℕ) → y < i → has_changed rn y ≡ false) → has_changed rn i ≡ true → next_changed rn ≡ Some i
    next_one low none is = first_is (has_changed rn) 64 i low is none

    pub may_next : next_changed rn ≡ Some i → MayCommit b.policy rn i
    may_next next = inr (ap is_some u.owed, next)

  -- in the end
  module _ (es : List Entry) (u : IsUnderway b actor 64 front es) where
    abbrev s : Entry
    s = mark Stable actor 0

    stable_run : run_of b (front ++ s ∷ []) ≡ goes_on b.supply b.script r0 s
    stable_run = run_next b front s

    pub same_commits : completed b (front ++ s ∷ []) ≡ completed b (front ++ u.snaps)
    same_commits = ap (λ (q : Run). q.commits) stable_run ∙ (sym u.commits ∙ ap (completed b) u.entries)
