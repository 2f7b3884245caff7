-- An open wish stands exactly in its two cases.
use Rattle.std.proofs.Common.{◌≡◌, ℕ, ◌-◌, ◌≤◌, ◌<◌, Bool, true, false, not, ◌&&◌, ◌||◌, ◌==◌, nat_lt, if◌then◌else◌, IsTrue, List, [], ◌∷◌, ◌++◌, filter, Option, Some, None, ◌↔◌, refl, sym, ap, subst, ◌∙◌, arith, inl, inr, ◌⊎◌, eqb-true, eq-eqb}
use Rattle.std.specs.List.{list_any}
use Rattle.std.proofs.lemmas.Bool.{false≢true, lt-ltb}
use Rattle.std.proofs.lemmas.Bool.Decides.{nat_tests}
use Rattle.base_types.specs.Edges.{upto}
use Rattle.base_types.specs.declared.histories.Entry.{Entry}
use Rattle.base_types.specs.declared.histories.Event.TheVariants.{Birth, Step, Snap as SnapEvent, Stable, Tried}
use Rattle.model_run_laws.specs.model_kernel.State.{Supply, EntityState, KernelState}
use Rattle.model_run_laws.specs.model_kernel.Scripts.{Script}
use Rattle.model_run_laws.specs.model_kernel.Words.{put}
use Rattle.model_run_laws.specs.model_kernel.Parts.{after}
use Rattle.model_run_laws.specs.model_kernel.Histories.{Policy, Run, event_of, writes, every_of, asked_by, with_asked, locus_in, version_of, has_wish, has_changed, commit_of, commits_of, commits_in, may, goes_on, went_on, IsLegalFrom, IsLegalRun, start_run, run_after}
use Rattle.model_run_laws.proofs.model_kernel_lemmas.LegalRuns.{state_after}
use Rattle.model_run_laws.proofs.Cuts.{chosen_same}
use Rattle.model_run_laws.proofs.Wishes.{asked_or}
use Rattle.model_run_rules.specs.Newest.{commit_count, newest_from, newest_in}
use Rattle.model_run_rules.specs.Wishes.{HasOpenWish, IsNamedBySnap, IsWrittenByStep}
use Rattle.model_run_rules.proofs.Counts.{count_append, count_other, count_own, count_picked, newest_append, newest_picked}
use Rattle.model_run_rules.proofs.Flags.{IsFlag, IsSet, is_set, was_set}
use Rattle.model_run_rules.proofs.Fresh.{IsFresh, fresh_next, fresh_start}
use Rattle.model_run_laws.proofs.model_kernel_lemmas.Basics.{and_right}

not_true : (a b : Bool) → (not a && b) ≡ true → a ≡ false
not_true true b h = absurd (false≢true h)
not_true false b h = refl

untouched : (e : Entry) (x : ℕ) → e.touched ≡ [] → writes e x ≡ false
untouched e x none = ap (λ ts. list_any (λ t. t.entity == x && t.wrote) ts) none

put_other : (f : ℕ → Bool) (y x : ℕ) → put f y false x ≡ true → (x == y) ≡ false
put_other f y x h = elim (x == y) as (λ b. (if b then false else f x) ≡ true → b ≡ false) [ true ↦ λ h. absurd (false≢true h) | false ↦ λ _. refl ] h

put_kept : (f : ℕ → Bool) (y x : ℕ) → put f y false x ≡ true → f x ≡ true
put_kept f y x h = elim (x == y) as (λ b. (if b then false else f x) ≡ true → f x ≡ true) [ true ↦ λ h. absurd (false≢true h) | false ↦ λ h. h ] h

turned : (x y : ℕ) → (x == y) ≡ false → (y == x) ≡ false
turned x y h = grind (arith, nat_tests)

-- A COMMIT TAKES BACK

module _ (r : Run) (x : ℕ) where
  snap_same : (y : ℕ) → (x == y) ≡ false → commit_count (r.commits ++ commit_of r y ∷ []) x ≡ commit_count r.commits x
  snap_same y other =
      let sum = count_append r.commits (commit_of r y ∷ []) x in
      let none = count_other (commit_of r y) x (turned x y other) in
      omega (arith, sum, none)

  -- a snap without a commit of the entity is of another one
  snap_apart : (y : ℕ) → commit_count (r.commits ++ commit_of r y ∷ []) x ≡ commit_count r.commits x → (x == y) ≡ false
  snap_apart y same =
      elim (x == y) as (λ b. (x == y) ≡ b → b ≡ false) [
        | true ↦ λ at. (
            let sum = count_append r.commits (commit_of r y ∷ []) x in
            let one = count_own (commit_of r y) x (sym (eqb-true _ _ at)) in
            absurd (omega (arith, sum, one, same)))
        | false ↦ λ _. refl
      ] refl

  -- a whole stable commits what has changed
  stable_counts : x < 64 → r.newest x < version_of r x → commit_count (r.commits ++ commits_of r (filter (has_changed r) (upto 64))) x ≡ commit_count r.commits x → ⊥
  stable_counts low changed same =
      let sum = count_append r.commits (commits_of r (filter (has_changed r) (upto 64))) x in
      let some = count_picked r (has_changed r) x low (lt-ltb _ _ changed) in
      omega (arith, sum, some, same)

module _ (s : Supply) (policy : Policy) (script : Script) (x : ℕ) (low : x < 64) where
  abbrev pub StepWrites : KernelState → Entry → Type 0
  StepWrites w e = (e.event ≡ Step) × (writes e x ≡ true)

  abbrev pub SnapNames : KernelState → Entry → Type 0
  SnapNames w e = (e.event ≡ Step) × (asked_by e.answer (locus_in (w e.actor).cell) ≡ Some x)

  flag_by_step : IsFlag s policy script x (λ r. r.by_step x) StepWrites (λ e. writes e x)
  flag_by_step = record {
    was = λ r e m. elim e.event as (λ ev. e.event ≡ ev → may s policy script r e ev → (went_on s script r e ev).by_step x ≡ true
        → ((e.event ≡ Step) × (writes e x ≡ true)) ⊎ ((r.by_step x ≡ true) × (writes e x ≡ false) × (commit_count (went_on s script r e ev).commits x ≡ commit_count r.commits x))) [
          | Birth ↦ λ is m h. inr (and_right (not (writes e x)) (r.by_step x) h, not_true (writes e x) (r.by_step x) h, refl)
          | Step ↦ λ is m h. elim (writes e x) as (λ b. writes e x ≡ b → (b || r.by_step x) ≡ true → ((e.event ≡ Step) × (b ≡ true)) ⊎ ((r.by_step x ≡ true) × (b ≡ false) × (commit_count r.commits x ≡ commit_count r.commits x))) [
            | true ↦ λ _ _. inl (is, refl)
            | false ↦ λ _ h. inr (h, refl, refl)
          ] refl h
          | SnapEvent ↦ λ is m h. inr (put_kept r.by_step e.actor x h, untouched e x (ap (λ (e : Entry). e.touched) m.0), snap_same r x e.actor (put_other r.by_step e.actor x h))
          | Stable ↦ λ is m h. absurd (false≢true h)
          | Tried ↦ λ is m h. inr (h, untouched e x (ap (λ (e : Entry). e.touched) m.0), refl)
        ] refl m.1;
    set = λ r e m k. ap (λ ev. (went_on s script r e ev).by_step x) k.0 ∙ ap (λ b. b || r.by_step x) k.1;
    stays = λ r e m fresh h none. elim e.event as (λ ev. may s policy script r e ev → commit_count (went_on s script r e ev).commits x ≡ commit_count r.commits x → (went_on s script r e ev).by_step x ≡ true) [
      | Birth ↦ λ m same. ap (λ b. not b && r.by_step x) none ∙ h
      | Step ↦ λ m same. ap (λ b. b || r.by_step x) none ∙ h
      | SnapEvent ↦ λ m same. ap (λ b. if b then false else r.by_step x) (snap_apart r x e.actor same) ∙ h
      | Stable ↦ λ m same. absurd (stable_counts r x low (fresh.by_step x h) same)
      | Tried ↦ λ m same. h
    ] m.1;
  }

  asked_set : (o : Option ℕ) (f : ℕ → Bool) → o ≡ Some x → with_asked o f x ≡ true
  asked_set o f is = ap (λ (o : Option ℕ). with_asked o f x) is ∙ ap (λ b. if b then true else f x) (eq-eqb x x refl)

  asked_kept : (o : Option ℕ) (f : ℕ → Bool) → f x ≡ true → with_asked o f x ≡ true
  asked_kept None f is = is
  asked_kept (Some y) f is = elim (x == y) as (λ b. (if b then true else f x) ≡ true) [ true ↦ refl | false ↦ is ]

  flag_asked : IsFlag s policy script x (λ r. r.asked x) SnapNames (λ _. false)
  flag_asked = record {
    was = λ r e m. elim e.event as (λ ev. e.event ≡ ev → (went_on s script r e ev).asked x ≡ true
        → ((e.event ≡ Step) × (asked_by e.answer (locus_in (r.state e.actor).cell) ≡ Some x)) ⊎ ((r.asked x ≡ true) × (false ≡ false) × (commit_count (went_on s script r e ev).commits x ≡ commit_count r.commits x))) [
          | Birth ↦ λ is h. inr (h, refl, refl)
          | Step ↦ λ is h. elim (asked_or (asked_by e.answer (locus_in (r.state e.actor).cell)) r.asked x h) as (λ _. ((e.event ≡ Step) × (asked_by e.answer (locus_in (r.state e.actor).cell) ≡ Some x)) ⊎ ((r.asked x ≡ true) × (false ≡ false) × (commit_count r.commits x ≡ commit_count r.commits x))) [
            | inl names ↦ inl (is, names)
            | inr h ↦ inr (h, refl, refl)
          ]
          | SnapEvent ↦ λ is h. inr (put_kept r.asked e.actor x h, refl, snap_same r x e.actor (put_other r.asked e.actor x h))
          | Stable ↦ λ is h. absurd (false≢true h)
          | Tried ↦ λ is h. inr (h, refl, refl)
        ] refl;
    set = λ r e m k. ap (λ ev. (went_on s script r e ev).asked x) k.0 ∙ asked_set (asked_by e.answer (locus_in (r.state e.actor).cell)) r.asked k.1;
    stays = λ r e m fresh h none. elim e.event as (λ ev. commit_count (went_on s script r e ev).commits x ≡ commit_count r.commits x → (went_on s script r e ev).asked x ≡ true) [
      | Birth ↦ λ same. h
      | Step ↦ λ same. asked_kept (asked_by e.answer (locus_in (r.state e.actor).cell)) r.asked h
      | SnapEvent ↦ λ same. ap (λ b. if b then false else r.asked x) (snap_apart r x e.actor same) ∙ h
      | Stable ↦ λ same. absurd (stable_counts r x low (fresh.asked x h) same)
      | Tried ↦ λ same. h
    ];
  }

  -- THE NEWEST COMMIT

  newest_next : (r : Run) (e : Entry) → IsFresh r → r.newest x ≡ newest_in r.commits x → (goes_on s script r e).newest x ≡ newest_in (goes_on s script r e).commits x
  newest_next r e fresh is =
      elim e.event as (λ ev. (went_on s script r e ev).newest x ≡ newest_in (went_on s script r e ev).commits x) [
        | Birth ↦ is
        | Step ↦ is
        | SnapEvent ↦ (
            let append = newest_append 0 r.commits (commit_of r e.actor ∷ []) x in
            let here : put r.newest e.actor (version_of r e.actor) x ≡ newest_from (newest_in r.commits x) (commit_of r e.actor ∷ []) x =
            elim (x == e.actor) as (λ b. (x == e.actor) ≡ b → (if b then version_of r e.actor else r.newest x) ≡ (if e.actor == x then version_of r e.actor else newest_in r.commits x)) [
              | true ↦ λ at. sym (ap (λ b. if b then version_of r e.actor else newest_in r.commits x) (eq-eqb _ _ (sym (eqb-true _ _ at))))
              | false ↦ λ other. is ∙ sym (ap (λ b. if b then version_of r e.actor else newest_in r.commits x) (turned x e.actor other))
            ] refl in
            here ∙ sym append)
        | Stable ↦ (
            let append = newest_append 0 r.commits (commits_of r (filter (has_changed r) (upto 64))) x in
            let here = newest_picked r (has_changed r) (newest_in r.commits x) x low (λ same. sym is ∙ equal (r.newest x) (version_of r x) (fresh.low x) same) in
            sym here ∙ sym append)
        | Tried ↦ is
      ]
    where
      equal : (a b : ℕ) → a ≤ b → nat_lt a b ≡ false → a ≡ b
      equal a b le not_less = grind (arith, nat_tests)

  newest_over : (es : List Entry) (r : Run) → IsLegalFrom s policy script r es → IsFresh r → r.newest x ≡ newest_in r.commits x → (run_after s script r es).newest x ≡ newest_in (run_after s script r es).commits x
  newest_over [] r legal fresh is = is
  newest_over (e ∷ es) r legal fresh is = newest_over es (goes_on s script r e) legal.1 (fresh_next s policy script r e legal.0 fresh) (newest_next r e fresh is)

  newest_start : (w : KernelState) → (start_run w).newest x ≡ newest_in (start_run w).commits x
  newest_start w =
      let f : ℕ → Bool = λ x. nat_lt 0 (w x).version in
      sym (ap (λ cs. newest_in cs x) (chosen_same w (filter f (upto 64))) ∙ newest_picked (start_run w) f 0 x low (λ none. zero_of (w x).version none))
    where
      zero_of : (n : ℕ) → nat_lt 0 n ≡ false → 0 ≡ n
      zero_of n h = grind (arith, nat_tests)

  pub newest_told : (w : KernelState) (es : List Entry) → IsLegalRun s policy w script es → (run_after s script (start_run w) es).newest x ≡ newest_in (commits_in s script w es) x
  newest_told w es legal = newest_over es (start_run w) legal (fresh_start w) (newest_start w)

  -- THE TWO CASES

  module _ (w : KernelState) (es : List Entry) (legal : IsLegalRun s policy w script es) where
    pub written_of : (run_after s script (start_run w) es).by_step x ≡ true → IsWrittenByStep s script w es x
    written_of is = elim (was_set s policy script x (λ r. r.by_step x) StepWrites (λ e. writes e x) flag_by_step es (start_run w) legal is) as (λ _. IsWrittenByStep s script w es x) [
      | inl k ↦ record { before = k.before; step = k.entry; later = k.later; split = k.split; made = k.sets.0; wrote = k.sets.1; last = k.last; since = k.since }
      | inr k ↦ absurd (false≢true k.0)
    ]

    pub of_written : IsWrittenByStep s script w es x → (run_after s script (start_run w) es).by_step x ≡ true
    of_written k =
        let set : IsSet s policy script x (λ r. r.by_step x) StepWrites (λ e. writes e x) (start_run w) es =
        record { before = k.before; entry = k.step; later = k.later; split = k.split; sets = (k.made, k.wrote); last = k.last; since = k.since } in
        is_set s policy script x (λ r. r.by_step x) StepWrites (λ e. writes e x) flag_by_step es (start_run w) legal (fresh_start w) set

    abbrev pub NamesAt : Entry → KernelState → Type 0
    NamesAt e v = asked_by e.answer (locus_in (v e.actor).cell) ≡ Some x

    pub named_of : (run_after s script (start_run w) es).asked x ≡ true → IsNamedBySnap s script w es x
    named_of is = elim (was_set s policy script x (λ r. r.asked x) SnapNames (λ _. false) flag_asked es (start_run w) legal is) as (λ _. IsNamedBySnap s script w es x) [
      | inl k ↦ record {
        before = k.before;
        step = k.entry;
        later = k.later;
        split = k.split;
        made = k.sets.0;
        since = k.since;
        named = subst (NamesAt k.entry) (state_after s policy script (start_run w) k.before) k.sets.1;
      }
      | inr k ↦ absurd (false≢true k.0)
    ]

    none_any : (fs : List Entry) → list_any (λ (_ : Entry). false) fs ≡ false
    none_any [] = refl
    none_any (e ∷ fs) = none_any fs

    pub of_named : IsNamedBySnap s script w es x → (run_after s script (start_run w) es).asked x ≡ true
    of_named k =
        let set : IsSet s policy script x (λ r. r.asked x) SnapNames (λ _. false) (start_run w) es =
        record {
          before = k.before;
          entry = k.step;
          later = k.later;
          split = k.split;
          last = none_any k.later;
          since = k.since;
          sets = (k.made, subst (NamesAt k.step) (sym (state_after s policy script (start_run w) k.before)) k.named);
        } in
        is_set s policy script x (λ r. r.asked x) SnapNames (λ _. false) flag_asked es (start_run w) legal (fresh_start w) set

    -- the policy's question
    abbrev pub asks_policy : ℕ → EntityState → Bool
    asks_policy newest b = policy (every_of b.cell) (b.version - newest)

    policy_same : asks_policy ((run_after s script (start_run w) es).newest x) ((run_after s script (start_run w) es).state x) ≡ asks_policy (newest_in (commits_in s script w es) x) (after (event_of s script) w es x)
    policy_same = λ i. asks_policy (newest_told w es legal i) (state_after s policy script (start_run w) es i x)

    or_cases : (a b c : Bool) → (a && b || c) ≡ true → ((a ≡ true) × (b ≡ true)) ⊎ (c ≡ true)
    or_cases true true c h = inl (refl, refl)
    or_cases true false c h = inr h
    or_cases false b c h = inr h

    or_back : (a b c : Bool) → ((a ≡ true) × (b ≡ true)) ⊎ (c ≡ true) → (a && b || c) ≡ true
    or_back a b c (inl k) = rw (k.0, k.1) refl
    or_back true true c (inr k) = refl
    or_back true false c (inr k) = k
    or_back false b c (inr k) = k

    pub wish_told : IsTrue (has_wish policy (run_after s script (start_run w) es) x) ↔ HasOpenWish s script w es x policy
    wish_told =
        let r = run_after s script (start_run w) es in
        let asks = asks_policy (r.newest x) (r.state x) in (
          λ h. elim (or_cases (r.by_step x) asks (r.asked x) h) as (λ _. HasOpenWish s script w es x policy) [
            | inl k ↦ inl (written_of k.0, sym policy_same ∙ k.1)
            | inr k ↦ inr (named_of k)
          ],
          λ k. or_back (r.by_step x) asks (r.asked x) (elim k as (λ _. ((r.by_step x ≡ true) × (asks ≡ true)) ⊎ (r.asked x ≡ true)) [
            | inl k ↦ inl (of_written k.0, policy_same ∙ k.1)
            | inr k ↦ inr (of_named k)
          ]),
        )
