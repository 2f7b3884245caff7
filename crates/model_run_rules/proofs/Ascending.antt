-- The versions of an entity's commits strictly ascend.
use Rattle.std.proofs.Common.{◌≡◌, ℕ, zero, suc, ◌-◌, ◌≤◌, ◌<◌, Bool, true, false, ◌&&◌, ◌==◌, nat_lt, cond, if◌then◌else◌, List, [], ◌∷◌, ◌++◌, filter, option_to_list, None, inl, inr, refl, sym, ap, subst, ◌∙◌, arith, eq-eqb, eqb-true}
use Rattle.std.proofs.lemmas.Bool.{false≢true, ltb-true, or_cases}
use Rattle.std.proofs.lemmas.List.{append-nil}
use Rattle.std.proofs.lemmas.List.Elements.{filter-append}
use Rattle.base_types.specs.Edges.{upto}
use Rattle.base_types.specs.declared.histories.Entry.{Entry}
use Rattle.base_types.specs.declared.histories.Event.TheVariants.{Birth, Step, Snap as SnapEvent, Stable, Tried}
use Rattle.model_run_laws.specs.model_kernel.State.{Supply, KernelState}
use Rattle.model_run_laws.specs.model_kernel.Scripts.{Script}
use Rattle.model_run_laws.specs.model_kernel.Choices.{Commit}
use Rattle.model_run_laws.specs.model_kernel.Words.{put}
use Rattle.model_run_laws.specs.model_kernel.Fronts.{tried_commits}
use Rattle.model_run_laws.specs.model_kernel.Histories.{Policy, Run, IsLegalFrom, IsLegalRun, May, MayCommit, commit_of, commits_of, every_of, goes_on, has_changed, may, run_after, start_run, version_of, went_on}
use Rattle.model_run_laws.proofs.model_kernel_lemmas.CommitStamps.{AllCommits, all_append, all_map}
use Rattle.model_run_laws.proofs.Cuts.{chosen_same}
use Rattle.model_run_laws.proofs.Few.{found_true}
use Rattle.model_run_rules.specs.Records.{AreAbove, AreAscending}
use Rattle.model_run_rules.proofs.Fresh.{IsFresh, fresh_next, fresh_start}
use Rattle.model_run_laws.proofs.model_kernel_lemmas.Basics.{and_left}

-- LISTS

above_append : (c : Commit) (ds es : List Commit) → AreAbove c ds → AreAbove c es → AreAbove c (ds ++ es)
above_append c [] es a b = b
above_append c (d ∷ ds) es a b = (a.0, above_append c ds es a.1 b)

ascending_append : (cs ds : List Commit) → AreAscending cs → AreAscending ds → AllCommits (λ c. AreAbove c ds) cs → AreAscending (cs ++ ds)
ascending_append [] ds a b all = b
ascending_append (c ∷ cs) ds a b all = (above_append c cs ds a.0 all.0, ascending_append cs ds a.1 b all.1)

module _ (r : Run) where
  commits_append : (xs ys : List ℕ) → commits_of r (xs ++ ys) ≡ commits_of r xs ++ commits_of r ys
  commits_append [] ys = refl
  commits_append (x ∷ xs) ys = ap (λ cs. commit_of r x ∷ cs) (commits_append xs ys)

  module _ (f : ℕ → Bool) where
    split_last : (n : ℕ) → commits_of r (filter f (upto (suc n))) ≡ commits_of r (filter f (upto n)) ++ commits_of r (cond (f n) (n ∷ []) [])
    split_last n = ap (commits_of r) (filter-append f (upto n) (n ∷ [])) ∙ commits_append (filter f (upto n)) (filter f (n ∷ []))

    last_low : (n : ℕ) (b : Bool) → AllCommits (λ c. c.entity < suc n) (commits_of r (cond b (n ∷ []) []))
    last_low n true = (omega arith, tt)
    last_low n false = tt

    low_entities : (n : ℕ) → AllCommits (λ c. c.entity < n) (commits_of r (filter f (upto n)))
    low_entities zero = tt
    low_entities (suc n) =
        subst (AllCommits (λ c. c.entity < suc n)) (sym (split_last n))
        (all_append (λ c. c.entity < suc n) (commits_of r (filter f (upto n))) _ (all_map (λ c. c.entity < n) (λ c. c.entity < suc n) (λ c h. omega (arith, h)) (commits_of r (filter f (upto n))) (low_entities n)) (last_low n (f n)))

    last_ascending : (n : ℕ) (b : Bool) → AreAscending (commits_of r (cond b (n ∷ []) []))
    last_ascending n true = (tt, tt)
    last_ascending n false = tt

    last_above : (c : Commit) (n : ℕ) (b : Bool) → c.entity < n → AreAbove c (commits_of r (cond b (n ∷ []) []))
    last_above c n true low = (λ same. absurd (omega (arith, low, same)), tt)
    last_above c n false low = tt

    -- each entity has one
    picked_ascending : (n : ℕ) → AreAscending (commits_of r (filter f (upto n)))
    picked_ascending zero = tt
    picked_ascending (suc n) =
        subst AreAscending (sym (split_last n))
        (ascending_append (commits_of r (filter f (upto n))) _ (picked_ascending n) (last_ascending n (f n)) (all_map (λ c. c.entity < n) _ (λ c h. last_above c n (f n) h) (commits_of r (filter f (upto n))) (low_entities n)))

  -- what has changed is above what was committed
  abbrev pub AllChanged : List ℕ → Type 0
  AllChanged [] = Unit {0}
  AllChanged (x ∷ xs) = (r.newest x < version_of r x) × AllChanged xs

  changed_above : (c : Commit) → c.version ≤ r.newest c.entity → (xs : List ℕ) → AllChanged xs → AreAbove c (commits_of r xs)
  changed_above c low [] all = tt
  changed_above c low (x ∷ xs) all = (
    λ same. (let h : r.newest c.entity < version_of r x = subst (λ y. r.newest y < version_of r x) (sym same) all.0 in omega (arith, low, h)),
    changed_above c low xs all.1,
  )

  picked_changed : (xs : List ℕ) → AllChanged (filter (has_changed r) xs)
  picked_changed [] = tt
  picked_changed (x ∷ xs) =
      elim (has_changed r x) as (λ b. has_changed r x ≡ b → AllChanged (cond b (x ∷ filter (has_changed r) xs) (filter (has_changed r) xs))) [
        | true ↦ λ is. (ltb-true _ _ is, picked_changed xs)
        | false ↦ λ _. picked_changed xs
      ] refl

-- THE INVARIANT

pub record IsAscendingRun (r : Run) : Type 0 where
  pub ascending : AreAscending r.commits
  pub low : AllCommits (λ c. c.version ≤ r.newest c.entity) r.commits

-- with these commits
with_changed : (r : Run) → IsAscendingRun r → (xs : List ℕ) → AllChanged r xs → AreAscending (commits_of r xs) → AreAscending (r.commits ++ commits_of r xs)
with_changed r k xs changed ascending = ascending_append r.commits (commits_of r xs) k.ascending ascending (all_map _ _ (λ c low. changed_above r c low xs changed) r.commits k.low)

-- what may be committed has changed
commit_changed : (policy : Policy) (r : Run) (x : ℕ) → IsFresh r → MayCommit policy r x → r.newest x < version_of r x
commit_changed policy r x fresh m = elim m as (λ _. r.newest x < version_of r x) [
  | inl c ↦ elim (or_cases (r.by_step x && policy (every_of (r.state x).cell) (version_of r x - r.newest x)) (r.asked x) c.0) as (λ _. r.newest x < version_of r x) [
    | inl h ↦ fresh.by_step x (and_left (r.by_step x) _ h)
    | inr h ↦ fresh.asked x h
  ]
  | inr c ↦ ltb-true _ _ (found_true (has_changed r) (upto 64) x c.1)
]

present_low : (r : Run) (newest : ℕ → ℕ) (xs : List ℕ) → ((x : ℕ) → newest x ≡ version_of r x) → AllCommits (λ c. c.version ≤ newest c.entity) (commits_of r xs)
present_low r newest [] now = tt
present_low r newest (x ∷ xs) now = ((let e = now x in omega (arith, e)), present_low r newest xs now)

module _ (s : Supply) (policy : Policy) (script : Script) where
  ascending_next : (r : Run) (e : Entry) → May s policy script r e → IsFresh r → IsAscendingRun r → IsAscendingRun (goes_on s script r e)
  ascending_next r e m fresh k =
      elim e.event as (λ ev. may s policy script r e ev → IsAscendingRun (went_on s script r e ev)) [
        | Birth ↦ λ m. record { ascending = k.ascending; low = k.low }
        | Step ↦ λ m. record { ascending = k.ascending; low = k.low }
        | SnapEvent ↦ λ m. (
            let x = e.actor in
            record {
              ascending = with_changed r k (x ∷ []) (commit_changed policy r x fresh m.1, tt) (tt, tt);
              low = all_append (λ c. c.version ≤ put r.newest x (version_of r x) c.entity) r.commits (commit_of r x ∷ []) (all_map _ _ (λ c low. raised c.version c.entity x low) r.commits k.low) (own x, tt);
            })
        | Stable ↦ λ m. (
            let xs = filter (has_changed r) (upto 64) in
            record {
              ascending = with_changed r k xs (picked_changed r (upto 64)) (picked_ascending r (has_changed r) 64);
              low = all_append (λ c. c.version ≤ version_of r c.entity) r.commits (commits_of r xs) (all_map _ _ (λ c low. (let h = fresh.low c.entity in omega (arith, low, h))) r.commits k.low) (present_low r (version_of r) xs (λ x. refl));
            })
        | Tried ↦ λ m. record { ascending = k.ascending; low = k.low }
      ] m.1
    where
      raised : (v y x : ℕ) → v ≤ r.newest y → v ≤ put r.newest x (version_of r x) y
      raised v y x low = elim (y == x) as (λ b. (y == x) ≡ b → v ≤ (if b then version_of r x else r.newest y)) [
        | true ↦ λ is. (let h = fresh.low y in let same : version_of r y ≡ version_of r x = ap (version_of r) (eqb-true _ _ is) in omega (arith, low, h, same))
        | false ↦ λ _. low
      ] refl

      own : (x : ℕ) → version_of r x ≤ put r.newest x (version_of r x) x
      own x = elim (x == x) as (λ b. (x == x) ≡ b → version_of r x ≤ (if b then version_of r x else r.newest x)) [
        | true ↦ λ _. omega arith
        | false ↦ λ is. absurd (false≢true (sym is ∙ eq-eqb x x refl))
      ] refl

  -- the tried one, if any, is above them
  abbrev pub IsTriedAbove : Run → Type 0
  IsTriedAbove r = AreAscending (r.commits ++ option_to_list r.tried)

  ascending_over : (es : List Entry) (r : Run) → IsLegalFrom s policy script r es → IsFresh r → IsAscendingRun r → IsTriedAbove r → IsTriedAbove (run_after s script r es)
  ascending_over [] r legal fresh k tried = tried
  ascending_over (e ∷ es) r legal fresh k tried =
      let next = ascending_next r e legal.0 fresh k in
      ascending_over es (goes_on s script r e) legal.1 (fresh_next s policy script r e legal.0 fresh) next (tried_next next)
    where
      none_tried : (q : Run) → q.tried ≡ None → AreAscending q.commits → IsTriedAbove q
      none_tried q none ascending = subst AreAscending (sym (ap (λ o. q.commits ++ option_to_list o) none ∙ append-nil q.commits)) ascending

      tried_next : IsAscendingRun (goes_on s script r e) → IsTriedAbove (goes_on s script r e)
      tried_next next =
          elim e.event as (λ ev. may s policy script r e ev → IsAscendingRun (went_on s script r e ev) → IsTriedAbove (went_on s script r e ev)) [
            | Birth ↦ λ m next. none_tried (went_on s script r e Birth) legal.0.0 next.ascending
            | Step ↦ λ m next. none_tried (went_on s script r e Step) legal.0.0 next.ascending
            | SnapEvent ↦ λ m next. none_tried (went_on s script r e SnapEvent) legal.0.0 next.ascending
            | Stable ↦ λ m next. none_tried (went_on s script r e Stable) legal.0.0 next.ascending
            | Tried ↦ λ m next. with_changed r k (e.actor ∷ []) (commit_changed policy r e.actor fresh m.1, tt) (tt, tt)
          ] legal.0.1 next

  pub commits_ascend : (w : KernelState) (es : List Entry) → IsLegalRun s policy w script es → AreAscending (tried_commits s script w es)
  commits_ascend w es legal =
      let r = start_run w in
      let xs = filter (λ x. nat_lt 0 (w x).version) (upto 64) in
      let same = chosen_same w xs in
      let ascending : AreAscending r.commits = subst AreAscending (sym same) (picked_ascending r (λ x. nat_lt 0 (w x).version) 64) in
      let low : AllCommits (λ c. c.version ≤ r.newest c.entity) r.commits = subst (AllCommits (λ c. c.version ≤ r.newest c.entity)) (sym same) (present_low r r.newest xs (λ x. refl)) in
      ascending_over es r legal (fresh_start w) (record { ascending = ascending; low = low }) (subst AreAscending (sym (append-nil r.commits)) ascending)
