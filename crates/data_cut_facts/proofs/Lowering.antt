-- A search loses no closed choice, and ends at a closed one.
use Rattle.std.proofs.Common.{◌≡◌, ◌≢◌, ℕ, zero, suc, ◌≤◌, ◌<◌, Bool, true, false, ◌||◌, ◌==◌, nat_lt, List, [], ◌∷◌, length, Option, Some, None, IfSome, MatchBool, ◌⊎◌, inl, inr, refl, sym, ap, subst, ◌∙◌, arith, eqb-true, eq-eqb}
use Rattle.std.proofs.lemmas.Bool.{ltb-true, cases_lt, false≢true}
use Rattle.std.proofs.lemmas.Bool.Decides.{nat_tests}
use Rattle.base_types.specs.declared.records.Rec.{Rec}
use Rattle.model_cut_laws.specs.model_kernel.Choices.{Commit, IsBelow, Among, IsClosedChoice, IsGreatest}
use Rattle.model_cut_laws.specs.Records.{commit_of, commits_of}
use Rattle.data_cut_facts.specs.Records.{IsAscending}
use Rattle.data_cut_facts.specs.Searches.{no_record, record_at, entity_at, stamp_at, version_in, version_at, IsOf, IsAfter, IsLastOf, IsCovered, needs_more, IsLoweredTo, IsMarked, IsSearch}

-- RECORDS AMONG COMMITS

-- a record by its place
pub among_at : (recs : List Rec) (P : Commit → Type 0) (i : ℕ) → i < length recs → P (commit_of (record_at recs i)) → Among (commits_of recs) P
among_at [] P i lt h = absurd (omega arith)
among_at (r ∷ recs) P zero lt h = inl h
among_at (r ∷ recs) P (suc i) lt h = inr (among_at recs P i (omega arith) h)

-- and its place
pub place_among : (recs : List Rec) (P : Commit → Type 0) → Among (commits_of recs) P → (i : ℕ) × (i < length recs) × P (commit_of (record_at recs i))
place_among [] P a = absurd a
place_among (r ∷ recs) P a = elim a as (λ _. (i : ℕ) × (i < suc (length recs)) × P (commit_of (record_at (r ∷ recs) i))) [
  | inl h ↦ (0, omega arith, h)
  | inr h ↦ (let w = place_among recs P h in (suc w.0, (let lt = w.1 in omega arith), w.2))
]

-- of two records of one entity the later has no lower version
pub ascends : (recs : List Rec) (i j : ℕ) → IsAscending recs → i ≤ j → j < length recs → entity_at recs i ≡ entity_at recs j → (record_at recs i).version ≤ (record_at recs j).version
ascends recs i j up le lt same = elim (cases_lt i j) as (λ _. (record_at recs i).version ≤ (record_at recs j).version) [
  | inl less ↦ up i j no_record less lt same
  | inr more ↦ (let e : i ≡ j = omega arith in subst (λ k. (record_at recs i).version ≤ (record_at recs k).version) e (omega arith))
]

module _ (low : ℕ → ℕ) (recs : List Rec) (up : IsAscending recs) where
  -- THE START
  module _ (narrow : (i : ℕ) → i < length recs → entity_at recs i < 64) where
    -- where the newest record of each entity is chosen, no closed choice is above
    above_newest : (chosen : ℕ → Option ℕ) (p : ℕ → ℕ) → ((x : ℕ) → x < 64 → IsLastOf low recs (length recs) x (chosen x))
        → ((x : ℕ) → p x ≡ version_at recs (low x) (chosen x)) → (x i : ℕ) → i < length recs → IsOf low recs x i → version_in recs i ≤ p x
    above_newest chosen p newest versions x i lt is =
        let few = narrow i lt in
        let last = newest x (let e = is.0 in omega arith) in
        subst (λ n. version_in recs i ≤ n) (sym (versions x)) (by_place (chosen x) last)
      where
        by_place : (o : Option ℕ) → IsLastOf low recs (length recs) x o → version_in recs i ≤ version_at recs (low x) o
        by_place None last = absurd (last.last i lt tt is)
        by_place (Some k) last = elim (cases_lt k i) as (λ _. version_in recs i ≤ version_in recs k) [
          | inl less ↦ absurd (last.last i lt less is)
          | inr more ↦ ascends recs i k up more last.one.0 (is.0 ∙ sym last.one.1.0)
        ]

    start_below : (x : ℕ) (o : Option ℕ) → IfSome o (λ k. (k < length recs) × IsOf low recs x k) → low x ≤ version_at recs (low x) o
    start_below x None one = omega arith
    start_below x (Some k) one = (let up = one.1.1 in omega arith)

    pub starts : (chosen : ℕ → Option ℕ) (p : ℕ → ℕ) (lacking : ℕ → Bool) → ((x : ℕ) → x < 64 → IsLastOf low recs (length recs) x (chosen x)) → ((x : ℕ) → 64 ≤ x → chosen x ≡ None)
        → ((x : ℕ) → p x ≡ version_at recs (low x) (chosen x)) → ((x : ℕ) → IsMarked recs p (chosen x) (lacking x)) → IsSearch low recs chosen p lacking
    starts chosen p lacking newest past versions marked = record {
      one = one_of;
      versions = versions;
      passed = λ x i lt after is _. (let few = narrow i lt in (newest x (let e = is.0 in omega arith)).last i lt after is);
      marked = marked;
      above = λ q closed x. elim (closed x) as (λ _. q x ≤ p x) [
        | inl none ↦ (let le = start_below x (chosen x) (one_of x) in let v = versions x in omega arith)
        | inr a ↦ (
            let w = place_among recs _ a in
            let v : version_in recs w.0 ≡ q x = w.2.1 in
            elim (cases_lt (low x) (version_in recs w.0)) as (λ _. q x ≤ p x) [
              | inl more ↦ (let le = above_newest chosen p newest versions x w.0 w.1 (w.2.0, more) in omega arith)
              | inr less ↦ (let le = start_below x (chosen x) (one_of x) in let e = versions x in omega arith)
            ])
      ];
    }
      where
        one_of : (x : ℕ) → IfSome (chosen x) (λ k. (k < length recs) × IsOf low recs x k)
        one_of x = elim (cases_lt x 64) as (λ _. IfSome (chosen x) (λ k. (k < length recs) × IsOf low recs x k)) [
          | inl few ↦ (newest x few).one
          | inr high ↦ subst (λ (o : Option ℕ). IfSome o (λ k. (k < length recs) × IsOf low recs x k)) (sym (past x high)) tt
        ]

  -- A FALL of the entity x from the record at k to the place o
  module _ (chosen chosen' : ℕ → Option ℕ) (p p' : ℕ → ℕ) (lacking lacking' : ℕ → Bool) (x k : ℕ) (o : Option ℕ) (s : IsSearch low recs chosen p lacking) (was : chosen x ≡ Some k) (lacks : lacking x ≡ true) (down : IsLoweredTo low recs k p o)
      (chosen_x : chosen' x ≡ o) (chosen_others : (y : ℕ) → y ≢ x → chosen' y ≡ chosen y)
      (p_x : p' x ≡ version_at recs (low x) o) (p_others : (y : ℕ) → y ≢ x → p' y ≡ p y)
      (marks_x : lacking' x ≡ needs_more recs (chosen' x) x (version_at recs (low x) o)) (marks_others : (y : ℕ) → y ≢ x → lacking' y ≡ (lacking y || needs_more recs (chosen' y) x (version_at recs (low x) o))) where
    at_k : (k < length recs) × IsOf low recs x k
    at_k = subst (λ (q : Option ℕ). IfSome q (λ k. (k < length recs) × IsOf low recs x k)) was (s.one x)

    version_k : p x ≡ version_in recs k
    version_k = s.versions x ∙ ap (version_at recs (low x)) was

    lower_by_place : (q : Option ℕ) → IfSome q (λ j. (j < k) × IsOf low recs (entity_at recs k) j) → version_at recs (low x) q ≤ version_in recs k
    lower_by_place None one = (let more = at_k.1.1 in omega arith)
    lower_by_place (Some j) one = (let lt = one.0 in let kk = at_k.0 in ascends recs j k up (omega arith) kk one.1.0)

    -- the entity of the record at k is x
    of_k : (i : ℕ) → IsOf low recs x i → IsOf low recs (entity_at recs k) i
    of_k i is = subst (λ y. IsOf low recs y i) (sym at_k.1.0) is

    of_x : (i : ℕ) → IsOf low recs (entity_at recs k) i → IsOf low recs x i
    of_x i is = subst (λ y. IsOf low recs y i) at_k.1.0 is

    falls : IsBelow p' p
    falls y = elim (y == x) as (λ b. (y == x) ≡ b → p' y ≤ p y) [
      | true ↦ λ is. (let e : y ≡ x = eqb-true _ _ is in subst (λ z. p' z ≤ p z) (sym e) (let low = lower_by_place o down.one in let v = version_k in let n = p_x in omega arith))
      | false ↦ λ is. (let n : y ≢ x = (λ e. false≢true (sym is ∙ eq-eqb _ _ e)) in let e = p_others y n in omega arith)
    ] refl

    -- what is covered after the fall was covered before
    covered_before : (q : Option ℕ) → IsCovered recs p' q → IsCovered recs p q
    covered_before None c = tt
    covered_before (Some i) c = λ y. (let one = c y in let two = falls y in omega arith)

    -- no record of x after the new place was covered
    passed_x : (i : ℕ) → i < length recs → IsAfter o i → IsOf low recs x i → IsCovered recs p (Some i) → ⊥
    passed_x i lt after is c = elim (cases_lt i k) as (λ _. ⊥) [
      | inl less ↦ down.newest i less after (of_k i is) c
      | inr more ↦ elim (cases_lt k i) as (λ _. ⊥) [
        | inl past ↦ s.passed x i lt (subst (λ (q : Option ℕ). IsAfter q i) (sym was) past) is c
        | inr here ↦ (
            let e : i ≡ k = omega arith in
            let mark : MatchBool (lacking x) (IsCovered recs p (chosen x) → ⊥) (IsCovered recs p (chosen x)) = s.marked x in
            let no : IsCovered recs p (chosen x) → ⊥ = subst (λ b. MatchBool b (IsCovered recs p (chosen x) → ⊥) (IsCovered recs p (chosen x))) lacks mark in
            no (subst (λ (q : Option ℕ). IsCovered recs p q) (sym was) (subst (λ j. IsCovered recs p (Some j)) e c)))
      ]
    ]

    -- a mark after the fall
    mark_after : (q : Option ℕ) (b : Bool) → IsMarked recs p q b → IsMarked recs p' q (b || needs_more recs q x (version_at recs (low x) o))
    mark_after None true m = absurd (m tt)
    mark_after None false m = tt
    mark_after (Some i) true m = λ c. m (covered_before (Some i) c)
    mark_after (Some i) false m =
        elim (nat_lt (version_at recs (low x) o) (stamp_at recs i x)) as (λ b. nat_lt (version_at recs (low x) o) (stamp_at recs i x) ≡ b → MatchBool b (IsCovered recs p' (Some i) → ⊥) (IsCovered recs p' (Some i))) [
          | true ↦ λ is c. (let lt = ltb-true _ _ is in let one = c x in let v = p_x in absurd (omega arith))
          | false ↦ λ is y. elim (y == x) as (λ b. (y == x) ≡ b → stamp_at recs i y ≤ p' y) [
            | true ↦ λ at. (let e : y ≡ x = eqb-true _ _ at in subst (λ z. stamp_at recs i z ≤ p' z) (sym e) (let v = p_x in let low : stamp_at recs i x ≤ version_at recs (low x) o = grind (arith, nat_tests) in omega arith))
            | false ↦ λ at. (let n : y ≢ x = (λ e. false≢true (sym at ∙ eq-eqb _ _ e)) in let e = p_others y n in let low = m y in omega arith)
          ] refl
        ] refl

    under_place : (r : Option ℕ) → IfSome r (λ j. (j < k) × IsOf low recs (entity_at recs k) j) → (i : ℕ) → IsOf low recs x i → (IsAfter r i → ⊥) → version_in recs i ≤ version_at recs (low x) r
    under_place None one i is not_after = absurd (not_after tt)
    under_place (Some j) one i is not_after = elim (cases_lt j i) as (λ _. version_in recs i ≤ version_in recs j) [
      | inl less ↦ absurd (not_after less)
      | inr more ↦ (let lt = one.0 in let kk = at_k.0 in ascends recs i j up more (omega arith) (is.0 ∙ sym (of_x j one.1).0))
    ]

    start_under : (r : Option ℕ) → IfSome r (λ j. (j < k) × IsOf low recs (entity_at recs k) j) → low x ≤ version_at recs (low x) r
    start_under None one = omega arith
    start_under (Some j) one = (let more = (of_x j one.1).1 in omega arith)

    -- no closed choice takes more than the new place
    above_after : (q : ℕ → ℕ) → IsClosedChoice low (commits_of recs) q → q x ≤ version_at recs (low x) o
    above_after q closed = elim (closed x) as (λ _. q x ≤ version_at recs (low x) o) [
      | inl none ↦ (let le = start_under o down.one in omega arith)
      | inr a ↦ (
          let w = place_among recs _ a in
          let v : version_in recs w.0 ≡ q x = w.2.1 in
          let c : IsCovered recs p (Some w.0) = (λ y. let one = w.2.2 y in let two = s.above q closed y in omega arith) in
          elim (cases_lt (low x) (version_in recs w.0)) as (λ _. q x ≤ version_at recs (low x) o) [
            | inl more ↦ (let le = under_place o down.one w.0 (w.2.0, more) (λ after. passed_x w.0 w.1 after (w.2.0, more) c) in omega arith)
            | inr less ↦ (let le = start_under o down.one in omega arith)
          ])
    ]

    pub falls_to : IsSearch low recs chosen' p' lacking'
    falls_to = record {
      one = λ y. at_each (λ y. IfSome (chosen' y) (λ i. (i < length recs) × IsOf low recs y i)) (subst (λ (q : Option ℕ). IfSome q (λ i. (i < length recs) × IsOf low recs x i)) (sym chosen_x) (within_x o down.one)) (λ y n. subst (λ (q : Option ℕ). IfSome q (λ i. (i < length recs) × IsOf low recs y i)) (sym (chosen_others y n)) (s.one y)) y;
      versions = λ y. at_each (λ y. p' y ≡ version_at recs (low y) (chosen' y)) (p_x ∙ ap (version_at recs (low x)) (sym chosen_x)) (λ y n. p_others y n ∙ s.versions y ∙ ap (version_at recs (low y)) (sym (chosen_others y n))) y;
      passed = λ y i lt after same c. at_each (λ y. IsAfter (chosen' y) i → IsOf low recs y i → ⊥)
          (λ after same. passed_x i lt (subst (λ (q : Option ℕ). IsAfter q i) chosen_x after) same (covered_before (Some i) c))
          (λ y n after same. s.passed y i lt (subst (λ (q : Option ℕ). IsAfter q i) (chosen_others y n) after) same (covered_before (Some i) c))
          y after same;
      marked = λ y. at_each (λ y. IsMarked recs p' (chosen' y) (lacking' y))
          (subst (λ b. IsMarked recs p' (chosen' x) b) (sym marks_x) (subst (λ (q : Option ℕ). IsMarked recs p' q (needs_more recs q x (version_at recs (low x) o))) (sym chosen_x) (mark_after o false down.covered)))
          (λ y n. subst (λ b. IsMarked recs p' (chosen' y) b) (sym (marks_others y n)) (mark_after (chosen' y) (lacking y) (subst (λ (q : Option ℕ). IsMarked recs p q (lacking y)) (sym (chosen_others y n)) (s.marked y))))
          y;
      above = λ q closed y. at_each (λ y. q y ≤ p' y) (let a = above_after q closed in let v = p_x in omega arith) (λ y n. let a = s.above q closed y in let v = p_others y n in omega arith) y;
    }
      where
        at_each : (P : ℕ → Type 0) → P x → ((y : ℕ) → y ≢ x → P y) → (y : ℕ) → P y
        at_each P at others y = elim (y == x) as (λ b. (y == x) ≡ b → P y) [
          | true ↦ λ is. subst P (sym (eqb-true _ _ is)) at
          | false ↦ λ is. others y (λ e. false≢true (sym is ∙ eq-eqb _ _ e))
        ] refl

        within_x : (q : Option ℕ) → IfSome q (λ j. (j < k) × IsOf low recs (entity_at recs k) j) → IfSome q (λ i. (i < length recs) × IsOf low recs x i)
        within_x None one = tt
        within_x (Some j) one = ((let lt = one.0 in let kk = at_k.0 in omega arith), of_x j one.1)

-- where no record asks for more, the choice is the greatest closed one
pub ends : (low : ℕ → ℕ) (recs : List Rec) (chosen : ℕ → Option ℕ) (p : ℕ → ℕ) (lacking : ℕ → Bool) → IsSearch low recs chosen p lacking → ((x : ℕ) → lacking x ≡ false) → IsGreatest low (commits_of recs) p
ends low recs chosen p lacking s none = record {
  closed = λ x. by_place x (chosen x) (s.one x) (s.versions x) (subst (λ b. IsMarked recs p (chosen x) b) (none x) (s.marked x));
  greatest = s.above;
}
  where
    by_place : (x : ℕ) (o : Option ℕ) → IfSome o (λ k. (k < length recs) × IsOf low recs x k) → p x ≡ version_at recs (low x) o → IsCovered recs p o
        → (p x ≡ low x) ⊎ Among (commits_of recs) (λ c. (c.entity ≡ x) × (c.version ≡ p x) × IsBelow c.stamp p)
    by_place x None one v c = inl v
    by_place x (Some k) one v c = inr (among_at recs _ k one.0 (one.1.0, sym v, c))
