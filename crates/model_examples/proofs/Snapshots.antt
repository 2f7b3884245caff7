-- The run of a snapshot that counts only with a second one.
use Rattle.std.proofs.Common.{◌≡◌, ℕ, ◌+◌, ◌≤◌, Bool, true, false, not, ◌&&◌, ◌==◌, cond, nat_le, if◌then◌else◌, ◌⊎◌, inl, inr, List, [], ◌∷◌, lit<, lit≤, max, refl, sym, ap, subst, ◌∙◌, arith, eqb-true}
use Rattle.std.proofs.lemmas.Bool.Decides.{nat_tests}
use Rattle.model_run_laws.specs.model_kernel.Choices.{Among, Commit, IsGreatest}
use Rattle.model_run_laws.specs.model_kernel.Histories.{IsLegalRun, commits_above, commits_in, run_after, start_run}
use Rattle.model_run_laws.specs.model_kernel.Refusals.{refusal}
use Rattle.model_run_laws.specs.model_kernel.Acts.{allowed, wanted}
use Rattle.model_run_laws.specs.model_kernel.Outcomes.{local_act, on_cell, with_newborn, outcome}
use Rattle.model_run_laws.specs.model_kernel.Changes.{changed}
use Rattle.model_run_laws.specs.model_kernel.Steps.{change_of, step_change}
use Rattle.model_run_laws.proofs.Few.{above_cons}
use Rattle.model_examples.specs.Snapshots.{always, both_snapshots, no_tables, no_words, one_snapshot, reached, recorded, version_at}
use Rattle.model_run_laws.proofs.model_cut_laws_lemmas.Joins.{Takes}

-- THE COMMITS

abbrev pub at_start : ℕ → Commit
at_start x = record { entity = x; version = version_at x; stamp = (recorded x).stamp }

-- the clock that the two have after the snap
abbrev pub joint : ℕ → ℕ
joint y = max (max (if 1 == y then 1 else 0) (if 1 == y then 2 else 0)) (max (max (if 41 == y then 1 else 0) (if 41 == y then 2 else 0)) 0)

abbrev pub after_snap : ℕ → Commit
after_snap x = record { entity = x; version = 2; stamp = joint }

one_is : commits_in no_words no_tables recorded one_snapshot ≡ at_start 0 ∷ at_start 1 ∷ at_start 41 ∷ after_snap 1 ∷ []
unfolding refusal allowed wanted local_act on_cell with_newborn outcome changed change_of step_change
one_is = refl

both_are : commits_in no_words no_tables recorded both_snapshots ≡ at_start 0 ∷ at_start 1 ∷ at_start 41 ∷ after_snap 1 ∷ after_snap 41 ∷ []
unfolding refusal allowed wanted local_act on_cell with_newborn outcome changed change_of step_change
both_are = refl

-- LEGAL

one_of_41 : (a b c d : Commit) (cut : ℕ → ℕ) → (a.entity == 41) ≡ false → (b.entity == 41) ≡ false → (d.entity == 41) ≡ false → not (nat_le 4 (commits_above (a ∷ b ∷ c ∷ d ∷ []) cut 41)) ≡ true
one_of_41 a b c d cut p q r =
    let ea = above_cons a (b ∷ c ∷ d ∷ []) cut 41 ∙ ap (λ t. cond (t && nat_le (cut 41) a.version) 1 0 + commits_above (b ∷ c ∷ d ∷ []) cut 41) p in
    let eb = above_cons b (c ∷ d ∷ []) cut 41 ∙ ap (λ t. cond (t && nat_le (cut 41) b.version) 1 0 + commits_above (c ∷ d ∷ []) cut 41) q in
    let ec = above_cons c (d ∷ []) cut 41 in
    let ed = above_cons d [] cut 41 ∙ ap (λ t. cond (t && nat_le (cut 41) d.version) 1 0 + commits_above [] cut 41) r in
    let z : commits_above [] cut 41 ≡ 0 = refl in
    let one = at_most_one (c.entity == 41 && nat_le (cut 41) c.version) in
    few (commits_above (a ∷ b ∷ c ∷ d ∷ []) cut 41) (omega (arith, ea, eb, ec, ed, z, one))
  where
    at_most_one : (b : Bool) → cond b 1 0 ≤ 1
    at_most_one true = omega arith
    at_most_one false = omega arith

    few : (n : ℕ) → n ≤ 1 → not (nat_le 4 n) ≡ true
    few n le = elim (nat_le 4 n) as (λ b. nat_le 4 n ≡ b → not b ≡ true) [ true ↦ λ is. absurd (too_many n is le) | false ↦ λ _. refl ] refl
      where
        too_many : (n : ℕ) → nat_le 4 n ≡ true → n ≤ 1 → ⊥
        too_many n is le = grind (arith, nat_tests)

-- the locus is not full, whatever the cut
not_full : (cut : ℕ → ℕ) → not (nat_le 4 (commits_above (commits_in no_words no_tables recorded one_snapshot) cut 41)) ≡ true
not_full cut = ap (λ cs. not (nat_le 4 (commits_above cs cut 41))) one_is ∙ one_of_41 (at_start 0) (at_start 1) (at_start 41) (after_snap 1) cut refl refl refl

pub legal : IsLegalRun no_words always recorded no_tables both_snapshots
unfolding refusal allowed wanted local_act on_cell with_newborn outcome changed change_of step_change
legal = (
  (refl, (refl, refl, lit< tt, refl, refl)),
  ((refl, (refl, inl (refl, refl, refl))), ((refl, (refl, inl (refl, not_full (run_after no_words no_tables (start_run recorded) one_snapshot).cut, refl))), tt)),
)

-- THE FIRST RECORD ALONE

keeper_stays : (q : ℕ → ℕ) (a b c d : Commit) → a.entity ≡ 0 → b.entity ≡ 1 → c.version ≡ 1 → d.entity ≡ 1 → Among (a ∷ b ∷ c ∷ d ∷ []) (Takes q 41) → q 41 ≡ 1
keeper_stays q a b c d ea eb vc ed (inl k) = (let e = k.0 in absurd (omega (arith, e, ea)))
keeper_stays q a b c d ea eb vc ed (inr (inl k)) = (let e = k.0 in absurd (omega (arith, e, eb)))
keeper_stays q a b c d ea eb vc ed (inr (inr (inl k))) = sym k.1 ∙ vc
keeper_stays q a b c d ea eb vc ed (inr (inr (inr (inl k)))) = (let e = k.0 in absurd (omega (arith, e, ed)))
keeper_stays q a b c d ea eb vc ed (inr (inr (inr (inr none)))) = absurd none

module _ (q top : ℕ → ℕ) where
  at_most : (x : ℕ) (c : Commit) → Takes q x c → c.version ≤ top c.entity → q x ≤ top x
  at_most x c k low = (let is = k.1 in subst (λ z. q x ≤ top z) k.0 (omega (arith, is, low)))

  four_low : (x : ℕ) (a b c d : Commit) → a.version ≤ top a.entity → b.version ≤ top b.entity → c.version ≤ top c.entity → (Takes q x d → ⊥) → Among (a ∷ b ∷ c ∷ d ∷ []) (Takes q x) → q x ≤ top x
  four_low x a b c d la lb lc never (inl k) = at_most x a k la
  four_low x a b c d la lb lc never (inr (inl k)) = at_most x b k lb
  four_low x a b c d la lb lc never (inr (inr (inl k))) = at_most x c k lc
  four_low x a b c d la lb lc never (inr (inr (inr (inl k)))) = absurd (never k)
  four_low x a b c d la lb lc never (inr (inr (inr (inr none)))) = absurd none

  five_low : (x : ℕ) (a b c d e : Commit) → a.version ≤ top a.entity → b.version ≤ top b.entity → c.version ≤ top c.entity → d.version ≤ top d.entity → e.version ≤ top e.entity → Among (a ∷ b ∷ c ∷ d ∷ e ∷ []) (Takes q x) → q x ≤ top x
  five_low x a b c d e la lb lc ld le (inl k) = at_most x a k la
  five_low x a b c d e la lb lc ld le (inr (inl k)) = at_most x b k lb
  five_low x a b c d e la lb lc ld le (inr (inr (inl k))) = at_most x c k lc
  five_low x a b c d e la lb lc ld le (inr (inr (inr (inl k)))) = at_most x d k ld
  five_low x a b c d e la lb lc ld le (inr (inr (inr (inr (inl k))))) = at_most x e k le
  five_low x a b c d e la lb lc ld le (inr (inr (inr (inr (inr none))))) = absurd none

start_greatest : IsGreatest version_at (at_start 0 ∷ at_start 1 ∷ at_start 41 ∷ after_snap 1 ∷ []) version_at
start_greatest = record {
  closed = λ x. inl refl;
  greatest = λ q closed x.
      let one : q 41 ≡ 1 = elim (closed 41) as (λ _. q 41 ≡ 1) [ inl e ↦ e | inr a ↦ keeper_stays q (at_start 0) (at_start 1) (at_start 41) (after_snap 1) refl refl refl refl a ] in
      elim (closed x) as (λ _. q x ≤ version_at x) [
        | inl e ↦ omega (arith, e)
        | inr a ↦ four_low q version_at x (at_start 0) (at_start 1) (at_start 41) (after_snap 1) (lit≤ tt) (lit≤ tt) (lit≤ tt) (λ k. (let rests : 2 ≤ q 41 = k.2 41 in omega (arith, rests, one))) a
      ];
}

pub abandoned : IsGreatest version_at (commits_in no_words no_tables recorded one_snapshot) version_at
abandoned = subst (λ cs. IsGreatest version_at cs version_at) (sym one_is) start_greatest

-- BOTH RECORDS

joint_low : (y : ℕ) → joint y ≤ reached y
joint_low y =
    elim (1 == y) as (λ b. (1 == y) ≡ b → max (max (if b then 1 else 0) (if b then 2 else 0)) (max (max (if 41 == y then 1 else 0) (if 41 == y then 2 else 0)) 0) ≤ reached y) [
      | true ↦ λ is. subst (λ z. max (max 1 2) (max (max (if 41 == z then 1 else 0) (if 41 == z then 2 else 0)) 0) ≤ reached z) (eqb-true 1 y is) (lit≤ tt)
      | false ↦ λ _. elim (41 == y) as (λ b. (41 == y) ≡ b → max (max 0 0) (max (max (if b then 1 else 0) (if b then 2 else 0)) 0) ≤ reached y) [
        | true ↦ λ is. subst (λ z. max (max 0 0) (max (max 1 2) 0) ≤ reached z) (eqb-true 41 y is) (lit≤ tt)
        | false ↦ λ _. omega arith
      ] refl
    ] refl

reached_more : (x : ℕ) → version_at x ≤ reached x
reached_more x = elim (x == 0) as (λ b. (if b then 2 else if x == 1 then 1 else if x == 41 then 1 else 0) ≤ (if b then 2 else if x == 1 then 2 else if x == 41 then 2 else 0)) [
  | true ↦ omega arith
  | false ↦ elim (x == 1) as (λ b. (if b then 1 else if x == 41 then 1 else 0) ≤ (if b then 2 else if x == 41 then 2 else 0)) [
    | true ↦ omega arith
    | false ↦ elim (x == 41) as (λ b. (if b then 1 else 0) ≤ (if b then 2 else 0)) [ true ↦ omega arith | false ↦ omega arith ]
  ]
]

abbrev pub all_five : List Commit
all_five = at_start 0 ∷ at_start 1 ∷ at_start 41 ∷ after_snap 1 ∷ after_snap 41 ∷ []

-- the start's version, or the record after the snap
abbrev pub IsReached : ℕ → Type 0
IsReached x = (reached x ≡ version_at x) ⊎ Among all_five (Takes reached x)

reached_closed : (x : ℕ) → IsReached x
reached_closed x =
    elim (x == 1) as (λ b. (x == 1) ≡ b → IsReached x) [
      | true ↦ λ is. subst IsReached (sym (eqb-true x 1 is)) (inr (inr (inr (inr (inl (refl, refl, joint_low))))))
      | false ↦ λ other. elim (x == 41) as (λ b. (x == 41) ≡ b → IsReached x) [
        | true ↦ λ is. subst IsReached (sym (eqb-true x 41 is)) (inr (inr (inr (inr (inr (inl (refl, refl, joint_low)))))))
        | false ↦ λ another. inl (rw (other, another) refl)
      ] refl
    ] refl

both_greatest : IsGreatest version_at all_five reached
both_greatest = record {
  closed = reached_closed;
  greatest = λ q closed x. elim (closed x) as (λ _. q x ≤ reached x) [
    | inl e ↦ (let low = reached_more x in omega (arith, e, low))
    | inr a ↦ five_low q reached x (at_start 0) (at_start 1) (at_start 41) (after_snap 1) (after_snap 41) (lit≤ tt) (lit≤ tt) (lit≤ tt) (lit≤ tt) (lit≤ tt) a
  ];
}

pub both : IsGreatest version_at (commits_in no_words no_tables recorded both_snapshots) reached
both = subst (λ cs. IsGreatest version_at cs reached) (sym both_are) both_greatest
