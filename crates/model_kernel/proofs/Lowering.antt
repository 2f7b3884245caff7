-- The one-greatest law, by lowering.
use Rattle.std.proofs.Common.{◌≡◌, ℕ, zero, suc, ◌+◌, ◌≤◌, ◌<◌, Bool, true, false, ◌&&◌, ◌==◌, nat_le, if◌then◌else◌, ◌⊎◌, inl, inr, List, [], ◌∷◌, ◌++◌, length, max, refl, sym, ap, subst, ◌∙◌, arith, eqb-true, eq-eqb}
use Rattle.std.proofs.Math.Nat.{max-le, le-max_left, le-max_right}
use Rattle.std.proofs.lemmas.Bool.{leb-true, le-leb, cases_lt, false≢true}
use Rattle.std.proofs.lemmas.Bool.Decides.{nat_tests}
use Rattle.std.specs.List.{list_all}
use Rattle.model_kernel.specs.Choices.{Commit, IsBelow, Among, IsClosedChoice, IsGreatest, IsNarrow, all_below, covered, lowered, top, lower, greatest}
use Rattle.model_kernel.proofs.Among.{among_map, among_some, among_more}
use Rattle.model_kernel.proofs.Basics.{and_left, and_right, both, lt_of_ne}

pub max_cases : (a b : ℕ) → (max a b ≡ a) ⊎ (max a b ≡ b)
max_cases a b = elim (cases_lt a b) as (λ _. (max a b ≡ a) ⊎ (max a b ≡ b)) [ inl h ↦ inr (omega arith) | inr h ↦ inl (omega arith) ]

not_le : (a b : ℕ) → b < a → nat_le a b ≡ false
not_le a b h = grind (arith, nat_tests)

-- COVERED

below_all : (f : ℕ → Bool) (n : ℕ) → all_below f n ≡ true → (y : ℕ) → y < n → f y ≡ true
below_all f zero h y lt = absurd (omega arith)
below_all f (suc n) h y lt = elim (cases_lt y n) as (λ _. f y ≡ true) [
  | inl low ↦ below_all f n (and_left (all_below f n) (f n) h) y low
  | inr high ↦ (let e : n ≡ y = omega arith in subst (λ k. f k ≡ true) e (and_right (all_below f n) (f n) h))
]

all_passed : (f : ℕ → Bool) (n : ℕ) → ((y : ℕ) → f y ≡ true) → all_below f n ≡ true
all_passed f zero h = refl
all_passed f (suc n) h = both _ _ (all_passed f n h) (h n)

covered_below : (stamp p : ℕ → ℕ) → ((y : ℕ) → 64 ≤ y → stamp y ≡ 0) → covered stamp p ≡ true → IsBelow stamp p
unfolding covered
covered_below stamp p narrow h y = elim (cases_lt y 64) as (λ _. stamp y ≤ p y) [
  | inl low ↦ leb-true _ _ (below_all (λ y. nat_le (stamp y) (p y)) 64 h y low)
  | inr high ↦ (let e = narrow y high in omega arith)
]

below_covered : (stamp p : ℕ → ℕ) → IsBelow stamp p → covered stamp p ≡ true
unfolding covered
below_covered stamp p h = all_passed (λ y. nat_le (stamp y) (p y)) 64 (λ y. le-leb _ _ (h y))

module _ (start : ℕ → ℕ) where
  -- what a commit must be for p to take it
  abbrev pub Taken : (ℕ → ℕ) → ℕ → ℕ → Commit → Type 0
  Taken p x n c = (c.entity ≡ x) × (c.version ≡ n) × (c.version ≤ p x) × (covered c.stamp p ≡ true)

  start_low : (cs : List Commit) (p : ℕ → ℕ) (x : ℕ) → start x ≤ lowered start cs p x
  start_low [] p x = omega arith
  start_low (c ∷ cs) p x =
      let rest = start_low cs p x in
      let m = le-max_right c.version (lowered start cs p x) in
      elim (c.entity == x && nat_le c.version (p x) && covered c.stamp p) as (λ b. start x ≤ (if b then max c.version (lowered start cs p x) else lowered start cs p x)) [ true ↦ omega arith | false ↦ rest ]

  lowered_high : (cs : List Commit) (p : ℕ → ℕ) (x : ℕ) → start x ≤ p x → lowered start cs p x ≤ p x
  lowered_high [] p x h = h
  lowered_high (c ∷ cs) p x h =
      elim (c.entity == x && nat_le c.version (p x) && covered c.stamp p) as (λ b. (c.entity == x && nat_le c.version (p x) && covered c.stamp p) ≡ b → (if b then max c.version (lowered start cs p x) else lowered start cs p x) ≤ p x) [
        | true ↦ λ is. max-le (leb-true _ _ (and_right (c.entity == x) (nat_le c.version (p x)) (and_left (c.entity == x && nat_le c.version (p x)) (covered c.stamp p) is))) (lowered_high cs p x h)
        | false ↦ λ is. lowered_high cs p x h
      ] refl

  lowered_cases : (cs : List Commit) (p : ℕ → ℕ) (x : ℕ) → (lowered start cs p x ≡ start x) ⊎ Among cs (Taken p x (lowered start cs p x))
  lowered_cases [] p x = inl refl
  lowered_cases (c ∷ cs) p x =
      elim (c.entity == x && nat_le c.version (p x) && covered c.stamp p) as (λ b. (c.entity == x && nat_le c.version (p x) && covered c.stamp p) ≡ b
      → ((if b then max c.version (lowered start cs p x) else lowered start cs p x) ≡ start x) ⊎ Among (c ∷ cs) (Taken p x (if b then max c.version (lowered start cs p x) else lowered start cs p x))) [
        | true ↦ λ is.
            let one = and_left (c.entity == x && nat_le c.version (p x)) (covered c.stamp p) is in
            elim (max_cases c.version (lowered start cs p x)) as (λ _. (max c.version (lowered start cs p x) ≡ start x) ⊎ Among (c ∷ cs) (Taken p x (max c.version (lowered start cs p x)))) [
              | inl e ↦ inr (inl (eqb-true _ _ (and_left (c.entity == x) (nat_le c.version (p x)) one), sym e, leb-true _ _ (and_right (c.entity == x) (nat_le c.version (p x)) one), and_right (c.entity == x && nat_le c.version (p x)) (covered c.stamp p) is))
              | inr e ↦ subst (λ n. (n ≡ start x) ⊎ Among (c ∷ cs) (Taken p x n)) (sym e) (weak (lowered start cs p x) (lowered_cases cs p x))
            ]
        | false ↦ λ is. weak (lowered start cs p x) (lowered_cases cs p x)
      ] refl
    where
      weak : (n : ℕ) → (n ≡ start x) ⊎ Among cs (Taken p x n) → (n ≡ start x) ⊎ Among (c ∷ cs) (Taken p x n)
      weak n a = elim a as (λ _. (n ≡ start x) ⊎ Among (c ∷ cs) (Taken p x n)) [ inl e ↦ inl e | inr e ↦ inr (inr e) ]

  taken_low : (cs : List Commit) (p : ℕ → ℕ) (x n : ℕ) → Among cs (Taken p x n) → n ≤ lowered start cs p x
  taken_low [] p x n a = absurd a
  taken_low (c ∷ cs) p x n a =
      elim (c.entity == x && nat_le c.version (p x) && covered c.stamp p) as (λ b. (c.entity == x && nat_le c.version (p x) && covered c.stamp p) ≡ b → n ≤ (if b then max c.version (lowered start cs p x) else lowered start cs p x)) [
        | true ↦ λ is.
            let m = le-max_right c.version (lowered start cs p x) in
            let k = le-max_left c.version (lowered start cs p x) in
            elim a as (λ _. n ≤ max c.version (lowered start cs p x)) [ inl h ↦ (let e = h.1 in omega arith) | inr h ↦ (let r = taken_low cs p x n h in omega arith) ]
        | false ↦ λ is.
            elim a as (λ _. n ≤ lowered start cs p x) [
              | inl h ↦ (let yes' : (c.entity == x && nat_le c.version (p x) && covered c.stamp p) ≡ true = both _ _ (both _ _ (eq-eqb _ _ h.0) (le-leb _ _ h.2)) h.3 in absurd (false≢true (sym is ∙ yes')))
              | inr h ↦ taken_low cs p x n h
            ]
      ] refl

  -- A CHOICE, CLOSED OR NOT

  -- a version at the start, or that of some commit
  abbrev pub IsAny : List Commit → (ℕ → ℕ) → ℕ → Type 0
  IsAny cs p x = (p x ≡ start x) ⊎ Among cs (λ c. (c.entity ≡ x) × (c.version ≡ p x))

  any_lowered : (cs : List Commit) (p : ℕ → ℕ) (x : ℕ) → IsAny cs (lowered start cs p) x
  any_lowered cs p x = elim (lowered_cases cs p x) as (λ _. IsAny cs (lowered start cs p) x) [ inl e ↦ inl e | inr a ↦ inr (among_map cs _ _ (λ c h. (h.0, h.1)) a) ]

  top_cases : (cs : List Commit) (x : ℕ) → IsAny cs (top start cs) x
  top_cases [] x = inl refl
  top_cases (c ∷ cs) x =
      elim (c.entity == x) as (λ b. (c.entity == x) ≡ b → ((if b then max c.version (top start cs x) else top start cs x) ≡ start x) ⊎ Among (c ∷ cs) (λ d. (d.entity ≡ x) × (d.version ≡ (if b then max c.version (top start cs x) else top start cs x)))) [
        | true ↦ λ is. elim (max_cases c.version (top start cs x)) as (λ _. (max c.version (top start cs x) ≡ start x) ⊎ Among (c ∷ cs) (λ d. (d.entity ≡ x) × (d.version ≡ max c.version (top start cs x)))) [
          | inl e ↦ inr (inl (eqb-true _ _ is, sym e))
          | inr e ↦ subst (λ n. (n ≡ start x) ⊎ Among (c ∷ cs) (λ d. (d.entity ≡ x) × (d.version ≡ n))) (sym e) (weak (top_cases cs x))
        ]
        | false ↦ λ is. weak (top_cases cs x)
      ] refl
    where
      weak : IsAny cs (top start cs) x → (top start cs x ≡ start x) ⊎ Among (c ∷ cs) (λ d. (d.entity ≡ x) × (d.version ≡ top start cs x))
      weak a = elim a as (λ _. (top start cs x ≡ start x) ⊎ Among (c ∷ cs) (λ d. (d.entity ≡ x) × (d.version ≡ top start cs x))) [ inl e ↦ inl e | inr e ↦ inr (inr e) ]

  top_start : (cs : List Commit) (x : ℕ) → start x ≤ top start cs x
  top_start [] x = omega arith
  top_start (c ∷ cs) x =
      let rest = top_start cs x in
      let m = le-max_right c.version (top start cs x) in
      elim (c.entity == x) as (λ b. start x ≤ (if b then max c.version (top start cs x) else top start cs x)) [ true ↦ omega arith | false ↦ rest ]

  top_commit : (cs : List Commit) (x n : ℕ) → Among cs (λ c. (c.entity ≡ x) × (c.version ≡ n)) → n ≤ top start cs x
  top_commit [] x n a = absurd a
  top_commit (c ∷ cs) x n a =
      elim (c.entity == x) as (λ b. (c.entity == x) ≡ b → n ≤ (if b then max c.version (top start cs x) else top start cs x)) [
        | true ↦ λ is.
            let m = le-max_right c.version (top start cs x) in
            let k = le-max_left c.version (top start cs x) in
            elim a as (λ _. n ≤ max c.version (top start cs x)) [ inl h ↦ (let e = h.1 in omega arith) | inr h ↦ (let r = top_commit cs x n h in omega arith) ]
        | false ↦ λ is. elim a as (λ _. n ≤ top start cs x) [
          | inl h ↦ absurd (false≢true (sym is ∙ eq-eqb _ _ h.0))
          | inr h ↦ top_commit cs x n h
        ]
      ] refl

  -- NO CLOSED CHOICE IS LOST

  kept_choice : (cs : List Commit) (p q : ℕ → ℕ) → IsClosedChoice start cs q → IsBelow q p → IsBelow q (lowered start cs p)
  kept_choice cs p q closed below x =
      elim (closed x) as (λ _. q x ≤ lowered start cs p x) [
        | inl e ↦ (let s = start_low cs p x in omega arith)
        | inr a ↦ taken_low cs p x (q x) (among_map cs _ _ (λ c h.
            let low = below x in
            let v = h.1 in
            (h.0, h.1, (let r : c.version ≤ p x = omega arith in r), below_covered c.stamp p (λ y. let one = h.2 y in let two = below y in omega arith))) a)
      ]

  under_top : (cs : List Commit) (q : ℕ → ℕ) → IsClosedChoice start cs q → IsBelow q (top start cs)
  under_top cs q closed x =
      elim (closed x) as (λ _. q x ≤ top start cs x) [
        | inl e ↦ (let s = top_start cs x in omega arith)
        | inr a ↦ top_commit cs x (q x) (among_map cs _ _ (λ c h. (h.0, h.1)) a)
      ]

  kept_rounds : (n : ℕ) (cs : List Commit) (p q : ℕ → ℕ) → IsClosedChoice start cs q → IsBelow q p → IsBelow q (lower n start cs p)
  kept_rounds zero cs p q closed below = below
  kept_rounds (suc n) cs p q closed below = kept_rounds n cs (lowered start cs p) q closed (kept_choice cs p q closed below)

  -- what falls no more is closed
  pub fixed_closed : (cs : List Commit) (p : ℕ → ℕ) → IsNarrow cs → ((x : ℕ) → lowered start cs p x ≡ p x) → IsClosedChoice start cs p
  fixed_closed cs p narrow fixed x =
      elim (lowered_cases cs p x) as (λ _. (p x ≡ start x) ⊎ Among cs (λ c. (c.entity ≡ x) × (c.version ≡ p x) × IsBelow c.stamp p)) [
        | inl e ↦ inl (sym (fixed x) ∙ e)
        | inr a ↦ inr (closing cs narrow a)
      ]
    where
      closing : (ds : List Commit) → IsNarrow ds → Among ds (Taken p x (lowered start cs p x)) → Among ds (λ c. (c.entity ≡ x) × (c.version ≡ p x) × IsBelow c.stamp p)
      closing [] narrow a = a
      closing (c ∷ ds) narrow a = elim a as (λ _. Among (c ∷ ds) (λ c. (c.entity ≡ x) × (c.version ≡ p x) × IsBelow c.stamp p)) [
        | inl h ↦ inl (h.0, h.1 ∙ fixed x, covered_below c.stamp p narrow.0 h.3)
        | inr h ↦ inr (closing ds narrow.1 h)
      ]

  -- IT ENDS

  -- the commits that are not above p
  left : List Commit → (ℕ → ℕ) → ℕ
  left [] p = 0
  left (c ∷ cs) p = (if nat_le c.version (p c.entity) then 1 else 0) + left cs p

  one_le : (a : ℕ) (f g : ℕ) → f ≤ g → (if nat_le a f then 1 else 0) ≤ (if nat_le a g then 1 else 0)
  one_le a f g h =
      elim (nat_le a f) as (λ b. nat_le a f ≡ b → (if b then 1 else 0) ≤ (if nat_le a g then 1 else 0)) [
        | true ↦ λ is. let low = leb-true _ _ is in let t : nat_le a g ≡ true = le-leb _ _ (omega arith) in rw t (omega arith)
        | false ↦ λ is. omega arith
      ] refl

  left_le : (cs : List Commit) (f g : ℕ → ℕ) → IsBelow f g → left cs f ≤ left cs g
  unfolding left
  left_le [] f g h = omega arith
  left_le (c ∷ cs) f g h = let a = one_le c.version (f c.entity) (g c.entity) (h c.entity) in let b = left_le cs f g h in omega arith

  left_less : (cs : List Commit) (f g : ℕ → ℕ) → IsBelow f g → Among cs (λ c. (c.version ≤ g c.entity) × (f c.entity < c.version)) → left cs f < left cs g
  unfolding left
  left_less [] f g h a = absurd a
  left_less (c ∷ cs) f g h a = elim a as (λ _. left (c ∷ cs) f < left (c ∷ cs) g) [
    | inl k ↦
        let yes' : nat_le c.version (g c.entity) ≡ true = le-leb _ _ k.0 in
        let no' : nat_le c.version (f c.entity) ≡ false = not_le c.version (f c.entity) k.1 in
        let b = left_le cs f g h in
        rw (yes', no') (omega arith)
    | inr k ↦ (let a = one_le c.version (f c.entity) (g c.entity) (h c.entity) in let b = left_less cs f g h k in omega arith)
  ]

  left_length : (cs : List Commit) (p : ℕ → ℕ) → left cs p ≤ length cs
  unfolding left
  left_length [] p = omega arith
  left_length (c ∷ cs) p =
      let r = left_length cs p in
      elim (nat_le c.version (p c.entity)) as (λ b. (if b then 1 else 0) + left cs p ≤ suc (length cs)) [ true ↦ omega arith | false ↦ omega arith ]

  some_fails : (f : Commit → Bool) (cs : List Commit) → list_all f cs ≡ false → Among cs (λ c. f c ≡ false)
  some_fails f [] h = absurd (false≢true (sym h))
  some_fails f (c ∷ cs) h = elim (f c) as (λ b. f c ≡ b → (b && list_all f cs) ≡ false → Among (c ∷ cs) (λ c. f c ≡ false)) [
    | true ↦ λ is h. inr (some_fails f cs h)
    | false ↦ λ is h. inl is
  ] refl h

  among_all : (f : Commit → Bool) (P : Commit → Type 0) (cs : List Commit) → list_all f cs ≡ true → Among cs P → Among cs (λ c. (f c ≡ true) × P c)
  among_all f P [] h a = a
  among_all f P (c ∷ cs) h a = elim a as (λ _. Among (c ∷ cs) (λ c. (f c ≡ true) × P c)) [
    | inl k ↦ inl (and_left (f c) (list_all f cs) h, k)
    | inr k ↦ inr (among_all f P cs (and_right (f c) (list_all f cs) h) k)
  ]

  module _ (cs : List Commit) where
    Good : (ℕ → ℕ) → Type 0
    Good p = (x : ℕ) → (start x ≤ p x) × IsAny cs p x

    fixed_at : (ℕ → ℕ) → Commit → Bool
    fixed_at p c = lowered start cs p c.entity == p c.entity

    fixed_of_stable : (p : ℕ → ℕ) → Good p → list_all (fixed_at p) cs ≡ true → (x : ℕ) → lowered start cs p x ≡ p x
    unfolding Good fixed_at
    fixed_of_stable p good stable x =
        elim (good x).1 as (λ _. lowered start cs p x ≡ p x) [
          | inl e ↦ (let a = start_low cs p x in let b = lowered_high cs p x (good x).0 in omega arith)
          | inr a ↦ among_some _ (lowered start cs p x ≡ p x) cs
              (λ c k. subst (λ y. lowered start cs p y ≡ p y) k.1.0 (eqb-true _ _ k.0))
              (among_all (fixed_at p) (λ c. (c.entity ≡ x) × (c.version ≡ p x)) cs stable a)
        ]

    falls : (p : ℕ → ℕ) → Good p → list_all (fixed_at p) cs ≡ false → left cs (lowered start cs p) < left cs p
    unfolding Good fixed_at
    falls p good unstable =
        among_some _ (left cs (lowered start cs p) < left cs p) cs
        (λ c moved.
        let x = c.entity in
        let high = lowered_high cs p x (good x).0 in
        let low = start_low cs p x in
        let less : lowered start cs p x < p x = lt_of_ne _ _ high moved in
        elim (good x).1 as (λ _. left cs (lowered start cs p) < left cs p) [
          | inl e ↦ absurd (omega arith)
          | inr a ↦ left_less cs (lowered start cs p) p (λ y. lowered_high cs p y (good y).0)
              (among_map cs _ _ (λ d k. (
                subst (λ y. d.version ≤ p y) (sym k.0) (let e = k.1 in let r : d.version ≤ p x = omega arith in r),
                subst (λ y. lowered start cs p y < d.version) (sym k.0) (let e = k.1 in let r : lowered start cs p x < d.version = omega arith in r),
              )) a)
        ])
        (some_fails (fixed_at p) cs unstable)

    good_lowered : (p : ℕ → ℕ) → Good (lowered start cs p)
    unfolding Good
    good_lowered p x = (start_low cs p x, any_lowered cs p x)

    stays : (n : ℕ) (p : ℕ → ℕ) → lowered start cs p ≡ p → lower n start cs p ≡ p
    stays zero p e = refl
    stays (suc n) p e = ap (lower n start cs) e ∙ stays n p e

    ends : (n : ℕ) (p : ℕ → ℕ) → Good p → left cs p ≤ n → (x : ℕ) → lowered start cs (lower n start cs p) x ≡ lower n start cs p x
    ends zero p good few =
        elim (list_all (fixed_at p) cs) as (λ b. list_all (fixed_at p) cs ≡ b → (x : ℕ) → lowered start cs p x ≡ p x) [
          | true ↦ λ is. fixed_of_stable p good is
          | false ↦ λ is. let f = falls p good is in absurd (omega arith)
        ] refl
    ends (suc n) p good few =
        elim (list_all (fixed_at p) cs) as (λ b. list_all (fixed_at p) cs ≡ b → (x : ℕ) → lowered start cs (lower n start cs (lowered start cs p)) x ≡ lower n start cs (lowered start cs p) x) [
          | true ↦ λ is.
              let e : lowered start cs p ≡ p = λ i x. fixed_of_stable p good is x i in
              let done : lower n start cs (lowered start cs p) ≡ p = ap (lower n start cs) e ∙ stays n p e in
              subst (λ (q : ℕ → ℕ). (x : ℕ) → lowered start cs q x ≡ q x) (sym done) (fixed_of_stable p good is)
          | false ↦ λ is. let f = falls p good is in ends n (lowered start cs p) (good_lowered p) (omega arith)
        ] refl

    good_top : Good (top start cs)
    unfolding Good
    good_top x = (top_start cs x, top_cases cs x)

    pub greatest_is : IsNarrow cs → IsGreatest start cs (greatest start cs)
    unfolding greatest
    greatest_is narrow = record {
      closed = fixed_closed cs (lower (length cs) start cs (top start cs)) narrow (ends (length cs) (top start cs) good_top (left_length cs (top start cs)));
      greatest = λ q closed. kept_rounds (length cs) cs (top start cs) q closed (under_top cs q closed);
    }

-- there is only one
pub greatest_one : (start : ℕ → ℕ) (cs : List Commit) (p q : ℕ → ℕ) → IsGreatest start cs p → IsGreatest start cs q → p ≡ q
greatest_one start cs p q a b = λ i x. (let e : p x ≡ q x = (let l = a.greatest q b.closed x in let m = b.greatest p a.closed x in omega arith) in e) i

-- more commits, no lower choice
-- the greatest choice does not fall
pub rising_cut : (start : ℕ → ℕ) (cs ds : List Commit) (p q : ℕ → ℕ) → IsGreatest start cs p → IsGreatest start (cs ++ ds) q → IsBelow p q
rising_cut start cs ds p q a b = b.greatest p (λ x. elim (a.closed x) as (λ _. (p x ≡ start x) ⊎ Among (cs ++ ds) (λ c. (c.entity ≡ x) × (c.version ≡ p x) × IsBelow c.stamp p)) [
  | inl e ↦ inl e
  | inr h ↦ inr (among_more cs ds _ h)
])
