-- What is heard of a sender.
use Rattle.std.proofs.Common.{◌≡◌, ℕ, zero, suc, ◌+◌, ◌-◌, ◌<◌, ◌≤◌, Bool, true, false, nat_lt, if◌then◌else◌, List, [], ◌∷◌, length, drop, Option, Some, None, refl, sym, ap, subst, ◌∙◌, arith, inl, inr}
use Rattle.std.specs.Prelude.{slice_get}
use Rattle.std.proofs.lemmas.Bool.{cases_lt, lt-ltb, ltb-true, ltb-false}
use Rattle.std.proofs.lemmas.Bool.Decides.{nat_tests}
use Rattle.std.proofs.lemmas.List.{length-drop}
use Rattle.node_world.specs.Worlds.{Sending, after_heard, offered, packet_in}

-- a count no higher than what is acknowledged changes nothing
pub heard_low : {A : Type 0} (s : Sending A) (n : ℕ) → n ≤ s.acked → after_heard s n ≡ s
heard_low s n le = go (nat_lt s.acked n) refl
  where
    go : (t : Bool) → nat_lt s.acked n ≡ t → (if t then record { acked = n; waiting = drop (n - s.acked) s.waiting } else s) ≡ s
    go true e = absurd (let lt = ltb-true s.acked n e in omega (arith, lt, le))
    go false e = refl

pub heard_high : {A : Type 0} (s : Sending A) (n : ℕ) → s.acked < n → after_heard s n ≡ record { acked = n; waiting = drop (n - s.acked) s.waiting }
heard_high s n lt = ap (λ (t : Bool). if t then record { acked = n; waiting = drop (n - s.acked) s.waiting } else s) (lt-ltb s.acked n lt)

-- what is offered stays
pub heard_offered : {A : Type 0} (s : Sending A) (n : ℕ) → n ≤ offered s → offered (after_heard s n) ≡ offered s
heard_offered {A = A} s n le = elim (cases_lt s.acked n) as (λ _. offered (after_heard s n) ≡ offered s) [
  | inl lt ↦ (let left = length-drop (n - s.acked) s.waiting in ap (λ (t : Sending A). offered t) (heard_high s n lt) ∙ omega (arith, lt, le, left))
  | inr past ↦ ap (λ (t : Sending A). offered t) (heard_low s n past)
]

-- THE FIRST THAT WAITS

pub none_waits : {A : Type 0} (s : Sending A) (number : ℕ) → number ≡ s.acked + 1 → packet_in s number ≡ None → offered s ≤ s.acked
none_waits {A = A} s number is none = go s.waiting (sym here ∙ none)
  where
    here : packet_in s number ≡ slice_get s.waiting 0
    here =
        let t : nat_lt s.acked number ≡ true = lt-ltb s.acked number (omega (arith, is)) in
        let place : number - s.acked - 1 ≡ 0 = omega (arith, is) in
        ap (λ (b : Bool). if b then slice_get s.waiting (number - s.acked - 1) else None) t ∙ ap (slice_get s.waiting) place

    go : (xs : List A) → slice_get xs 0 ≡ None → s.acked + length xs ≤ s.acked
    go [] none = omega arith
    go (x ∷ xs) none = absurd (cc none)

pub one_waits : {A : Type 0} (s : Sending A) (number : ℕ) (x : A) → number ≤ s.acked + 1 → packet_in s number ≡ Some x → (number ≡ s.acked + 1) × (s.acked < offered s)
one_waits {A = A} s number x le some = by_test (nat_lt s.acked number) refl
  where
    go : (xs : List A) → slice_get xs 0 ≡ Some x → s.acked < s.acked + length xs
    go [] some = absurd (cc some)
    go (y ∷ ys) some = omega arith

    by_test : (t : Bool) → nat_lt s.acked number ≡ t → (number ≡ s.acked + 1) × (s.acked < offered s)
    by_test true e =
        let lt = ltb-true s.acked number e in
        let place : number - s.acked - 1 ≡ 0 = omega (arith, lt, le) in
        (omega (arith, lt, le), go s.waiting (sym (ap (λ (b : Bool). if b then slice_get s.waiting (number - s.acked - 1) else None) e ∙ ap (slice_get s.waiting) place) ∙ some))
    by_test false e = absurd (let clash : None ≡ Some x = sym (ap (λ (b : Bool). if b then slice_get s.waiting (number - s.acked - 1) else None) e) ∙ some in cc clash)

-- ONE COUNT BEHIND ANOTHER

abbrev Nothing : (A : Type 0) → List A
Nothing A = []

drop_none : (A : Type 0) (n : ℕ) → drop n (Nothing A) ≡ Nothing A
drop_none A zero = refl
drop_none A (suc n) = refl

drop_drop : {A : Type 0} (m n : ℕ) (xs : List A) → drop m (drop n xs) ≡ drop (n + m) xs
drop_drop {A = A} m zero xs = (let none : 0 + m ≡ m = omega arith in sym (ap (λ (k : ℕ). drop k xs) none))
drop_drop {A = A} m (suc n) [] = drop_none A m ∙ sym (drop_none A (suc n + m))
drop_drop m (suc n) (x ∷ xs) = (let one : suc n + m ≡ suc (n + m) = omega arith in drop_drop m n xs ∙ sym (ap (λ (k : ℕ). drop k (x ∷ xs)) one))

get_dropped : {A : Type 0} (n i : ℕ) (xs : List A) → slice_get (drop n xs) i ≡ slice_get xs (n + i)
get_dropped zero i xs = (let none : 0 + i ≡ i = omega arith in sym (ap (slice_get xs) none))
get_dropped (suc n) i [] = refl
get_dropped (suc n) i (x ∷ xs) = (let one : suc n + i ≡ suc (n + i) = omega arith in get_dropped n i xs ∙ sym (ap (slice_get (x ∷ xs)) one))

pub heard_up : {A : Type 0} (s : Sending A) (n : ℕ) → s.acked ≤ (after_heard s n).acked
heard_up s n = go (nat_lt s.acked n) refl
  where
    go : (t : Bool) → nat_lt s.acked n ≡ t → s.acked ≤ (if t then record { acked = n; waiting = drop (n - s.acked) s.waiting } else s).acked
    go true e = (let lt = ltb-true s.acked n e in omega (arith, lt))
    go false e = omega arith

pub heard_twice : {A : Type 0} (s : Sending A) (m n : ℕ) → m ≤ n → after_heard (after_heard s m) n ≡ after_heard s n
heard_twice {A = A} s m n le = elim (cases_lt s.acked m) as (λ _. after_heard (after_heard s m) n ≡ after_heard s n) [
  | inl lt ↦ elim (cases_lt m n) as (λ _. after_heard (after_heard s m) n ≡ after_heard s n) [
    | inl more ↦ (let sum : (m - s.acked) + (n - m) ≡ n - s.acked = omega (arith, lt, more) in
        ap (λ (t : Sending A). after_heard t n) (heard_high s m lt) ∙ (heard_high (record { acked = m; waiting = drop (m - s.acked) s.waiting }) n more
        ∙ (ap (λ (ws : List A). record { acked = n; waiting = ws }) (drop_drop (n - m) (m - s.acked) s.waiting ∙ ap (λ (k : ℕ). drop k s.waiting) sum) ∙ sym (heard_high s n (omega (arith, lt, le))))))
    | inr past ↦ (let same : m ≡ n = omega (arith, le, past) in heard_low (after_heard s m) n (subst (λ (t : Sending A). n ≤ t.acked) (sym (heard_high s m lt)) (omega (arith, past))) ∙ ap (after_heard s) same)
  ]
  | inr past ↦ ap (λ (t : Sending A). after_heard t n) (heard_low s m past)
]

-- a packet that is left was there before
pub packet_left : {A : Type 0} (s : Sending A) (m n : ℕ) (x : A) → packet_in (after_heard s m) n ≡ Some x → packet_in s n ≡ Some x
packet_left {A = A} s m n x at = elim (cases_lt s.acked m) as (λ _. packet_in s n ≡ Some x) [
  | inl lt ↦ by_test lt (nat_lt m n) refl (sym (ap (λ (t : Sending A). packet_in t n) (heard_high s m lt)) ∙ at)
  | inr past ↦ sym (ap (λ (t : Sending A). packet_in t n) (heard_low s m past)) ∙ at
]
  where
    by_test : s.acked < m → (t : Bool) → nat_lt m n ≡ t → (if nat_lt m n then slice_get (drop (m - s.acked) s.waiting) (n - m - 1) else None) ≡ Some x → packet_in s n ≡ Some x
    by_test lt true e got =
        let above = ltb-true m n e in
        let sum : (m - s.acked) + (n - m - 1) ≡ n - s.acked - 1 = omega (arith, lt, above) in
        let here : slice_get (drop (m - s.acked) s.waiting) (n - m - 1) ≡ Some x = sym (ap (λ (b : Bool). if b then slice_get (drop (m - s.acked) s.waiting) (n - m - 1) else None) e) ∙ got in
        ap (λ (b : Bool). if b then slice_get s.waiting (n - s.acked - 1) else None) (lt-ltb s.acked n (omega (arith, lt, above)))
        ∙ (sym (get_dropped (m - s.acked) (n - m - 1) s.waiting ∙ ap (slice_get s.waiting) sum) ∙ here)
    by_test lt false e got = absurd (let clash : None ≡ Some x = sym (ap (λ (b : Bool). if b then slice_get (drop (m - s.acked) s.waiting) (n - m - 1) else None) e) ∙ got in cc clash)
