-- Among the names that differ in their last byte alone one is no one's: there are more such bytes than entities.
use Rattle.std.proofs.Common.{◌≡◌, ◌<◌, ◌≤◌, ◌⊎◌, inl, inr, ℕ, zero, suc, ◌+◌, ◌*◌, ◌==◌, nat_le, if◌then◌else◌, true, false, List, [], ◌∷◌, ◌++◌, Option, Some, None, refl, sym, ap, ◌∙◌, arith}
use Rattle.std.proofs.lemmas.Bool.{cases_lt}
use Rattle.std.proofs.lemmas.Bool.Decides.{eqb_tells, leb_tells, nat_tests}
use Rattle.std.specs.Prelude.{slice_index, drop, unwrap_or}
use Rattle.data_atlas_facts.specs.Directory.{Directory, IsDirectory, entity_named, is_name_byte, name_of}
use Rattle.data_atlas_facts.proofs.Naming.{led}

-- THE PIGEONHOLE: different values below m for all numbers below n
abbrev around : (ℕ → ℕ) → ℕ → ℕ → ℕ → ℕ
around f m last i = if f i == m then f last else f i

around_cases : (f : ℕ → ℕ) (m last i : ℕ) → ((f i ≡ m) × (around f m last i ≡ f last)) ⊎ ((f i ≡ m → ⊥) × (around f m last i ≡ f i))
around_cases f m last i = by (eqb_tells (f i) m)
  where
    by : (((f i == m) ≡ true) × (f i ≡ m)) ⊎ (((f i == m) ≡ false) × (f i ≡ m → ⊥)) → ((f i ≡ m) × (around f m last i ≡ f last)) ⊎ ((f i ≡ m → ⊥) × (around f m last i ≡ f i))
    by (inl t) = inl (t.1, ap (λ b. if b then f last else f i) t.0)
    by (inr t) = inr (t.1, ap (λ b. if b then f last else f i) t.0)

pub pigeons : (n m : ℕ) (f : ℕ → ℕ) → ((i : ℕ) → i < n → f i < m) → ((i j : ℕ) → i < j → j < n → f i ≡ f j → ⊥) → n ≤ m
pigeons zero m f into apart = omega arith
pigeons (suc n) zero f into apart = absurd (let h = into n (omega arith) in omega (arith, h))
pigeons (suc n) (suc m) f into apart =
    let less = pigeons n m (around f m n) (λ i lt. into_less i lt (around_cases f m n i)) (λ i j lt end. apart_less i j lt end (around_cases f m n i) (around_cases f m n j)) in
    omega (arith, less)
  where
    into_less : (i : ℕ) → i < n → ((f i ≡ m) × (around f m n i ≡ f n)) ⊎ ((f i ≡ m → ⊥) × (around f m n i ≡ f i)) → around f m n i < m
    into_less i lt (inl t) =
        let is = t.0 in
        let e = t.1 in
        let h = into n (omega arith) in
        let other : f n ≡ m → ⊥ = λ d. apart i n lt (omega arith) (is ∙ sym d) in
        omega (arith, e, h, other)
    into_less i lt (inr t) =
        let other = t.0 in
        let e = t.1 in
        let h = into i (omega (arith, lt)) in
        omega (arith, e, h, other)

    apart_less : (i j : ℕ) → i < j → j < n → ((f i ≡ m) × (around f m n i ≡ f n)) ⊎ ((f i ≡ m → ⊥) × (around f m n i ≡ f i))
        → ((f j ≡ m) × (around f m n j ≡ f n)) ⊎ ((f j ≡ m → ⊥) × (around f m n j ≡ f j)) → around f m n i ≡ around f m n j → ⊥
    apart_less i j lt end (inl s) (inl t) e = apart i j lt (omega (arith, end)) (s.0 ∙ sym t.0)
    apart_less i j lt end (inl s) (inr t) e = apart j n end (omega arith) (sym (sym s.1 ∙ e ∙ t.1))
    apart_less i j lt end (inr s) (inl t) e = apart i n (omega (arith, lt, end)) (omega arith) (sym s.1 ∙ e ∙ t.1)
    apart_less i j lt end (inr s) (inr t) e = apart i j lt (omega (arith, end)) (sym s.1 ∙ e ∙ t.1)

-- THE BYTES of names, 65 of them, ascending: `-`, `.`, the digits, the capitals, `_` and the small letters
abbrev from : ℕ → ℕ → ℕ
from t j = if nat_le t j then 1 else 0

from_one : (t j : ℕ) → t ≤ j → from t j ≡ 1
from_one t j le = by (leb_tells t j)
  where
    by : ((nat_le t j ≡ true) × (t ≤ j)) ⊎ ((nat_le t j ≡ false) × (j < t)) → from t j ≡ 1
    by (inl s) = ap (λ b. if b then 1 else 0) s.0
    by (inr s) = absurd (let h = s.1 in omega (arith, h, le))

from_none : (t j : ℕ) → j < t → from t j ≡ 0
from_none t j lt = by (leb_tells t j)
  where
    by : ((nat_le t j ≡ true) × (t ≤ j)) ⊎ ((nat_le t j ≡ false) × (j < t)) → from t j ≡ 0
    by (inl s) = absurd (let h = s.1 in omega (arith, h, lt))
    by (inr s) = ap (λ b. if b then 1 else 0) s.0

from_grows : (t i j : ℕ) → i ≤ j → from t i ≤ from t j
from_grows t i j le = by (cases_lt i t)
  where
    by : (i < t) ⊎ (t ≤ i) → from t i ≤ from t j
    by (inl before) = let e = from_none t i before in omega (arith, e)
    by (inr behind) =
        let e = from_one t i behind in
        let f = from_one t j (omega (arith, behind, le)) in
        omega (arith, e, f)

abbrev pub name_byte : ℕ → ℕ
name_byte j = 45 + j + from 2 j + 7 * from 12 j + 4 * from 38 j + from 39 j

grows : (i j : ℕ) → i < j → name_byte i < name_byte j
grows i j lt =
    let a = from_grows 2 i j (omega (arith, lt)) in
    let b = from_grows 12 i j (omega (arith, lt)) in
    let c = from_grows 38 i j (omega (arith, lt)) in
    let d = from_grows 39 i j (omega (arith, lt)) in
    omega (arith, lt, a, b, c, d)

small_letter : (c : ℕ) → 97 ≤ c → c < 123 → is_name_byte c ≡ true
small_letter c low high = grind (arith, nat_tests)

capital : (c : ℕ) → 65 ≤ c → c < 91 → is_name_byte c ≡ true
capital c low high = grind (arith, nat_tests)

digit : (c : ℕ) → 48 ≤ c → c < 58 → is_name_byte c ≡ true
digit c low high = grind (arith, nat_tests)

sign : (c : ℕ) → 45 ≤ c → c < 47 → is_name_byte c ≡ true
sign c low high = grind (arith, nat_tests)

pub name_byte_is : (j : ℕ) → j < 65 → is_name_byte (name_byte j) ≡ true
name_byte_is j end = small (cases_lt j 39)
  where
    low : (j < 2) ⊎ (2 ≤ j) → j < 12 → is_name_byte (name_byte j) ≡ true
    low (inl lt) before =
        let a = from_none 2 j lt in
        let b = from_none 12 j before in
        let c = from_none 38 j (omega (arith, before)) in
        let d = from_none 39 j (omega (arith, before)) in
        sign (name_byte j) (omega (arith, a, b, c, d)) (omega (arith, a, b, c, d, lt))
    low (inr ge) before =
        let a = from_one 2 j ge in
        let b = from_none 12 j before in
        let c = from_none 38 j (omega (arith, before)) in
        let d = from_none 39 j (omega (arith, before)) in
        digit (name_byte j) (omega (arith, a, b, c, d, ge)) (omega (arith, a, b, c, d, before))

    middle : (j < 12) ⊎ (12 ≤ j) → j < 38 → is_name_byte (name_byte j) ≡ true
    middle (inl lt) before = low (cases_lt j 2) lt
    middle (inr ge) before =
        let a = from_one 2 j (omega (arith, ge)) in
        let b = from_one 12 j ge in
        let c = from_none 38 j before in
        let d = from_none 39 j (omega (arith, before)) in
        capital (name_byte j) (omega (arith, a, b, c, d, ge)) (omega (arith, a, b, c, d, before))

    one : (j < 38) ⊎ (38 ≤ j) → j < 39 → is_name_byte (name_byte j) ≡ true
    one (inl lt) before = middle (cases_lt j 12) lt
    one (inr ge) before =
        let is : j ≡ 38 = omega (arith, ge, before) in
        ap (λ n. is_name_byte (name_byte n)) is

    small : (j < 39) ⊎ (39 ≤ j) → is_name_byte (name_byte j) ≡ true
    small (inl lt) = one (cases_lt j 38) lt
    small (inr ge) =
        let a = from_one 2 j (omega (arith, ge)) in
        let b = from_one 12 j (omega (arith, ge)) in
        let c = from_one 38 j (omega (arith, ge)) in
        let d = from_one 39 j ge in
        small_letter (name_byte j) (omega (arith, a, b, c, d, ge)) (omega (arith, a, b, c, d, end))

-- ONE THAT IS NO ONE'S
last_same : (q : List ℕ) (c d : ℕ) → q ++ c ∷ [] ≡ q ++ d ∷ [] → c ≡ d
last_same [] c d e = ap (λ (l : List ℕ). slice_index l 0) e
last_same (x ∷ q) c d e = last_same q c d (ap (λ (l : List ℕ). drop 1 l) e)

abbrev pub some_of : {A : Type 0} → A → Option A → A
some_of d None = d
some_of d (Some x) = x

module _ (a : Directory) (ok : IsDirectory a) (q : List ℕ) where
  abbrev named : ℕ → Option ℕ
  named j = entity_named a (q ++ name_byte j ∷ [])

  abbrev holder : ℕ → ℕ
  holder j = unwrap_or (named j) 64

  record IsHeld (j : ℕ) : Type 0 where
    number : ℕ
    is : named j ≡ Some number

  look : (n : ℕ) → ((j : ℕ) × (j < n) × (named j ≡ None)) ⊎ ((j : ℕ) → j < n → IsHeld j)
  look zero = inr (λ j lt. absurd (omega (arith, lt)))
  look (suc n) = by (look n) (named n) refl
    where
      by : ((j : ℕ) × (j < n) × (named j ≡ None)) ⊎ ((j : ℕ) → j < n → IsHeld j) → (o : Option ℕ) → named n ≡ o → ((j : ℕ) × (j < suc n) × (named j ≡ None)) ⊎ ((j : ℕ) → j < suc n → IsHeld j)
      by (inl t) o e = inl (t.0, (let h = t.1 in omega (arith, h)), t.2)
      by (inr held) None e = inl (n, omega arith, e)
      by (inr held) (Some m) e = inr (λ j lt. at j lt (cases_lt j n))
        where
          at : (j : ℕ) → j < suc n → (j < n) ⊎ (n ≤ j) → IsHeld j
          at j lt (inl earlier) = held j earlier
          at j lt (inr last) = let is : j ≡ n = omega (arith, lt, last) in record { number = m; is = ap named is ∙ e }

  holder_is : (j : ℕ) (h : IsHeld j) → holder j ≡ h.number
  holder_is j h = ap (λ (o : Option ℕ). unwrap_or o 64) h.is

  all_held : ((j : ℕ) → j < 65 → IsHeld j) → ⊥
  all_held held =
      let few = pigeons 65 64 holder
      (λ j lt. let h = held j lt in let l = led a ok (q ++ name_byte j ∷ []) h.number h.is in let small = l.small in let e = holder_is j h in omega (arith, small, e))
      (λ i j lt end same.
      let g = held i (omega (arith, lt, end)) in
      let h = held j end in
      let number : g.number ≡ h.number = sym (holder_is i g) ∙ same ∙ holder_is j h in
      let k = led a ok (q ++ name_byte i ∷ []) g.number g.is in
      let l = led a ok (q ++ name_byte j ∷ []) h.number h.is in
      let names : Some (q ++ name_byte i ∷ []) ≡ Some (q ++ name_byte j ∷ []) = sym k.name_is ∙ ap (name_of a) number ∙ l.name_is in
      let bytes : name_byte i ≡ name_byte j = last_same q (name_byte i) (name_byte j) (ap (some_of q) names) in
      let above = grows i j lt in
      omega (arith, bytes, above)) in
      omega (arith, few)

  pub no_ones : (c : ℕ) × (is_name_byte c ≡ true) × (entity_named a (q ++ c ∷ []) ≡ None)
  no_ones = by (look 65)
    where
      by : ((j : ℕ) × (j < 65) × (named j ≡ None)) ⊎ ((j : ℕ) → j < 65 → IsHeld j) → (c : ℕ) × (is_name_byte c ≡ true) × (entity_named a (q ++ c ∷ []) ≡ None)
      by (inl t) = (name_byte t.0, name_byte_is t.0 t.1, t.2)
      by (inr held) = absurd (all_held held)
