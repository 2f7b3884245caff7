-- Letters for the bits of a set.
use Rattle.std.proofs.Common.{◌≡◌, ℕ, suc, ◌+◌, ◌*◌, ◌/◌, ◌%◌, ◌^◌, ◌<◌, Bool, true, false, cond, eqb, ◌==◌, not, ◌&&◌, ◌||◌, List, [], ◌∷◌, ◌++◌, length, take, refl, sym, ap, ◌∙◌, ◌⊎◌, inl, inr, ⊎_elim, arith, add-one}
use Rattle.std.specs.List.{list_any}
use Rattle.std.proofs.lemmas.Bool.{false≢true, cases_eq}
use borrow.Author.Tests.{eq-eqb, ne_eqb}
use Rattle.std.proofs.Math.Nat.{pow-suc}
use Rattle.base_instructions.specs.Spelling.{letters_of, differ, ReadsLetters}

pub parity : (n : ℕ) → (n % 2 ≡ 1) ⊎ (n % 2 ≡ 0)
parity n = ⊎_elim (λ (e : n % 2 ≡ 1). inl e) (λ (e : n % 2 ≡ 1 → ⊥). inr (omega arith)) (cases_eq (n % 2) 1)

module _ (letter : ℕ) (letters : List ℕ) (set : ℕ) where
  pub letters_odd : set % 2 ≡ 1 → letters_of (letter ∷ letters) set ≡ letter ∷ letters_of letters (set / 2)
  letters_odd e = ap (λ b. cond b (letter ∷ letters_of letters (set / 2)) (letters_of letters (set / 2))) (eq-eqb (set % 2) 1 e)

  pub letters_even : set % 2 ≡ 0 → letters_of (letter ∷ letters) set ≡ letters_of letters (set / 2)
  letters_even e = ap (λ b. cond b (letter ∷ letters_of letters (set / 2)) (letters_of letters (set / 2))) (ne_eqb (set % 2) 1 (omega arith))

pub letters_zero : (letters : List ℕ) → letters_of letters 0 ≡ []
letters_zero [] = refl
letters_zero (letter ∷ letters) = letters_even letter letters 0 refl ∙ letters_zero letters

abbrev pub Absent : ℕ → List ℕ → Type 0
Absent letter letters = list_any (λ other. other == letter) letters ≡ false

absent_head : (letter l : ℕ) (ls : List ℕ) → Absent letter (l ∷ ls) → (l ≡ letter → ⊥) × Absent letter ls
absent_head letter l ls e = by (eqb l letter) refl e
  where
    by : (b : Bool) → eqb l letter ≡ b → (b || list_any (λ other. other == letter) ls) ≡ false → (l ≡ letter → ⊥) × Absent letter ls
    by true is e = absurd (false≢true (sym e))
    by false is e = (λ same. false≢true (sym is ∙ eq-eqb l letter same), e)

-- the letters of a set have no letter in front that is not among them
pub absent_front : (letter : ℕ) (letters : List ℕ) → Absent letter letters → (set : ℕ) (rest : List ℕ) → letters_of letters set ≡ letter ∷ rest → ⊥
absent_front letter [] absent set rest e = cc
absent_front letter (l ∷ ls) absent set rest e = ⊎_elim
    (λ (odd : set % 2 ≡ 1). let f : l ∷ letters_of ls (set / 2) ≡ letter ∷ rest = sym (letters_odd l ls set odd) ∙ e in (absent_head letter l ls absent).0 (let g : l ≡ letter = cc in g))
    (λ (even : set % 2 ≡ 0). absent_front letter ls (absent_head letter l ls absent).1 (set / 2) rest (sym (letters_even l ls set even) ∙ e))
    (parity set)

differ_head : (letter : ℕ) (letters : List ℕ) → differ (letter ∷ letters) ≡ true → Absent letter letters × (differ letters ≡ true)
differ_head letter letters e = by (list_any (λ other. other == letter) letters) refl e
  where
    by : (b : Bool) → list_any (λ other. other == letter) letters ≡ b → (not b && differ letters) ≡ true → Absent letter letters × (differ letters ≡ true)
    by true is e = absurd (false≢true e)
    by false is e = (is, e)

pub doubled : (k : ℕ) → 2 ^ suc k ≡ 2 * 2 ^ k
doubled k = omega (arith, pow-suc 2 k)

-- letters behind those that a small set needs have no effect
pub letters_front : (letters more : List ℕ) (s : ℕ) → s < 2 ^ length letters → letters_of (letters ++ more) s ≡ letters_of letters s
letters_front [] more s small = ap (letters_of more) (let e : s ≡ 0 = omega arith in e) ∙ letters_zero more
letters_front (letter ∷ letters) more s small =
    let rest = letters_front letters more (s / 2) (omega (arith, doubled (length letters))) in
    ⊎_elim
    (λ (odd : s % 2 ≡ 1). letters_odd letter (letters ++ more) s odd ∙ ap (λ z. letter ∷ z) rest ∙ sym (letters_odd letter letters s odd))
    (λ (even : s % 2 ≡ 0). letters_even letter (letters ++ more) s even ∙ rest ∙ sym (letters_even letter letters s even))
    (parity s)

-- a set is told by its letters
pub letters_same : (letters : List ℕ) → differ letters ≡ true → (m n : ℕ) → m < 2 ^ length letters → n < 2 ^ length letters → letters_of letters m ≡ letters_of letters n → m ≡ n
letters_same [] d m n m_small n_small e = omega arith
letters_same (letter ∷ letters) d m n m_small n_small e =
    let absent = (differ_head letter letters d).0 in
    let halves : letters_of letters (m / 2) ≡ letters_of letters (n / 2) → m / 2 ≡ n / 2 = λ f. letters_same letters (differ_head letter letters d).1 (m / 2) (n / 2) (omega (arith, doubled (length letters))) (omega (arith, doubled (length letters))) f in
    ⊎_elim
    (λ (m_odd : m % 2 ≡ 1). ⊎_elim
    (λ (n_odd : n % 2 ≡ 1).
    let f : letter ∷ letters_of letters (m / 2) ≡ letter ∷ letters_of letters (n / 2) = sym (letters_odd letter letters m m_odd) ∙ e ∙ letters_odd letter letters n n_odd in
    let g = halves (let k : letters_of letters (m / 2) ≡ letters_of letters (n / 2) = cc in k) in omega arith)
    (λ (n_even : n % 2 ≡ 0). absurd (absent_front letter letters absent (n / 2) (letters_of letters (m / 2)) (sym (letters_even letter letters n n_even) ∙ sym e ∙ letters_odd letter letters m m_odd)))
    (parity n))
    (λ (m_even : m % 2 ≡ 0). ⊎_elim
    (λ (n_odd : n % 2 ≡ 1). absurd (absent_front letter letters absent (m / 2) (letters_of letters (n / 2)) (sym (letters_even letter letters m m_even) ∙ e ∙ letters_odd letter letters n n_odd)))
    (λ (n_even : n % 2 ≡ 0). let g = halves (sym (letters_even letter letters m m_even) ∙ e ∙ letters_even letter letters n n_even) in omega arith)
    (parity n))
    (parity m)

-- reading: at a letter that comes next

module _ (letter : ℕ) (letters : List ℕ) (d : differ (letter ∷ letters) ≡ true) (bytes : List ℕ) (n set : ℕ) (h : ReadsLetters letters bytes n set) where
  pub letters_next : ReadsLetters (letter ∷ letters) (letter ∷ bytes) (n + 1) (2 * set + 1)
  letters_next = record {
    small = omega (arith, h.small, doubled (length letters));
    within = omega (arith, h.within);
    spelled = letters_odd letter letters (2 * set + 1) (omega arith) ∙ ap (λ k. letter ∷ letters_of letters k) (let e : (2 * set + 1) / 2 ≡ set = omega arith in e) ∙ ap (λ z. letter ∷ z) h.spelled ∙ rw add-one refl;
    no_more = λ l other rest e. ⊎_elim
        (λ (odd : other % 2 ≡ 1).
        let f : letter ∷ letters_of letters (other / 2) ≡ letter ∷ (take (n + 1) bytes ++ rest) = sym (letters_odd letter letters other odd) ∙ e ∙ next_front (n + 1) rest in
        h.no_more (omega arith) (other / 2) rest (let g : letters_of letters (other / 2) ≡ take (n + 1) bytes ++ rest = cc in g))
        (λ (even : other % 2 ≡ 0). absent_front letter letters (differ_head letter letters d).0 (other / 2) (take (n + 1) bytes ++ rest) (sym (letters_even letter letters other even) ∙ e ∙ next_front (n + 1) rest))
        (parity other);
  }
    where
      next_front : (k : ℕ) (rest : List ℕ) → take (k + 1) (letter ∷ bytes) ++ rest ≡ letter ∷ (take k bytes ++ rest)
      next_front k rest = rw add-one refl
