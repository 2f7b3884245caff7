-- What the counts tell: which blocks records name.
use Rattle.std.proofs.Common.{◌≡◌, ℕ, zero, suc, ◌+◌, Bool, true, false, not, ◌&&◌, ◌||◌, ◌==◌, nat_lt, if◌then◌else◌, inl, inr, List, [], ◌∷◌, refl, sym, ap, ◌∙◌, arith}
use Rattle.std.specs.List.{list_any}
use Rattle.std.proofs.lemmas.Bool.{cases_eq}
use Rattle.std.proofs.lemmas.Bool.Decides.{nat_tests}
use Rattle.std.proofs.lemmas.List.Sums.{sum_by-cons}
use Rattle.log_reading.proofs.image_facts_lemmas.Firsts.{ne_test}
use Rattle.log_reading.specs.image_facts.Bodies.{blob_blocks}
use Rattle.page_words.specs.store_books.Books.{Logged, names}
use Rattle.store_facts.specs.Naming.{is_use, times, uses, uses_in}
use Rattle.std.proofs.Math.Bool.{and-false}

positive_sum : (a b : ℕ) → nat_lt 0 (a + b) ≡ (nat_lt 0 a || nat_lt 0 b)
positive_sum zero b = ap (nat_lt 0) (let e : 0 + b ≡ b = omega arith in e)
positive_sum (suc a) b = grind (arith, nat_tests)

positive_one : (b : Bool) → nat_lt 0 (if b then 1 else 0) ≡ b
positive_one true = refl
positive_one false = refl

both_or : (p q r : Bool) → ((p && q) || (p && r)) ≡ (p && (q || r))
both_or true q r = refl
both_or false q r = refl

use_is : (n m : ℕ) → is_use n m ≡ (not (n == 0) && (m == n))
use_is n m = elim (cases_eq m n) as (λ _. is_use n m ≡ (not (n == 0) && (m == n))) [
  | inl same ↦ ap (λ (k : ℕ). not (k == 0) && (m == n)) same
  | inr apart ↦
      let no : (m == n) ≡ false = ne_test m n apart in
      (ap (λ (b : Bool). not (m == 0) && b) no ∙ and-false (not (m == 0))) ∙ sym (ap (λ (b : Bool). not (n == 0) && b) no ∙ and-false (not (n == 0)))
]

times_named : (n : ℕ) (blocks : List ℕ) → nat_lt 0 (times n blocks) ≡ (not (n == 0) && list_any (λ m. m == n) blocks)
times_named n [] = sym (and-false (not (n == 0)))
times_named n (m ∷ blocks) =
    ap (nat_lt 0) (sum_by-cons (λ (k : ℕ). if is_use n k then 1 else 0) m blocks)
    ∙ (positive_sum (if is_use n m then 1 else 0) (times n blocks)
    ∙ (ap (λ (b : Bool). b || nat_lt 0 (times n blocks)) (positive_one (is_use n m) ∙ use_is n m)
    ∙ (ap (λ (b : Bool). (not (n == 0) && (m == n)) || b) (times_named n blocks)
    ∙ both_or (not (n == 0)) (m == n) (list_any (λ k. k == n) blocks))))

uses_in_named : (n : ℕ) (l : Logged) → nat_lt 0 (uses_in n l) ≡ names n l
uses_in_named n l =
    positive_sum (times n (blob_blocks l.rec)) (times n l.table)
    ∙ (ap (λ (b : Bool). b || nat_lt 0 (times n l.table)) (times_named n (blob_blocks l.rec))
    ∙ (ap (λ (b : Bool). (not (n == 0) && list_any (λ m. m == n) (blob_blocks l.rec)) || b) (times_named n l.table)
    ∙ both_or (not (n == 0)) (list_any (λ m. m == n) (blob_blocks l.rec)) (list_any (λ m. m == n) l.table)))

-- a block is counted exactly where a record names it
pub uses_named : (n : ℕ) (ls : List Logged) → nat_lt 0 (uses n ls) ≡ list_any (names n) ls
uses_named n [] = refl
uses_named n (l ∷ ls) =
    ap (nat_lt 0) (sum_by-cons (uses_in n) l ls)
    ∙ (positive_sum (uses_in n l) (uses n ls)
    ∙ (ap (λ (b : Bool). b || nat_lt 0 (uses n ls)) (uses_in_named n l) ∙ ap (λ (b : Bool). names n l || b) (uses_named n ls)))
