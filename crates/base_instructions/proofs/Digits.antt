-- Decimal numbers, digit by digit.
use Rattle.std.proofs.Common.{◌≡◌, ℕ, ◌+◌, ◌-◌, ◌*◌, ◌/◌, ◌%◌, ◌^◌, ◌<◌, ◌≤◌, List, [], ◌∷◌, ◌++◌, length, take, get_or, Option, Some, None, zero, suc, unwrap_or, IfSome, refl, sym, ap, ◌∙◌, subst, true, false, eqb, rules, tests, MatchOption, arith, append_assoc, length-append}
use Rattle.std.specs.Fmt.{decimal}
use Rattle.std.specs.Int.{IsInRange}
use Rattle.std.specs.Str.Parse.{digits_value}
use Rattle.std.proofs.lemmas.Str.{digit_value_digit}
use Rattle.std.proofs.lemmas.Str.Parse.{digit_at, digits_value-take-le}
use Rattle.std.proofs.lemmas.Int.Digits.{digits_value_push}
use Rattle.std.proofs.lemmas.Fmt.{decimal_is_IsNumeral, decimal_digit, decimal_step, decimal_nonempty, first_decimal}
use Rattle.std.proofs.lemmas.List.{take_at, get_or_at, length_push, take_more, append-nil}
use Rattle.std.proofs.lemmas.Bool.{false≢true}
use Rattle.std.proofs.lemmas.Bool.Decides.{nat_tests}
use Rattle.std.specs.Option.{option_eq}
use Rattle.std.specs.Char.{is_ascii_digit}
use borrow.Author.Tests.{eqb-true}
use Rattle.base_instructions.specs.Fronts.{digits_read, Reads, Begins, Spelled}

-- one more digit behind a number
pub decimal_more : (n b : ℕ) → 0 < n → IsInRange 48 57 b → n * 10 + (b - 48) < 2 ^ 64 → decimal (n * 10 + (b - 48)) ≡ decimal n ++ b ∷ []
decimal_more n b some digit fits =
    let front : (n * 10 + (b - 48)) / 10 ≡ n = omega (arith, digit.0, digit.1) in
    let last : 48 + (n * 10 + (b - 48)) % 10 ≡ b = omega (arith, digit.0, digit.1) in
    decimal_step (n * 10 + (b - 48)) (omega arith) fits ∙ ap (λ m. decimal m ++ (48 + (n * 10 + (b - 48)) % 10) ∷ []) front ∙ ap (λ c. decimal n ++ c ∷ []) last

pub decimal_one : (b : ℕ) → IsInRange 48 57 b → decimal (b - 48) ≡ b ∷ []
decimal_one b digit = decimal_digit (b - 48) (omega (arith, digit.0, digit.1)) ∙ ap (λ c. c ∷ []) (let e : 48 + (b - 48) ≡ b = omega (arith, digit.0) in e)

module _ (m : ℕ) (front : List ℕ) (b : ℕ) (rest : List ℕ) (fits : m < 2 ^ 64) (e : decimal m ≡ front ++ b ∷ rest) where
  -- a byte of a number is a digit
  pub is_digit : IsInRange 48 57 b
  is_digit =
      let at : get_or (decimal m) (length front) 0 ≡ b = ap (λ z. get_or z (length front) 0) e ∙ get_or_at front b rest 0 (length front) refl in
      subst (IsInRange 48 57) at (digit_at (decimal m) (length front) (decimal_is_IsNumeral m fits).0.1 (omega (arith, ap length e, length-append front (b ∷ rest))))

  -- a number is no smaller than what its front spells
  pub front_value_le : digits_value 10 front * 10 + (b - 48) ≤ m
  front_value_le =
      let whole : decimal m ≡ (front ++ b ∷ []) ++ rest = e ∙ sym (append_assoc front (b ∷ []) rest) in
      let cut : take (length front + 1) (decimal m) ≡ front ++ b ∷ [] = ap (take (length front + 1)) whole ∙ take_at (front ++ b ∷ []) rest (length front + 1) (length_push front b) in
      let le = digits_value-take-le 10 (decimal m) (length front + 1) (omega arith) in
      omega (arith, le, ap (digits_value 10) cut, digits_value_push 10 front b, (decimal_is_IsNumeral m fits).1, digit_value_digit b is_digit, is_digit.0)

-- the value of the digits read
pub value_of_read : (n : ℕ) → n < 2 ^ 64 → digits_value 10 (decimal n) ≡ n
value_of_read n fits = (decimal_is_IsNumeral n fits).1

-- nothing follows a leading zero
pub zero_alone : (m b : ℕ) (rest : List ℕ) → m < 2 ^ 64 → decimal m ≡ decimal 0 ++ b ∷ rest → ⊥
zero_alone m b rest fits e =
    let begins : decimal m ≡ 48 ∷ b ∷ rest = e ∙ ap (λ z. z ++ b ∷ rest) (decimal_digit 0 (omega arith)) in
    let none : 0 < m → ⊥ = λ some. let first = first_decimal m some fits in omega (arith, first, ap (λ z. get_or z 0 0) begins) in
    let is : m ≡ 0 = omega (arith, none) in
    omega (arith, ap length (sym begins ∙ ap decimal is ∙ decimal_digit 0 (omega arith)))

-- no number is empty
pub decimal_some : (m : ℕ) → m < 2 ^ 64 → decimal m ≡ [] → ⊥
decimal_some m fits e = omega (arith, decimal_nonempty m fits, ap length e)

-- a digit behind the number that was read

pub read_more : (found : Option ℕ) (b : ℕ) → (found ≡ Some 0 → ⊥) → IsInRange 48 57 b → unwrap_or found 0 * 10 + (b - 48) < 2 ^ 64
    → decimal (unwrap_or found 0 * 10 + (b - 48)) ≡ digits_read found ++ b ∷ []
read_more None b other digit fits = ap decimal (let e : 0 + (b - 48) ≡ b - 48 = omega arith in e) ∙ decimal_one b digit
read_more (Some zero) b other digit fits = absurd (other refl)
read_more (Some (suc n)) b other digit fits = decimal_more (suc n) b (omega arith) digit fits

pub read_le : (found : Option ℕ) (m b : ℕ) (rest : List ℕ) → IfSome found (λ n. n < 2 ^ 64) → m < 2 ^ 64 → decimal m ≡ digits_read found ++ b ∷ rest
    → unwrap_or found 0 * 10 + (b - 48) ≤ m
read_le None m b rest small fits e = front_value_le m [] b rest fits e
read_le (Some n) m b rest small fits e = omega (arith, value_of_read n small, front_value_le m (decimal n) b rest fits e)

pub read_digit : (found : Option ℕ) (m b : ℕ) (rest : List ℕ) → m < 2 ^ 64 → decimal m ≡ digits_read found ++ b ∷ rest → IsInRange 48 57 b
read_digit found m b rest fits e = is_digit m (digits_read found) b rest fits e

pub read_not_zero : (found : Option ℕ) (m b : ℕ) (rest : List ℕ) → m < 2 ^ 64 → decimal m ≡ digits_read found ++ b ∷ rest → found ≡ Some 0 → ⊥
read_not_zero found m b rest fits e is_zero = zero_alone m b rest fits (e ∙ ap (λ f. digits_read f ++ b ∷ rest) is_zero)

-- tests of the code

pub digit_from_test : (b : ℕ) → is_ascii_digit b ≡ true → IsInRange 48 57 b
digit_from_test b e = search (rules, tests)

pub no_digit_from_test : (b : ℕ) → is_ascii_digit b ≡ false → IsInRange 48 57 b → ⊥
no_digit_from_test b e d = grind (arith, nat_tests)

pub zero_from_test : (found : Option ℕ) → option_eq eqb found (Some 0) ≡ true → found ≡ Some 0
zero_from_test None e = absurd (false≢true e)
zero_from_test (Some n) e = ap Some (eqb-true n 0 e)

pub not_zero_from_test : (found : Option ℕ) → option_eq eqb found (Some 0) ≡ false → found ≡ Some 0 → ⊥
not_zero_from_test found e f = false≢true (sym e ∙ ap (λ x. option_eq eqb x (Some 0)) f)

-- where no digit goes on, the longest front is found
pub number_ends : (greatest : ℕ) (bytes : List ℕ) (n : ℕ) (found : Option ℕ) → greatest < 2 ^ 64 → IfSome found (λ m. m ≤ greatest) → digits_read found ≡ take n bytes → n ≤ length bytes
    → (n < length bytes → (m : ℕ) (rest : List ℕ) → m ≤ greatest → decimal m ≡ digits_read found ++ get_or bytes n 0 ∷ rest → ⊥)
    → Reads (λ m. m ≤ greatest) decimal bytes n found
number_ends greatest bytes n found small valid so_far within stuck = record {
  front = record {
    within = within;
    goes_on = goes_on found valid so_far;
    no_more = λ l (rest, (m, le, e)). stuck l m rest le
        (e ∙ ap (λ z. z ++ rest) (take_more bytes n 0 l ∙ ap (λ z. z ++ get_or bytes n 0 ∷ []) (sym so_far)) ∙ append_assoc (digits_read found) (get_or bytes n 0 ∷ []) rest);
  };
  whole = whole found valid so_far;
}
  where
    goes_on : (found : Option ℕ) → IfSome found (λ m. m ≤ greatest) → digits_read found ≡ take n bytes → Begins (Spelled (λ m. m ≤ greatest) decimal) (take n bytes)
    goes_on None valid e = (decimal 0, (0, omega arith, ap (λ z. z ++ decimal 0) e))
    goes_on (Some m) valid e = ([], (m, valid, e ∙ sym (append-nil (take n bytes))))

    whole : (found : Option ℕ) → IfSome found (λ m. m ≤ greatest) → digits_read found ≡ take n bytes → MatchOption found (Spelled (λ m. m ≤ greatest) decimal (take n bytes) → ⊥) (λ m. (m ≤ greatest) × (decimal m ≡ take n bytes))
    whole None valid e = λ (m, le, f). decimal_some m (omega arith) (f ∙ sym e)
    whole (Some m) valid e = (valid, e)

pub small_read : (found : Option ℕ) (greatest : ℕ) → greatest < 2 ^ 64 → IfSome found (λ n. n ≤ greatest) → IfSome found (λ n. n < 2 ^ 64)
small_read None greatest small h = h
small_read (Some n) greatest small h = omega arith
