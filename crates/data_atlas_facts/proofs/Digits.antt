-- Numbers of one and of two digits.
use Rattle.std.proofs.Common.{◌≡◌, ℕ, ◌+◌, ◌/◌, ◌%◌, ◌<◌, ◌≤◌, List, [], ◌∷◌, ◌++◌, ap, sym, ◌∙◌, arith}
use Rattle.std.specs.Fmt.{decimal}
use Rattle.std.proofs.lemmas.Fmt.{decimal_digit, decimal_step}

pub one_digit : (n : ℕ) → n < 10 → (35 ∷ []) ++ (48 + n) ∷ [] ≡ 35 ∷ decimal n
one_digit n small = ap (λ z. 35 ∷ z) (sym (decimal_digit n small))

pub two_digits : (n : ℕ) → 10 ≤ n → n < 64 → ((35 ∷ []) ++ (48 + n / 10) ∷ []) ++ (48 + n % 10) ∷ [] ≡ 35 ∷ decimal n
two_digits n large small =
    ap (λ z. 35 ∷ z) (sym (decimal_step n large (omega arith) ∙ ap (λ z. z ++ (48 + n % 10) ∷ []) (decimal_digit (n / 10) (omega arith))))

-- what is written byte by byte

pub made_one : (n x : ℕ) (d a b : List ℕ) → n < 10 → d ≡ [] → a ≡ d ++ 35 ∷ [] → x ≡ 48 + n → b ≡ a ++ x ∷ [] → b ≡ 35 ∷ decimal n
made_one n x d a b small e f g h = h ∙ ap (λ z. z ++ x ∷ []) (f ∙ ap (λ z. z ++ 35 ∷ []) e) ∙ ap (λ c. (35 ∷ []) ++ c ∷ []) g ∙ one_digit n small

pub made_two : (n x y : ℕ) (d a b c : List ℕ) → 10 ≤ n → n < 64 → d ≡ [] → a ≡ d ++ 35 ∷ [] → x ≡ 48 + n / 10 → b ≡ a ++ x ∷ [] → y ≡ 48 + n % 10 → c ≡ b ++ y ∷ [] → c ≡ 35 ∷ decimal n
made_two n x y d a b c large small e f g h i j =
    j ∙ ap (λ z. z ++ y ∷ []) (h ∙ ap (λ z. z ++ x ∷ []) (f ∙ ap (λ z. z ++ 35 ∷ []) e) ∙ ap (λ z. (35 ∷ []) ++ z ∷ []) g) ∙ ap (λ z. ((35 ∷ []) ++ (48 + n / 10) ∷ []) ++ z ∷ []) i ∙ two_digits n large small
