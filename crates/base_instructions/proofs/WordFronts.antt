-- The words of instructions.
use Rattle.std.proofs.Common.{◌≡◌, ◌≢◌, ℕ, ◌+◌, ◌<◌, ◌≤◌, List, ◌++◌, length, take, drop, Option, Some, None, IfSome, sym, ap, ◌∙◌, arith, length-append, take-append-drop}
use Rattle.std.specs.Prelude.{IfNone, MatchOption}
use Rattle.std.proofs.lemmas.List.{take_at, length-take-le}
use Rattle.base_instructions.specs.Fronts.{Spelled, Reads}
use Rattle.base_instructions.specs.Forms.{word_at}

-- the longest front that any word has
pub word_ends : (bytes : List ℕ) (n : ℕ) (code : Option ℕ)
    → n ≤ length bytes
    → (k : ℕ) × (k < 26) × (n ≤ length (word_at k)) × (take n (word_at k) ≡ take n bytes)
    → ((k m : ℕ) → k < 26 → m ≤ length (word_at k) → m ≤ length bytes → take m (word_at k) ≡ take m bytes → m ≤ n)
    → IfSome code (λ c. (c < 26) × (word_at c ≡ take n bytes))
    → IfNone code ((c : ℕ) → c < 26 → word_at c ≢ take n bytes)
    → Reads (λ c. c < 26) word_at bytes n code
word_ends bytes n code within some tried is none = record {
  front = record {
    within = within;
    goes_on = (drop n (word_at some.0), (some.0, some.1, sym (take-append-drop n (word_at some.0)) ∙ ap (λ z. z ++ drop n (word_at some.0)) some.3));
    no_more = λ l (rest, (k, small, e)).
        let fits : length (take (n + 1) bytes) ≡ n + 1 = length-take-le (n + 1) bytes (omega arith) in
        let more = tried k (n + 1) small (omega (arith, ap length e, length-append (take (n + 1) bytes) rest)) (omega arith)
        (ap (take (n + 1)) e ∙ take_at (take (n + 1) bytes) rest (n + 1) fits) in
        omega arith;
  };
  whole = by code is none;
}
  where
    by : (code : Option ℕ) → IfSome code (λ c. (c < 26) × (word_at c ≡ take n bytes)) → IfNone code ((c : ℕ) → c < 26 → word_at c ≢ take n bytes)
        → MatchOption code (Spelled (λ c. c < 26) word_at (take n bytes) → ⊥) (λ c. (c < 26) × (word_at c ≡ take n bytes))
    by None is none = λ (k, small, e). none k small e
    by (Some c) is none = is
