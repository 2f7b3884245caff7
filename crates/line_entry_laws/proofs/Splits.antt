-- Texts that are split at a byte that stands in neither front.
use Rattle.std.proofs.Common.{◌≡◌, ℕ, suc, ◌<◌, ◌^◌, true, false, [], ◌∷◌, ◌++◌, length, get_or, decimal, refl, sym, ap, ◌∙◌, arith}
use Rattle.std.specs.List.{list_all}
use Rattle.std.specs.Int.{IsInRange}
use Rattle.std.specs.Str.Parse.{digits_value}
use Rattle.std.proofs.lemmas.Bool.{and_parts, false≢true}
use Rattle.std.proofs.lemmas.Fmt.{decimal_is_IsNumeral}
use Rattle.std.proofs.lemmas.Str.Parse.{digit_at}
use Rattle.line_entries.specs.model_kernel.Soundness.{is_name_byte}
use Rattle.line_entries.specs.model_kernel.State.{Text}

-- the byte does not stand in the text
abbrev pub Lacks : ℕ → Text → Type 0
Lacks b [] = Unit {0}
Lacks b (c ∷ cs) = (c ≡ b → ⊥) × Lacks b cs

pub Lacks-append : (b : ℕ) (xs ys : Text) → Lacks b xs → Lacks b ys → Lacks b (xs ++ ys)
Lacks-append b [] ys h k = k
Lacks-append b (x ∷ xs) ys h k = (h.0, Lacks-append b xs ys h.1 k)

-- two fronts, each ended by a byte that the other front lacks, are the same, and so are the bytes and what follows
pub split : (p q : ℕ) (w v x y : Text) → Lacks q w → Lacks p v → w ++ p ∷ x ≡ v ++ q ∷ y → (w ≡ v) × (p ≡ q) × (x ≡ y)
split p q [] [] x y h k e = (refl, cc, cc)
split p q [] (c ∷ v) x y h k e = absurd (k.0 (cc))
split p q (c ∷ w) [] x y h k e = absurd (h.0 (cc))
split p q (c ∷ w) (d ∷ v) x y h k e =
    let tail : w ++ p ∷ x ≡ v ++ q ∷ y = cc in
    let head : c ≡ d = cc in
    let rest = split p q w v x y h.1 k.1 tail in
    let front : w ≡ v = rest.0 in
    (cc, rest.1, rest.2)

-- a text that lacks the byte is not one with it
pub no_split : (b : ℕ) (w v x : Text) → Lacks b w → w ≡ v ++ b ∷ x → ⊥
no_split b [] [] x h e = cc
no_split b [] (c ∷ v) x h e = cc
no_split b (c ∷ w) [] x h e = h.0 (cc)
no_split b (c ∷ w) (d ∷ v) x h e = let tail : w ≡ v ++ b ∷ x = cc in no_split b w v x h.1 tail

-- NAMES AND NUMBERS

pub Lacks-name : (b : ℕ) (t : Text) → is_name_byte b ≡ false → list_all is_name_byte t ≡ true → Lacks b t
Lacks-name b [] other h = tt
Lacks-name b (c ∷ t) other h =
    let parts = and_parts (is_name_byte c) (list_all is_name_byte t) h in
    ((λ (e : c ≡ b). false≢true (sym other ∙ ap is_name_byte (sym e) ∙ parts.0)), Lacks-name b t other parts.1)

Lacks-in_range : (b : ℕ) (t : Text) → ((c : ℕ) → IsInRange 48 57 c → c ≡ b → ⊥) → ((k : ℕ) → k < length t → IsInRange 48 57 (get_or t k 0)) → Lacks b t
Lacks-in_range b [] other h = tt
Lacks-in_range b (c ∷ t) other h =
    (other c (h 0 (omega arith)), Lacks-in_range b t other (λ k lt. h (suc k) (omega arith)))

pub Lacks-decimal : (b n : ℕ) → ((c : ℕ) → IsInRange 48 57 c → c ≡ b → ⊥) → n < 2 ^ 64 → Lacks b (decimal n)
Lacks-decimal b n other fits = Lacks-in_range b (decimal n) other (λ k lt. digit_at (decimal n) k (decimal_is_IsNumeral n fits).0.1 lt)

pub decimal_same : (m n : ℕ) → m < 2 ^ 64 → n < 2 ^ 64 → decimal m ≡ decimal n → m ≡ n
decimal_same m n small fits e = sym (decimal_is_IsNumeral m small).1 ∙ ap (digits_value 10) e ∙ (decimal_is_IsNumeral n fits).1
