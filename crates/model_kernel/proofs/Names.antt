-- Names that an atlas may have are short.
use Rattle.std.proofs.Common.{◌≡◌, ◌<◌, ◌≤◌, ℕ, ◌==◌, ◌&&◌, ◌||◌, Bool, true, false, [], ◌∷◌, length, nat_le, refl, arith}
use Rattle.std.proofs.lemmas.Bool.{false≢true, leb-true}
use Rattle.std.proofs.lemmas.Fmt.{length-decimal-le}
use Rattle.std.specs.Prelude.{decimal}
use Rattle.std.specs.List.{list_all}
use Rattle.model_kernel.specs.Outcomes.{made_name}
use Rattle.model_kernel.specs.Scripts.{text_eq}
use Rattle.model_kernel.specs.Soundness.{begins_with_letter, is_given_name, is_name_byte, is_name_of}
use Rattle.model_kernel.specs.State.{Text}
use Rattle.model_kernel.proofs.Basics.{and_left, and_right}

same_len : (s t : Text) → text_eq s t ≡ true → length s ≡ length t
same_len [] [] h = refl
same_len [] (y ∷ ys) h = absurd (false≢true h)
same_len (x ∷ xs) [] h = absurd (false≢true h)
same_len (x ∷ xs) (y ∷ ys) h = let rest = same_len xs ys (and_right (x == y) (text_eq xs ys) h) in omega (arith, rest)

given_short : (name : Text) → is_given_name name ≡ true → length name ≤ 24
given_short name h =
    leb-true (length name) 24 (and_right (begins_with_letter name && list_all is_name_byte name) (nat_le (length name) 24) (and_left (begins_with_letter name && list_all is_name_byte name && nat_le (length name) 24) _ h))

name_by : (n : ℕ) (name : Text) (b : Bool) → is_given_name name ≡ b → n < 100 → (b || text_eq name (made_name n)) ≡ true → length name ≤ 24
name_by n name true e small h = given_short name e
name_by n name false e small h =
    let same : length name ≡ length (made_name n) = same_len name (made_name n) h in
    let short : length (decimal n) ≤ 2 = length-decimal-le 2 n (omega arith) (omega (arith, small)) (omega (arith, small)) in
    omega (arith, same, short)

-- a name that is given, or made of a number
pub name_short : (n : ℕ) (name : Text) → n < 100 → is_name_of n name ≡ true → length name ≤ 24
name_short n name small h = name_by n name (is_given_name name) refl small h
