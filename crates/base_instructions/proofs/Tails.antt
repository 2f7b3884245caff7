-- Operands with a blank before each.
use Rattle.std.proofs.Common.{◌≡◌, ◌≢◌, ℕ, zero, suc, ◌+◌, ◌/◌, ◌%◌, ◌^◌, ◌<◌, ◌≤◌, Bool, true, false, not, ◌||◌, ◌==◌, List, [], ◌∷◌, ◌++◌, length, drop, get_or, Some, None, refl, sym, ap, ◌∙◌, subst, ◌⊎◌, inl, inr, ⊎_elim, arith}
use Rattle.std.specs.Fmt.{decimal}
use Rattle.std.proofs.lemmas.Bool.{cases_lt, false≢true}
use Rattle.std.specs.List.{list_any}
use borrow.Author.Tests.{eq-eqb}
use Rattle.std.proofs.lemmas.List.{get_or_past}
use Rattle.std.proofs.lemmas.Str.Parse.{digit_at}
use Rattle.std.proofs.lemmas.Fmt.{decimal_is_IsNumeral, decimal_injective}
use Rattle.base_instructions.specs.declared.forms.OperandKind.{OperandKind}
use Rattle.base_instructions.specs.declared.forms.OperandKind.TheVariants.{Register, Number, Place, Access, Rights, Entry}
use Rattle.base_instructions.specs.declared.forms.Operand.{Operand}
use Rattle.base_instructions.specs.declared.forms.Operand.TheVariants as operand
use Rattle.base_instructions.specs.Fronts.{Spelled, IsBadPlace, Reads}
use Rattle.base_instructions.specs.Spelling.{letters_of, rights}
use Rattle.base_instructions.specs.Forms.{token, tail, IsOperand, AreOperands, IsTail}
use Rattle.base_instructions.proofs.Fronts.{NoBlank, IsEndOrBlank, Then, After, bad_same, after_front, after_missing, bad_token, bad_rest}
use Rattle.base_instructions.proofs.Letters.{parity, letters_odd, letters_even, absent_front, letters_same}
use Rattle.base_instructions.proofs.Tokens.{all_letters, set, rights_letters, register_back, number_back, place_back, access_back, rights_back, entry_back}

-- tokens have no blanks

NoBlank-cons : (b : ℕ) (bytes : List ℕ) → b ≢ 32 → NoBlank bytes → NoBlank (b ∷ bytes)
NoBlank-cons b bytes other plain zero = other
NoBlank-cons b bytes other plain (suc k) = plain k

NoBlank-nil : NoBlank []
NoBlank-nil k e = omega arith

NoBlank-decimal : (n : ℕ) → n < 2 ^ 64 → NoBlank (decimal n)
NoBlank-decimal n small k e = ⊎_elim
    (λ (l : k < length (decimal n)). let d = digit_at (decimal n) k (decimal_is_IsNumeral n small).0.1 l in omega (arith, d.0))
    (λ (g : length (decimal n) ≤ k). omega (arith, get_or_past (decimal n) k 0 g))
    (cases_lt k (length (decimal n)))

NoBlank-letters : (letters : List ℕ) → NoBlank letters → (set : ℕ) → NoBlank (letters_of letters set)
NoBlank-letters [] plain set = NoBlank-nil
NoBlank-letters (letter ∷ letters) plain set = ⊎_elim
    (λ (odd : set % 2 ≡ 1). subst NoBlank (sym (letters_odd letter letters set odd)) (NoBlank-cons letter _ (plain 0) (NoBlank-letters letters (λ k. plain (suc k)) (set / 2))))
    (λ (even : set % 2 ≡ 0). subst NoBlank (sym (letters_even letter letters set even)) (NoBlank-letters letters (λ k. plain (suc k)) (set / 2)))
    (parity set)

abbrev pub no_blank : List ℕ → Bool
no_blank bytes = not (list_any (λ b. b == 32) bytes)

-- a test of bytes that are written out
pub NoBlank-test : (bytes : List ℕ) → no_blank bytes ≡ true → NoBlank bytes
NoBlank-test [] e = NoBlank-nil
NoBlank-test (b ∷ bytes) e = by (λ f. NoBlank-test bytes f) (b == 32) refl e
  where
    by : (no_blank bytes ≡ true → NoBlank bytes) → (t : Bool) → (b == 32) ≡ t → not (t || list_any (λ c. c == 32) bytes) ≡ true → NoBlank (b ∷ bytes)
    by rest true is f = absurd (false≢true f)
    by rest false is f = NoBlank-cons b bytes (λ same. false≢true (sym is ∙ eq-eqb b 32 same)) (rest f)

pub NoBlank_rights : (set : ℕ) → NoBlank (rights set)
NoBlank_rights zero = NoBlank-cons 45 [] (omega arith) NoBlank-nil
NoBlank_rights (suc n) = subst NoBlank (sym (rights_letters (suc n) (omega arith))) (NoBlank-letters all_letters (NoBlank-test all_letters refl) (suc n))

pub NoBlank-token : (k : OperandKind) (o : Operand) → IsOperand k o → NoBlank (token o)
NoBlank-token Register o h = let b = register_back o h in subst (λ p. NoBlank (token p)) (sym b.2) (NoBlank-cons 114 (decimal b.0) (omega arith) (NoBlank-decimal b.0 (omega (arith, b.1))))
NoBlank-token Number o h = let b = number_back o h in subst (λ p. NoBlank (token p)) (sym b.2) (NoBlank-decimal b.0 (omega (arith, b.1)))
NoBlank-token Place o h = let b = place_back o h in subst (λ p. NoBlank (token p)) (sym b.2) (NoBlank-cons 64 (decimal b.0) (omega arith) (NoBlank-decimal b.0 (omega (arith, b.1))))
NoBlank-token Access o h = let b = access_back o h in subst (λ p. NoBlank (token p)) (sym b.2) (NoBlank_rights b.0)
NoBlank-token Rights o h = ⊎_elim
    (λ (e : o ≡ set 0). subst (λ p. NoBlank (token p)) (sym e) (NoBlank_rights 0))
    (λ (b : (s : ℕ) × ((0 < s) × (s < 256)) × (o ≡ set s)). subst (λ p. NoBlank (token p)) (sym b.2) (NoBlank_rights b.0))
    (rights_back o h)
NoBlank-token Entry o h = ⊎_elim
    (λ (e : o ≡ operand.Entry None). subst (λ p. NoBlank (token p)) (sym e) (NoBlank-test (45 ∷ []) refl))
    (λ (b : (p : ℕ) × (p ≤ 127) × (o ≡ operand.Entry (Some p))). subst (λ p. NoBlank (token p)) (sym b.2) (NoBlank-cons 64 (decimal b.0) (omega arith) (NoBlank-decimal b.0 (omega (arith, b.1)))))
    (entry_back o h)

pub ends : (os : List Operand) → IsEndOrBlank (tail os)
ends [] = tt
ends (o ∷ os) = refl

-- some operands of each kind

abbrev some_operand : OperandKind → Operand
some_operand Register = operand.Register 0
some_operand Number = operand.Number 0
some_operand Place = operand.Place 0
some_operand Access = set 1
some_operand Rights = set 0
some_operand Entry = operand.Entry None

some_operand_fits : (k : OperandKind) → IsOperand k (some_operand k)
some_operand_fits Register = omega arith
some_operand_fits Number = omega arith
some_operand_fits Place = omega arith
some_operand_fits Access = (omega arith, omega arith)
some_operand_fits Rights = omega arith
some_operand_fits Entry = tt

pub some_operands : (ks : List OperandKind) → (os : List Operand) × AreOperands ks os
some_operands [] = ([], tt)
some_operands (k ∷ ks) = let more = some_operands ks in (some_operand k ∷ more.0, (some_operand_fits k, more.1))

pub some_tail : (ks : List OperandKind) → (y : List ℕ) × IsTail ks y
some_tail ks = let os = some_operands ks in (tail os.0, (os.0, os.1, refl))

-- a blank, an operand, and the others

abbrev OneAndMore : OperandKind → List OperandKind → List ℕ → Type 0
OneAndMore k ks = Then (Spelled (IsOperand k) token) (λ x y. IsTail ks y)

to_tail : (k : OperandKind) (ks : List OperandKind) (bs : List ℕ) → After 32 (OneAndMore k ks) bs → IsTail (k ∷ ks) bs
to_tail k ks bs (y, (x, z, (o, ok, e), (os, oks, f), g), h) =
    (o ∷ os, (ok, oks), ap (λ w. 32 ∷ (w ++ tail os)) e ∙ ap (λ w. 32 ∷ (x ++ w)) f ∙ ap (λ w. 32 ∷ w) g ∙ h)

from_tail : (k : OperandKind) (ks : List OperandKind) (bs : List ℕ) → IsTail (k ∷ ks) bs → After 32 (OneAndMore k ks) bs
from_tail k ks bs ([], oks, e) = absurd oks
from_tail k ks bs (o ∷ os, (ok, oks), e) = (token o ++ tail os, (token o, tail os, (o, ok, refl), (os, oks, refl), refl), e)

after_bad : (c : ℕ) (Set : List ℕ → Type 0) (bytes : List ℕ) (n : ℕ) → IsBadPlace Set bytes n → IsBadPlace (After c Set) (c ∷ bytes) (n + 1)
after_bad c Set bytes n h = record {
  front = after_front c Set bytes n h.front;
  incomplete = λ same (y, member, e). h.incomplete (omega arith) (let f : y ≡ bytes = cc in subst Set f member);
}

one_plain : (k : OperandKind) (z : List ℕ) → Spelled (IsOperand k) token z → NoBlank z
one_plain k z (o, ok, e) = subst NoBlank e (NoBlank-token k o ok)

more_ends : (ks : List OperandKind) (x y : List ℕ) → IsTail ks y → IsEndOrBlank y
more_ends ks x y (os, oks, e) = subst IsEndOrBlank e (ends os)

-- the bad places of operands

pub bad_blank : (k : OperandKind) (ks : List OperandKind) (bytes : List ℕ) → (0 < length bytes → get_or bytes 0 0 ≢ 32) → IsBadPlace (IsTail (k ∷ ks)) bytes 0
bad_blank k ks bytes other =
    let some = from_tail k ks _ (some_tail (k ∷ ks)).1 in
    bad_same (to_tail k ks) (from_tail k ks) bytes 0 (record {
      front = after_missing 32 (OneAndMore k ks) bytes some.0 some.1 other;
      incomplete = λ same (y, member, e). omega (arith, ap length e);
    })

pub bad_operand : (k : OperandKind) (ks : List OperandKind) (bytes : List ℕ) (n : ℕ) → Reads (IsOperand k) token bytes n None → IsBadPlace (IsTail (k ∷ ks)) (32 ∷ bytes) (n + 1)
bad_operand k ks bytes n h =
    bad_same (to_tail k ks) (from_tail k ks) (32 ∷ bytes) (n + 1) (after_bad 32 (OneAndMore k ks) bytes n
    (bad_token (Spelled (IsOperand k) token) (λ x y. IsTail ks y) bytes n (one_plain k) (more_ends ks) (λ x s. some_tail ks) h.front h.whole))

pub bad_later : (k : OperandKind) (ks : List OperandKind) (bytes : List ℕ) (n m : ℕ) (o : Operand) → Reads (IsOperand k) token bytes n (Some o) → IsBadPlace (IsTail ks) (drop n bytes) m
    → IsBadPlace (IsTail (k ∷ ks)) (32 ∷ bytes) (n + m + 1)
bad_later k ks bytes n m o h bad =
    bad_same (to_tail k ks) (from_tail k ks) (32 ∷ bytes) (n + m + 1) (after_bad 32 (OneAndMore k ks) bytes (n + m)
    (bad_rest (Spelled (IsOperand k) token) (λ x y. IsTail ks y) bytes n m (one_plain k) (more_ends ks) h.front (o, h.whole.0, h.whole.1) bad))

-- operands are told by their spelling

pub split_blank : (x x' y y' : List ℕ) → NoBlank x → NoBlank x' → IsEndOrBlank y → IsEndOrBlank y' → x ++ y ≡ x' ++ y' → (x ≡ x') × (y ≡ y')
split_blank [] [] y y' plain plain' end end' e = (refl, e)
split_blank [] (b ∷ x') [] y' plain plain' end end' e = absurd (omega (arith, ap length e))
split_blank [] (b ∷ x') (c ∷ y) y' plain plain' end end' e = absurd (plain' 0 (let f : b ≡ c = cc in f ∙ end))
split_blank (b ∷ x) [] y [] plain plain' end end' e = absurd (omega (arith, ap length e))
split_blank (b ∷ x) [] y (c ∷ y') plain plain' end end' e = absurd (plain 0 (let f : b ≡ c = cc in f ∙ end'))
split_blank (b ∷ x) (c ∷ x') y y' plain plain' end end' e =
    let heads : b ≡ c = cc in
    let rest = split_blank x x' y y' (λ k. plain (suc k)) (λ k. plain' (suc k)) end end' (let f : x ++ y ≡ x' ++ y' = cc in f) in
    (cc rest.0, rest.1)

rights_same : (m n : ℕ) → m < 256 → n < 256 → rights m ≡ rights n → m ≡ n
rights_same zero zero m_small n_small e = refl
rights_same zero (suc n) m_small n_small e = absurd (absent_front 45 all_letters refl (suc n) [] (sym (rights_letters (suc n) (omega arith)) ∙ sym e))
rights_same (suc m) zero m_small n_small e = absurd (absent_front 45 all_letters refl (suc m) [] (sym (rights_letters (suc m) (omega arith)) ∙ e))
rights_same (suc m) (suc n) m_small n_small e = letters_same all_letters refl (suc m) (suc n) m_small n_small (sym (rights_letters (suc m) (omega arith)) ∙ e ∙ rights_letters (suc n) (omega arith))

any_set : (o : Operand) → IsOperand Rights o → (s : ℕ) × (s < 256) × (o ≡ set s)
any_set o h = ⊎_elim (λ (e : o ≡ set 0). (0, omega arith, e)) (λ (b : (s : ℕ) × ((0 < s) × (s < 256)) × (o ≡ set s)). (b.0, b.1.1, b.2)) (rights_back o h)

pub token_same : (k : OperandKind) (o p : Operand) → IsOperand k o → IsOperand k p → token o ≡ token p → o ≡ p
token_same Register o p ok pk e =
    let a = register_back o ok in let b = register_back p pk in
    let f : 114 ∷ decimal a.0 ≡ 114 ∷ decimal b.0 = sym (ap token a.2) ∙ e ∙ ap token b.2 in
    a.2 ∙ ap operand.Register (decimal_injective a.0 b.0 (omega (arith, a.1)) (omega (arith, b.1)) cc) ∙ sym b.2
token_same Number o p ok pk e =
    let a = number_back o ok in let b = number_back p pk in
    a.2 ∙ ap operand.Number (decimal_injective a.0 b.0 (omega (arith, a.1)) (omega (arith, b.1)) (sym (ap token a.2) ∙ e ∙ ap token b.2)) ∙ sym b.2
token_same Place o p ok pk e =
    let a = place_back o ok in let b = place_back p pk in
    let f : 64 ∷ decimal a.0 ≡ 64 ∷ decimal b.0 = sym (ap token a.2) ∙ e ∙ ap token b.2 in
    a.2 ∙ ap operand.Place (decimal_injective a.0 b.0 (omega (arith, a.1)) (omega (arith, b.1)) cc) ∙ sym b.2
token_same Access o p ok pk e =
    let a = access_back o ok in let b = access_back p pk in
    a.2 ∙ ap set (rights_same a.0 b.0 (omega (arith, a.1.1)) (omega (arith, b.1.1)) (sym (ap token a.2) ∙ e ∙ ap token b.2)) ∙ sym b.2
token_same Rights o p ok pk e =
    let a = any_set o ok in let b = any_set p pk in
    a.2 ∙ ap set (rights_same a.0 b.0 a.1 b.1 (sym (ap token a.2) ∙ e ∙ ap token b.2)) ∙ sym b.2
token_same Entry o p ok pk e = entries (entry_back o ok) (entry_back p pk)
  where
    entries : (o ≡ operand.Entry None) ⊎ ((q : ℕ) × (q ≤ 127) × (o ≡ operand.Entry (Some q))) → (p ≡ operand.Entry None) ⊎ ((q : ℕ) × (q ≤ 127) × (p ≡ operand.Entry (Some q))) → o ≡ p
    entries (inl a) (inl b) = a ∙ sym b
    entries (inl a) (inr b) = let f : 45 ∷ [] ≡ 64 ∷ decimal b.0 = sym (ap token a) ∙ e ∙ ap token b.2 in cc
    entries (inr a) (inl b) = let f : 64 ∷ decimal a.0 ≡ 45 ∷ [] = sym (ap token a.2) ∙ e ∙ ap token b in cc
    entries (inr a) (inr b) =
        let f : 64 ∷ decimal a.0 ≡ 64 ∷ decimal b.0 = sym (ap token a.2) ∙ e ∙ ap token b.2 in
        a.2 ∙ ap (λ q. operand.Entry (Some q)) (decimal_injective a.0 b.0 (omega (arith, a.1)) (omega (arith, b.1)) cc) ∙ sym b.2

pub tails_same : (ks : List OperandKind) (os ps : List Operand) → AreOperands ks os → AreOperands ks ps → tail os ≡ tail ps → os ≡ ps
tails_same [] [] [] oks pks e = refl
tails_same [] [] (p ∷ ps) oks pks e = absurd pks
tails_same [] (o ∷ os) ps oks pks e = absurd oks
tails_same (k ∷ ks) [] ps oks pks e = absurd oks
tails_same (k ∷ ks) (o ∷ os) [] oks pks e = absurd pks
tails_same (k ∷ ks) (o ∷ os) (p ∷ ps) (ok, oks) (pk, pks) e =
    let f : token o ++ tail os ≡ token p ++ tail ps = (let g : 32 ∷ (token o ++ tail os) ≡ 32 ∷ (token p ++ tail ps) = e in cc) in
    let parts = split_blank (token o) (token p) (tail os) (tail ps) (NoBlank-token k o ok) (NoBlank-token k p pk) (ends os) (ends ps) f in
    let head = token_same k o p ok pk parts.0 in
    let rest = tails_same ks os ps oks pks parts.1 in
    cc
