-- `instr_of` gives the instruction that a text spells, and nothing for other texts.
use Rattle.std.proofs.Common.{◌≡◌, ℕ, zero, suc, ◌+◌, ◌<◌, ◌≤◌, Bool, true, false, ◌&&◌, ◌==◌, if◌then◌else◌, eqb, eqb-true, List, [], ◌∷◌, ◌++◌, length, Option, Some, None, MatchOption, unwrap_or, option_and_then, bytes_eq, refl, sym, ap, ◌∙◌, subst, ⊎_elim, arith}
use Rattle.std.specs.Option.{option_eq}
use Rattle.std.specs.Fmt.{decimal}
use Rattle.std.specs.List.{position_or_len}
use Rattle.std.proofs.lemmas.Bool.{and_parts, false≢true, cases_lt}
use Rattle.std.proofs.lemmas.Bool.Decides.{nat_tests}
use Rattle.std.proofs.lemmas.Fmt.{decimal_nonempty}
use Rattle.std.proofs.lemmas.Option.{none-some, same_Some}
use Rattle.std.proofs.lemmas.Slice.Eq.{bytes_eq-Decides}
use borrow.Author.Tests.{ne_eqb}
use Rattle.base_types.specs.declared.instructions.Instr.{Instr}
use Rattle.base_types.specs.Instructions.{IsInstruction}
use Rattle.base_instructions.specs.Forms.{word_at, kinds_at, build_at, code_of, operands_of, token, tail, IsOperand, AreOperands}
use Rattle.base_instructions.specs.Reader.{IsReader, is_blank, rights_of, front_word, behind_word, operand_in, operands_in, is_operand, are_operands, formed, words, place_of, instr_of}
use Rattle.base_instructions.specs.Spelling.{spelling, rights, IsSpelling}
use Rattle.base_instructions.specs.declared.forms.OperandKind.{OperandKind}
use Rattle.base_instructions.specs.declared.forms.OperandKind.TheVariants.{Register, Number, Place, Access, Rights, Entry}
use Rattle.base_instructions.specs.declared.forms.Operand.{Operand}
use Rattle.base_instructions.specs.declared.forms.Operand.TheVariants as operand
use Rattle.base_instructions.proofs.Fronts.{NoBlank, IsEndOrBlank}
use Rattle.base_instructions.proofs.Digits.{value_of_read}
use Rattle.base_instructions.proofs.Tokens.{set, register_back, number_back, place_back, access_back, rights_back, entry_back}
use Rattle.base_instructions.proofs.Tails.{NoBlank-token, ends}
use Rattle.base_instructions.proofs.Rows.{built, form_of, spelled_by_form, NoBlank-word}

-- WHAT HOLDS OF EACH SMALL NUMBER, AS A TEST

abbrev all_below : ℕ → (ℕ → Bool) → Bool
all_below zero test = true
all_below (suc n) test = test n && all_below n test

below : (n : ℕ) (test : ℕ → Bool) → all_below n test ≡ true → (k : ℕ) → k < n → test k ≡ true
below zero test all k lt = absurd (omega arith)
below (suc n) test all k lt =
    let (here, more) = and_parts (test n) (all_below n test) all in
    ⊎_elim (λ (l : k < n). below n test more k l) (λ (g : n ≤ k). let e : k ≡ n = omega arith in ap test e ∙ here) (cases_lt k n)

some_is : (o : Option ℕ) (n : ℕ) → option_eq eqb o (Some n) ≡ true → o ≡ Some n
some_is None n e = absurd (false≢true e)
some_is (Some m) n e = ap Some (eqb-true m n e)

rights_told : (s : ℕ) → s < 256 → rights_of (rights s) ≡ Some s
rights_told s small = some_is _ s (below 256 (λ n. option_eq eqb (rights_of (rights n)) (Some n)) refl s small)

word_place : (c : ℕ) → c < 26 → place_of (word_at c) words 0 ≡ Some c
word_place c small = some_is _ c (below 26 (λ n. option_eq eqb (place_of (word_at n) words 0) (Some n)) refl c small)

-- PARTS OF A LINE

front_parts : (x y : List ℕ) → NoBlank x → IsEndOrBlank y → (front_word (x ++ y) ≡ x) × (behind_word (x ++ y) ≡ y)
front_parts [] [] plain end = (refl, refl)
front_parts [] (b ∷ y) plain end =
    let e : position_or_len is_blank (b ∷ y) ≡ 0 = rw end in
    (rw e, rw e)
front_parts (c ∷ x) y plain end =
    let other : (c == 32) ≡ false = ne_eqb c 32 (plain 0) in
    let e : position_or_len is_blank (c ∷ (x ++ y)) ≡ suc (position_or_len is_blank (x ++ y)) = rw other (omega arith) in
    let (a, b) = front_parts x y (λ k. plain (suc k)) end in
    (rw e (ap (λ t. c ∷ t) a), rw e b)

operand_back : (k : OperandKind) (o : Operand) → IsOperand k o → operand_in k (token o) ≡ o
operand_back Register o h = let b = register_back o h in subst (λ p. operand_in Register (token p) ≡ p) (sym b.2) (ap operand.Register (value_of_read b.0 (omega (arith, b.1))))
operand_back Number o h = let b = number_back o h in subst (λ p. operand_in Number (token p) ≡ p) (sym b.2) (ap operand.Number (value_of_read b.0 (omega (arith, b.1))))
operand_back Place o h = let b = place_back o h in subst (λ p. operand_in Place (token p) ≡ p) (sym b.2) (ap operand.Place (value_of_read b.0 (omega (arith, b.1))))
operand_back Access o h = let b = access_back o h in subst (λ p. operand_in Access (token p) ≡ p) (sym b.2) (ap (λ s. set (unwrap_or s 0)) (rights_told b.0 (omega (arith, b.1.1))))
operand_back Rights o h = ⊎_elim
    (λ (e : o ≡ set 0). subst (λ p. operand_in Rights (token p) ≡ p) (sym e) (ap (λ s. set (unwrap_or s 0)) (rights_told 0 (omega arith))))
    (λ (b : (s : ℕ) × ((0 < s) × (s < 256)) × (o ≡ set s)). subst (λ p. operand_in Rights (token p) ≡ p) (sym b.2) (ap (λ s. set (unwrap_or s 0)) (rights_told b.0 b.1.1)))
    (rights_back o h)
operand_back Entry o h = ⊎_elim
    (λ (e : o ≡ operand.Entry None). subst (λ p. operand_in Entry (token p) ≡ p) (sym e) refl)
    (λ (b : (p : ℕ) × (p ≤ 127) × (o ≡ operand.Entry (Some p))). subst (λ p. operand_in Entry (token p) ≡ p) (sym b.2) (some_entry b.0 b.1))
    (entry_back o h)
  where
    some_entry : (p : ℕ) → p ≤ 127 → operand_in Entry (token (operand.Entry (Some p))) ≡ operand.Entry (Some p)
    some_entry p small =
        let long : (length (64 ∷ decimal p) == 1) ≡ false = ne_eqb (length (64 ∷ decimal p)) 1 (let l = decimal_nonempty p (omega arith) in omega (arith, l)) in
        rw long (ap (λ n. operand.Entry (Some n)) (value_of_read p (omega arith)))

operands_back : (ks : List OperandKind) (os : List Operand) → AreOperands ks os → operands_in ks (tail os) ≡ os
operands_back [] [] h = refl
operands_back [] (o ∷ os) h = absurd h
operands_back (k ∷ ks) [] h = absurd h
operands_back (k ∷ ks) (o ∷ os) h =
    let parts = front_parts (token o) (tail os) (NoBlank-token k o h.0) (ends os) in
    ap (λ t. operand_in k t ∷ operands_in ks (behind_word (token o ++ tail os))) parts.0
    ∙ ap (λ t. operand_in k (token o) ∷ operands_in ks t) parts.1
    ∙ ap (λ p. p ∷ operands_in ks (tail os)) (operand_back k o h.0)
    ∙ ap (λ ps. o ∷ ps) (operands_back ks os h.1)

-- RANGES, AS TESTS

entry_fits : (e : Option ℕ) → IsOperand Entry (operand.Entry e) → is_operand Entry (operand.Entry e) ≡ true
entry_fits None h = refl
entry_fits (Some p) h = grind (arith, nat_tests)

operand_fits : (k : OperandKind) (o : Operand) → IsOperand k o → is_operand k o ≡ true
operand_fits Register (operand.Register r) h = grind (arith, nat_tests)
operand_fits Number (operand.Number n) h = grind (arith, nat_tests)
operand_fits Place (operand.Place p) h = grind (arith, nat_tests)
operand_fits Access (operand.Rights s) h = grind (arith, nat_tests)
operand_fits Rights (operand.Rights s) h = grind (arith, nat_tests)
operand_fits Entry (operand.Entry e) h = entry_fits e h
operand_fits _ _ h = absurd h

entry_fit : (e : Option ℕ) → is_operand Entry (operand.Entry e) ≡ true → IsOperand Entry (operand.Entry e)
entry_fit None h = tt
entry_fit (Some p) h = grind (arith, nat_tests)

operand_fit : (k : OperandKind) (o : Operand) → is_operand k o ≡ true → IsOperand k o
operand_fit Register (operand.Register r) h = grind (arith, nat_tests)
operand_fit Number (operand.Number n) h = grind (arith, nat_tests)
operand_fit Place (operand.Place p) h = grind (arith, nat_tests)
operand_fit Access (operand.Rights s) h = (grind (arith, nat_tests), grind (arith, nat_tests))
operand_fit Rights (operand.Rights s) h = grind (arith, nat_tests)
operand_fit Entry (operand.Entry e) h = entry_fit e h
operand_fit _ _ h = absurd (false≢true h)

operands_fits : (ks : List OperandKind) (os : List Operand) → AreOperands ks os → are_operands ks os ≡ true
operands_fits [] [] h = refl
operands_fits [] (o ∷ os) h = absurd h
operands_fits (k ∷ ks) [] h = absurd h
operands_fits (k ∷ ks) (o ∷ os) h = rw (operand_fits k o h.0, operands_fits ks os h.1)

operands_fit : (ks : List OperandKind) (os : List Operand) → are_operands ks os ≡ true → AreOperands ks os
operands_fit [] [] h = tt
operands_fit [] (o ∷ os) h = absurd (false≢true h)
operands_fit (k ∷ ks) [] h = absurd (false≢true h)
operands_fit (k ∷ ks) (o ∷ os) h =
    let (here, more) = and_parts (is_operand k o) (are_operands ks os) h in
    (operand_fit k o here, operands_fit ks os more)

-- BOTH WAYS

place_below : (name : List ℕ) (ts : List (List ℕ)) (n m : ℕ) → place_of name ts n ≡ Some m → m < n + length ts
place_below name [] n m e = absurd (none-some m e)
place_below name (t ∷ ts) n m e = by (place_below name ts (n + 1) m) (bytes_eq name t) e
  where
    by : (place_of name ts (n + 1) ≡ Some m → m < n + 1 + length ts) → (b : Bool) → (if b then Some n else place_of name ts (n + 1)) ≡ Some m → m < n + length (t ∷ ts)
    by more true f = omega (arith, same_Some n m f)
    by more false f = omega (arith, more f)

abbrev Spells : List ℕ → Instr → Type 0
Spells text i = IsInstruction i × (spelling i ≡ text)

formed_spells : (text : List ℕ) (code : ℕ) (os : List Operand) (i : Instr) → code < 26 → formed text code os ≡ Some i → Spells text i
formed_spells text code os i small h = by (are_operands (kinds_at code) os && bytes_eq (word_at code ++ tail os) text) refl h
  where
    by : (b : Bool) → (are_operands (kinds_at code) os && bytes_eq (word_at code ++ tail os) text) ≡ b → (if b then Some (build_at code os) else None) ≡ Some i → Spells text i
    by true e f =
        let (fit, same) = and_parts (are_operands (kinds_at code) os) (bytes_eq (word_at code ++ tail os) text) e in
        let b = built code os small (operands_fit (kinds_at code) os fit) in
        subst (Spells text) (same_Some (build_at code os) i f) (b.0, b.1 ∙ (bytes_eq-Decides (word_at code ++ tail os) text).0 same)
    by false e f = absurd (none-some i f)

some_spells : (text : List ℕ) (i : Instr) → instr_of text ≡ Some i → Spells text i
some_spells text i h = by (place_of (front_word text) words 0) refl h
  where
    by : (p : Option ℕ) → place_of (front_word text) words 0 ≡ p → option_and_then (λ code. formed text code (operands_in (kinds_at code) (behind_word text))) p ≡ Some i → Spells text i
    by None e f = absurd (none-some i f)
    by (Some code) e f = formed_spells text code (operands_in (kinds_at code) (behind_word text)) i (place_below (front_word text) words 0 code e) f

told : (text : List ℕ) (i : Instr) → IsInstruction i → spelling i ≡ text → instr_of text ≡ Some i
told text i h s =
    let f = form_of i h in
    let c = code_of i in
    let os = operands_of i in
    let is : text ≡ word_at c ++ tail os = sym s ∙ spelled_by_form i h in
    let parts = front_parts (word_at c) (tail os) (NoBlank-word c f.code) (ends os) in
    let place : place_of (front_word text) words 0 ≡ Some c = ap (λ t. place_of (front_word t) words 0) is ∙ ap (λ t. place_of t words 0) parts.0 ∙ word_place c f.code in
    let read : operands_in (kinds_at c) (behind_word text) ≡ os = ap (λ t. operands_in (kinds_at c) (behind_word t)) is ∙ ap (operands_in (kinds_at c)) parts.1 ∙ operands_back (kinds_at c) os f.operands in
    let same : bytes_eq (word_at c ++ tail os) text ≡ true = (bytes_eq-Decides (word_at c ++ tail os) text).1 (sym is) in
    let test : (are_operands (kinds_at c) os && bytes_eq (word_at c ++ tail os) text) ≡ true = rw (operands_fits (kinds_at c) os f.operands, same) in
    ap (λ p. option_and_then (λ code. formed text code (operands_in (kinds_at code) (behind_word text))) p) place
    ∙ ap (formed text c) read
    ∙ ap (λ b. if b then Some (build_at c os) else None) test
    ∙ ap Some f.made

pub IsReader-instr_of : IsReader instr_of
IsReader-instr_of text = by (instr_of text) refl
  where
    by : (o : Option Instr) → instr_of text ≡ o → MatchOption o (¬ (IsSpelling text)) (λ i. Spells text i)
    by None e = λ s. none-some s.0 (sym e ∙ told text s.0 s.1 s.2)
    by (Some i) e = some_spells text i e
