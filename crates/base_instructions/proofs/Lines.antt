-- A whole line: its word, and then its operands.
use Rattle.std.proofs.Common.{◌≡◌, ℕ, zero, suc, ◌+◌, ◌/◌, ◌%◌, ◌<◌, ◌≤◌, List, [], ◌∷◌, ◌++◌, length, take, drop, get_or, Some, None, refl, sym, ap, ◌∙◌, subst, ⊎_elim, arith, length-append, length-take, take-append-drop}
use Rattle.std.proofs.lemmas.List.{take_more, take_all, append-nil, get_or_default}
use Rattle.std.proofs.lemmas.Grind.{flat_map-append}
use Rattle.std.proofs.lemmas.Fmt.{length-decimal-le}
use Rattle.base_types.specs.declared.instructions.Instr.{Instr}
use Rattle.base_types.specs.Instructions.{IsInstruction}
use Rattle.base_instructions.specs.declared.forms.OperandKind.{OperandKind}
use Rattle.base_instructions.specs.declared.forms.OperandKind.TheVariants.{Register, Number, Place, Access, Rights, Entry}
use Rattle.base_instructions.specs.declared.forms.Operand.{Operand}
use Rattle.base_instructions.specs.declared.forms.Operand.TheVariants as operand
use Rattle.base_instructions.specs.Fronts.{Spelled, IsBadPlace, Reads}
use Rattle.base_instructions.specs.Spelling.{letters_of, rights, spelling, IsSpelling}
use Rattle.base_instructions.specs.Forms.{token, tail, IsOperand, AreOperands, IsTail, ReadsAll, rows, word_at, kinds_at, build_at, code_of, operands_of}
use Rattle.base_instructions.proofs.Fronts.{NoBlank, IsEndOrBlank, Then, bad_same, bad_token, bad_rest}
use Rattle.base_instructions.proofs.Letters.{parity, letters_odd, letters_even}
use Rattle.base_instructions.proofs.Tokens.{all_letters, set, rights_letters, register_back, number_back, place_back, access_back, rights_back, entry_back}
use Rattle.base_instructions.proofs.Tails.{ends, some_tail}
use Rattle.base_instructions.proofs.Rows.{AllRows, at_row, built, form_of, spelled_by_form, NoBlank-word, word_same, told}
use Rattle.std.proofs.lemmas.Bool.{cases_lt}

abbrev AWord : List ℕ → Type 0
AWord = Spelled (λ c. c < 26) word_at

abbrev Behind : List ℕ → List ℕ → Type 0
Behind word bytes = (c : ℕ) × (c < 26) × (word_at c ≡ word) × IsTail (kinds_at c) bytes

to_line : (bs : List ℕ) → Then AWord Behind bs → IsSpelling bs
to_line bs (x, y, first, (c, small, e, (os, oks, f)), g) =
    let made = built c os small oks in
    (build_at c os, made.0, made.1 ∙ ap (λ z. z ++ tail os) e ∙ ap (λ z. x ++ z) f ∙ g)

from_line : (bs : List ℕ) → IsSpelling bs → Then AWord Behind bs
from_line bs (i, h, e) =
    let f = form_of i h in
    let c = code_of i in
    (word_at c, tail (operands_of i), (c, f.code, refl), (c, f.code, refl, (operands_of i, f.operands, refl)), sym (spelled_by_form i h) ∙ e)

word_plain : (z : List ℕ) → AWord z → NoBlank z
word_plain z (c, small, e) = subst NoBlank e (NoBlank-word c small)

behind_ends : (x y : List ℕ) → Behind x y → IsEndOrBlank y
behind_ends x y (c, small, e, (os, oks, f)) = subst IsEndOrBlank f (ends os)

some_behind : (x : List ℕ) → AWord x → (y : List ℕ) × Behind x y
some_behind x (c, small, e) = let t = some_tail (kinds_at c) in (t.0, (c, small, e, t.1))

pub bad_word : (bytes : List ℕ) (n : ℕ) → Reads (λ c. c < 26) word_at bytes n None → IsBadPlace IsSpelling bytes n
bad_word bytes n h = bad_same to_line from_line bytes n (bad_token AWord Behind bytes n word_plain behind_ends some_behind h.front h.whole)

pub bad_tail : (bytes : List ℕ) (n m c : ℕ) → Reads (λ k. k < 26) word_at bytes n (Some c) → IsBadPlace (IsTail (kinds_at c)) (drop n bytes) m → IsBadPlace IsSpelling bytes (n + m)
bad_tail bytes n m c h bad =
    bad_same to_line from_line bytes (n + m) (bad_rest AWord Behind bytes n m word_plain behind_ends h.front (c, h.whole.0, h.whole.1) (bad_same to from (drop n bytes) m bad))
  where
    to : (y : List ℕ) → IsTail (kinds_at c) y → Behind (take n bytes) y
    to y t = (c, h.whole.0, h.whole.1, t)

    from : (y : List ℕ) → Behind (take n bytes) y → IsTail (kinds_at c) y
    from y (k, small, e, t) = subst (λ j. IsTail (kinds_at j) y) (word_same k c small h.whole.0 (e ∙ sym h.whole.1)) t

-- the word and the operands that were read make an instruction with this spelling
pub line_read : (bytes : List ℕ) (n c : ℕ) (os : List Operand) → Reads (λ k. k < 26) word_at bytes n (Some c) → ReadsAll (kinds_at c) (drop n bytes) [] os
    → IsInstruction (build_at c os) × (spelling (build_at c os) ≡ bytes)
line_read bytes n c os h (more, oks, e, f) =
    let made = built c more h.whole.0 oks in
    subst (λ z. IsInstruction (build_at c z) × (spelling (build_at c z) ≡ bytes)) (sym f)
    (made.0, made.1 ∙ ap (λ z. z ++ tail more) h.whole.1 ∙ ap (λ z. take n bytes ++ z) e ∙ take-append-drop n bytes)

-- how long spellings are

abbrev width : OperandKind → ℕ
width Register = 2
width Number = 20
width Place = 4
width Access = 8
width Rights = 8
width Entry = 4

pub letters_len : (letters : List ℕ) (s : ℕ) → length (letters_of letters s) ≤ length letters
letters_len [] s = omega arith
letters_len (letter ∷ letters) s = ⊎_elim
    (λ (odd : s % 2 ≡ 1). omega (arith, ap length (letters_odd letter letters s odd), letters_len letters (s / 2)))
    (λ (even : s % 2 ≡ 0). omega (arith, ap length (letters_even letter letters s even), letters_len letters (s / 2)))
    (parity s)

pub rights_len : (s : ℕ) → length (rights s) ≤ 8
rights_len zero = omega arith
rights_len (suc s) = omega (arith, ap length (rights_letters (suc s) (omega arith)), letters_len all_letters (suc s))

token_len : (k : OperandKind) (o : Operand) → IsOperand k o → length (token o) ≤ width k
token_len Register o h = let b = register_back o h in omega (arith, ap (λ p. length (token p)) b.2, length-decimal-le 1 b.0 (omega arith) (omega (arith, b.1)) (omega (arith, b.1)))
token_len Number o h = let b = number_back o h in omega (arith, ap (λ p. length (token p)) b.2, length-decimal-le 20 b.0 (omega arith) (omega (arith, b.1)) (omega (arith, b.1)))
token_len Place o h = let b = place_back o h in omega (arith, ap (λ p. length (token p)) b.2, length-decimal-le 3 b.0 (omega arith) (omega (arith, b.1)) (omega (arith, b.1)))
token_len Access o h = let b = access_back o h in omega (arith, ap (λ p. length (token p)) b.2, rights_len b.0)
token_len Rights o h = ⊎_elim
    (λ (e : o ≡ set 0). omega (arith, ap (λ p. length (token p)) e))
    (λ (b : (s : ℕ) × ((0 < s) × (s < 256)) × (o ≡ set s)). omega (arith, ap (λ p. length (token p)) b.2, rights_len b.0))
    (rights_back o h)
token_len Entry o h = ⊎_elim
    (λ (e : o ≡ operand.Entry None). omega (arith, ap (λ p. length (token p)) e))
    (λ (b : (p : ℕ) × (p ≤ 127) × (o ≡ operand.Entry (Some p))). omega (arith, ap (λ p. length (token p)) b.2, length-decimal-le 3 b.0 (omega arith) (omega (arith, b.1)) (omega (arith, b.1))))
    (entry_back o h)

abbrev room : List OperandKind → ℕ
room [] = 0
room (k ∷ ks) = 1 + width k + room ks

tail_len : (ks : List OperandKind) (os : List Operand) → AreOperands ks os → length (tail os) ≤ room ks
tail_len [] [] h = omega arith
tail_len [] (o ∷ os) h = absurd h
tail_len (k ∷ ks) [] h = absurd h
tail_len (k ∷ ks) (o ∷ os) h = omega (arith, token_len k o h.0, tail_len ks os h.1, length-append (token o) (tail os))

rows_short : AllRows (λ x. length x.word + room x.kinds ≤ 96) rows
rows_short =
    (omega arith, (omega arith, (omega arith, (omega arith, (omega arith, (omega arith, (omega arith, (omega arith, (omega arith, (omega arith, (omega arith, (omega arith, (omega arith, (omega arith, (omega arith, (omega arith, (omega arith, (omega arith, (omega arith, (omega arith, (omega arith, (omega arith, (omega arith, (omega arith, (omega arith, (omega arith, tt))))))))))))))))))))))))))

pub form_len : (c : ℕ) (os : List Operand) → c < 26 → AreOperands (kinds_at c) os → length (word_at c) + length (tail os) ≤ 96
form_len c os small oks =
    let short : length (word_at c) + room (kinds_at c) ≤ 96 = at_row (λ x. length x.word + room x.kinds ≤ 96) _ rows rows_short c small in
    omega (arith, tail_len (kinds_at c) os oks)

pub place_small : (bytes : List ℕ) (n : ℕ) → IsBadPlace IsSpelling bytes n → n ≤ 96
place_small bytes n bad =
    let s = bad.front.goes_on.1 in
    let f = form_of s.0 s.1 in
    let len = form_len (code_of s.0) (operands_of s.0) f.code f.operands in
    omega (arith, len, ap length (sym (spelled_by_form s.0 s.1) ∙ s.2), length-append (word_at (code_of s.0)) (tail (operands_of s.0)), length-append (take n bytes) bad.front.goes_on.0, length-take n bytes, bad.front.within)

-- room for the next operand
pub next_fits : (c : ℕ) (os : List Operand) (i : ℕ) (o : Operand) → c < 26 → AreOperands (kinds_at c) os → i < length os → o ≡ get_or os i o
    → length (word_at c ++ tail (take i os)) + (1 + length (token o)) ≤ 96
next_fits c os i o small oks l is =
    let more : tail (take (i + 1) os) ≡ tail (take i os) ++ tail (o ∷ []) = ap tail (take_more os i o l ∙ ap (λ p. take i os ++ p ∷ []) (sym is)) ∙ flat_map-append (λ p. 32 ∷ token p) (take i os) (o ∷ []) in
    let all : tail os ≡ tail (take (i + 1) os) ++ tail (drop (i + 1) os) = ap tail (sym (take-append-drop (i + 1) os)) ∙ flat_map-append (λ p. 32 ∷ token p) (take (i + 1) os) (drop (i + 1) os) in
    let one : tail (o ∷ []) ≡ 32 ∷ token o = append-nil (32 ∷ token o) in
    omega (arith, form_len c os small oks, ap length all, length-append (tail (take (i + 1) os)) (tail (drop (i + 1) os)), ap length more, length-append (tail (take i os)) (tail (o ∷ [])), ap length one, length-append (word_at c) (tail (take i os)))

rows_few : AllRows (λ x. length x.kinds ≤ 6) rows
rows_few =
    (omega arith, (omega arith, (omega arith, (omega arith, (omega arith, (omega arith, (omega arith, (omega arith, (omega arith, (omega arith, (omega arith, (omega arith, (omega arith, (omega arith, (omega arith, (omega arith, (omega arith, (omega arith, (omega arith, (omega arith, (omega arith, (omega arith, (omega arith, (omega arith, (omega arith, (omega arith, tt))))))))))))))))))))))))))

pub few_kinds : (c : ℕ) → c < 26 → length (kinds_at c) ≤ 6
few_kinds c small = at_row (λ x. length x.kinds ≤ 6) _ rows rows_few c small

-- instructions with one spelling are one
pub spelling_same : (i j : Instr) → IsInstruction i → IsInstruction j → spelling i ≡ spelling j → i ≡ j
spelling_same i j hi hj e = let f = form_of j hj in told i hi (code_of j) (operands_of j) f.code f.operands (e ∙ spelled_by_form j hj) ∙ f.made

-- a text with a bad place is no spelling
pub bad_no_member : (Set : List ℕ → Type 0) (bytes : List ℕ) (n : ℕ) → IsBadPlace Set bytes n → Set bytes → ⊥
bad_no_member Set bytes n bad member = ⊎_elim
    (λ (l : n < length bytes). bad.front.no_more l (drop (n + 1) bytes, subst Set (sym (take-append-drop (n + 1) bytes)) member))
    (λ (g : length bytes ≤ n). bad.incomplete (omega (arith, bad.front.within)) member)
    (cases_lt n (length bytes))

-- the same of an instruction
pub next_fits_in : (i : Instr) → IsInstruction i → (os : List Operand) (k : ℕ) (d : Operand) → os ≡ operands_of i → k < length os
    → length (word_at (code_of i) ++ tail (take k os)) + (1 + length (token (get_or os k d))) ≤ 96
next_fits_in i h os k d e l =
    let f = form_of i h in
    next_fits (code_of i) os k (get_or os k d) f.code (subst (AreOperands (kinds_at (code_of i))) (sym e) f.operands) l (get_or_default os k d (get_or os k d) l)

pub whole_line : (i : Instr) → IsInstruction i → (os : List Operand) (k : ℕ) → os ≡ operands_of i → length os ≤ k → word_at (code_of i) ++ tail (take k os) ≡ spelling i
whole_line i h os k e l = ap (λ z. word_at (code_of i) ++ tail z) (take_all k os l ∙ e) ∙ sym (spelled_by_form i h)
