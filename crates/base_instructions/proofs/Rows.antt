-- The table of forms, row by row: what operands of a form make is an instruction that is spelled by the form.
use Rattle.std.proofs.Common.{◌≡◌, ℕ, zero, suc, ◌<◌, ◌^◌, Bool, true, false, not, ◌&&◌, ◌||◌, ◌==◌, List, [], ◌∷◌, ◌++◌, length, get_or, Option, IfSome, refl, sym, ap, ◌∙◌, subst, arith}
use Rattle.std.specs.List.{list_any}
use Rattle.std.proofs.lemmas.Bool.{false≢true}
use borrow.Author.Tests.{eq-eqb}
use Rattle.base_types.specs.declared.capabilities.Rights.{Rights as RightsSet}
use Rattle.base_types.specs.declared.instructions.Instr.{Instr}
use Rattle.base_types.specs.declared.instructions.Instr.TheVariants.{Set, Copy, Add, Sub, Jump, Jz, Load, Store, Invoke, Leave, Return, Map, Unmap, Lmap, Lunmap, Take, Give, Drop, Make, Spawn, Stop, Go, Snap, Stabilise, Print, Halt}
use Rattle.base_types.specs.Instructions.{IsInstruction, IsPlace, IsAccess}
use Rattle.base_instructions.specs.declared.forms.OperandKind.{OperandKind}
use Rattle.base_instructions.specs.declared.forms.OperandKind.TheVariants.{Register, Number, Place, Access, Rights, Entry}
use Rattle.base_instructions.specs.declared.forms.Operand.{Operand}
use Rattle.base_instructions.specs.declared.forms.Operand.TheVariants as operand
use Rattle.base_instructions.specs.Spelling.{spelling}
use Rattle.base_instructions.specs.Forms.{tail, AreOperands, Row, rows, row_at, word_at, kinds_at, build_at, code_of, operands_of, r}
use Rattle.base_instructions.proofs.Fronts.{NoBlank}
use Rattle.base_instructions.proofs.Tails.{no_blank, NoBlank-test, ends, tails_same, split_blank}

-- operands of a list of kinds, one by one

module _ (ks : List OperandKind) (P : List Operand → Type 0) where
  with_register : ((a : ℕ) → a < 8 → (os : List Operand) → AreOperands ks os → P (r a ∷ os)) → (os : List Operand) → AreOperands (Register ∷ ks) os → P os
  with_register f [] h = absurd h
  with_register f (operand.Register a ∷ os) h = f a h.0 os h.1
  with_register f (operand.Number n ∷ os) h = absurd h.0
  with_register f (operand.Place p ∷ os) h = absurd h.0
  with_register f (operand.Rights s ∷ os) h = absurd h.0
  with_register f (operand.Entry e ∷ os) h = absurd h.0

  with_number : ((n : ℕ) → n < 2 ^ 64 → (os : List Operand) → AreOperands ks os → P (operand.Number n ∷ os)) → (os : List Operand) → AreOperands (Number ∷ ks) os → P os
  with_number f [] h = absurd h
  with_number f (operand.Register a ∷ os) h = absurd h.0
  with_number f (operand.Number n ∷ os) h = f n h.0 os h.1
  with_number f (operand.Place p ∷ os) h = absurd h.0
  with_number f (operand.Rights s ∷ os) h = absurd h.0
  with_number f (operand.Entry e ∷ os) h = absurd h.0

  with_place : ((p : ℕ) → p < 128 → (os : List Operand) → AreOperands ks os → P (operand.Place p ∷ os)) → (os : List Operand) → AreOperands (Place ∷ ks) os → P os
  with_place f [] h = absurd h
  with_place f (operand.Register a ∷ os) h = absurd h.0
  with_place f (operand.Number n ∷ os) h = absurd h.0
  with_place f (operand.Place p ∷ os) h = f p h.0 os h.1
  with_place f (operand.Rights s ∷ os) h = absurd h.0
  with_place f (operand.Entry e ∷ os) h = absurd h.0

  with_access : ((s : RightsSet) → IsAccess s.0 → (os : List Operand) → AreOperands ks os → P (operand.Rights s ∷ os)) → (os : List Operand) → AreOperands (Access ∷ ks) os → P os
  with_access f [] h = absurd h
  with_access f (operand.Register a ∷ os) h = absurd h.0
  with_access f (operand.Number n ∷ os) h = absurd h.0
  with_access f (operand.Place p ∷ os) h = absurd h.0
  with_access f (operand.Rights s ∷ os) h = f s h.0 os h.1
  with_access f (operand.Entry e ∷ os) h = absurd h.0

  with_rights : ((s : RightsSet) → s.0 < 2 ^ 8 → (os : List Operand) → AreOperands ks os → P (operand.Rights s ∷ os)) → (os : List Operand) → AreOperands (Rights ∷ ks) os → P os
  with_rights f [] h = absurd h
  with_rights f (operand.Register a ∷ os) h = absurd h.0
  with_rights f (operand.Number n ∷ os) h = absurd h.0
  with_rights f (operand.Place p ∷ os) h = absurd h.0
  with_rights f (operand.Rights s ∷ os) h = f s h.0 os h.1
  with_rights f (operand.Entry e ∷ os) h = absurd h.0

  with_entry : ((e : Option ℕ) → IfSome e IsPlace → (os : List Operand) → AreOperands ks os → P (operand.Entry e ∷ os)) → (os : List Operand) → AreOperands (Entry ∷ ks) os → P os
  with_entry f [] h = absurd h
  with_entry f (operand.Register a ∷ os) h = absurd h.0
  with_entry f (operand.Number n ∷ os) h = absurd h.0
  with_entry f (operand.Place p ∷ os) h = absurd h.0
  with_entry f (operand.Rights s ∷ os) h = absurd h.0
  with_entry f (operand.Entry e ∷ os) h = f e h.0 os h.1

with_end : (P : List Operand → Type 0) → P [] → (os : List Operand) → AreOperands [] os → P os
with_end P p [] h = p
with_end P p (o ∷ os) h = absurd h

-- the shapes of the forms

module _ (P : List Operand → Type 0) where
  none : P [] → (os : List Operand) → AreOperands [] os → P os
  none f = with_end P f

  r1 : ((a : ℕ) → a < 8 → P (r a ∷ [])) → (os : List Operand) → AreOperands (Register ∷ []) os → P os
  r1 f = with_register [] P (λ a ha. with_end (λ t. P (r a ∷ t)) (f a ha))

  r2 : ((a b : ℕ) → a < 8 → b < 8 → P (r a ∷ r b ∷ [])) → (os : List Operand) → AreOperands (Register ∷ Register ∷ []) os → P os
  r2 f = with_register (Register ∷ []) P (λ a ha. with_register [] (λ t. P (r a ∷ t)) (λ b hb. with_end (λ t. P (r a ∷ r b ∷ t)) (f a b ha hb)))

  r_n : ((a n : ℕ) → a < 8 → n < 2 ^ 64 → P (r a ∷ operand.Number n ∷ [])) → (os : List Operand) → AreOperands (Register ∷ Number ∷ []) os → P os
  r_n f = with_register (Number ∷ []) P (λ a ha. with_number [] (λ t. P (r a ∷ t)) (λ n hn. with_end (λ t. P (r a ∷ operand.Number n ∷ t)) (f a n ha hn)))

  p1 : ((p : ℕ) → p < 128 → P (operand.Place p ∷ [])) → (os : List Operand) → AreOperands (Place ∷ []) os → P os
  p1 f = with_place [] P (λ p hp. with_end (λ t. P (operand.Place p ∷ t)) (f p hp))

  r_p : ((a p : ℕ) → a < 8 → p < 128 → P (r a ∷ operand.Place p ∷ [])) → (os : List Operand) → AreOperands (Register ∷ Place ∷ []) os → P os
  r_p f = with_register (Place ∷ []) P (λ a ha. with_place [] (λ t. P (r a ∷ t)) (λ p hp. with_end (λ t. P (r a ∷ operand.Place p ∷ t)) (f a p ha hp)))

module _ (P : List Operand → Type 0) (ks : List OperandKind) where
  r3_more : ((a b c : ℕ) → a < 8 → b < 8 → c < 8 → (os : List Operand) → AreOperands ks os → P (r a ∷ r b ∷ r c ∷ os)) → (os : List Operand) → AreOperands (Register ∷ Register ∷ Register ∷ ks) os → P os
  r3_more f =
      with_register (Register ∷ Register ∷ ks) P (λ a ha.
      with_register (Register ∷ ks) (λ t. P (r a ∷ t)) (λ b hb.
      with_register ks (λ t. P (r a ∷ r b ∷ t)) (λ c hc. f a b c ha hb hc)))

-- what operands of this form make is an instruction that is spelled by the form
abbrev Good : Row → List Operand → Type 0
Good row os = IsInstruction (row.build os) × (spelling (row.build os) ≡ row.word ++ tail os)

abbrev IsGood : Row → Type 0
IsGood row = (os : List Operand) → AreOperands row.kinds os → Good row os

abbrev pub AllRows : (Row → Type 0) → List Row → Type 0
AllRows P [] = Unit {0}
AllRows P (x ∷ xs) = P x × AllRows P xs

pub at_row : (P : Row → Type 0) (d : Row) (xs : List Row) → AllRows P xs → (i : ℕ) → i < length xs → P (get_or xs i d)
at_row P d [] all i l = absurd (omega arith)
at_row P d (x ∷ xs) all zero l = all.0
at_row P d (x ∷ xs) all (suc i) l = at_row P d xs all.1 i (omega arith)

rows_good : AllRows IsGood rows
rows_good = (
  r_n _ (λ a n ha hn. ((ha, hn), refl)),
  (
    r2 _ (λ a b ha hb. ((ha, hb), refl)),
    (
      r2 _ (λ a b ha hb. ((ha, hb), refl)),
      (
        r2 _ (λ a b ha hb. ((ha, hb), refl)),
        (
          p1 _ (λ p hp. (hp, refl)),
          (
            r_p _ (λ a p ha hp. ((ha, hp), refl)),
            (
              r2 _ (λ a b ha hb. ((ha, hb), refl)),
              (
                r2 _ (λ a b ha hb. ((ha, hb), refl)),
                (
                  r1 _ (λ a ha. (ha, refl)),
                  (
                    r1 _ (λ a ha. (ha, refl)),
                    (
                      none _ (tt, refl),
                      (
                        map_good,
                        (
                          r2 _ (λ a b ha hb. ((ha, hb), refl)),
                          (
                            lmap_good,
                            (
                              r1 _ (λ a ha. (ha, refl)),
                              (
                                take_good,
                                (
                                  give_good,
                                  (
                                    r1 _ (λ a ha. (ha, refl)),
                                    (
                                      make_good,
                                      (
                                        r_p _ (λ a p ha hp. ((ha, hp), refl)),
                                        (
                                          r1 _ (λ a ha. (ha, refl)),
                                          (
                                            r1 _ (λ a ha. (ha, refl)),
                                            (
                                              r1 _ (λ a ha. (ha, refl)),
                                              (
                                                r1 _ (λ a ha. (ha, refl)),
                                                (
                                                  r1 _ (λ a ha. (ha, refl)),
                                                  (none _ (tt, refl), tt),
                                                ),
                                              ),
                                            ),
                                          ),
                                        ),
                                      ),
                                    ),
                                  ),
                                ),
                              ),
                            ),
                          ),
                        ),
                      ),
                    ),
                  ),
                ),
              ),
            ),
          ),
        ),
      ),
    ),
  ),
)
  where
    map_good : IsGood (row_at 11)
    map_good =
        r3_more (Good (row_at 11)) (Register ∷ Register ∷ Access ∷ []) (λ a b c ha hb hc.
        with_register (Register ∷ Access ∷ []) (λ t. Good (row_at 11) (r a ∷ r b ∷ r c ∷ t)) (λ d hd.
        with_register (Access ∷ []) (λ t. Good (row_at 11) (r a ∷ r b ∷ r c ∷ r d ∷ t)) (λ e he.
        with_access [] (λ t. Good (row_at 11) (r a ∷ r b ∷ r c ∷ r d ∷ r e ∷ t)) (λ s hs.
        with_end (λ t. Good (row_at 11) (r a ∷ r b ∷ r c ∷ r d ∷ r e ∷ operand.Rights s ∷ t)) ((ha, hb, hc, hd, he, hs), refl)))))

    lmap_good : IsGood (row_at 13)
    lmap_good =
        r3_more (Good (row_at 13)) (Register ∷ Access ∷ []) (λ a b c ha hb hc.
        with_register (Access ∷ []) (λ t. Good (row_at 13) (r a ∷ r b ∷ r c ∷ t)) (λ d hd.
        with_access [] (λ t. Good (row_at 13) (r a ∷ r b ∷ r c ∷ r d ∷ t)) (λ s hs.
        with_end (λ t. Good (row_at 13) (r a ∷ r b ∷ r c ∷ r d ∷ operand.Rights s ∷ t)) ((ha, hb, hc, hd, hs), refl))))

    take_good : IsGood (row_at 15)
    take_good = r3_more (Good (row_at 15)) [] (λ a b c ha hb hc. with_end (λ t. Good (row_at 15) (r a ∷ r b ∷ r c ∷ t)) ((ha, hb, hc), refl))

    give_good : IsGood (row_at 16)
    give_good = r3_more (Good (row_at 16)) (Rights ∷ []) (λ a b c ha hb hc. with_rights [] (λ t. Good (row_at 16) (r a ∷ r b ∷ r c ∷ t)) (λ s hs. with_end (λ t. Good (row_at 16) (r a ∷ r b ∷ r c ∷ operand.Rights s ∷ t)) ((ha, hb, hc, hs), refl)))

    make_good : IsGood (row_at 18)
    make_good = r3_more (Good (row_at 18)) (Entry ∷ []) (λ a b c ha hb hc. with_entry [] (λ t. Good (row_at 18) (r a ∷ r b ∷ r c ∷ t)) (λ e he. with_end (λ t. Good (row_at 18) (r a ∷ r b ∷ r c ∷ operand.Entry e ∷ t)) ((ha, hb, hc, he), refl)))

pub built : (code : ℕ) (os : List Operand) → code < 26 → AreOperands (kinds_at code) os → IsInstruction (build_at code os) × (spelling (build_at code os) ≡ word_at code ++ tail os)
built code os small oks = at_row IsGood _ rows rows_good code small os oks

-- an instruction has the operands of its form, and is made of them
pub record HasForm (i : Instr) : Type 0 where
  pub code : code_of i < 26
  pub operands : AreOperands (kinds_at (code_of i)) (operands_of i)
  pub made : build_at (code_of i) (operands_of i) ≡ i

has_form : (i : Instr) → code_of i < 26 → AreOperands (kinds_at (code_of i)) (operands_of i) → build_at (code_of i) (operands_of i) ≡ i → HasForm i
has_form i a b c = record { code = a; operands = b; made = c }

pub form_of : (i : Instr) → IsInstruction i → HasForm i
form_of (Set d n) h = has_form _ (omega arith) (h.0, (h.1, tt)) refl
form_of (Copy d s) h = has_form _ (omega arith) (h.0, (h.1, tt)) refl
form_of (Add d s) h = has_form _ (omega arith) (h.0, (h.1, tt)) refl
form_of (Sub d s) h = has_form _ (omega arith) (h.0, (h.1, tt)) refl
form_of (Jump p) h = has_form _ (omega arith) (h, tt) refl
form_of (Jz s p) h = has_form _ (omega arith) (h.0, (h.1, tt)) refl
form_of (Load d a) h = has_form _ (omega arith) (h.0, (h.1, tt)) refl
form_of (Store a s) h = has_form _ (omega arith) (h.0, (h.1, tt)) refl
form_of (Invoke c) h = has_form _ (omega arith) (h, tt) refl
form_of (Leave c) h = has_form _ (omega arith) (h, tt) refl
form_of Return h = has_form _ (omega arith) tt refl
form_of (Map d a c b n s) h = has_form _ (omega arith) (h.0, (h.1, (h.2, (h.3, (h.4, (h.5, tt)))))) refl
form_of (Unmap d a) h = has_form _ (omega arith) (h.0, (h.1, tt)) refl
form_of (Lmap a c b n s) h = has_form _ (omega arith) (h.0, (h.1, (h.2, (h.3, (h.4, tt))))) refl
form_of (Lunmap a) h = has_form _ (omega arith) (h, tt) refl
form_of (Take d c y) h = has_form _ (omega arith) (h.0, (h.1, (h.2, tt))) refl
form_of (Give d c s g) h = has_form _ (omega arith) (h.0, (h.1, (h.2, (h.3, tt)))) refl
form_of (Drop s) h = has_form _ (omega arith) (h, tt) refl
form_of (Make d n t e) h = has_form _ (omega arith) (h.0, (h.1, (h.2, (h.3, tt)))) refl
form_of (Spawn d p) h = has_form _ (omega arith) (h.0, (h.1, tt)) refl
form_of (Stop c) h = has_form _ (omega arith) (h, tt) refl
form_of (Go c) h = has_form _ (omega arith) (h, tt) refl
form_of (Snap c) h = has_form _ (omega arith) (h, tt) refl
form_of (Stabilise c) h = has_form _ (omega arith) (h, tt) refl
form_of (Print s) h = has_form _ (omega arith) (h, tt) refl
form_of Halt h = has_form _ (omega arith) tt refl

pub spelled_by_form : (i : Instr) → IsInstruction i → spelling i ≡ word_at (code_of i) ++ tail (operands_of i)
spelled_by_form i h = let f = form_of i h in ap spelling (sym f.made) ∙ (built (code_of i) (operands_of i) f.code f.operands).1

-- words have no blanks, and differ from each other

words_plain : AllRows (λ x. no_blank x.word ≡ true) rows
words_plain = (refl, (refl, (refl, (refl, (refl, (refl, (refl, (refl, (refl, (refl, (refl, (refl, (refl, (refl, (refl, (refl, (refl, (refl, (refl, (refl, (refl, (refl, (refl, (refl, (refl, (refl, tt))))))))))))))))))))))))))

pub NoBlank-word : (code : ℕ) → code < 26 → NoBlank (word_at code)
NoBlank-word code small = NoBlank-test (word_at code) (at_row (λ x. no_blank x.word ≡ true) _ rows words_plain code small)

abbrev same_bytes : List ℕ → List ℕ → Bool
same_bytes [] [] = true
same_bytes (x ∷ xs) (y ∷ ys) = x == y && same_bytes xs ys
same_bytes _ _ = false

same_bytes_refl : (xs : List ℕ) → same_bytes xs xs ≡ true
same_bytes_refl [] = refl
same_bytes_refl (x ∷ xs) = ap (λ b. b && same_bytes xs xs) (eq-eqb x x refl) ∙ same_bytes_refl xs

abbrev all_differ : List Row → Bool
all_differ [] = true
all_differ (x ∷ xs) = not (list_any (λ y. same_bytes x.word y.word) xs) && all_differ xs

not_among : (x d : Row) (xs : List Row) → list_any (λ y. same_bytes x.word y.word) xs ≡ false → (i : ℕ) → i < length xs → x.word ≡ (get_or xs i d).word → ⊥
not_among x d [] e i l same = omega arith
not_among x d (y ∷ xs) e zero l same = by (same_bytes x.word y.word) e (sym (ap (same_bytes x.word) same) ∙ same_bytes_refl x.word)
  where
    by : (b : Bool) → (b || list_any (λ y. same_bytes x.word y.word) xs) ≡ false → b ≡ true → ⊥
    by true f g = false≢true (sym f)
    by false f g = false≢true g
not_among x d (y ∷ xs) e (suc i) l same = not_among x d xs (by (same_bytes x.word y.word) e) i (omega arith) same
  where
    by : (b : Bool) → (b || list_any (λ y. same_bytes x.word y.word) xs) ≡ false → list_any (λ y. same_bytes x.word y.word) xs ≡ false
    by true f = absurd (false≢true (sym f))
    by false f = f

differ_parts : (x : Row) (xs : List Row) → all_differ (x ∷ xs) ≡ true → (list_any (λ y. same_bytes x.word y.word) xs ≡ false) × (all_differ xs ≡ true)
differ_parts x xs e = by (list_any (λ y. same_bytes x.word y.word) xs) refl e
  where
    by : (b : Bool) → list_any (λ y. same_bytes x.word y.word) xs ≡ b → (not b && all_differ xs) ≡ true → (list_any (λ y. same_bytes x.word y.word) xs ≡ false) × (all_differ xs ≡ true)
    by true is f = absurd (false≢true f)
    by false is f = (is, f)

same_place : (d : Row) (xs : List Row) → all_differ xs ≡ true → (i j : ℕ) → i < length xs → j < length xs → (get_or xs i d).word ≡ (get_or xs j d).word → i ≡ j
same_place d [] e i j li lj same = omega arith
same_place d (x ∷ xs) e zero zero li lj same = refl
same_place d (x ∷ xs) e zero (suc j) li lj same = absurd (not_among x d xs (differ_parts x xs e).0 j (omega arith) same)
same_place d (x ∷ xs) e (suc i) zero li lj same = absurd (not_among x d xs (differ_parts x xs e).0 i (omega arith) (sym same))
same_place d (x ∷ xs) e (suc i) (suc j) li lj same = ap suc (same_place d xs (differ_parts x xs e).1 i j (omega arith) (omega arith) same)

pub word_same : (i j : ℕ) → i < 26 → j < 26 → word_at i ≡ word_at j → i ≡ j
word_same i j li lj same = same_place _ rows refl i j li lj same

-- a spelling is that of one instruction
pub told : (i : Instr) → IsInstruction i → (code : ℕ) (os : List Operand) → code < 26 → AreOperands (kinds_at code) os → spelling i ≡ word_at code ++ tail os → i ≡ build_at code os
told i h code os small oks e =
    let f = form_of i h in
    let parts = split_blank (word_at (code_of i)) (word_at code) (tail (operands_of i)) (tail os) (NoBlank-word (code_of i) f.code) (NoBlank-word code small) (ends (operands_of i)) (ends os) (sym (spelled_by_form i h) ∙ e) in
    let codes = word_same (code_of i) code f.code small parts.0 in
    let same = tails_same (kinds_at code) (operands_of i) os (subst (λ k. AreOperands (kinds_at k) (operands_of i)) codes f.operands) oks parts.1 in
    sym f.made ∙ ap (λ k. build_at k (operands_of i)) codes ∙ ap (build_at code) same
