-- Reading one token.
use Rattle.std.proofs.Common.{◌≡◌, ◌≢◌, ℕ, zero, suc, ◌+◌, ◌^◌, ◌<◌, ◌≤◌, true, cond, List, [], ◌∷◌, ◌++◌, length, take, get_or, Option, Some, None, refl, sym, ap, ◌∙◌, ◌⊎◌, inl, inr, ⊎_elim, arith, add-one, length-append, length-take}
use Rattle.std.specs.Prelude.{option_map, MatchOption}
use Rattle.std.proofs.lemmas.List.{append-nil}
use Rattle.std.specs.Fmt.{decimal}
use Rattle.std.proofs.lemmas.Bool.{cases_eq}
use borrow.Author.Tests.{ne_eqb}
use Rattle.base_instructions.specs.declared.forms.OperandKind.TheVariants.{Register, Number, Place, Access, Rights, Entry}
use Rattle.base_instructions.specs.declared.forms.Operand.{Operand}
use Rattle.base_instructions.specs.declared.forms.Operand.TheVariants as operand
use Rattle.base_instructions.specs.Fronts.{Spelled, Reads}
use Rattle.base_instructions.specs.Spelling.{letters_of, differ, ReadsLetters, rights}
use Rattle.base_instructions.specs.Forms.{token, IsOperand}
use Rattle.base_instructions.proofs.Fronts.{After, front_same, after_missing, after_front}
use Rattle.base_instructions.proofs.Letters.{letters_zero, letters_same, letters_front, absent_front}

-- values of one type as those of another
module _ {V W : Type 0} {Valid : V → Type 0} {spell : V → List ℕ} (Valid' : W → Type 0) (spell' : W → List ℕ) (f : V → W)
    (valid : (v : V) → Valid v → Valid' (f v)) (same : (v : V) → Valid v → spell' (f v) ≡ spell v) (back : (w : W) → Valid' w → (v : V) × Valid v × (w ≡ f v)) where
  to : (bs : List ℕ) → Spelled Valid spell bs → Spelled Valid' spell' bs
  to bs (v, ok, e) = (f v, valid v ok, same v ok ∙ e)

  from : (bs : List ℕ) → Spelled Valid' spell' bs → Spelled Valid spell bs
  from bs (w, ok, e) = let b = back w ok in (b.0, b.1, sym (same b.0 b.1) ∙ ap spell' (sym b.2) ∙ e)

  pub reads_as : (bytes : List ℕ) (n : ℕ) (value : Option V) → Reads Valid spell bytes n value → Reads Valid' spell' bytes n (option_map f value)
  reads_as bytes n value h = record { front = front_same to from bytes n h.front; whole = by value h.whole }
    where
      by : (value : Option V) → MatchOption value (Spelled Valid spell (take n bytes) → ⊥) (λ v. Valid v × (spell v ≡ take n bytes))
          → MatchOption (option_map f value) (Spelled Valid' spell' (take n bytes) → ⊥) (λ w. Valid' w × (spell' w ≡ take n bytes))
      by None none = λ s. none (from _ s)
      by (Some v) (ok, e) = (valid v ok, same v ok ∙ e)

-- a byte before each spelling
module _ {V : Type 0} (Valid : V → Type 0) (spell : V → List ℕ) (c : ℕ) where
  before : (bs : List ℕ) → After c (Spelled Valid spell) bs → Spelled Valid (λ v. c ∷ spell v) bs
  before bs (y, (v, ok, e), f) = (v, ok, ap (λ z. c ∷ z) e ∙ f)

  behind : (bs : List ℕ) → Spelled Valid (λ v. c ∷ spell v) bs → After c (Spelled Valid spell) bs
  behind bs (v, ok, e) = (spell v, (v, ok, refl), e)

  pub reads_after : (bytes : List ℕ) (n : ℕ) (value : Option V) → Reads Valid spell bytes n value → Reads Valid (λ v. c ∷ spell v) (c ∷ bytes) (n + 1) value
  reads_after bytes n value h = record { front = front_same before behind (c ∷ bytes) (n + 1) (after_front c _ bytes n h.front); whole = by value h.whole }
    where
      longer : take (n + 1) (c ∷ bytes) ≡ c ∷ take n bytes
      longer = rw add-one refl

      by : (value : Option V) → MatchOption value (Spelled Valid spell (take n bytes) → ⊥) (λ v. Valid v × (spell v ≡ take n bytes))
          → MatchOption value (Spelled Valid (λ v. c ∷ spell v) (take (n + 1) (c ∷ bytes)) → ⊥) (λ v. Valid v × (c ∷ spell v ≡ take (n + 1) (c ∷ bytes)))
      by None none = λ (v, ok, e). none (v, ok, let f : c ∷ spell v ≡ c ∷ take n bytes = e ∙ longer in cc)
      by (Some v) (ok, e) = (ok, ap (λ z. c ∷ z) e ∙ sym longer)

  pub reads_missing : (bytes : List ℕ) → (v : V) → Valid v → (0 < length bytes → get_or bytes 0 0 ≢ c) → Reads Valid (λ v. c ∷ spell v) bytes 0 None
  reads_missing bytes v ok other = record {
    front = front_same before behind bytes 0 (after_missing c _ bytes (spell v) (v, ok, refl) other);
    whole = λ (w, k, e). (let f : c ∷ spell w ≡ [] = e in cc);
  }

-- operands by their kinds

pub register_back : (o : Operand) → IsOperand Register o → (r : ℕ) × (r ≤ 7) × (o ≡ operand.Register r)
register_back (operand.Register r) h = (r, omega arith, refl)
register_back (operand.Number n) h = absurd h
register_back (operand.Place p) h = absurd h
register_back (operand.Rights s) h = absurd h
register_back (operand.Entry e) h = absurd h

pub number_back : (o : Operand) → IsOperand Number o → (n : ℕ) × (n ≤ 18446744073709551615) × (o ≡ operand.Number n)
number_back (operand.Register r) h = absurd h
number_back (operand.Number n) h = (n, omega arith, refl)
number_back (operand.Place p) h = absurd h
number_back (operand.Rights s) h = absurd h
number_back (operand.Entry e) h = absurd h

pub place_back : (o : Operand) → IsOperand Place o → (p : ℕ) × (p ≤ 127) × (o ≡ operand.Place p)
place_back (operand.Register r) h = absurd h
place_back (operand.Number n) h = absurd h
place_back (operand.Place p) h = (p, omega arith, refl)
place_back (operand.Rights s) h = absurd h
place_back (operand.Entry e) h = absurd h

pub reads_register : (bytes : List ℕ) (n : ℕ) (value : Option ℕ) → Reads (λ r. r ≤ 7) (λ r. 114 ∷ decimal r) bytes n value → Reads (IsOperand Register) token bytes n (option_map operand.Register value)
reads_register = reads_as (IsOperand Register) token operand.Register (λ r l. omega arith) (λ r l. refl) register_back

pub reads_number : (bytes : List ℕ) (n : ℕ) (value : Option ℕ) → Reads (λ n. n ≤ 18446744073709551615) decimal bytes n value → Reads (IsOperand Number) token bytes n (option_map operand.Number value)
reads_number = reads_as (IsOperand Number) token operand.Number (λ r l. omega arith) (λ r l. refl) number_back

pub reads_place : (bytes : List ℕ) (n : ℕ) (value : Option ℕ) → Reads (λ p. p ≤ 127) (λ p. 64 ∷ decimal p) bytes n value → Reads (IsOperand Place) token bytes n (option_map operand.Place value)
reads_place = reads_as (IsOperand Place) token operand.Place (λ r l. omega arith) (λ r l. refl) place_back

-- the letters of a set that isn't empty
module _ (letters bytes : List ℕ) (n set : ℕ) (h : ReadsLetters letters bytes n set) where
  pub reads_set : 0 < n → Reads (λ s. (0 < s) × (s < 2 ^ length letters)) (letters_of letters) bytes n (Some set)
  reads_set some = record {
    front = record { within = h.within; goes_on = ([], (set, (positive, h.small), h.spelled ∙ sym (append-nil (take n bytes)))); no_more = λ l (rest, (s, ok, e)). h.no_more l s rest e };
    whole = ((positive, h.small), h.spelled);
  }
    where
      positive : 0 < set
      positive = let none : set ≡ 0 → ⊥ = λ e. omega (arith, ap length (sym h.spelled ∙ ap (letters_of letters) e ∙ letters_zero letters), length-take n bytes, h.within) in omega (arith, none)

  pub reads_no_set : differ letters ≡ true → 1 < 2 ^ length letters → n ≡ 0 → Reads (λ s. (0 < s) × (s < 2 ^ length letters)) (letters_of letters) bytes n None
  reads_no_set d one none = record {
    front = record { within = h.within; goes_on = (letters_of letters 1, (1, (omega arith, one), ap (λ k. take k bytes ++ letters_of letters 1) (sym none))); no_more = λ l (rest, (s, ok, e)). h.no_more l s rest e };
    whole = λ (s, ok, e). let same = letters_same letters d s 0 ok.1 (omega arith) (e ∙ ap (λ k. take k bytes) none ∙ sym (letters_zero letters)) in omega arith;
  }

-- a set of which one value more is spelled by a dash
module _ {V W : Type 0} {Valid : V → Type 0} {spell : V → List ℕ} (Valid' : W → Type 0) (spell' : W → List ℕ) (w : W) (f : V → W)
    (dash : spell' w ≡ 45 ∷ []) (ok : Valid' w)
    (valid : (v : V) → Valid v → Valid' (f v)) (same : (v : V) → Valid v → spell' (f v) ≡ spell v)
    (back : (u : W) → Valid' u → (u ≡ w) ⊎ ((v : V) × Valid v × (u ≡ f v))) where
  split : (bs : List ℕ) → Spelled Valid' spell' bs → (bs ≡ 45 ∷ []) ⊎ Spelled Valid spell bs
  split bs (u, k, e) = ⊎_elim (λ (is : u ≡ w). inl (sym e ∙ ap spell' is ∙ dash)) (λ (b : (v : V) × Valid v × (u ≡ f v)). inr (b.0, b.1, sym (same b.0 b.1) ∙ sym (ap spell' b.2) ∙ e)) (back u k)

  pub reads_dash : (bytes : List ℕ) → ((v : V) → Valid v → (rest : List ℕ) → spell v ≡ 45 ∷ rest → ⊥) → Reads Valid' spell' (45 ∷ bytes) 1 (Some w)
  reads_dash bytes others = record {
    front = record {
      within = omega arith;
      goes_on = ([], (w, ok, dash));
      no_more = λ l (rest, s). ⊎_elim
          (λ (e : take 2 (45 ∷ bytes) ++ rest ≡ 45 ∷ []). omega (arith, ap length e, length-append (take 2 (45 ∷ bytes)) rest, length-take 2 (45 ∷ bytes)))
          (λ (b : Spelled Valid spell (take 2 (45 ∷ bytes) ++ rest)). others b.0 b.1 (take 1 bytes ++ rest) b.2)
          (split _ s);
    };
    whole = (ok, dash);
  }

  pub reads_no_dash : (bytes : List ℕ) (n : ℕ) (value : Option V) → (0 < length bytes → get_or bytes 0 0 ≢ 45) → Reads Valid spell bytes n value → Reads Valid' spell' bytes n (option_map f value)
  reads_no_dash bytes n value other h = record {
    front = record {
      within = h.front.within;
      goes_on = (h.front.goes_on.0, (f h.front.goes_on.1.0, valid _ h.front.goes_on.1.1, same _ h.front.goes_on.1.1 ∙ h.front.goes_on.1.2));
      no_more = λ l (rest, s). ⊎_elim
          (λ (e : take (n + 1) bytes ++ rest ≡ 45 ∷ []). other (omega arith) (first_byte bytes n rest [] l e))
          (λ (b : Spelled Valid spell (take (n + 1) bytes ++ rest)). h.front.no_more l (rest, b))
          (split _ s);
    };
    whole = by value h.whole;
  }
    where
      first_byte : (bytes : List ℕ) (n : ℕ) (rest more : List ℕ) → n < length bytes → take (n + 1) bytes ++ rest ≡ 45 ∷ more → get_or bytes 0 0 ≡ 45
      first_byte [] n rest more l e = absurd (omega arith)
      first_byte (b ∷ bytes) n rest more l e = let g : b ∷ (take n bytes ++ rest) ≡ 45 ∷ more = rw add-one at e in cc

      no_dash : (n : ℕ) (bytes : List ℕ) → (0 < length bytes → get_or bytes 0 0 ≢ 45) → take n bytes ≡ 45 ∷ [] → ⊥
      no_dash zero bytes other e = cc
      no_dash (suc n) [] other e = cc
      no_dash (suc n) (b ∷ bytes) other e = other (omega arith) (let g : b ≡ 45 = cc in g)

      by : (value : Option V) → MatchOption value (Spelled Valid spell (take n bytes) → ⊥) (λ v. Valid v × (spell v ≡ take n bytes))
          → MatchOption (option_map f value) (Spelled Valid' spell' (take n bytes) → ⊥) (λ u. Valid' u × (spell' u ≡ take n bytes))
      by None none = λ s. ⊎_elim (λ (e : take n bytes ≡ 45 ∷ []). no_dash n bytes other e) (λ (b : Spelled Valid spell (take n bytes)). none b) (split _ s)
      by (Some v) (k, e) = (valid v k, same v k ∙ e)

-- sets of rights, and places or none

abbrev pub all_letters : List ℕ
all_letters = 114 ∷ 119 ∷ 105 ∷ 109 ∷ 99 ∷ 115 ∷ 107 ∷ 116 ∷ []

abbrev pub set : ℕ → Operand
set s = operand.Rights (record { 0 = s })

pub rights_letters : (s : ℕ) → 0 < s → rights s ≡ letters_of all_letters s
rights_letters s some = ap (λ b. cond b (45 ∷ []) (letters_of all_letters s)) (ne_eqb s 0 (omega arith))

pub access_back : (o : Operand) → IsOperand Access o → (s : ℕ) × ((0 < s) × (s < 4)) × (o ≡ set s)
access_back (operand.Register r) h = absurd h
access_back (operand.Number n) h = absurd h
access_back (operand.Place p) h = absurd h
access_back (operand.Rights s) h = (s.0, (h.0, h.1), refl)
access_back (operand.Entry e) h = absurd h

pub reads_access : (bytes : List ℕ) (n : ℕ) (value : Option ℕ) → Reads (λ s. (0 < s) × (s < 4)) (letters_of (114 ∷ 119 ∷ [])) bytes n value → Reads (IsOperand Access) token bytes n (option_map set value)
reads_access = reads_as (IsOperand Access) token set (λ s ok. ok) (λ s ok. rights_letters s ok.0 ∙ letters_front (114 ∷ 119 ∷ []) (105 ∷ 109 ∷ 99 ∷ 115 ∷ 107 ∷ 116 ∷ []) s ok.1) access_back

pub rights_back : (o : Operand) → IsOperand Rights o → (o ≡ set 0) ⊎ ((s : ℕ) × ((0 < s) × (s < 256)) × (o ≡ set s))
rights_back (operand.Register r) h = absurd h
rights_back (operand.Number n) h = absurd h
rights_back (operand.Place p) h = absurd h
rights_back (operand.Rights s) h = ⊎_elim (λ (e : s.0 ≡ 0). inl (ap set e)) (λ (e : s.0 ≡ 0 → ⊥). inr (s.0, (omega arith, h), refl)) (cases_eq s.0 0)
rights_back (operand.Entry e) h = absurd h

pub reads_rights_dash : (bytes : List ℕ) → Reads (IsOperand Rights) token (45 ∷ bytes) 1 (Some (set 0))
reads_rights_dash bytes =
    reads_dash (IsOperand Rights) token (set 0) set refl (omega arith) (λ s ok. ok.1) (λ s ok. rights_letters s ok.0) rights_back bytes (λ s ok rest e. absent_front 45 all_letters refl s rest e)

pub reads_rights : (bytes : List ℕ) (n : ℕ) (value : Option ℕ) → (0 < length bytes → get_or bytes 0 0 ≢ 45) → Reads (λ s. (0 < s) × (s < 256)) (letters_of all_letters) bytes n value
    → Reads (IsOperand Rights) token bytes n (option_map set value)
reads_rights = reads_no_dash (IsOperand Rights) token (set 0) set refl (omega arith) (λ s ok. ok.1) (λ s ok. rights_letters s ok.0) rights_back

pub entry_back : (o : Operand) → IsOperand Entry o → (o ≡ operand.Entry None) ⊎ ((p : ℕ) × (p ≤ 127) × (o ≡ operand.Entry (Some p)))
entry_back (operand.Register r) h = absurd h
entry_back (operand.Number n) h = absurd h
entry_back (operand.Place p) h = absurd h
entry_back (operand.Rights s) h = absurd h
entry_back (operand.Entry None) h = inl refl
entry_back (operand.Entry (Some p)) h = inr (p, omega arith, refl)

pub reads_entry_dash : (bytes : List ℕ) → Reads (IsOperand Entry) token (45 ∷ bytes) 1 (Some (operand.Entry None))
reads_entry_dash bytes =
    reads_dash {Valid = λ p. p ≤ 127} {spell = λ p. 64 ∷ decimal p} (IsOperand Entry) token (operand.Entry None) (λ p. operand.Entry (Some p)) refl tt (λ p l. omega arith) (λ p l. refl) entry_back bytes (λ p l rest e. (let f : 64 ∷ decimal p ≡ 45 ∷ rest = e in cc))

pub reads_entry : (bytes : List ℕ) (n : ℕ) (value : Option ℕ) → (0 < length bytes → get_or bytes 0 0 ≢ 45) → Reads (λ p. p ≤ 127) (λ p. 64 ∷ decimal p) bytes n value
    → Reads (IsOperand Entry) token bytes n (option_map (λ p. operand.Entry (Some p)) value)
reads_entry = reads_no_dash (IsOperand Entry) token (operand.Entry None) (λ p. operand.Entry (Some p)) refl tt (λ p l. omega arith) (λ p l. refl) entry_back
