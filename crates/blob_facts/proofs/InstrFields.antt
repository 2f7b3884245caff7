-- An instruction, field by field.
use Rattle.std.proofs.Common.{◌≡◌, ◌≤◌, ℕ, ◌+◌, ◌-◌, ◌*◌, ◌/◌, ◌%◌, ◌^◌, List, [], ◌∷◌, ◌++◌, ◌==◌, ◌||◌, Bool, true, false, if◌then◌else◌, inl, inr, refl, sym, ap, ◌∙◌, arith}
use Rattle.std.specs.Prelude.{slice_get, slice_index, unwrap_or}
use Rattle.byteorder.specs.Endian.{little_bytes}
use Rattle.blob_grammar.proofs.Instructions.{instr}
use Rattle.blob_facts.specs.Fields.{GoesOnAs, IsByteIn, IsFound, IsNumberIn, IsRefused, Spells, Then}
use Rattle.blob_facts.specs.Instrs.{IsOperand, IsOperandSpelled, built, least_rights, make_code, most_number, most_register, most_rights}
use Rattle.blob_facts.specs.Parts.{IsInstrSpelled}
use Rattle.blob_facts.proofs.Bytes.{byte_tells}
use Rattle.blob_facts.proofs.InstrForms.{fields_of, is_built}
use Rattle.blob_facts.proofs.Numbers.{little_suc, split}
use Rattle.blob_facts.proofs.Sequences.{TellsApart, chain, joined, refused_as, refused_here, refused_later}

-- THE NUMBER, which may be the one for no place
first_kept : (front behind rest : List ℕ) → GoesOnAs behind rest → slice_index (front ++ rest) 0 ≡ slice_index (front ++ behind) 0
first_kept [] [] rest goes = ap (λ (l : List ℕ). slice_index l 0) goes
first_kept [] (b ∷ behind) rest goes = ap (λ (l : List ℕ). slice_index l 0) goes.1
first_kept (x ∷ front) behind rest goes = refl

first_of : (n : ℕ) (bytes front behind whole more rest : List ℕ) → bytes ≡ front ++ behind → whole ≡ little_bytes 8 n → whole ++ more ≡ front ++ rest → GoesOnAs behind rest → n % 256 ≡ slice_index bytes 0
first_of n bytes front behind whole more rest is spelled same goes =
    sym (ap (λ (l : List ℕ). slice_index (l ++ more) 0) (spelled ∙ little_suc 7 n)) ∙ ap (λ (l : List ℕ). slice_index l 0) same ∙ first_kept front behind rest goes ∙ ap (λ (l : List ℕ). slice_index l 0) (sym is)

pub first_or_zero : (bytes : List ℕ) (n : ℕ) → n ≡ unwrap_or (slice_get bytes 0) 0 → n ≡ slice_index bytes 0
first_or_zero [] n is = is
first_or_zero (b ∷ bytes) n is = is

pub no_place_refused : (bytes behind : List ℕ) → slice_index bytes 0 ≡ 255 → IsRefused (Spells (IsNumberIn 8 (2 ^ 64 - 1) (2 ^ 64 - 1))) bytes behind
    → IsRefused (Spells (IsOperandSpelled make_code)) bytes behind
no_place_refused bytes behind first r = record {
  front = r.front;
  stuck = record {
    begins =
        let on = r.stuck.begins in
        let low = on.1.spelled.low in
        let high = on.1.spelled.high in
        (on.0, record { value = on.1.value; spelled = record { good = inr (refl, omega (arith, low, high)); is = on.1.spelled.is } });
    stops = λ whole more rest one same goes. by_operand one.value whole more rest one.spelled.good one.spelled.is same goes;
  };
  is = r.is;
}
  where
    by_operand : (n : ℕ) (whole more rest : List ℕ) → IsOperand make_code n → whole ≡ little_bytes 8 n → whole ++ more ≡ r.front ++ rest → GoesOnAs behind rest → ⊥
    by_operand n whole more rest (inl small) is same goes =
        let e : n % 256 ≡ 255 = first_of n bytes r.front behind whole more rest r.is is same goes ∙ first in
        let s : n / 256 * 256 + n % 256 ≡ n = (split n).0 in
        omega (arith, e, s, small)
    by_operand n whole more rest (inr h) is same goes =
        let e = h.1 in
        r.stuck.stops whole more rest (record { value = n; spelled = record { low = omega (arith, e); high = omega (arith, e); is = is } }) same goes

pub plain_refused : (code : ℕ) (bytes behind : List ℕ) → (code ≡ make_code → slice_index bytes 0 ≡ 255 → ⊥) → IsRefused (Spells (IsNumberIn 8 0 (most_number code))) bytes behind
    → IsRefused (Spells (IsOperandSpelled code)) bytes behind
plain_refused code bytes behind other r = record {
  front = r.front;
  stuck = record {
    begins =
        let on = r.stuck.begins in
        (on.0, record { value = on.1.value; spelled = record { good = inl on.1.spelled.high; is = on.1.spelled.is } });
    stops = λ whole more rest one same goes. by_operand one.value whole more rest one.spelled.good one.spelled.is same goes;
  };
  is = r.is;
}
  where
    by_operand : (n : ℕ) (whole more rest : List ℕ) → IsOperand code n → whole ≡ little_bytes 8 n → whole ++ more ≡ r.front ++ rest → GoesOnAs behind rest → ⊥
    by_operand n whole more rest (inl small) is same goes = r.stuck.stops whole more rest (record { value = n; spelled = record { low = omega arith; high = small; is = is } }) same goes
    by_operand n whole more rest (inr h) is same goes =
        other h.0 (sym (first_of n bytes r.front behind whole more rest r.is is same goes) ∙ ap (λ m. m % 256) h.1)

-- WHAT FOLLOWS each field
abbrev pub Behind8 : ℕ → List ℕ → Type 0
Behind8 code = Spells (IsOperandSpelled code)

abbrev pub Behind7 : ℕ → List ℕ → Type 0
Behind7 code = Then (IsByteIn 0 0) (λ _. Behind8 code)

abbrev pub Behind6 : ℕ → List ℕ → Type 0
Behind6 code = Then (IsByteIn (least_rights code) (most_rights code)) (λ _. Behind7 code)

abbrev pub Behind5 : ℕ → List ℕ → Type 0
Behind5 code = Then (IsByteIn 0 (most_register code 4)) (λ _. Behind6 code)

abbrev pub Behind4 : ℕ → List ℕ → Type 0
Behind4 code = Then (IsByteIn 0 (most_register code 3)) (λ _. Behind5 code)

abbrev pub Behind3 : ℕ → List ℕ → Type 0
Behind3 code = Then (IsByteIn 0 (most_register code 2)) (λ _. Behind4 code)

abbrev pub Behind2 : ℕ → List ℕ → Type 0
Behind2 code = Then (IsByteIn 0 (most_register code 1)) (λ _. Behind3 code)

abbrev pub Behind1 : ℕ → List ℕ → Type 0
Behind1 code = Then (IsByteIn 0 (most_register code 0)) (λ _. Behind2 code)

abbrev pub AllFields : List ℕ → Type 0
AllFields = Then (IsByteIn 0 25) Behind1

least_fits : (code : ℕ) → least_rights code ≤ most_rights code
least_fits code = by (code == 11 || code == 13) (code == 16)
  where
    by : (s t : Bool) → (if s then 1 else 0) ≤ (if s then 3 else (if t then 255 else 0))
    by true t = omega arith
    by false t = omega arith

some8 : (code : ℕ) → (b : List ℕ) × Behind8 code b
some8 code = (little_bytes 8 0, record { value = 0; spelled = record { good = inl (omega arith); is = refl } })

some7 : (code : ℕ) → (b : List ℕ) × Behind7 code b
some7 code = let on = some8 code in (0 ∷ on.0, record { value = 0; front = 0 ∷ []; behind = on.0; spelled = record { low = omega arith; high = omega arith; is = refl }; followed = on.1; is = refl })

some6 : (code : ℕ) → (b : List ℕ) × Behind6 code b
some6 code = let on = some7 code in (least_rights code ∷ on.0, record { value = least_rights code; front = least_rights code ∷ []; behind = on.0; spelled = record { low = omega arith; high = least_fits code; is = refl }; followed = on.1; is = refl })

some5 : (code : ℕ) → (b : List ℕ) × Behind5 code b
some5 code = let on = some6 code in (0 ∷ on.0, record { value = 0; front = 0 ∷ []; behind = on.0; spelled = record { low = omega arith; high = omega arith; is = refl }; followed = on.1; is = refl })

some4 : (code : ℕ) → (b : List ℕ) × Behind4 code b
some4 code = let on = some5 code in (0 ∷ on.0, record { value = 0; front = 0 ∷ []; behind = on.0; spelled = record { low = omega arith; high = omega arith; is = refl }; followed = on.1; is = refl })

some3 : (code : ℕ) → (b : List ℕ) × Behind3 code b
some3 code = let on = some4 code in (0 ∷ on.0, record { value = 0; front = 0 ∷ []; behind = on.0; spelled = record { low = omega arith; high = omega arith; is = refl }; followed = on.1; is = refl })

some2 : (code : ℕ) → (b : List ℕ) × Behind2 code b
some2 code = let on = some3 code in (0 ∷ on.0, record { value = 0; front = 0 ∷ []; behind = on.0; spelled = record { low = omega arith; high = omega arith; is = refl }; followed = on.1; is = refl })

some1 : (code : ℕ) → (b : List ℕ) × Behind1 code b
some1 code = let on = some2 code in (0 ∷ on.0, record { value = 0; front = 0 ∷ []; behind = on.0; spelled = record { low = omega arith; high = omega arith; is = refl }; followed = on.1; is = refl })

instr_of : (y : List ℕ) → AllFields y → Spells IsInstrSpelled y
instr_of y f0 =
    let f1 = f0.followed in
    let f2 = f1.followed in
    let f3 = f2.followed in
    let f4 = f3.followed in
    let f5 = f4.followed in
    let f6 = f5.followed in
    let f7 = f6.followed in
    let f8 = f7.followed in
    let z : 0 ≡ f7.value = (let h = f7.spelled.high in omega (arith, h)) in
    let b = is_built f0.value f1.value f2.value f3.value f4.value f5.value f6.value f8.value f0.spelled.high f1.spelled.high f2.spelled.high f3.spelled.high f4.spelled.high f5.spelled.high f6.spelled.low f6.spelled.high f8.spelled.good in
    record {
      value = built f0.value f1.value f2.value f3.value f4.value f5.value f6.value f8.value;
      spelled = record {
        good = b.good;
        is = joined f0.is f0.spelled.is (joined f1.is f1.spelled.is (joined f2.is f2.spelled.is (joined f3.is f3.spelled.is (joined f4.is f4.spelled.is (joined f5.is f5.spelled.is (joined f6.is f6.spelled.is (joined f7.is (f7.spelled.is ∙ (λ i. (sym z) i ∷ [])) f8.spelled.is))))))) ∙ sym b.fields.is;
      };
    }

fields_in : (y : List ℕ) → Spells IsInstrSpelled y → AllFields y
fields_in y s =
    let g = fields_of s.value s.spelled.good in
    let h = g.fields in
    record { value = g.code; front = g.code ∷ []; behind = g.a ∷ g.b ∷ g.c ∷ g.d ∷ g.e ∷ g.rights ∷ 0 ∷ little_bytes 8 g.n; spelled = record { low = omega arith; high = h.is_code; is = refl }; followed = record { value = g.a; front = g.a ∷ []; behind = g.b ∷ g.c ∷ g.d ∷ g.e ∷ g.rights ∷ 0 ∷ little_bytes 8 g.n; spelled = record { low = omega arith; high = h.is_a; is = refl }; followed = record { value = g.b; front = g.b ∷ []; behind = g.c ∷ g.d ∷ g.e ∷ g.rights ∷ 0 ∷ little_bytes 8 g.n; spelled = record { low = omega arith; high = h.is_b; is = refl }; followed = record { value = g.c; front = g.c ∷ []; behind = g.d ∷ g.e ∷ g.rights ∷ 0 ∷ little_bytes 8 g.n; spelled = record { low = omega arith; high = h.is_c; is = refl }; followed = record { value = g.d; front = g.d ∷ []; behind = g.e ∷ g.rights ∷ 0 ∷ little_bytes 8 g.n; spelled = record { low = omega arith; high = h.is_d; is = refl }; followed = record { value = g.e; front = g.e ∷ []; behind = g.rights ∷ 0 ∷ little_bytes 8 g.n; spelled = record { low = omega arith; high = h.is_e; is = refl }; followed = record { value = g.rights; front = g.rights ∷ []; behind = 0 ∷ little_bytes 8 g.n; spelled = record { low = h.low; high = h.high; is = refl }; followed = record { value = 0; front = 0 ∷ []; behind = little_bytes 8 g.n; spelled = record { low = omega arith; high = omega arith; is = refl }; followed = record { value = g.n; spelled = record { good = h.operand; is = refl } }; is = refl }; is = refl }; is = refl }; is = refl }; is = refl }; is = refl }; is = refl }; is = s.spelled.is ∙ h.is }

pub instr_tells : TellsApart IsInstrSpelled
instr_tells = record {
  told = λ v w a b x y f g same. (instr v w f.good g.good).told x y (ap (λ (l : List ℕ). l ++ x) (sym f.is) ∙ same ∙ ap (λ (l : List ℕ). l ++ y) g.is);
}

-- WHERE AN INSTRUCTION IS REFUSED
module _ (bytes b1 b2 b3 b4 b5 b6 b7 b8 behind : List ℕ) (code a b c d e rights nought : ℕ) where
  pub code_refused : IsRefused (Spells (IsByteIn 0 25)) bytes behind
      → IsRefused (Spells IsInstrSpelled) bytes behind
  code_refused r = refused_as instr_of fields_in (refused_here (λ v a f. some1 v) r)

  pub a_refused : IsFound (IsByteIn 0 25) bytes code b1
      → IsRefused (Spells (IsByteIn 0 (most_register code 0))) b1 behind
      → IsRefused (Spells IsInstrSpelled) bytes behind
  a_refused f0 r = refused_as instr_of fields_in (refused_later (byte_tells 0 25) f0 (refused_here (λ v a f. some2 code) r))

  pub b_refused : IsFound (IsByteIn 0 25) bytes code b1
      → IsFound (IsByteIn 0 (most_register code 0)) b1 a b2
      → IsRefused (Spells (IsByteIn 0 (most_register code 1))) b2 behind
      → IsRefused (Spells IsInstrSpelled) bytes behind
  b_refused f0 f1 r = refused_as instr_of fields_in (refused_later (byte_tells 0 25) f0 (refused_later (byte_tells 0 (most_register code 0)) f1 (refused_here (λ v a f. some3 code) r)))

  pub c_refused : IsFound (IsByteIn 0 25) bytes code b1
      → IsFound (IsByteIn 0 (most_register code 0)) b1 a b2
      → IsFound (IsByteIn 0 (most_register code 1)) b2 b b3
      → IsRefused (Spells (IsByteIn 0 (most_register code 2))) b3 behind
      → IsRefused (Spells IsInstrSpelled) bytes behind
  c_refused f0 f1 f2 r = refused_as instr_of fields_in (refused_later (byte_tells 0 25) f0 (refused_later (byte_tells 0 (most_register code 0)) f1 (refused_later (byte_tells 0 (most_register code 1)) f2 (refused_here (λ v a f. some4 code) r))))

  pub d_refused : IsFound (IsByteIn 0 25) bytes code b1
      → IsFound (IsByteIn 0 (most_register code 0)) b1 a b2
      → IsFound (IsByteIn 0 (most_register code 1)) b2 b b3
      → IsFound (IsByteIn 0 (most_register code 2)) b3 c b4
      → IsRefused (Spells (IsByteIn 0 (most_register code 3))) b4 behind
      → IsRefused (Spells IsInstrSpelled) bytes behind
  d_refused f0 f1 f2 f3 r = refused_as instr_of fields_in (refused_later (byte_tells 0 25) f0 (refused_later (byte_tells 0 (most_register code 0)) f1 (refused_later (byte_tells 0 (most_register code 1)) f2 (refused_later (byte_tells 0 (most_register code 2)) f3 (refused_here (λ v a f. some5 code) r)))))

  pub e_refused : IsFound (IsByteIn 0 25) bytes code b1
      → IsFound (IsByteIn 0 (most_register code 0)) b1 a b2
      → IsFound (IsByteIn 0 (most_register code 1)) b2 b b3
      → IsFound (IsByteIn 0 (most_register code 2)) b3 c b4
      → IsFound (IsByteIn 0 (most_register code 3)) b4 d b5
      → IsRefused (Spells (IsByteIn 0 (most_register code 4))) b5 behind
      → IsRefused (Spells IsInstrSpelled) bytes behind
  e_refused f0 f1 f2 f3 f4 r = refused_as instr_of fields_in (refused_later (byte_tells 0 25) f0 (refused_later (byte_tells 0 (most_register code 0)) f1 (refused_later (byte_tells 0 (most_register code 1)) f2 (refused_later (byte_tells 0 (most_register code 2)) f3 (refused_later (byte_tells 0 (most_register code 3)) f4 (refused_here (λ v a f. some6 code) r))))))

  pub rights_refused : IsFound (IsByteIn 0 25) bytes code b1
      → IsFound (IsByteIn 0 (most_register code 0)) b1 a b2
      → IsFound (IsByteIn 0 (most_register code 1)) b2 b b3
      → IsFound (IsByteIn 0 (most_register code 2)) b3 c b4
      → IsFound (IsByteIn 0 (most_register code 3)) b4 d b5
      → IsFound (IsByteIn 0 (most_register code 4)) b5 e b6
      → IsRefused (Spells (IsByteIn (least_rights code) (most_rights code))) b6 behind
      → IsRefused (Spells IsInstrSpelled) bytes behind
  rights_refused f0 f1 f2 f3 f4 f5 r = refused_as instr_of fields_in (refused_later (byte_tells 0 25) f0 (refused_later (byte_tells 0 (most_register code 0)) f1 (refused_later (byte_tells 0 (most_register code 1)) f2 (refused_later (byte_tells 0 (most_register code 2)) f3 (refused_later (byte_tells 0 (most_register code 3)) f4 (refused_later (byte_tells 0 (most_register code 4)) f5 (refused_here (λ v a f. some7 code) r)))))))

  pub zero_refused : IsFound (IsByteIn 0 25) bytes code b1
      → IsFound (IsByteIn 0 (most_register code 0)) b1 a b2
      → IsFound (IsByteIn 0 (most_register code 1)) b2 b b3
      → IsFound (IsByteIn 0 (most_register code 2)) b3 c b4
      → IsFound (IsByteIn 0 (most_register code 3)) b4 d b5
      → IsFound (IsByteIn 0 (most_register code 4)) b5 e b6
      → IsFound (IsByteIn (least_rights code) (most_rights code)) b6 rights b7
      → IsRefused (Spells (IsByteIn 0 0)) b7 behind
      → IsRefused (Spells IsInstrSpelled) bytes behind
  zero_refused f0 f1 f2 f3 f4 f5 f6 r = refused_as instr_of fields_in (refused_later (byte_tells 0 25) f0 (refused_later (byte_tells 0 (most_register code 0)) f1 (refused_later (byte_tells 0 (most_register code 1)) f2 (refused_later (byte_tells 0 (most_register code 2)) f3 (refused_later (byte_tells 0 (most_register code 3)) f4 (refused_later (byte_tells 0 (most_register code 4)) f5 (refused_later (byte_tells (least_rights code) (most_rights code)) f6 (refused_here (λ v a f. some8 code) r))))))))

  pub number_refused : IsFound (IsByteIn 0 25) bytes code b1
      → IsFound (IsByteIn 0 (most_register code 0)) b1 a b2
      → IsFound (IsByteIn 0 (most_register code 1)) b2 b b3
      → IsFound (IsByteIn 0 (most_register code 2)) b3 c b4
      → IsFound (IsByteIn 0 (most_register code 3)) b4 d b5
      → IsFound (IsByteIn 0 (most_register code 4)) b5 e b6
      → IsFound (IsByteIn (least_rights code) (most_rights code)) b6 rights b7
      → IsFound (IsByteIn 0 0) b7 nought b8
      → IsRefused (Spells (IsOperandSpelled code)) b8 behind
      → IsRefused (Spells IsInstrSpelled) bytes behind
  number_refused f0 f1 f2 f3 f4 f5 f6 f7 r = refused_as instr_of fields_in (refused_later (byte_tells 0 25) f0 (refused_later (byte_tells 0 (most_register code 0)) f1 (refused_later (byte_tells 0 (most_register code 1)) f2 (refused_later (byte_tells 0 (most_register code 2)) f3 (refused_later (byte_tells 0 (most_register code 3)) f4 (refused_later (byte_tells 0 (most_register code 4)) f5 (refused_later (byte_tells (least_rights code) (most_rights code)) f6 (refused_later (byte_tells 0 0) f7 r))))))))

  pub instr_found : (operand : ℕ) → IsFound (IsByteIn 0 25) bytes code b1
      → IsFound (IsByteIn 0 (most_register code 0)) b1 a b2
      → IsFound (IsByteIn 0 (most_register code 1)) b2 b b3
      → IsFound (IsByteIn 0 (most_register code 2)) b3 c b4
      → IsFound (IsByteIn 0 (most_register code 3)) b4 d b5
      → IsFound (IsByteIn 0 (most_register code 4)) b5 e b6
      → IsFound (IsByteIn (least_rights code) (most_rights code)) b6 rights b7
      → IsFound (IsByteIn 0 0) b7 nought b8
      → IsFound (IsOperandSpelled code) b8 operand behind
      → IsFound IsInstrSpelled bytes (built code a b c d e rights operand) behind
  instr_found operand f0 f1 f2 f3 f4 f5 f6 f7 f8 =
      let z : nought ≡ 0 = (let h = f7.spelled.high in omega (arith, h)) in
      let g = is_built code a b c d e rights operand f0.spelled.high f1.spelled.high f2.spelled.high f3.spelled.high f4.spelled.high f5.spelled.high f6.spelled.low f6.spelled.high f8.spelled.good in
      record {
        front = code ∷ a ∷ b ∷ c ∷ d ∷ e ∷ rights ∷ 0 ∷ little_bytes 8 operand;
        spelled = record { good = g.good; is = sym g.fields.is };
        is = chain (a ∷ b ∷ c ∷ d ∷ e ∷ rights ∷ 0 ∷ little_bytes 8 operand) behind f0.is f0.spelled.is (chain (b ∷ c ∷ d ∷ e ∷ rights ∷ 0 ∷ little_bytes 8 operand) behind f1.is f1.spelled.is (chain (c ∷ d ∷ e ∷ rights ∷ 0 ∷ little_bytes 8 operand) behind f2.is f2.spelled.is (chain (d ∷ e ∷ rights ∷ 0 ∷ little_bytes 8 operand) behind f3.is f3.spelled.is (chain (e ∷ rights ∷ 0 ∷ little_bytes 8 operand) behind f4.is f4.spelled.is (chain (rights ∷ 0 ∷ little_bytes 8 operand) behind f5.is f5.spelled.is (chain (0 ∷ little_bytes 8 operand) behind f6.is f6.spelled.is (chain (little_bytes 8 operand) behind f7.is (f7.spelled.is ∙ (λ i. z i ∷ [])) (joined f8.is f8.spelled.is refl))))))));
      }
