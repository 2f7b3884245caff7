-- The fields of each instruction, and the instruction of fields.
use Rattle.std.proofs.Common.{◌≡◌, ◌≤◌, ℕ, zero, suc, ◌-◌, ◌^◌, ◌==◌, Bool, true, false, if◌then◌else◌, ◌∷◌, Option, Some, None, inl, inr, refl, sym, ap, subst, ◌∙◌, arith, eqb-true}
use Rattle.std.specs.Prelude.{IfSome}
use Rattle.byteorder.specs.Endian.{little_bytes}
use Rattle.act_atlas_laws.specs.base_types.Instructions.{IsInstruction, IsPlace}
use Rattle.act_atlas_laws.specs.base_types.declared.instructions.Instr.{Instr}
use Rattle.act_atlas_laws.specs.base_types.declared.instructions.Instr.TheVariants.{Set, Copy, Add, Sub, Jump, Jz, Load, Store, Invoke, Leave, Return, Map, Unmap, Lmap, Lunmap, Take, Give, Drop, Make, Spawn, Stop, Go, Snap, Stabilise, Print, Halt}
use Rattle.blob_grammar.specs.Spelling.{entry_number, instr_bytes}
use Rattle.blob_facts.specs.Instrs.{IsOperand, built, entry_of, least_rights, make_code, most_number, most_register, most_rights}

-- the fields of an instruction, each within its bounds
pub record HasFields (instr : Instr) (code a b c d e rights n : ℕ) : Type 0 where
  pub is_code : code ≤ 25
  pub is_a : a ≤ most_register code 0
  pub is_b : b ≤ most_register code 1
  pub is_c : c ≤ most_register code 2
  pub is_d : d ≤ most_register code 3
  pub is_e : e ≤ most_register code 4
  pub low : least_rights code ≤ rights
  pub high : rights ≤ most_rights code
  pub operand : IsOperand code n
  pub is : instr_bytes instr ≡ code ∷ a ∷ b ∷ c ∷ d ∷ e ∷ rights ∷ 0 ∷ little_bytes 8 n

pub record Fields (instr : Instr) : Type 0 where
  pub code : ℕ
  pub a : ℕ
  pub b : ℕ
  pub c : ℕ
  pub d : ℕ
  pub e : ℕ
  pub rights : ℕ
  pub n : ℕ
  pub fields : HasFields instr code a b c d e rights n

entry_operand : (entry : Option ℕ) → IfSome entry IsPlace → IsOperand make_code (entry_number entry)
entry_operand None good = inr (refl, refl)
entry_operand (Some p) good = inl (omega (arith, good))

-- FROM THE INSTRUCTION
pub fields_of : (i : Instr) → IsInstruction i → Fields i
fields_of (Set a n) good = record { code = 0; a = a; b = 0; c = 0; d = 0; e = 0; rights = 0; n = n; fields = record { is_code = omega arith; is_a = (let h = good.0 in omega (arith, h)); is_b = omega arith; is_c = omega arith; is_d = omega arith; is_e = omega arith; low = omega arith; high = omega arith; operand = inl (let h = good.1 in omega (arith, h)); is = refl } }
fields_of (Copy a b) good = record { code = 1; a = a; b = b; c = 0; d = 0; e = 0; rights = 0; n = 0; fields = record { is_code = omega arith; is_a = (let h = good.0 in omega (arith, h)); is_b = (let h = good.1 in omega (arith, h)); is_c = omega arith; is_d = omega arith; is_e = omega arith; low = omega arith; high = omega arith; operand = inl (omega arith); is = refl } }
fields_of (Add a b) good = record { code = 2; a = a; b = b; c = 0; d = 0; e = 0; rights = 0; n = 0; fields = record { is_code = omega arith; is_a = (let h = good.0 in omega (arith, h)); is_b = (let h = good.1 in omega (arith, h)); is_c = omega arith; is_d = omega arith; is_e = omega arith; low = omega arith; high = omega arith; operand = inl (omega arith); is = refl } }
fields_of (Sub a b) good = record { code = 3; a = a; b = b; c = 0; d = 0; e = 0; rights = 0; n = 0; fields = record { is_code = omega arith; is_a = (let h = good.0 in omega (arith, h)); is_b = (let h = good.1 in omega (arith, h)); is_c = omega arith; is_d = omega arith; is_e = omega arith; low = omega arith; high = omega arith; operand = inl (omega arith); is = refl } }
fields_of (Jump n) good = record { code = 4; a = 0; b = 0; c = 0; d = 0; e = 0; rights = 0; n = n; fields = record { is_code = omega arith; is_a = omega arith; is_b = omega arith; is_c = omega arith; is_d = omega arith; is_e = omega arith; low = omega arith; high = omega arith; operand = inl (let h = good in omega (arith, h)); is = refl } }
fields_of (Jz a n) good = record { code = 5; a = a; b = 0; c = 0; d = 0; e = 0; rights = 0; n = n; fields = record { is_code = omega arith; is_a = (let h = good.0 in omega (arith, h)); is_b = omega arith; is_c = omega arith; is_d = omega arith; is_e = omega arith; low = omega arith; high = omega arith; operand = inl (let h = good.1 in omega (arith, h)); is = refl } }
fields_of (Load a b) good = record { code = 6; a = a; b = b; c = 0; d = 0; e = 0; rights = 0; n = 0; fields = record { is_code = omega arith; is_a = (let h = good.0 in omega (arith, h)); is_b = (let h = good.1 in omega (arith, h)); is_c = omega arith; is_d = omega arith; is_e = omega arith; low = omega arith; high = omega arith; operand = inl (omega arith); is = refl } }
fields_of (Store a b) good = record { code = 7; a = a; b = b; c = 0; d = 0; e = 0; rights = 0; n = 0; fields = record { is_code = omega arith; is_a = (let h = good.0 in omega (arith, h)); is_b = (let h = good.1 in omega (arith, h)); is_c = omega arith; is_d = omega arith; is_e = omega arith; low = omega arith; high = omega arith; operand = inl (omega arith); is = refl } }
fields_of (Invoke a) good = record { code = 8; a = a; b = 0; c = 0; d = 0; e = 0; rights = 0; n = 0; fields = record { is_code = omega arith; is_a = (let h = good in omega (arith, h)); is_b = omega arith; is_c = omega arith; is_d = omega arith; is_e = omega arith; low = omega arith; high = omega arith; operand = inl (omega arith); is = refl } }
fields_of (Leave a) good = record { code = 9; a = a; b = 0; c = 0; d = 0; e = 0; rights = 0; n = 0; fields = record { is_code = omega arith; is_a = (let h = good in omega (arith, h)); is_b = omega arith; is_c = omega arith; is_d = omega arith; is_e = omega arith; low = omega arith; high = omega arith; operand = inl (omega arith); is = refl } }
fields_of Return good = record { code = 10; a = 0; b = 0; c = 0; d = 0; e = 0; rights = 0; n = 0; fields = record { is_code = omega arith; is_a = omega arith; is_b = omega arith; is_c = omega arith; is_d = omega arith; is_e = omega arith; low = omega arith; high = omega arith; operand = inl (omega arith); is = refl } }
fields_of (Map a b c d e rights) good = record { code = 11; a = a; b = b; c = c; d = d; e = e; rights = rights.0; n = 0; fields = record { is_code = omega arith; is_a = (let h = good.0 in omega (arith, h)); is_b = (let h = good.1 in omega (arith, h)); is_c = (let h = good.2 in omega (arith, h)); is_d = (let h = good.3 in omega (arith, h)); is_e = (let h = good.4 in omega (arith, h)); low = (let h = good.5 in h.0); high = (let h = good.5 in let k = h.1 in omega (arith, k)); operand = inl (omega arith); is = refl } }
fields_of (Unmap a b) good = record { code = 12; a = a; b = b; c = 0; d = 0; e = 0; rights = 0; n = 0; fields = record { is_code = omega arith; is_a = (let h = good.0 in omega (arith, h)); is_b = (let h = good.1 in omega (arith, h)); is_c = omega arith; is_d = omega arith; is_e = omega arith; low = omega arith; high = omega arith; operand = inl (omega arith); is = refl } }
fields_of (Lmap a b c d rights) good = record { code = 13; a = a; b = b; c = c; d = d; e = 0; rights = rights.0; n = 0; fields = record { is_code = omega arith; is_a = (let h = good.0 in omega (arith, h)); is_b = (let h = good.1 in omega (arith, h)); is_c = (let h = good.2 in omega (arith, h)); is_d = (let h = good.3 in omega (arith, h)); is_e = omega arith; low = (let h = good.4 in h.0); high = (let h = good.4 in let k = h.1 in omega (arith, k)); operand = inl (omega arith); is = refl } }
fields_of (Lunmap a) good = record { code = 14; a = a; b = 0; c = 0; d = 0; e = 0; rights = 0; n = 0; fields = record { is_code = omega arith; is_a = (let h = good in omega (arith, h)); is_b = omega arith; is_c = omega arith; is_d = omega arith; is_e = omega arith; low = omega arith; high = omega arith; operand = inl (omega arith); is = refl } }
fields_of (Take a b c) good = record { code = 15; a = a; b = b; c = c; d = 0; e = 0; rights = 0; n = 0; fields = record { is_code = omega arith; is_a = (let h = good.0 in omega (arith, h)); is_b = (let h = good.1 in omega (arith, h)); is_c = (let h = good.2 in omega (arith, h)); is_d = omega arith; is_e = omega arith; low = omega arith; high = omega arith; operand = inl (omega arith); is = refl } }
fields_of (Give a b c rights) good = record { code = 16; a = a; b = b; c = c; d = 0; e = 0; rights = rights.0; n = 0; fields = record { is_code = omega arith; is_a = (let h = good.0 in omega (arith, h)); is_b = (let h = good.1 in omega (arith, h)); is_c = (let h = good.2 in omega (arith, h)); is_d = omega arith; is_e = omega arith; low = omega arith; high = (let h = good.3 in omega (arith, h)); operand = inl (omega arith); is = refl } }
fields_of (Drop a) good = record { code = 17; a = a; b = 0; c = 0; d = 0; e = 0; rights = 0; n = 0; fields = record { is_code = omega arith; is_a = (let h = good in omega (arith, h)); is_b = omega arith; is_c = omega arith; is_d = omega arith; is_e = omega arith; low = omega arith; high = omega arith; operand = inl (omega arith); is = refl } }
fields_of (Make a b c entry) good = record { code = 18; a = a; b = b; c = c; d = 0; e = 0; rights = 0; n = entry_number entry; fields = record { is_code = omega arith; is_a = (let h = good.0 in omega (arith, h)); is_b = (let h = good.1 in omega (arith, h)); is_c = (let h = good.2 in omega (arith, h)); is_d = omega arith; is_e = omega arith; low = omega arith; high = omega arith; operand = entry_operand entry good.3; is = refl } }
fields_of (Spawn a n) good = record { code = 19; a = a; b = 0; c = 0; d = 0; e = 0; rights = 0; n = n; fields = record { is_code = omega arith; is_a = (let h = good.0 in omega (arith, h)); is_b = omega arith; is_c = omega arith; is_d = omega arith; is_e = omega arith; low = omega arith; high = omega arith; operand = inl (let h = good.1 in omega (arith, h)); is = refl } }
fields_of (Stop a) good = record { code = 20; a = a; b = 0; c = 0; d = 0; e = 0; rights = 0; n = 0; fields = record { is_code = omega arith; is_a = (let h = good in omega (arith, h)); is_b = omega arith; is_c = omega arith; is_d = omega arith; is_e = omega arith; low = omega arith; high = omega arith; operand = inl (omega arith); is = refl } }
fields_of (Go a) good = record { code = 21; a = a; b = 0; c = 0; d = 0; e = 0; rights = 0; n = 0; fields = record { is_code = omega arith; is_a = (let h = good in omega (arith, h)); is_b = omega arith; is_c = omega arith; is_d = omega arith; is_e = omega arith; low = omega arith; high = omega arith; operand = inl (omega arith); is = refl } }
fields_of (Snap a) good = record { code = 22; a = a; b = 0; c = 0; d = 0; e = 0; rights = 0; n = 0; fields = record { is_code = omega arith; is_a = (let h = good in omega (arith, h)); is_b = omega arith; is_c = omega arith; is_d = omega arith; is_e = omega arith; low = omega arith; high = omega arith; operand = inl (omega arith); is = refl } }
fields_of (Stabilise a) good = record { code = 23; a = a; b = 0; c = 0; d = 0; e = 0; rights = 0; n = 0; fields = record { is_code = omega arith; is_a = (let h = good in omega (arith, h)); is_b = omega arith; is_c = omega arith; is_d = omega arith; is_e = omega arith; low = omega arith; high = omega arith; operand = inl (omega arith); is = refl } }
fields_of (Print a) good = record { code = 24; a = a; b = 0; c = 0; d = 0; e = 0; rights = 0; n = 0; fields = record { is_code = omega arith; is_a = (let h = good in omega (arith, h)); is_b = omega arith; is_c = omega arith; is_d = omega arith; is_e = omega arith; low = omega arith; high = omega arith; operand = inl (omega arith); is = refl } }
fields_of Halt good = record { code = 25; a = 0; b = 0; c = 0; d = 0; e = 0; rights = 0; n = 0; fields = record { is_code = omega arith; is_a = omega arith; is_b = omega arith; is_c = omega arith; is_d = omega arith; is_e = omega arith; low = omega arith; high = omega arith; operand = inl (omega arith); is = refl } }

-- TO THE INSTRUCTION
plain : (code n : ℕ) → (code ≡ make_code → ⊥) → IsOperand code n → n ≤ most_number code
plain code n other (inl le) = le
plain code n other (inr h) = absurd (other h.0)

-- the fields, where all bounds are kept
pub record IsBuilt (code a b c d e rights n : ℕ) : Type 0 where
  pub good : IsInstruction (built code a b c d e rights n)
  pub fields : HasFields (built code a b c d e rights n) code a b c d e rights n

entry_some : (n : ℕ) (t : Bool) → (n == 2 ^ 64 - 1) ≡ t → n ≤ 127 → (if t then None else Some n) ≡ Some n
entry_some n false is small = refl
entry_some n true is small = absurd (let e : n ≡ 2 ^ 64 - 1 = eqb-true n (2 ^ 64 - 1) is in omega (arith, e, small))

entry_back : (n : ℕ) → IsOperand make_code n → IfSome (entry_of n) IsPlace × (entry_number (entry_of n) ≡ n)
entry_back n (inl small) =
    let e : entry_of n ≡ Some n = entry_some n (n == 2 ^ 64 - 1) refl small in
    (subst (λ (o : Option ℕ). IfSome o IsPlace) (sym e) (omega (arith, small)), ap entry_number e)
entry_back n (inr h) = (subst (λ m. IfSome (entry_of m) IsPlace) (sym h.1) tt, ap (λ m. entry_number (entry_of m)) h.1 ∙ sym h.1)

pub is_built : (code a b c d e rights n : ℕ) → code ≤ 25 → a ≤ most_register code 0 → b ≤ most_register code 1 → c ≤ most_register code 2 → d ≤ most_register code 3 → e ≤ most_register code 4 → least_rights code ≤ rights → rights ≤ most_rights code → IsOperand code n → IsBuilt code a b c d e rights n
is_built zero a b c d e rights n small ha hb hc hd he lo hi op =
    let hn = plain 0 n (λ other. omega (arith, other)) op in
    let zb : b ≡ 0 = omega (arith, hb) in
    let yb : 0 ≡ b = sym zb in
    let zc : c ≡ 0 = omega (arith, hc) in
    let yc : 0 ≡ c = sym zc in
    let zd : d ≡ 0 = omega (arith, hd) in
    let yd : 0 ≡ d = sym zd in
    let ze : e ≡ 0 = omega (arith, he) in
    let ye : 0 ≡ e = sym ze in
    let yr : 0 ≡ rights = omega (arith, hi) in
    record { good = (omega (arith, ha), omega (arith, hn)); fields = record { is_code = small; is_a = ha; is_b = hb; is_c = hc; is_d = hd; is_e = he; low = lo; high = hi; operand = op; is = λ i. 0 ∷ a ∷ yb i ∷ yc i ∷ yd i ∷ ye i ∷ yr i ∷ 0 ∷ little_bytes 8 n } }
is_built (suc zero) a b c d e rights n small ha hb hc hd he lo hi op =
    let hn = plain 1 n (λ other. omega (arith, other)) op in
    let zc : c ≡ 0 = omega (arith, hc) in
    let yc : 0 ≡ c = sym zc in
    let zd : d ≡ 0 = omega (arith, hd) in
    let yd : 0 ≡ d = sym zd in
    let ze : e ≡ 0 = omega (arith, he) in
    let ye : 0 ≡ e = sym ze in
    let yr : 0 ≡ rights = omega (arith, hi) in
    let yn : 0 ≡ n = omega (arith, hn) in
    record { good = (omega (arith, ha), omega (arith, hb)); fields = record { is_code = small; is_a = ha; is_b = hb; is_c = hc; is_d = hd; is_e = he; low = lo; high = hi; operand = op; is = λ i. 1 ∷ a ∷ b ∷ yc i ∷ yd i ∷ ye i ∷ yr i ∷ 0 ∷ little_bytes 8 (yn i) } }
is_built (suc (suc zero)) a b c d e rights n small ha hb hc hd he lo hi op =
    let hn = plain 2 n (λ other. omega (arith, other)) op in
    let zc : c ≡ 0 = omega (arith, hc) in
    let yc : 0 ≡ c = sym zc in
    let zd : d ≡ 0 = omega (arith, hd) in
    let yd : 0 ≡ d = sym zd in
    let ze : e ≡ 0 = omega (arith, he) in
    let ye : 0 ≡ e = sym ze in
    let yr : 0 ≡ rights = omega (arith, hi) in
    let yn : 0 ≡ n = omega (arith, hn) in
    record { good = (omega (arith, ha), omega (arith, hb)); fields = record { is_code = small; is_a = ha; is_b = hb; is_c = hc; is_d = hd; is_e = he; low = lo; high = hi; operand = op; is = λ i. 2 ∷ a ∷ b ∷ yc i ∷ yd i ∷ ye i ∷ yr i ∷ 0 ∷ little_bytes 8 (yn i) } }
is_built (suc (suc (suc zero))) a b c d e rights n small ha hb hc hd he lo hi op =
    let hn = plain 3 n (λ other. omega (arith, other)) op in
    let zc : c ≡ 0 = omega (arith, hc) in
    let yc : 0 ≡ c = sym zc in
    let zd : d ≡ 0 = omega (arith, hd) in
    let yd : 0 ≡ d = sym zd in
    let ze : e ≡ 0 = omega (arith, he) in
    let ye : 0 ≡ e = sym ze in
    let yr : 0 ≡ rights = omega (arith, hi) in
    let yn : 0 ≡ n = omega (arith, hn) in
    record { good = (omega (arith, ha), omega (arith, hb)); fields = record { is_code = small; is_a = ha; is_b = hb; is_c = hc; is_d = hd; is_e = he; low = lo; high = hi; operand = op; is = λ i. 3 ∷ a ∷ b ∷ yc i ∷ yd i ∷ ye i ∷ yr i ∷ 0 ∷ little_bytes 8 (yn i) } }
is_built (suc (suc (suc (suc zero)))) a b c d e rights n small ha hb hc hd he lo hi op =
    let hn = plain 4 n (λ other. omega (arith, other)) op in
    let za : a ≡ 0 = omega (arith, ha) in
    let ya : 0 ≡ a = sym za in
    let zb : b ≡ 0 = omega (arith, hb) in
    let yb : 0 ≡ b = sym zb in
    let zc : c ≡ 0 = omega (arith, hc) in
    let yc : 0 ≡ c = sym zc in
    let zd : d ≡ 0 = omega (arith, hd) in
    let yd : 0 ≡ d = sym zd in
    let ze : e ≡ 0 = omega (arith, he) in
    let ye : 0 ≡ e = sym ze in
    let yr : 0 ≡ rights = omega (arith, hi) in
    record { good = omega (arith, hn); fields = record { is_code = small; is_a = ha; is_b = hb; is_c = hc; is_d = hd; is_e = he; low = lo; high = hi; operand = op; is = λ i. 4 ∷ ya i ∷ yb i ∷ yc i ∷ yd i ∷ ye i ∷ yr i ∷ 0 ∷ little_bytes 8 n } }
is_built (suc (suc (suc (suc (suc zero))))) a b c d e rights n small ha hb hc hd he lo hi op =
    let hn = plain 5 n (λ other. omega (arith, other)) op in
    let zb : b ≡ 0 = omega (arith, hb) in
    let yb : 0 ≡ b = sym zb in
    let zc : c ≡ 0 = omega (arith, hc) in
    let yc : 0 ≡ c = sym zc in
    let zd : d ≡ 0 = omega (arith, hd) in
    let yd : 0 ≡ d = sym zd in
    let ze : e ≡ 0 = omega (arith, he) in
    let ye : 0 ≡ e = sym ze in
    let yr : 0 ≡ rights = omega (arith, hi) in
    record { good = (omega (arith, ha), omega (arith, hn)); fields = record { is_code = small; is_a = ha; is_b = hb; is_c = hc; is_d = hd; is_e = he; low = lo; high = hi; operand = op; is = λ i. 5 ∷ a ∷ yb i ∷ yc i ∷ yd i ∷ ye i ∷ yr i ∷ 0 ∷ little_bytes 8 n } }
is_built (suc (suc (suc (suc (suc (suc zero)))))) a b c d e rights n small ha hb hc hd he lo hi op =
    let hn = plain 6 n (λ other. omega (arith, other)) op in
    let zc : c ≡ 0 = omega (arith, hc) in
    let yc : 0 ≡ c = sym zc in
    let zd : d ≡ 0 = omega (arith, hd) in
    let yd : 0 ≡ d = sym zd in
    let ze : e ≡ 0 = omega (arith, he) in
    let ye : 0 ≡ e = sym ze in
    let yr : 0 ≡ rights = omega (arith, hi) in
    let yn : 0 ≡ n = omega (arith, hn) in
    record { good = (omega (arith, ha), omega (arith, hb)); fields = record { is_code = small; is_a = ha; is_b = hb; is_c = hc; is_d = hd; is_e = he; low = lo; high = hi; operand = op; is = λ i. 6 ∷ a ∷ b ∷ yc i ∷ yd i ∷ ye i ∷ yr i ∷ 0 ∷ little_bytes 8 (yn i) } }
is_built (suc (suc (suc (suc (suc (suc (suc zero))))))) a b c d e rights n small ha hb hc hd he lo hi op =
    let hn = plain 7 n (λ other. omega (arith, other)) op in
    let zc : c ≡ 0 = omega (arith, hc) in
    let yc : 0 ≡ c = sym zc in
    let zd : d ≡ 0 = omega (arith, hd) in
    let yd : 0 ≡ d = sym zd in
    let ze : e ≡ 0 = omega (arith, he) in
    let ye : 0 ≡ e = sym ze in
    let yr : 0 ≡ rights = omega (arith, hi) in
    let yn : 0 ≡ n = omega (arith, hn) in
    record { good = (omega (arith, ha), omega (arith, hb)); fields = record { is_code = small; is_a = ha; is_b = hb; is_c = hc; is_d = hd; is_e = he; low = lo; high = hi; operand = op; is = λ i. 7 ∷ a ∷ b ∷ yc i ∷ yd i ∷ ye i ∷ yr i ∷ 0 ∷ little_bytes 8 (yn i) } }
is_built (suc (suc (suc (suc (suc (suc (suc (suc zero)))))))) a b c d e rights n small ha hb hc hd he lo hi op =
    let hn = plain 8 n (λ other. omega (arith, other)) op in
    let zb : b ≡ 0 = omega (arith, hb) in
    let yb : 0 ≡ b = sym zb in
    let zc : c ≡ 0 = omega (arith, hc) in
    let yc : 0 ≡ c = sym zc in
    let zd : d ≡ 0 = omega (arith, hd) in
    let yd : 0 ≡ d = sym zd in
    let ze : e ≡ 0 = omega (arith, he) in
    let ye : 0 ≡ e = sym ze in
    let yr : 0 ≡ rights = omega (arith, hi) in
    let yn : 0 ≡ n = omega (arith, hn) in
    record { good = omega (arith, ha); fields = record { is_code = small; is_a = ha; is_b = hb; is_c = hc; is_d = hd; is_e = he; low = lo; high = hi; operand = op; is = λ i. 8 ∷ a ∷ yb i ∷ yc i ∷ yd i ∷ ye i ∷ yr i ∷ 0 ∷ little_bytes 8 (yn i) } }
is_built (suc (suc (suc (suc (suc (suc (suc (suc (suc zero))))))))) a b c d e rights n small ha hb hc hd he lo hi op =
    let hn = plain 9 n (λ other. omega (arith, other)) op in
    let zb : b ≡ 0 = omega (arith, hb) in
    let yb : 0 ≡ b = sym zb in
    let zc : c ≡ 0 = omega (arith, hc) in
    let yc : 0 ≡ c = sym zc in
    let zd : d ≡ 0 = omega (arith, hd) in
    let yd : 0 ≡ d = sym zd in
    let ze : e ≡ 0 = omega (arith, he) in
    let ye : 0 ≡ e = sym ze in
    let yr : 0 ≡ rights = omega (arith, hi) in
    let yn : 0 ≡ n = omega (arith, hn) in
    record { good = omega (arith, ha); fields = record { is_code = small; is_a = ha; is_b = hb; is_c = hc; is_d = hd; is_e = he; low = lo; high = hi; operand = op; is = λ i. 9 ∷ a ∷ yb i ∷ yc i ∷ yd i ∷ ye i ∷ yr i ∷ 0 ∷ little_bytes 8 (yn i) } }
is_built (suc (suc (suc (suc (suc (suc (suc (suc (suc (suc zero)))))))))) a b c d e rights n small ha hb hc hd he lo hi op =
    let hn = plain 10 n (λ other. omega (arith, other)) op in
    let za : a ≡ 0 = omega (arith, ha) in
    let ya : 0 ≡ a = sym za in
    let zb : b ≡ 0 = omega (arith, hb) in
    let yb : 0 ≡ b = sym zb in
    let zc : c ≡ 0 = omega (arith, hc) in
    let yc : 0 ≡ c = sym zc in
    let zd : d ≡ 0 = omega (arith, hd) in
    let yd : 0 ≡ d = sym zd in
    let ze : e ≡ 0 = omega (arith, he) in
    let ye : 0 ≡ e = sym ze in
    let yr : 0 ≡ rights = omega (arith, hi) in
    let yn : 0 ≡ n = omega (arith, hn) in
    record { good = tt; fields = record { is_code = small; is_a = ha; is_b = hb; is_c = hc; is_d = hd; is_e = he; low = lo; high = hi; operand = op; is = λ i. 10 ∷ ya i ∷ yb i ∷ yc i ∷ yd i ∷ ye i ∷ yr i ∷ 0 ∷ little_bytes 8 (yn i) } }
is_built (suc (suc (suc (suc (suc (suc (suc (suc (suc (suc (suc zero))))))))))) a b c d e rights n small ha hb hc hd he lo hi op =
    let hn = plain 11 n (λ other. omega (arith, other)) op in
    let yn : 0 ≡ n = omega (arith, hn) in
    record { good = (omega (arith, ha), omega (arith, hb), omega (arith, hc), omega (arith, hd), omega (arith, he), (lo, omega (arith, hi))); fields = record { is_code = small; is_a = ha; is_b = hb; is_c = hc; is_d = hd; is_e = he; low = lo; high = hi; operand = op; is = λ i. 11 ∷ a ∷ b ∷ c ∷ d ∷ e ∷ rights ∷ 0 ∷ little_bytes 8 (yn i) } }
is_built (suc (suc (suc (suc (suc (suc (suc (suc (suc (suc (suc (suc zero)))))))))))) a b c d e rights n small ha hb hc hd he lo hi op =
    let hn = plain 12 n (λ other. omega (arith, other)) op in
    let zc : c ≡ 0 = omega (arith, hc) in
    let yc : 0 ≡ c = sym zc in
    let zd : d ≡ 0 = omega (arith, hd) in
    let yd : 0 ≡ d = sym zd in
    let ze : e ≡ 0 = omega (arith, he) in
    let ye : 0 ≡ e = sym ze in
    let yr : 0 ≡ rights = omega (arith, hi) in
    let yn : 0 ≡ n = omega (arith, hn) in
    record { good = (omega (arith, ha), omega (arith, hb)); fields = record { is_code = small; is_a = ha; is_b = hb; is_c = hc; is_d = hd; is_e = he; low = lo; high = hi; operand = op; is = λ i. 12 ∷ a ∷ b ∷ yc i ∷ yd i ∷ ye i ∷ yr i ∷ 0 ∷ little_bytes 8 (yn i) } }
is_built (suc (suc (suc (suc (suc (suc (suc (suc (suc (suc (suc (suc (suc zero))))))))))))) a b c d e rights n small ha hb hc hd he lo hi op =
    let hn = plain 13 n (λ other. omega (arith, other)) op in
    let ze : e ≡ 0 = omega (arith, he) in
    let ye : 0 ≡ e = sym ze in
    let yn : 0 ≡ n = omega (arith, hn) in
    record { good = (omega (arith, ha), omega (arith, hb), omega (arith, hc), omega (arith, hd), (lo, omega (arith, hi))); fields = record { is_code = small; is_a = ha; is_b = hb; is_c = hc; is_d = hd; is_e = he; low = lo; high = hi; operand = op; is = λ i. 13 ∷ a ∷ b ∷ c ∷ d ∷ ye i ∷ rights ∷ 0 ∷ little_bytes 8 (yn i) } }
is_built (suc (suc (suc (suc (suc (suc (suc (suc (suc (suc (suc (suc (suc (suc zero)))))))))))))) a b c d e rights n small ha hb hc hd he lo hi op =
    let hn = plain 14 n (λ other. omega (arith, other)) op in
    let zb : b ≡ 0 = omega (arith, hb) in
    let yb : 0 ≡ b = sym zb in
    let zc : c ≡ 0 = omega (arith, hc) in
    let yc : 0 ≡ c = sym zc in
    let zd : d ≡ 0 = omega (arith, hd) in
    let yd : 0 ≡ d = sym zd in
    let ze : e ≡ 0 = omega (arith, he) in
    let ye : 0 ≡ e = sym ze in
    let yr : 0 ≡ rights = omega (arith, hi) in
    let yn : 0 ≡ n = omega (arith, hn) in
    record { good = omega (arith, ha); fields = record { is_code = small; is_a = ha; is_b = hb; is_c = hc; is_d = hd; is_e = he; low = lo; high = hi; operand = op; is = λ i. 14 ∷ a ∷ yb i ∷ yc i ∷ yd i ∷ ye i ∷ yr i ∷ 0 ∷ little_bytes 8 (yn i) } }
is_built (suc (suc (suc (suc (suc (suc (suc (suc (suc (suc (suc (suc (suc (suc (suc zero))))))))))))))) a b c d e rights n small ha hb hc hd he lo hi op =
    let hn = plain 15 n (λ other. omega (arith, other)) op in
    let zd : d ≡ 0 = omega (arith, hd) in
    let yd : 0 ≡ d = sym zd in
    let ze : e ≡ 0 = omega (arith, he) in
    let ye : 0 ≡ e = sym ze in
    let yr : 0 ≡ rights = omega (arith, hi) in
    let yn : 0 ≡ n = omega (arith, hn) in
    record { good = (omega (arith, ha), omega (arith, hb), omega (arith, hc)); fields = record { is_code = small; is_a = ha; is_b = hb; is_c = hc; is_d = hd; is_e = he; low = lo; high = hi; operand = op; is = λ i. 15 ∷ a ∷ b ∷ c ∷ yd i ∷ ye i ∷ yr i ∷ 0 ∷ little_bytes 8 (yn i) } }
is_built (suc (suc (suc (suc (suc (suc (suc (suc (suc (suc (suc (suc (suc (suc (suc (suc zero)))))))))))))))) a b c d e rights n small ha hb hc hd he lo hi op =
    let hn = plain 16 n (λ other. omega (arith, other)) op in
    let zd : d ≡ 0 = omega (arith, hd) in
    let yd : 0 ≡ d = sym zd in
    let ze : e ≡ 0 = omega (arith, he) in
    let ye : 0 ≡ e = sym ze in
    let yn : 0 ≡ n = omega (arith, hn) in
    record { good = (omega (arith, ha), omega (arith, hb), omega (arith, hc), omega (arith, hi)); fields = record { is_code = small; is_a = ha; is_b = hb; is_c = hc; is_d = hd; is_e = he; low = lo; high = hi; operand = op; is = λ i. 16 ∷ a ∷ b ∷ c ∷ yd i ∷ ye i ∷ rights ∷ 0 ∷ little_bytes 8 (yn i) } }
is_built (suc (suc (suc (suc (suc (suc (suc (suc (suc (suc (suc (suc (suc (suc (suc (suc (suc zero))))))))))))))))) a b c d e rights n small ha hb hc hd he lo hi op =
    let hn = plain 17 n (λ other. omega (arith, other)) op in
    let zb : b ≡ 0 = omega (arith, hb) in
    let yb : 0 ≡ b = sym zb in
    let zc : c ≡ 0 = omega (arith, hc) in
    let yc : 0 ≡ c = sym zc in
    let zd : d ≡ 0 = omega (arith, hd) in
    let yd : 0 ≡ d = sym zd in
    let ze : e ≡ 0 = omega (arith, he) in
    let ye : 0 ≡ e = sym ze in
    let yr : 0 ≡ rights = omega (arith, hi) in
    let yn : 0 ≡ n = omega (arith, hn) in
    record { good = omega (arith, ha); fields = record { is_code = small; is_a = ha; is_b = hb; is_c = hc; is_d = hd; is_e = he; low = lo; high = hi; operand = op; is = λ i. 17 ∷ a ∷ yb i ∷ yc i ∷ yd i ∷ ye i ∷ yr i ∷ 0 ∷ little_bytes 8 (yn i) } }
is_built (suc (suc (suc (suc (suc (suc (suc (suc (suc (suc (suc (suc (suc (suc (suc (suc (suc (suc zero)))))))))))))))))) a b c d e rights n small ha hb hc hd he lo hi op =
    let back = entry_back n op in
    let zd : d ≡ 0 = omega (arith, hd) in
    let yd : 0 ≡ d = sym zd in
    let ze : e ≡ 0 = omega (arith, he) in
    let ye : 0 ≡ e = sym ze in
    let yr : 0 ≡ rights = omega (arith, hi) in
    record { good = (omega (arith, ha), omega (arith, hb), omega (arith, hc), back.0); fields = record { is_code = small; is_a = ha; is_b = hb; is_c = hc; is_d = hd; is_e = he; low = lo; high = hi; operand = op; is = λ i. 18 ∷ a ∷ b ∷ c ∷ yd i ∷ ye i ∷ yr i ∷ 0 ∷ little_bytes 8 (back.1 i) } }
is_built (suc (suc (suc (suc (suc (suc (suc (suc (suc (suc (suc (suc (suc (suc (suc (suc (suc (suc (suc zero))))))))))))))))))) a b c d e rights n small ha hb hc hd he lo hi op =
    let hn = plain 19 n (λ other. omega (arith, other)) op in
    let zb : b ≡ 0 = omega (arith, hb) in
    let yb : 0 ≡ b = sym zb in
    let zc : c ≡ 0 = omega (arith, hc) in
    let yc : 0 ≡ c = sym zc in
    let zd : d ≡ 0 = omega (arith, hd) in
    let yd : 0 ≡ d = sym zd in
    let ze : e ≡ 0 = omega (arith, he) in
    let ye : 0 ≡ e = sym ze in
    let yr : 0 ≡ rights = omega (arith, hi) in
    record { good = (omega (arith, ha), omega (arith, hn)); fields = record { is_code = small; is_a = ha; is_b = hb; is_c = hc; is_d = hd; is_e = he; low = lo; high = hi; operand = op; is = λ i. 19 ∷ a ∷ yb i ∷ yc i ∷ yd i ∷ ye i ∷ yr i ∷ 0 ∷ little_bytes 8 n } }
is_built (suc (suc (suc (suc (suc (suc (suc (suc (suc (suc (suc (suc (suc (suc (suc (suc (suc (suc (suc (suc zero)))))))))))))))))))) a b c d e rights n small ha hb hc hd he lo hi op =
    let hn = plain 20 n (λ other. omega (arith, other)) op in
    let zb : b ≡ 0 = omega (arith, hb) in
    let yb : 0 ≡ b = sym zb in
    let zc : c ≡ 0 = omega (arith, hc) in
    let yc : 0 ≡ c = sym zc in
    let zd : d ≡ 0 = omega (arith, hd) in
    let yd : 0 ≡ d = sym zd in
    let ze : e ≡ 0 = omega (arith, he) in
    let ye : 0 ≡ e = sym ze in
    let yr : 0 ≡ rights = omega (arith, hi) in
    let yn : 0 ≡ n = omega (arith, hn) in
    record { good = omega (arith, ha); fields = record { is_code = small; is_a = ha; is_b = hb; is_c = hc; is_d = hd; is_e = he; low = lo; high = hi; operand = op; is = λ i. 20 ∷ a ∷ yb i ∷ yc i ∷ yd i ∷ ye i ∷ yr i ∷ 0 ∷ little_bytes 8 (yn i) } }
is_built (suc (suc (suc (suc (suc (suc (suc (suc (suc (suc (suc (suc (suc (suc (suc (suc (suc (suc (suc (suc (suc zero))))))))))))))))))))) a b c d e rights n small ha hb hc hd he lo hi op =
    let hn = plain 21 n (λ other. omega (arith, other)) op in
    let zb : b ≡ 0 = omega (arith, hb) in
    let yb : 0 ≡ b = sym zb in
    let zc : c ≡ 0 = omega (arith, hc) in
    let yc : 0 ≡ c = sym zc in
    let zd : d ≡ 0 = omega (arith, hd) in
    let yd : 0 ≡ d = sym zd in
    let ze : e ≡ 0 = omega (arith, he) in
    let ye : 0 ≡ e = sym ze in
    let yr : 0 ≡ rights = omega (arith, hi) in
    let yn : 0 ≡ n = omega (arith, hn) in
    record { good = omega (arith, ha); fields = record { is_code = small; is_a = ha; is_b = hb; is_c = hc; is_d = hd; is_e = he; low = lo; high = hi; operand = op; is = λ i. 21 ∷ a ∷ yb i ∷ yc i ∷ yd i ∷ ye i ∷ yr i ∷ 0 ∷ little_bytes 8 (yn i) } }
is_built (suc (suc (suc (suc (suc (suc (suc (suc (suc (suc (suc (suc (suc (suc (suc (suc (suc (suc (suc (suc (suc (suc zero)))))))))))))))))))))) a b c d e rights n small ha hb hc hd he lo hi op =
    let hn = plain 22 n (λ other. omega (arith, other)) op in
    let zb : b ≡ 0 = omega (arith, hb) in
    let yb : 0 ≡ b = sym zb in
    let zc : c ≡ 0 = omega (arith, hc) in
    let yc : 0 ≡ c = sym zc in
    let zd : d ≡ 0 = omega (arith, hd) in
    let yd : 0 ≡ d = sym zd in
    let ze : e ≡ 0 = omega (arith, he) in
    let ye : 0 ≡ e = sym ze in
    let yr : 0 ≡ rights = omega (arith, hi) in
    let yn : 0 ≡ n = omega (arith, hn) in
    record { good = omega (arith, ha); fields = record { is_code = small; is_a = ha; is_b = hb; is_c = hc; is_d = hd; is_e = he; low = lo; high = hi; operand = op; is = λ i. 22 ∷ a ∷ yb i ∷ yc i ∷ yd i ∷ ye i ∷ yr i ∷ 0 ∷ little_bytes 8 (yn i) } }
is_built (suc (suc (suc (suc (suc (suc (suc (suc (suc (suc (suc (suc (suc (suc (suc (suc (suc (suc (suc (suc (suc (suc (suc zero))))))))))))))))))))))) a b c d e rights n small ha hb hc hd he lo hi op =
    let hn = plain 23 n (λ other. omega (arith, other)) op in
    let zb : b ≡ 0 = omega (arith, hb) in
    let yb : 0 ≡ b = sym zb in
    let zc : c ≡ 0 = omega (arith, hc) in
    let yc : 0 ≡ c = sym zc in
    let zd : d ≡ 0 = omega (arith, hd) in
    let yd : 0 ≡ d = sym zd in
    let ze : e ≡ 0 = omega (arith, he) in
    let ye : 0 ≡ e = sym ze in
    let yr : 0 ≡ rights = omega (arith, hi) in
    let yn : 0 ≡ n = omega (arith, hn) in
    record { good = omega (arith, ha); fields = record { is_code = small; is_a = ha; is_b = hb; is_c = hc; is_d = hd; is_e = he; low = lo; high = hi; operand = op; is = λ i. 23 ∷ a ∷ yb i ∷ yc i ∷ yd i ∷ ye i ∷ yr i ∷ 0 ∷ little_bytes 8 (yn i) } }
is_built (suc (suc (suc (suc (suc (suc (suc (suc (suc (suc (suc (suc (suc (suc (suc (suc (suc (suc (suc (suc (suc (suc (suc (suc zero)))))))))))))))))))))))) a b c d e rights n small ha hb hc hd he lo hi op =
    let hn = plain 24 n (λ other. omega (arith, other)) op in
    let zb : b ≡ 0 = omega (arith, hb) in
    let yb : 0 ≡ b = sym zb in
    let zc : c ≡ 0 = omega (arith, hc) in
    let yc : 0 ≡ c = sym zc in
    let zd : d ≡ 0 = omega (arith, hd) in
    let yd : 0 ≡ d = sym zd in
    let ze : e ≡ 0 = omega (arith, he) in
    let ye : 0 ≡ e = sym ze in
    let yr : 0 ≡ rights = omega (arith, hi) in
    let yn : 0 ≡ n = omega (arith, hn) in
    record { good = omega (arith, ha); fields = record { is_code = small; is_a = ha; is_b = hb; is_c = hc; is_d = hd; is_e = he; low = lo; high = hi; operand = op; is = λ i. 24 ∷ a ∷ yb i ∷ yc i ∷ yd i ∷ ye i ∷ yr i ∷ 0 ∷ little_bytes 8 (yn i) } }
is_built (suc (suc (suc (suc (suc (suc (suc (suc (suc (suc (suc (suc (suc (suc (suc (suc (suc (suc (suc (suc (suc (suc (suc (suc (suc zero))))))))))))))))))))))))) a b c d e rights n small ha hb hc hd he lo hi op =
    let hn = plain 25 n (λ other. omega (arith, other)) op in
    let za : a ≡ 0 = omega (arith, ha) in
    let ya : 0 ≡ a = sym za in
    let zb : b ≡ 0 = omega (arith, hb) in
    let yb : 0 ≡ b = sym zb in
    let zc : c ≡ 0 = omega (arith, hc) in
    let yc : 0 ≡ c = sym zc in
    let zd : d ≡ 0 = omega (arith, hd) in
    let yd : 0 ≡ d = sym zd in
    let ze : e ≡ 0 = omega (arith, he) in
    let ye : 0 ≡ e = sym ze in
    let yr : 0 ≡ rights = omega (arith, hi) in
    let yn : 0 ≡ n = omega (arith, hn) in
    record { good = tt; fields = record { is_code = small; is_a = ha; is_b = hb; is_c = hc; is_d = hd; is_e = he; low = lo; high = hi; operand = op; is = λ i. 25 ∷ ya i ∷ yb i ∷ yc i ∷ yd i ∷ ye i ∷ yr i ∷ 0 ∷ little_bytes 8 (yn i) } }
is_built (suc (suc (suc (suc (suc (suc (suc (suc (suc (suc (suc (suc (suc (suc (suc (suc (suc (suc (suc (suc (suc (suc (suc (suc (suc (suc code)))))))))))))))))))))))))) a b c d e rights n small ha hb hc hd he lo hi op = absurd (omega (arith, small))
