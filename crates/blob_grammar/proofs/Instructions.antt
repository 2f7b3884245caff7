-- Instructions are told by their 16 bytes: they can be read back.
use Rattle.std.proofs.Common.{◌≡◌, ◌<◌, ℕ, ◌-◌, ◌^◌, ◌==◌, Bool, true, false, if◌then◌else◌, List, length, drop, Option, Some, None, refl, sym, ap, ◌∙◌, arith, eqb-true}
use Rattle.std.specs.Prelude.{slice_index, IfSome}
use Rattle.model_kernel.specs.base_types.Instructions.{IsInstruction, IsPlace}
use Rattle.model_kernel.specs.base_types.declared.capabilities.Rights.{Rights}
use Rattle.model_kernel.specs.base_types.declared.instructions.Instr.{Instr}
use Rattle.model_kernel.specs.base_types.declared.instructions.Instr.TheVariants.{Set, Copy, Add, Sub, Jump, Jz, Load, Store, Invoke, Leave, Return, Map, Unmap, Lmap, Lunmap, Take, Give, Drop, Make, Spawn, Stop, Go, Snap, Stabilise, Print, Halt}
use Rattle.byteorder.specs.Endian.{little_bytes, little_number}
use Rattle.blob_grammar.specs.Spelling.{entry_number, instr_bytes}
use Rattle.blob_grammar.proofs.Telling.{Tells, read_back, same_length, when}

-- READ BACK, from the code, the registers, the rights and the number

abbrev rights_of : ℕ → Rights
rights_of r = record { 0 = r }

abbrev entry_of : ℕ → Option ℕ
entry_of n = if n == 2 ^ 64 - 1 then None else Some n

abbrev read_instr : (code a b c d e rights n : ℕ) → Instr
read_instr code a b c d e rights n =
    if code == 0 then Set a n
    else if code == 1 then Copy a b
    else if code == 2 then Add a b
    else if code == 3 then Sub a b
    else if code == 4 then Jump n
    else if code == 5 then Jz a n
    else if code == 6 then Load a b
    else if code == 7 then Store a b
    else if code == 8 then Invoke a
    else if code == 9 then Leave a
    else if code == 10 then Return
    else if code == 11 then Map a b c d e (rights_of rights)
    else if code == 12 then Unmap a b
    else if code == 13 then Lmap a b c d (rights_of rights)
    else if code == 14 then Lunmap a
    else if code == 15 then Take a b c
    else if code == 16 then Give a b c (rights_of rights)
    else if code == 17 then Drop a
    else if code == 18 then Make a b c (entry_of n)
    else if code == 19 then Spawn a n
    else if code == 20 then Stop a
    else if code == 21 then Go a
    else if code == 22 then Snap a
    else if code == 23 then Stabilise a
    else if code == 24 then Print a
    else Halt

abbrev instr_in : List ℕ → Instr
instr_in bytes =
    read_instr (slice_index bytes 0) (slice_index bytes 1) (slice_index bytes 2) (slice_index bytes 3) (slice_index bytes 4) (slice_index bytes 5) (slice_index bytes 6) (little_number 8 (drop 8 bytes))

number_back : (f : ℕ → Instr) (n : ℕ) → n < 2 ^ 64 → f (little_number 8 (little_bytes 8 n)) ≡ f n
number_back f n small = ap f (read_back 8 n small)

place_back : (f : ℕ → Instr) (p : ℕ) → p < 128 → f (little_number 8 (little_bytes 8 p)) ≡ f p
place_back f p small = number_back f p (omega (arith, small))

entry_read : (p : ℕ) (b : Bool) → (p == 2 ^ 64 - 1) ≡ b → p < 128 → (if b then None else Some p) ≡ Some p
entry_read p false e small = refl
entry_read p true e small = absurd (let is : p ≡ 2 ^ 64 - 1 = eqb-true p (2 ^ 64 - 1) e in omega (arith, is, small))

entry_back : (f : Option ℕ → Instr) (entry : Option ℕ) → IfSome entry IsPlace → f (entry_of (little_number 8 (little_bytes 8 (entry_number entry)))) ≡ f entry
entry_back f None place = refl
entry_back f (Some p) place =
    ap (λ n. f (entry_of n)) (read_back 8 p (omega (arith, place))) ∙ ap f (entry_read p (p == 2 ^ 64 - 1) refl place)

back : (i : Instr) → IsInstruction i → instr_in (instr_bytes i) ≡ i
back (Set d n) good = number_back (Set d) n good.1
back (Copy d s) good = refl
back (Add d s) good = refl
back (Sub d s) good = refl
back (Jump p) good = place_back Jump p good
back (Jz s p) good = place_back (Jz s) p good.1
back (Load d a) good = refl
back (Store a s) good = refl
back (Invoke c) good = refl
back (Leave c) good = refl
back Return good = refl
back (Map d a c b n rights) good = refl
back (Unmap d a) good = refl
back (Lmap a c b n rights) good = refl
back (Lunmap a) good = refl
back (Take d c y) good = refl
back (Give d c s rights) good = refl
back (Drop s) good = refl
back (Make d n t entry) good = entry_back (Make d n t) entry good.3
back (Spawn d p) good = place_back (Spawn d) p good.1
back (Stop c) good = refl
back (Go c) good = refl
back (Snap c) good = refl
back (Stabilise c) good = refl
back (Print s) good = refl
back Halt good = refl

pub length-instr_bytes : (i : Instr) → length (instr_bytes i) ≡ 16
length-instr_bytes (Set d n) = refl
length-instr_bytes (Copy d s) = refl
length-instr_bytes (Add d s) = refl
length-instr_bytes (Sub d s) = refl
length-instr_bytes (Jump p) = refl
length-instr_bytes (Jz s p) = refl
length-instr_bytes (Load d a) = refl
length-instr_bytes (Store a s) = refl
length-instr_bytes (Invoke c) = refl
length-instr_bytes (Leave c) = refl
length-instr_bytes Return = refl
length-instr_bytes (Map d a c b n rights) = refl
length-instr_bytes (Unmap d a) = refl
length-instr_bytes (Lmap a c b n rights) = refl
length-instr_bytes (Lunmap a) = refl
length-instr_bytes (Take d c y) = refl
length-instr_bytes (Give d c s rights) = refl
length-instr_bytes (Drop s) = refl
length-instr_bytes (Make d n t entry) = refl
length-instr_bytes (Spawn d p) = refl
length-instr_bytes (Stop c) = refl
length-instr_bytes (Go c) = refl
length-instr_bytes (Snap c) = refl
length-instr_bytes (Stabilise c) = refl
length-instr_bytes (Print s) = refl
length-instr_bytes Halt = refl

pub instr : (i j : Instr) → IsInstruction i → IsInstruction j → Tells (instr_bytes i) (instr_bytes j) (i ≡ j)
instr i j f g =
    when (same_length (instr_bytes i) (instr_bytes j) (length-instr_bytes i ∙ sym (length-instr_bytes j)))
    (λ same. sym (back i f) ∙ ap instr_in same ∙ back j g)
