-- What writing a field leaves, and what reading it finds.
use Rattle.std.proofs.Common.{◌≡◌, ◌≤◌, ◌<◌, ◌⊎◌, inl, inr, ⊎_elim, ℕ, zero, suc, ◌+◌, ◌-◌, ◌*◌, ◌/◌, ◌%◌, ◌^◌, List, [], ◌∷◌, ◌++◌, length, take, drop, get_or, refl, sym, ap, subst, ◌∙◌, arith, append_assoc, length-append}
use Rattle.std.proofs.Math.Nat.{div-div-eq-div-mul, div-one, pow-suc}
use Rattle.std.proofs.lemmas.List.{append-nil, drop-drop, drop_all, drop_at, ext_get_or, get_or-append_right, get_or-drop, get_or-take, get_or_append_left, length-drop, length-take, take_all, take_at}
use Rattle.std.specs.Int.{byte_at, bytes_low_first}
use borrow.Rule.Slice.PartMut.{put_mid, post_of}
use Rattle.byteorder.specs.Endian.{little_bytes, little_number}
use Rattle.byteorder.specs.Numbers.{length-bytes_low_first, little_from-cons, little_from-take, little_number-reads_back}
use Rattle.base_bytes.specs.Fields.{bytes_at, number_at, with_number}

-- a byte of a number, by its place
byte_at-pow : (k x : ℕ) → byte_at k x ≡ x / 256 ^ k % 256
byte_at-pow zero x = ap (λ (y : ℕ). y % 256) (sym (div-one x))
byte_at-pow (suc k) x = refl

-- a write of a field's bytes at the front of what begins at its place
pub put_mid-field : (at width n : ℕ) (old field part : List ℕ) → n ≡ length old - at → part ≡ field ++ drop width (take n (drop at old))
    → put_mid at n old part ≡ take at old ++ field ++ drop (at + width) old
put_mid-field at width n old field part whole is =
    let rest : take n (drop at old) ≡ drop at old = take_all n (drop at old) (omega (arith, whole, length-drop at old)) in
    let none : post_of at n old ≡ [] = drop_all n (drop at old) (omega (arith, whole, length-drop at old)) in
    let written : part ≡ field ++ drop (at + width) old = is ∙ ap (λ (l : List ℕ). field ++ drop width l) rest ∙ ap (λ (l : List ℕ). field ++ l) (drop-drop width at old) in
    ap (λ (l : List ℕ). take at old ++ (part ++ l)) none
    ∙ ap (λ (l : List ℕ). take at old ++ l) (append-nil part ∙ written)
    ∙ sym (append_assoc (take at old) field (drop (at + width) old))

-- a write changes no length
pub length-with_number : (at width value : ℕ) (bytes : List ℕ) → at + width ≤ length bytes → length (with_number at width value bytes) ≡ length bytes
length-with_number at width value bytes within =
    omega (
      arith,
      length-append (take at bytes ++ little_bytes width value) (drop (at + width) bytes),
      length-append (take at bytes) (little_bytes width value),
      length-bytes_low_first 0 width value,
      length-take at bytes,
      length-drop (at + width) bytes,
    )

-- the written bytes are the number's spelling
pub bytes_at-with_number_same : (at width value : ℕ) (bytes : List ℕ) → at + width ≤ length bytes
    → bytes_at at width (with_number at width value bytes) ≡ little_bytes width value
bytes_at-with_number_same at width value bytes within =
    let front : length (take at bytes) ≡ at = omega (arith, length-take at bytes) in
    let split = append_assoc (take at bytes) (little_bytes width value) (drop (at + width) bytes) in
    ap (λ (l : List ℕ). take width (drop at l)) split
    ∙ ap (λ (l : List ℕ). take width l) (drop_at (take at bytes) (little_bytes width value ++ drop (at + width) bytes) at front)
    ∙ take_at (little_bytes width value) (drop (at + width) bytes) width (length-bytes_low_first 0 width value)

-- a byte outside of the field is as before
pub get_or-with_number_apart : (at width value i d : ℕ) (bytes : List ℕ) → at + width ≤ length bytes → (i < at) ⊎ (at + width ≤ i)
    → get_or (with_number at width value bytes) i d ≡ get_or bytes i d
get_or-with_number_apart at width value i d bytes within (inl before) =
    let front : length (take at bytes) ≡ at = omega (arith, length-take at bytes) in
    ap (λ (l : List ℕ). get_or l i d) (append_assoc (take at bytes) (little_bytes width value) (drop (at + width) bytes))
    ∙ get_or_append_left (take at bytes) (little_bytes width value ++ drop (at + width) bytes) d i (omega arith)
    ∙ get_or-take at bytes i d before
get_or-with_number_apart at width value i d bytes within (inr after) =
    let front : length (take at bytes ++ little_bytes width value) ≡ at + width =
    omega (arith, length-take at bytes, length-append (take at bytes) (little_bytes width value), length-bytes_low_first 0 width value) in
    let place : at + width + (i - (at + width)) ≡ i = omega arith in
    get_or-append_right (take at bytes ++ little_bytes width value) (drop (at + width) bytes) (at + width) i d front after
    ∙ get_or-drop (at + width) bytes (i - (at + width)) d
    ∙ ap (λ (k : ℕ). get_or bytes k d) place

-- bytes that share none with the field are as before
pub bytes_at-with_number_apart : (at width value from n : ℕ) (bytes : List ℕ) → at + width ≤ length bytes → (from + n ≤ at) ⊎ (at + width ≤ from)
    → bytes_at from n (with_number at width value bytes) ≡ bytes_at from n bytes
bytes_at-with_number_apart at width value from n bytes within apart =
    let len = length-with_number at width value bytes within in
    ext_get_or
    0
    (bytes_at from n (with_number at width value bytes))
    (bytes_at from n bytes)
    (omega (
      arith,
      len,
      length-take n (drop from (with_number at width value bytes)),
      length-take n (drop from bytes),
      length-drop from (with_number at width value bytes),
      length-drop from bytes,
    ))
    (λ i lt.
    let below : i < n = omega (arith, length-take n (drop from (with_number at width value bytes))) in
    get_or-take n (drop from (with_number at width value bytes)) i 0 below
    ∙ get_or-drop from (with_number at width value bytes) i 0
    ∙ get_or-with_number_apart at width value (from + i) 0 bytes within (⊎_elim (λ (h : from + n ≤ at). inl (omega arith)) (λ (h : at + width ≤ from). inr (omega arith)) apart)
    ∙ sym (get_or-drop from bytes i 0)
    ∙ sym (get_or-take n (drop from bytes) i 0 below))

-- the number is that of its own bytes
pub number_at-bytes_at : (at width : ℕ) (bytes : List ℕ) → number_at at width bytes ≡ little_number width (bytes_at at width bytes)
number_at-bytes_at at width bytes = sym (little_from-take 0 width width (drop at bytes) (omega arith))

-- a number is told by its spelling
pub little_number-little_bytes : (width value : ℕ) → value < 256 ^ width → little_number width (little_bytes width value) ≡ value
little_number-little_bytes width value fits =
    ap (little_number width) (sym (append-nil (little_bytes width value))) ∙ little_number-reads_back width value [] fits

-- the number that was put is read back
pub number_at-with_number_same : (at width value : ℕ) (bytes : List ℕ) → at + width ≤ length bytes → value < 256 ^ width
    → number_at at width (with_number at width value bytes) ≡ value
number_at-with_number_same at width value bytes within fits =
    number_at-bytes_at at width (with_number at width value bytes)
    ∙ ap (little_number width) (bytes_at-with_number_same at width value bytes within)
    ∙ little_number-little_bytes width value fits

-- so is the number of any other field that shares no byte with it
pub number_at-with_number_apart : (at width value from n : ℕ) (bytes : List ℕ) → at + width ≤ length bytes → (from + n ≤ at) ⊎ (at + width ≤ from)
    → number_at from n (with_number at width value bytes) ≡ number_at from n bytes
number_at-with_number_apart at width value from n bytes within apart =
    number_at-bytes_at from n (with_number at width value bytes)
    ∙ ap (little_number n) (bytes_at-with_number_apart at width value from n bytes within apart)
    ∙ sym (number_at-bytes_at from n bytes)

-- what is left of a number above a byte, spelled from that byte on
spelled_from : (j n x : ℕ) (bytes : List ℕ) → ((i : ℕ) → get_or bytes i 0 < 256) → n ≤ length bytes → x / 256 ^ j ≡ little_number n bytes
    → bytes_low_first j n x ≡ take n bytes
spelled_from j zero x bytes byte room is = refl
spelled_from j (suc n) x [] byte room is = absurd (omega arith)
spelled_from j (suc n) x (b ∷ bytes) byte room is =
    let low : b < 256 = byte 0 in
    let above : x / 256 ^ j ≡ b + 256 * little_number n bytes = is ∙ ap (λ (r : ℕ). b + 256 * r) (little_from-cons 0 n b bytes) in
    let this : byte_at j x ≡ b = byte_at-pow j x ∙ ap (λ (y : ℕ). y % 256) above ∙ omega arith in
    let shift : x / 256 ^ suc j ≡ x / 256 ^ j / 256 = ap (λ (p : ℕ). x / p) (pow-suc 256 j) ∙ sym (div-div-eq-div-mul x (256 ^ j) 256) in
    let rest : x / 256 ^ suc j ≡ little_number n bytes = shift ∙ ap (λ (y : ℕ). y / 256) above ∙ omega arith in
    let others = spelled_from (suc j) n x bytes (λ i. byte (suc i)) (omega arith) rest in
    cc

-- bytes spell the number that is read from them
pub little_bytes-number_at : (at width : ℕ) (bytes : List ℕ) → ((i : ℕ) → get_or bytes i 0 < 256) → at + width ≤ length bytes
    → bytes_at at width bytes ≡ little_bytes width (number_at at width bytes)
little_bytes-number_at at width bytes byte within =
    sym (spelled_from 0 width (number_at at width bytes) (drop at bytes) (λ i. subst (λ (x : ℕ). x < 256) (sym (get_or-drop at bytes i 0)) (byte (at + i))) (omega (arith, length-drop at bytes)) (div-one (number_at at width bytes)))
