-- Bodies there and back: a block is the spelling of the record that is read in it, and what is spelled is read.
use Rattle.std.proofs.Common.{◌≡◌, ℕ, zero, suc, ◌+◌, ◌-◌, ◌*◌, ◌^◌, ◌≤◌, ◌<◌, inl, inr, List, [], ◌∷◌, ◌++◌, length, map, take, drop, get_or, replicate, set, Some, None, refl, sym, ap, subst, ◌∙◌, arith, append_assoc, length-append, add_assoc}
use Rattle.std.proofs.Math.Nat.{mul-suc}
use Rattle.std.specs.List.{flat_map}
use Rattle.std.proofs.lemmas.Bool.{cases_eq}
use Rattle.std.proofs.lemmas.List.{drop-drop, drop_at, ext_get_or, flat_map_more, get_or-map, length-drop, length-map, map-append, take-append-drop, take_all, take_more_set}
use Rattle.byteorder.specs.Endian.{little_bytes, little_number}
use Rattle.byteorder.specs.Numbers.{length-bytes_low_first, little_number-reads_back}
use Rattle.base_bytes.proofs.FieldLaws.{little_bytes-number_at}
use Rattle.edge_disk.specs.Image.{IsBlock}
use Rattle.model_kernel.specs.base_types.Edges.{upto}
use Rattle.image_facts.specs.Bodies.{body_block, number_at, record_in}
use Rattle.image_facts.specs.Checks.{first_not_zero, zeros_from}
use Rattle.image_facts.proofs.Firsts.{zeros_hit, zeros_more}
use Rattle.model_kernel.proofs.Lists.{upto_get, upto_len}

-- WHAT IS READ IS SPELLED THERE

no_more : (a b c : ℕ) → a + b ≤ c → a ≤ c
no_more a b c le = omega (arith, le)

swap : (a b c : ℕ) → a + (b + c) ≡ (a + c) + b
swap a b c = omega arith

module _ (body : List ℕ) (byte : (i : ℕ) → get_or body i 0 < 256) where
  -- a number, and the bytes behind it
  field : (at width : ℕ) → at + width ≤ length body → little_bytes width (number_at at width body) ++ drop (at + width) body ≡ drop at body
  field at width within =
      ap (λ (l : List ℕ). l ++ drop (at + width) body) (sym (little_bytes-number_at at width body byte within))
      ∙ (ap (λ (l : List ℕ). take width (drop at body) ++ l) (sym (drop-drop width at body)) ∙ take-append-drop width (drop at body))

  -- a row of numbers, and the bytes behind it
  row : (at width n : ℕ) → at + width * n ≤ length body
      → flat_map (little_bytes width) (map (λ y. number_at (at + width * y) width body) (upto n)) ++ drop (at + width * n) body ≡ drop at body
  row at width zero within = ap (λ (k : ℕ). drop k body) (let e : at + width * 0 ≡ at = omega arith in e)
  row at width (suc n) within =
      let f : ℕ → ℕ = λ y. number_at (at + width * y) width body in
      let so_far : List ℕ = flat_map (little_bytes width) (map f (upto n)) in
      let e : at + width * suc n ≡ (at + width * n) + width = ap (λ (k : ℕ). at + k) (mul-suc width n) ∙ sym (add_assoc at (width * n) width) in
      let room : (at + width * n) + width ≤ length body = subst (λ (k : ℕ). k ≤ length body) e within in
      let more : flat_map (little_bytes width) (map f (upto n ++ n ∷ [])) ≡ so_far ++ little_bytes width (f n) =
      ap (flat_map (little_bytes width)) (map-append f (upto n) (n ∷ [])) ∙ sym (flat_map_more (little_bytes width) [] (map f (upto n)) (f n)) in
      ap (λ (l : List ℕ). l ++ drop (at + width * suc n) body) more
      ∙ (append_assoc so_far (little_bytes width (f n)) (drop (at + width * suc n) body)
      ∙ (ap (λ (k : ℕ). so_far ++ (little_bytes width (f n) ++ drop k body)) e
      ∙ (ap (λ (l : List ℕ). so_far ++ l) (field (at + width * n) width room) ∙ row at width n (no_more (at + width * n) width (length body) room))))

pub zeros_are : (place : ℕ) (bytes : List ℕ) → first_not_zero place bytes ≡ None → bytes ≡ replicate (length bytes) 0
zeros_are place [] none = refl
zeros_are place (b ∷ bytes) none = elim (cases_eq b 0) as (λ _. (b ∷ bytes) ≡ replicate (length (b ∷ bytes)) 0) [
  | inl is ↦ (ap (λ (x : ℕ). x ∷ bytes) is ∙ ap (λ (l : List ℕ). 0 ∷ l) (zeros_are (place + 1) bytes (sym (zeros_more place b bytes is) ∙ none)))
  | inr other ↦ absurd (let e : Some place ≡ None = sym (zeros_hit place b bytes other) ∙ none in cc)
]

-- a block that is zero from 560 on is the body of the record that is read in it
pub body_is : (body : List ℕ) → IsBlock body → zeros_from 560 body ≡ None → body ≡ body_block (record_in body)
unfolding body_block record_in
body_is body whole zeros =
    let len = whole.len in
    let byte : (i : ℕ) → get_or body i 0 < 256 = whole.byte in
    let e : length body - 560 ≡ 464 = omega (arith, len) in
    let rest : drop 560 body ≡ replicate 464 0 = zeros_are 560 (drop 560 body) zeros ∙ ap (λ (n : ℕ). replicate n 0) (length-drop 560 body ∙ e) in
    let entity : List ℕ = little_bytes 4 (number_at 0 4 body) in
    let len4 : List ℕ = little_bytes 4 (number_at 4 4 body) in
    let version : List ℕ = little_bytes 8 (number_at 8 8 body) in
    let stamp : List ℕ = flat_map (little_bytes 8) (map (λ y. number_at (16 + 8 * y) 8 body) (upto 64)) in
    let blocks : List ℕ = flat_map (little_bytes 4) (map (λ i. number_at (528 + 4 * i) 4 body) (upto 8)) in
    let five : blocks ++ replicate 464 0 ≡ drop 528 body = ap (λ (l : List ℕ). blocks ++ l) (sym rest) ∙ row body byte 528 4 8 (omega (arith, len)) in
    let four : stamp ++ (blocks ++ replicate 464 0) ≡ drop 16 body = ap (λ (l : List ℕ). stamp ++ l) five ∙ row body byte 16 8 64 (omega (arith, len)) in
    let three : version ++ (stamp ++ (blocks ++ replicate 464 0)) ≡ drop 8 body = ap (λ (l : List ℕ). version ++ l) four ∙ field body byte 8 8 (omega (arith, len)) in
    let two : len4 ++ (version ++ (stamp ++ (blocks ++ replicate 464 0))) ≡ drop 4 body = ap (λ (l : List ℕ). len4 ++ l) three ∙ field body byte 4 4 (omega (arith, len)) in
    sym (ap (λ (l : List ℕ). entity ++ l) two ∙ field body byte 0 4 (omega (arith, len)))

-- WHAT IS SPELLED IS READ

pub field_back : (at width value : ℕ) (front rest body : List ℕ) → body ≡ front ++ (little_bytes width value ++ rest) → length front ≡ at → value < 256 ^ width → number_at at width body ≡ value
field_back at width value front rest body is len fits =
    ap (λ (l : List ℕ). little_number width l) (ap (λ (l : List ℕ). drop at l) is ∙ drop_at front (little_bytes width value ++ rest) at len) ∙ little_number-reads_back width value rest fits

pub row_back : (width : ℕ) (xs : List ℕ) (y at k : ℕ) (front rest body : List ℕ) → body ≡ front ++ (flat_map (little_bytes width) xs ++ rest) → length front ≡ at
    → ((i : ℕ) → i < length xs → get_or xs i 0 < 256 ^ width) → y < length xs → k ≡ at + width * y → number_at k width body ≡ get_or xs y 0
row_back width [] y at k front rest body is len fits lt place = absurd (omega (arith, lt))
row_back width (x ∷ xs) zero at k front rest body is len fits lt place =
    let here : k ≡ at = place ∙ (let e : at + width * 0 ≡ at = omega arith in e) in
    let behind : List ℕ = flat_map (little_bytes width) xs in
    ap (λ (n : ℕ). number_at n width body) here
    ∙ field_back at width x front (behind ++ rest) body (is ∙ ap (λ (l : List ℕ). front ++ l) (append_assoc (little_bytes width x) behind rest)) len (fits 0 (omega arith))
row_back width (x ∷ xs) (suc y) at k front rest body is len fits lt place =
    let behind : List ℕ = flat_map (little_bytes width) xs in
    row_back width xs y (at + width) k (front ++ little_bytes width x) rest body
    (is ∙ (ap (λ (l : List ℕ). front ++ l) (append_assoc (little_bytes width x) behind rest) ∙ sym (append_assoc front (little_bytes width x) (behind ++ rest))))
    (length-append front (little_bytes width x) ∙ (let a = length-bytes_low_first 0 width x in omega (arith, a, len)))
    (λ i low. fits (suc i) (omega (arith, low)))
    (omega (arith, lt))
    (place ∙ (ap (λ (m : ℕ). at + m) (mul-suc width y) ∙ swap at (width * y) width))

pub row_length : (width : ℕ) (xs : List ℕ) → length (flat_map (little_bytes width) xs) ≡ width * length xs
row_length width [] = let e : 0 ≡ width * 0 = omega arith in e
row_length width (x ∷ xs) =
    length-append (little_bytes width x) (flat_map (little_bytes width) xs)
    ∙ (ap (λ (k : ℕ). k + length (flat_map (little_bytes width) xs)) (length-bytes_low_first 0 width x)
    ∙ (ap (λ (k : ℕ). width + k) (row_length width xs) ∙ (turn width (width * length xs) ∙ sym (mul-suc width (length xs)))))
  where
    turn : (a b : ℕ) → a + b ≡ b + a
    turn a b = omega arith

pub zeros_read : (place n : ℕ) → first_not_zero place (replicate n 0) ≡ None
zeros_read place zero = refl
zeros_read place (suc n) = zeros_read (place + 1) n

pub numbers_are : (f : ℕ → ℕ) (xs : List ℕ) (n : ℕ) → length xs ≡ n → ((i : ℕ) → i < n → f i ≡ get_or xs i 0) → map f (upto n) ≡ xs
numbers_are f xs n len each =
    ext_get_or 0 (map f (upto n)) xs (length-map (upto n) f ∙ (upto_len n ∙ sym len)) (λ i lt.
    let count = upto_len n in
    let low : i < n = (let a = length-map (upto n) f in omega (arith, lt, a, count)) in
    get_or-map f (upto n) i 0 0 (omega (arith, low, count)) ∙ (ap f (upto_get n i low) ∙ each i low))

-- one number of a row more
pub row_more : (f : ℕ → ℕ) (xs : List ℕ) (i x : ℕ) → i < length xs → take i xs ≡ map f (upto i) → x ≡ f i → take (i + 1) (set xs i x) ≡ map f (upto (i + 1))
row_more f xs i x lt so_far is =
    let next : i + 1 ≡ suc i = omega arith in
    take_more_set xs i x lt
    ∙ (ap (λ (l : List ℕ). l ++ x ∷ []) so_far
    ∙ (ap (λ (y : ℕ). map f (upto i) ++ y ∷ []) is ∙ (sym (map-append f (upto i) (i ∷ [])) ∙ ap (λ (k : ℕ). map f (upto k)) (sym next))))

pub row_all : (f : ℕ → ℕ) (xs : List ℕ) (i n : ℕ) → i ≡ n → length xs ≡ n → take i xs ≡ map f (upto i) → xs ≡ map f (upto n)
row_all f xs i n is len so_far = sym (take_all i xs (omega (arith, is, len))) ∙ (so_far ∙ ap (λ (k : ℕ). map f (upto k)) is)
