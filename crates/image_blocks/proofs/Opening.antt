-- An image with records has them as the log of its active area.
use Rattle.std.proofs.Common.{◌≡◌, ℕ, zero, suc, ◌+◌, ◌≤◌, ◌<◌, Bool, true, false, ◌&&◌, ◌==◌, nat_le, nat_lt, if◌then◌else◌, ◌⊎◌, inl, inr, List, [], ◌∷◌, length, take, get_or, Option, Some, None, codes, refl, sym, ap, subst, ◌∙◌, arith}
use Rattle.std.specs.Prelude.{bytes_eq, slice_get}
use Rattle.std.proofs.lemmas.Bool.{and_parts, cases_eq, cases_lt, false≢true, leb-true}
use Rattle.std.proofs.lemmas.Bool.Decides.{nat_tests}
use Rattle.std.proofs.lemmas.List.{get_or-map, length-map}
use Rattle.std.proofs.lemmas.Option.{get_or_from_slice_get, slice_get_within}
use Rattle.edge_disk.specs.Image.{Image, IsImage, block_at}
use Rattle.base_types.specs.Edges.{upto}
use Rattle.base_types.specs.declared.records.Rec.{Rec}
use Rattle.image_facts.specs.Bodies.{blocks_for, body_block, number_at, record_in}
use Rattle.image_blocks.specs.Checks.{Bad, active_area, active_by, area_fault, body_in, check_1, check_2, check_3, in_block, log_fault, log_in, records_fault, slot_fault, used_from, used_in}
use Rattle.image_facts.specs.Checks.{blocks_fault, body_fault, count_in, header_fault, is_count, is_epoch, last_version, stamps_fault, superblock_fault, unless_at, zeros_from}
use Rattle.image_blocks.specs.Layout.{body_at, epoch_in, header_at, slot_gate_at}
use Rattle.image_facts.specs.Layout.{is_open, least_blocks, most_blocks, most_length, pool_at, slot_count}
use Rattle.image_facts.specs.Logs.{AreFitting}
use Rattle.image_blocks.specs.Logs.{HasLog, HasRecords, IsActive, LogBackLaw}
use Rattle.image_blocks.specs.declared.areas.Area.{Area}
use Rattle.image_blocks.specs.declared.areas.Area.TheVariants.{A, B}
use Rattle.image_facts.proofs.Firsts.{first_each, first_head, unless_none}
use Rattle.image_facts.proofs.model_kernel_lemmas.Lists.{upto_get, upto_len}
use Rattle.image_blocks.proofs.Rest.{used_most}
use Rattle.image_facts.proofs.Spelling.{body_is}

-- PARTS of the checks

in_block_none : (n : ℕ) (o : Option ℕ) → in_block n o ≡ None → o ≡ None
in_block_none n None none = refl
in_block_none n (Some p) none = absurd (let e : Some (record { block = n; place = p }) ≡ None = none in cc)

else_none : (t : Bool) (x : Bad) (o : Option ℕ) → (if t then Some x else in_block 0 o) ≡ None → o ≡ None
else_none true x o none = absurd (let e : Some x ≡ None = none in cc)
else_none false x o none = in_block_none 0 o none

count_good : (blocks : ℕ) (block : List ℕ) → superblock_fault blocks block ≡ None → is_count blocks (number_at 12 4 block) ≡ true
count_good blocks block none =
    let word : Option ℕ = unless_at (bytes_eq (take 8 block) (codes "GRASSHOP")) 0 in
    let format : Option ℕ = unless_at (number_at 8 4 block == 1) 8 in
    let count : Option ℕ = unless_at (is_count blocks (number_at 12 4 block)) 12 in
    let behind : List (Option ℕ) = zeros_from 16 block ∷ [] in
    let one = first_head word (format ∷ count ∷ behind) none in
    let two = first_head format (count ∷ behind) one.1 in
    unless_none (is_count blocks (number_at 12 4 block)) 12 (first_head count behind two.1).0

-- the tests of a body hold
pub record Tests (count : ℕ) (before : List Rec) (body : List ℕ) : Type 0 where
  pub entity : nat_lt (number_at 0 4 body) 64 ≡ true
  pub length : (nat_le 1 (number_at 4 4 body) && nat_le (number_at 4 4 body) most_length) ≡ true
  pub version : (is_epoch (number_at 8 8 body) && nat_lt (last_version before (number_at 0 4 body)) (number_at 8 8 body)) ≡ true
  pub stamp : stamps_fault (number_at 0 4 body) (number_at 8 8 body) body ≡ None
  pub numbers : blocks_fault count (blocks_for (number_at 4 4 body)) (record_in body).blocks ≡ None
  pub zeros : zeros_from 560 body ≡ None

pub tests : (count : ℕ) (before : List Rec) (body : List ℕ) → body_fault count before body ≡ None → Tests count before body
tests count before body none =
    let entity : Option ℕ = unless_at (nat_lt (number_at 0 4 body) 64) 0 in
    let len : Option ℕ = unless_at (nat_le 1 (number_at 4 4 body) && nat_le (number_at 4 4 body) most_length) 4 in
    let version : Option ℕ = unless_at (is_epoch (number_at 8 8 body) && nat_lt (last_version before (number_at 0 4 body)) (number_at 8 8 body)) 8 in
    let stamp : Option ℕ = stamps_fault (number_at 0 4 body) (number_at 8 8 body) body in
    let numbers : Option ℕ = blocks_fault count (blocks_for (number_at 4 4 body)) (record_in body).blocks in
    let one = first_head entity (len ∷ version ∷ stamp ∷ numbers ∷ zeros_from 560 body ∷ []) none in
    let two = first_head len (version ∷ stamp ∷ numbers ∷ zeros_from 560 body ∷ []) one.1 in
    let three = first_head version (stamp ∷ numbers ∷ zeros_from 560 body ∷ []) two.1 in
    let four = first_head stamp (numbers ∷ zeros_from 560 body ∷ []) three.1 in
    let five = first_head numbers (zeros_from 560 body ∷ []) four.1 in
    record {
      entity = unless_none _ 0 one.0;
      length = unless_none _ 4 two.0;
      version = unless_none _ 8 three.0;
      stamp = four.0;
      numbers = five.0;
      zeros = (first_head (zeros_from 560 body) [] five.1).0;
    }

-- THE ACTIVE AREA

chosen : (a b : ℕ) → (area : Area) → (if nat_lt b a then Some A else if nat_lt a b then Some B else None) ≡ Some area → ((area ≡ A) × (b < a)) ⊎ ((area ≡ B) × (a < b))
chosen a b area is = elim (cases_lt b a) as (λ _. ((area ≡ A) × (b < a)) ⊎ ((area ≡ B) × (a < b))) [
  | inl lt ↦
      (let test : nat_lt b a ≡ true = grind (arith, nat_tests) in
      let e : Some A ≡ Some area = sym (ap (λ (t : Bool). if t then Some A else if nat_lt a b then Some B else None) test) ∙ is in
      inl ((let f : area ≡ A = cc in f), lt))
  | inr ge ↦
      (let test : nat_lt b a ≡ false = grind (arith, nat_tests) in
      let rest : (if nat_lt a b then Some B else None) ≡ Some area = sym (ap (λ (t : Bool). if t then Some A else if nat_lt a b then Some B else None) test) ∙ is in
      elim (cases_lt a b) as (λ _. ((area ≡ A) × (b < a)) ⊎ ((area ≡ B) × (a < b))) [
        | inl lt ↦
            (let test_2 : nat_lt a b ≡ true = grind (arith, nat_tests) in
            let e : Some B ≡ Some area = sym (ap (λ (t : Bool). if t then Some B else None) test_2) ∙ rest in
            inr ((let f : area ≡ B = cc in f), lt))
        | inr above ↦
            (let test_2 : nat_lt a b ≡ false = grind (arith, nat_tests) in
            absurd (let e : None ≡ Some area = sym (ap (λ (t : Bool). if t then Some B else None) test_2) ∙ rest in cc))
      ])
]

back_a : (p q : Bool) (a b : ℕ) → active_by p q a b ≡ Some A → (p ≡ true) × (q ≡ true → b < a)
back_a false false a b is = absurd (let e : None ≡ Some A = is in cc)
back_a true false a b is = (refl, λ e. absurd (false≢true e))
back_a false true a b is = absurd (let e : Some B ≡ Some A = is in cc)
back_a true true a b is = elim (chosen a b A is) as (λ _. (true ≡ true) × (true ≡ true → b < a)) [ inl here ↦ (refl, λ e. here.1) | inr here ↦ absurd (let e : A ≡ B = here.0 in cc) ]

back_b : (p q : Bool) (a b : ℕ) → active_by p q a b ≡ Some B → (q ≡ true) × (p ≡ true → a < b)
back_b false false a b is = absurd (let e : None ≡ Some B = is in cc)
back_b true false a b is = absurd (let e : Some A ≡ Some B = is in cc)
back_b false true a b is = (refl, λ e. absurd (false≢true e))
back_b true true a b is = elim (chosen a b B is) as (λ _. (true ≡ true) × (true ≡ true → a < b)) [ inl here ↦ absurd (let e : B ≡ A = here.0 in cc) | inr here ↦ (refl, λ e. here.1) ]

active_back : (image : Image) (area : Area) → active_area image ≡ Some area → IsActive (record { active = area; epoch = epoch_in image area }) image
active_back image A is = let e = back_a (is_open image 2) (is_open image 4) (epoch_in image A) (epoch_in image B) is in record { gate = e.0; epoch = refl; above = e.1 }
active_back image B is = let e = back_b (is_open image 2) (is_open image 4) (epoch_in image A) (epoch_in image B) is in record { gate = e.0; epoch = refl; above = e.1 }

-- THE SLOTS before the first closed gate

gate_cases : (b : Bool) → (b ≡ true) ⊎ (b ≡ false)
gate_cases true = inl refl
gate_cases false = inr refl

module _ (image : Image) (area : Area) where
  used_more : (n i : ℕ) → is_open image (slot_gate_at area i) ≡ true → used_from (suc n) image area i ≡ suc (used_from n image area (i + 1))
  used_more n i gate = ap (λ (b : Bool). if b then suc (used_from n image area (i + 1)) else 0) gate

  used_none : (n i : ℕ) → is_open image (slot_gate_at area i) ≡ false → used_from (suc n) image area i ≡ 0
  used_none n i gate = ap (λ (b : Bool). if b then suc (used_from n image area (i + 1)) else 0) gate

  opens : (n i j : ℕ) → i ≤ j → j < i + used_from n image area i → is_open image (slot_gate_at area j) ≡ true
  opens zero i j from to = absurd (omega (arith, from, to))
  opens (suc n) i j from to = elim (gate_cases (is_open image (slot_gate_at area i))) as (λ _. is_open image (slot_gate_at area j) ≡ true) [
    | inl gate ↦ elim (cases_eq i j) as (λ _. is_open image (slot_gate_at area j) ≡ true) [
      | inl is ↦ subst (λ (k : ℕ). is_open image (slot_gate_at area k) ≡ true) is gate
      | inr later ↦ (let e = used_more n i gate in opens n (i + 1) j (omega (arith, from, later)) (omega (arith, to, e)))
    ]
    | inr gate ↦ absurd (let e = used_none n i gate in omega (arith, from, to, e))
  ]

  closes : (n i : ℕ) → used_from n image area i < n → is_open image (slot_gate_at area (i + used_from n image area i)) ≡ false
  closes zero i lt = absurd (omega (arith, lt))
  closes (suc n) i lt = elim (gate_cases (is_open image (slot_gate_at area i))) as (λ _. is_open image (slot_gate_at area (i + used_from (suc n) image area i)) ≡ false) [
    | inl gate ↦
        (let e = used_more n i gate in
        let place : (i + 1) + used_from n image area (i + 1) ≡ i + used_from (suc n) image area i = omega (arith, e) in
        subst (λ (k : ℕ). is_open image (slot_gate_at area k) ≡ false) place (closes n (i + 1) (omega (arith, lt, e))))
    | inr gate ↦
        (let e = used_none n i gate in
        let place : i ≡ i + used_from (suc n) image area i = omega (arith, e) in
        subst (λ (k : ℕ). is_open image (slot_gate_at area k) ≡ false) place gate)
  ]

  -- (the number of slots is a variable here: a literal would be counted down)
  slots_few : (n len : ℕ) → used_from n image area 0 ≡ len → len ≤ n
  slots_few n len is = let most = used_most n image area 0 in omega (arith, most, is)

  slots_open : (n len : ℕ) → used_from n image area 0 ≡ len → (j : ℕ) → j < len → is_open image (slot_gate_at area j) ≡ true
  slots_open n len is j lt = opens n 0 j (omega arith) (omega (arith, lt, is))

  slots_closed : (n len : ℕ) → used_from n image area 0 ≡ len → len < n → is_open image (slot_gate_at area len) ≡ false
  slots_closed n len is lt =
      let place : 0 + used_from n image area 0 ≡ len = omega (arith, is) in
      subst (λ (k : ℕ). is_open image (slot_gate_at area k) ≡ false) place (closes n 0 (omega (arith, lt, is)))

body_low : (area : Area) (i : ℕ) → i < slot_count → body_at area i < pool_at
body_low A i lt = omega (arith, lt)
body_low B i lt = omega (arith, lt)

-- THE WHOLE

module _ (recs : List Rec) (image : Image) (h : HasRecords recs image) where
  three : (check_1 image ≡ None) × (check_2 image ≡ None) × (check_3 image ≡ None)
  unfolding records_fault
  three =
      let one = first_head (check_1 image) (check_2 image ∷ check_3 image ∷ []) h.good in
      let two = first_head (check_2 image) (check_3 image ∷ []) one.1 in
      (one.0, two.0, (first_head (check_3 image) [] two.1).0)

  header : header_fault (block_at image (header_at h.area)) ≡ None
  header = in_block_none (header_at h.area) (header_fault (block_at image (header_at h.area))) (sym (ap (area_fault image) h.active) ∙ three.1)

  used : used_in image h.area ≡ length recs
  used = sym (upto_len (used_in image h.area)) ∙ (sym (length-map (upto (used_in image h.area)) (λ i. record_in (body_in image h.area i))) ∙ ap length h.log)

  pub slot_none : (i : ℕ) → i < used_in image h.area → body_fault (count_in image) (take i recs) (body_in image h.area i) ≡ None
  slot_none i lt =
      let each = first_each (slot_fault image h.area) (used_in image h.area) (sym (ap (log_fault image) h.active) ∙ three.2) i lt in
      ap (λ (rs : List Rec). body_fault (count_in image) (take i rs) (body_in image h.area i)) (sym h.log)
      ∙ in_block_none (body_at h.area i) (body_fault (count_in image) (take i (log_in image h.area)) (body_in image h.area i)) each

  pub read : (i : ℕ) (r : Rec) → slice_get recs i ≡ Some r → i < used_in image h.area → r ≡ record_in (body_in image h.area i)
  read i r here lt =
      let f : ℕ → Rec = λ k. record_in (body_in image h.area k) in
      let n = upto_len (used_in image h.area) in
      sym (get_or_from_slice_get recs i r r here)
      ∙ (ap (λ (rs : List Rec). get_or rs i r) (sym h.log)
      ∙ (get_or-map f (upto (used_in image h.area)) i 0 r (omega (arith, lt, n)) ∙ ap f (upto_get (used_in image h.area) i lt)))

  pub used_before : (i : ℕ) (r : Rec) → slice_get recs i ≡ Some r → i < used_in image h.area
  used_before i r here = let a = slice_get_within recs i r here in let e = used in omega (arith, a, e)

module _ (recs : List Rec) (blocks : ℕ) (image : Image) (whole : IsImage blocks image) (h : HasRecords recs image) where
  enough : pool_at ≤ blocks
  enough =
      let good = count_good (length image) (block_at image 0) (else_none (length image == 0) (record { block = 0; place = 0 }) (superblock_fault (length image) (block_at image 0)) (three recs image h).0) in
      let parts = and_parts (nat_le least_blocks (count_in image) && nat_le (count_in image) most_blocks) (nat_le (count_in image) (length image)) good in
      let low = leb-true least_blocks (count_in image) (and_parts (nat_le least_blocks (count_in image)) (nat_le (count_in image) most_blocks) parts.0).0 in
      let high = leb-true (count_in image) (length image) parts.1 in
      let len = whole.len in
      omega (arith, low, high, len)

  body : (i : ℕ) (r : Rec) → slice_get recs i ≡ Some r → body_in image h.area i ≡ body_block r
  body i r here =
      let lt = used_before recs image h i r here in
      let few = slots_few image h.area slot_count (length recs) (used recs image h) in
      let place : body_at h.area i < blocks = (let low = body_low h.area i (let a = slice_get_within recs i r here in omega (arith, a, few)) in let room = enough in omega (arith, low, room)) in
      body_is (body_in image h.area i) (whole.block (body_at h.area i) place) (tests (count_in image) (take i recs) (body_in image h.area i) (slot_none recs image h i lt)).zeros
      ∙ ap body_block (sym (read recs image h i r here lt))

  fits : AreFitting (count_in image) recs
  fits i r here =
      let lt = used_before recs image h i r here in
      let is = body i r here in
      record {
        good = ap (λ (l : List ℕ). body_fault (count_in image) (take i recs) l) (sym is) ∙ slot_none recs image h i lt;
        back = ap record_in (sym is) ∙ sym (read recs image h i r here lt);
      }

  log : HasLog (record { active = h.area; epoch = epoch_in image h.area }) recs image
  log = record {
    active = active_back image h.area h.active;
    slots = record {
      few = slots_few image h.area slot_count (length recs) (used recs image h);
      bodies = body;
      gates = slots_open image h.area slot_count (length recs) (used recs image h);
      closed = slots_closed image h.area slot_count (length recs) (used recs image h);
    };
  }

pub log_back_law : LogBackLaw
log_back_law recs blocks image whole h = (
  record { active = h.area; epoch = epoch_in image h.area },
  record { first = (three recs image h).0; count_is = refl; header = header recs image h },
  log recs blocks image whole h,
  fits recs blocks image whole h,
)
