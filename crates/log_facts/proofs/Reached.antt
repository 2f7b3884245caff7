-- The slots of an area, as far as they are read.
use Rattle.std.proofs.Common.{◌≡◌, ℕ, zero, suc, ◌+◌, ◌-◌, ◌≤◌, ◌<◌, Bool, true, false, if◌then◌else◌, inl, inr, List, [], ◌∷◌, ◌++◌, length, map, take, Option, Some, None, refl, sym, ap, subst, ◌∙◌, arith}
use Rattle.std.proofs.lemmas.Bool.{cases_eq, cases_lt}
use Rattle.std.proofs.lemmas.List.{map-append, take-append-le, take-map, take_all}
use Rattle.edge_tally.specs.edge_disk.Image.{Image}
use Rattle.image_blocks.specs.base_types.Edges.{upto}
use Rattle.image_blocks.specs.base_types.declared.records.Rec.{Rec}
use Rattle.image_blocks.specs.model_kernel.Words.{first}
use Rattle.image_blocks.specs.image_facts.Bodies.{record_in}
use Rattle.image_blocks.specs.Checks.{Bad, body_in, in_block, log_fault, log_in, slot_fault, used_from, used_in}
use Rattle.image_blocks.specs.image_facts.Checks.{body_fault, count_in}
use Rattle.image_blocks.specs.Layout.{body_at, slot_gate_at}
use Rattle.image_blocks.specs.image_facts.Layout.{is_open, slot_count}
use Rattle.image_blocks.specs.declared.areas.Area.{Area}
use Rattle.image_blocks.proofs.image_facts_lemmas.Firsts.{first_all, first_at}
use Rattle.image_blocks.proofs.model_kernel_lemmas.Lists.{upto_len}

-- the numbers below j, of those below n
pub upto_take : (n j : ℕ) → j ≤ n → take j (upto n) ≡ upto j
upto_take zero j le = let e : j ≡ zero = omega (arith, le) in ap (λ (k : ℕ). take k []) e ∙ ap upto (sym e)
upto_take (suc n) j le = elim (cases_lt j (suc n)) as (λ _. take j (upto n ++ n ∷ []) ≡ upto j) [
  | inl lt ↦ (let len = upto_len n in take-append-le j (upto n) (n ∷ []) (omega (arith, lt, len)) ∙ upto_take n j (omega (arith, lt)))
  | inr ge ↦
      (let e : suc n ≡ j = omega (arith, le, ge) in
      let len = upto_len (suc n) in
      take_all j (upto (suc n)) (omega (arith, e, len)) ∙ ap upto e)
]

module _ (image : Image) (area : Area) where
  -- the record that is read in a slot
  abbrev pub read_at : ℕ → Rec
  read_at k = record_in (body_in image area k)

  abbrev pub reads : ℕ → List Rec
  reads i = map read_at (upto i)

  pub reads_more : (i : ℕ) → reads i ++ read_at i ∷ [] ≡ reads (i + 1)
  reads_more i = sym (map-append read_at (upto i) (i ∷ [])) ∙ ap reads (let e : suc i ≡ i + 1 = omega arith in e)

  -- slots up to a closed gate, or all
  used_to : (n i len : ℕ) → i ≤ len → len ≤ i + n → ((j : ℕ) → j < len → is_open image (slot_gate_at area j) ≡ true) → (len < i + n → is_open image (slot_gate_at area len) ≡ false)
      → i + used_from n image area i ≡ len
  used_to zero i len from to gates closed = omega (arith, from, to)
  used_to (suc n) i len from to gates closed = elim (cases_lt i len) as (λ _. i + used_from (suc n) image area i ≡ len) [
    | inl lt ↦
        (let rest = used_to n (i + 1) len (omega (arith, lt)) (omega (arith, to)) gates (λ more. closed (omega (arith, more))) in
        ap (λ (b : Bool). i + (if b then suc (used_from n image area (i + 1)) else 0)) (gates i lt) ∙ omega (arith, rest))
    | inr ge ↦
        (let is : len ≡ i = omega (arith, ge, from) in
        let shut : is_open image (slot_gate_at area i) ≡ false = subst (λ (k : ℕ). is_open image (slot_gate_at area k) ≡ false) is (closed (omega (arith, is))) in
        ap (λ (b : Bool). i + (if b then suc (used_from n image area (i + 1)) else 0)) shut ∙ omega (arith, is))
  ]

  -- more slots than these, whose gates are open
  used_past : (n i j : ℕ) → i ≤ j → j < i + n → ((k : ℕ) → k ≤ j → is_open image (slot_gate_at area k) ≡ true) → j < i + used_from n image area i
  used_past zero i j from to gates = absurd (omega (arith, from, to))
  used_past (suc n) i j from to gates =
      let more : used_from (suc n) image area i ≡ suc (used_from n image area (i + 1)) = ap (λ (b : Bool). if b then suc (used_from n image area (i + 1)) else 0) (gates i from) in
      elim (cases_eq i j) as (λ _. j < i + used_from (suc n) image area i) [
        | inl is ↦ omega (arith, is, more)
        | inr apart ↦ (let rest = used_past n (i + 1) j (omega (arith, from, apart)) (omega (arith, to)) gates in omega (arith, rest, more))
      ]

  -- (the number of slots is a variable here: a literal would be counted down)
  used_all : (n len : ℕ) → n ≡ slot_count → len ≤ slot_count → ((j : ℕ) → j < len → is_open image (slot_gate_at area j) ≡ true) → (len < slot_count → is_open image (slot_gate_at area len) ≡ false)
      → used_from n image area 0 ≡ len
  used_all n len is few gates closed = let e = used_to n 0 len (omega arith) (omega (arith, is, few)) gates (λ more. closed (omega (arith, is, more))) in omega (arith, e)

  used_some : (n j : ℕ) → n ≡ slot_count → j < slot_count → ((k : ℕ) → k ≤ j → is_open image (slot_gate_at area k) ≡ true) → j < used_from n image area 0
  used_some n j is lt gates = let e = used_past n 0 j (omega arith) (omega (arith, is, lt)) gates in omega (arith, e)

  -- what the log's check says of a slot before the last
  taken : (j : ℕ) → j ≤ used_in image area → take j (log_in image area) ≡ reads j
  taken j le = take-map read_at j (upto (used_in image area)) ∙ ap (map read_at) (upto_take (used_in image area) j le)

  slot_is : (j : ℕ) (o : Option ℕ) → j ≤ used_in image area → body_fault (count_in image) (reads j) (body_in image area j) ≡ o → slot_fault image area j ≡ in_block (body_at area j) o
  slot_is j o le is = ap (in_block (body_at area j)) (ap (λ (rs : List Rec). body_fault (count_in image) rs (body_in image area j)) (taken j le) ∙ is)

  -- all slots are read
  pub log_read : (i : ℕ) → i ≤ slot_count → ((j : ℕ) → j < i → is_open image (slot_gate_at area j) ≡ true) → (i < slot_count → is_open image (slot_gate_at area i) ≡ false)
      → ((j : ℕ) → j < i → body_fault (count_in image) (reads j) (body_in image area j) ≡ None) → (log_fault image (Some area) ≡ None) × (reads i ≡ log_in image area)
  log_read i few gates closed good =
      let used : used_in image area ≡ i = used_all slot_count i refl few gates closed in (
        first_all (slot_fault image area) (used_in image area) (λ j lt. slot_is j None (omega (arith, lt)) (good j (omega (arith, lt, used)))),
        ap reads (sym used),
      )

  -- the slot behind those that are read is bad
  pub log_bad : (i place : ℕ) → i < slot_count → ((j : ℕ) → j < i → is_open image (slot_gate_at area j) ≡ true) → is_open image (slot_gate_at area i) ≡ true
      → ((j : ℕ) → j < i → body_fault (count_in image) (reads j) (body_in image area j) ≡ None) → body_fault (count_in image) (reads i) (body_in image area i) ≡ Some place
      → log_fault image (Some area) ≡ Some (record { block = body_at area i; place = place })
  log_bad i place lt gates here good bad =
      let all : (k : ℕ) → k ≤ i → is_open image (slot_gate_at area k) ≡ true =
      λ k le. elim (cases_eq k i) as (λ _. is_open image (slot_gate_at area k) ≡ true) [
        | inl is ↦ subst (λ (j : ℕ). is_open image (slot_gate_at area j) ≡ true) (sym is) here
        | inr apart ↦ gates k (omega (arith, le, apart))
      ] in
      let within : i < used_in image area = used_some slot_count i refl lt all in
      first_at (slot_fault image area) (used_in image area) i (record { block = body_at area i; place = place }) within
      (first_all (slot_fault image area) i (λ j low. slot_is j None (omega (arith, low, within)) (good j low)))
      (slot_is i (Some place) (omega (arith, within)) bad)

-- what a body's check says, in other words
pub fault_moved : (n m : ℕ) (xs ys : List Rec) (a b : List ℕ) (o : Option ℕ) → n ≡ m → xs ≡ ys → a ≡ b → body_fault n xs a ≡ o → body_fault m ys b ≡ o
fault_moved n m xs ys a b o n_is xs_is a_is is =
    ap (λ (k : ℕ). body_fault k ys b) (sym n_is) ∙ (ap (λ (l : List Rec). body_fault n l b) (sym xs_is) ∙ (ap (λ (l : List ℕ). body_fault n xs l) (sym a_is) ∙ is))
