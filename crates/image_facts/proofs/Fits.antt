-- A record in range fits.
use Rattle.std.proofs.Common.{◌≡◌, ◌≢◌, ℕ, suc, ◌+◌, ◌*◌, ◌^◌, ◌≤◌, ◌<◌, Bool, true, false, not, ◌&&◌, ◌||◌, ◌==◌, nat_le, nat_lt, if◌then◌else◌, inl, inr, List, [], ◌∷◌, ◌++◌, length, map, take, drop, get_or, replicate, Option, None, refl, sym, ap, ◌∙◌, arith, append_assoc, length-append}
use Rattle.std.specs.List.{flat_map, list_any}
use Rattle.std.proofs.lemmas.Bool.{and_from, cases_eq, cases_lt, eq-eqb, le-leb, lt-ltb}
use Rattle.std.proofs.lemmas.Bool.Decides.{nat_tests}
use Rattle.std.proofs.lemmas.List.{drop_at, get_or-take, length-take}
use Rattle.byteorder.specs.Endian.{little_bytes}
use Rattle.byteorder.specs.Numbers.{length-bytes_low_first}
use Rattle.model_kernel.specs.base_types.Edges.{upto}
use Rattle.model_kernel.specs.base_types.declared.records.Rec.{Rec}
use Rattle.image_facts.specs.Bodies.{blocks_for, body_block, number_at, record_in}
use Rattle.image_facts.specs.Checks.{block_fault, blocks_fault, body_fault, first_not_zero, is_block_number, is_epoch, last_version, stamp_fault, stamps_fault, unless_at, zeros_from}
use Rattle.image_facts.specs.Layout.{last_number, most_blocks, most_length, pool_at}
use Rattle.image_facts.specs.Logs.{FittingLaw, IsInRange}
use Rattle.image_facts.proofs.Firsts.{first_all, first_next, ne_test, unless_true}
use Rattle.image_facts.proofs.Spelling.{field_back, numbers_are, row_back, row_length, zeros_read}

not_lt : (a b : ℕ) → b ≤ a → nat_lt a b ≡ false
not_lt a b le = grind (arith, nat_tests)

none_equal : (xs : List ℕ) (x : ℕ) → ((k : ℕ) → k < length xs → get_or xs k 0 ≢ x) → list_any (λ b. b == x) xs ≡ false
none_equal [] x apart = refl
none_equal (y ∷ ys) x apart =
    ap (λ (t : Bool). t || list_any (λ b. b == x) ys) (ne_test y x (apart 0 (omega arith))) ∙ none_equal ys x (λ k lt. apart (suc k) (omega (arith, lt)))

abbrev pub made : ℕ → ℕ → List ℕ → ℕ → List ℕ → Rec
made e v s l b = record { entity = e; version = v; stamp = s; length = l; blocks = b }

pub made_is : (r : Rec) (e v : ℕ) (s : List ℕ) (l : ℕ) (b : List ℕ) → e ≡ r.entity → v ≡ r.version → s ≡ r.stamp → l ≡ r.length → b ≡ r.blocks → made e v s l b ≡ r
made_is r e v s l b e_is v_is s_is l_is b_is =
    ap (λ x. made x v s l b) e_is ∙ (ap (λ x. made r.entity x s l b) v_is ∙ (ap (λ x. made r.entity r.version x l b) s_is
    ∙ (ap (λ x. made r.entity r.version r.stamp x b) l_is ∙ ap (λ x. made r.entity r.version r.stamp r.length x) b_is)))

module _ (count : ℕ) (before : List Rec) (r : Rec) (small : count ≤ most_blocks) (g : IsInRange count before r) where
  abbrev e4 : List ℕ
  e4 = little_bytes 4 r.entity

  abbrev l4 : List ℕ
  l4 = little_bytes 4 r.length

  abbrev v8 : List ℕ
  v8 = little_bytes 8 r.version

  abbrev s : List ℕ
  s = flat_map (little_bytes 8) r.stamp

  abbrev b : List ℕ
  b = flat_map (little_bytes 4) r.blocks

  abbrev z : List ℕ
  z = replicate 464 0

  -- the body behind each of its fields
  front_two : body_block r ≡ (e4 ++ l4) ++ (v8 ++ (s ++ (b ++ z)))
  unfolding body_block
  front_two = sym (append_assoc e4 l4 (v8 ++ (s ++ (b ++ z))))

  front_three : body_block r ≡ ((e4 ++ l4) ++ v8) ++ (s ++ (b ++ z))
  front_three = front_two ∙ sym (append_assoc (e4 ++ l4) v8 (s ++ (b ++ z)))

  front_four : body_block r ≡ (((e4 ++ l4) ++ v8) ++ s) ++ (b ++ z)
  front_four = front_three ∙ sym (append_assoc ((e4 ++ l4) ++ v8) s (b ++ z))

  front_five : body_block r ≡ ((((e4 ++ l4) ++ v8) ++ s) ++ b) ++ z
  front_five = front_four ∙ sym (append_assoc (((e4 ++ l4) ++ v8) ++ s) b z)

  len_one : length e4 ≡ 4
  len_one = length-bytes_low_first 0 4 r.entity

  len_two : length (e4 ++ l4) ≡ 8
  len_two = length-append e4 l4 ∙ (let p = len_one in let q = length-bytes_low_first 0 4 r.length in omega (arith, p, q))

  len_three : length ((e4 ++ l4) ++ v8) ≡ 16
  len_three = length-append (e4 ++ l4) v8 ∙ (let p = len_two in let q = length-bytes_low_first 0 8 r.version in omega (arith, p, q))

  len_s : length s ≡ 512
  len_s = row_length 8 r.stamp ∙ ap (λ (n : ℕ). 8 * n) g.components

  len_b : length b ≡ 32
  len_b = row_length 4 r.blocks ∙ ap (λ (n : ℕ). 4 * n) g.numbers

  len_four : length (((e4 ++ l4) ++ v8) ++ s) ≡ 528
  len_four = length-append ((e4 ++ l4) ++ v8) s ∙ (let p = len_three in let q = len_s in omega (arith, p, q))

  len_five : length ((((e4 ++ l4) ++ v8) ++ s) ++ b) ≡ 560
  len_five = length-append (((e4 ++ l4) ++ v8) ++ s) b ∙ (let p = len_four in let q = len_b in omega (arith, p, q))

  entity_back : number_at 0 4 (body_block r) ≡ r.entity
  unfolding body_block
  entity_back = field_back 0 4 r.entity [] (l4 ++ (v8 ++ (s ++ (b ++ z)))) (body_block r) refl refl (let p = g.entity in omega (arith, p))

  length_back : number_at 4 4 (body_block r) ≡ r.length
  unfolding body_block
  length_back = field_back 4 4 r.length e4 (v8 ++ (s ++ (b ++ z))) (body_block r) refl len_one (let p = g.lengths.1 in omega (arith, p))

  version_back : number_at 8 8 (body_block r) ≡ r.version
  version_back = field_back 8 8 r.version (e4 ++ l4) (s ++ (b ++ z)) (body_block r) front_two len_two (let p = g.versions.1 in omega (arith, p))

  component : (y : ℕ) → y < 64 → number_at (16 + 8 * y) 8 (body_block r) ≡ get_or r.stamp y 0
  component y lt =
      let n = g.components in
      row_back 8 r.stamp y 16 (16 + 8 * y) ((e4 ++ l4) ++ v8) (b ++ z) (body_block r) front_three len_three
      (λ i low. let p = g.small i (omega (arith, low, n)) in omega (arith, p)) (omega (arith, lt, n)) refl

  -- a block's number is small, needed or not
  number_small : (i : ℕ) → get_or r.blocks i 0 < 256 ^ 4
  number_small i = elim (cases_lt i (blocks_for r.length)) as (λ _. get_or r.blocks i 0 < 256 ^ 4) [
    | inl lt ↦ (let p : get_or r.blocks i 0 < count = (g.needed i lt).1 in omega (arith, p, small))
    | inr ge ↦ (let p : get_or r.blocks i 0 ≡ 0 = g.unused i ge in omega (arith, p))
  ]

  number : (i : ℕ) → i < 8 → number_at (528 + 4 * i) 4 (body_block r) ≡ get_or r.blocks i 0
  number i lt =
      let n = g.numbers in
      row_back 4 r.blocks i 528 (528 + 4 * i) (((e4 ++ l4) ++ v8) ++ s) z (body_block r) front_four len_four (λ k low. number_small k) (omega (arith, lt, n)) refl

  back : record_in (body_block r) ≡ r
  unfolding record_in
  back = made_is r (number_at 0 4 (body_block r)) (number_at 8 8 (body_block r)) (map (λ y. number_at (16 + 8 * y) 8 (body_block r)) (upto 64)) (number_at 4 4 (body_block r)) (map (λ i. number_at (528 + 4 * i) 4 (body_block r)) (upto 8))
      entity_back version_back (numbers_are (λ y. number_at (16 + 8 * y) 8 (body_block r)) r.stamp 64 g.components component) length_back (numbers_are (λ i. number_at (528 + 4 * i) 4 (body_block r)) r.blocks 8 g.numbers number)

  -- each test holds

  entity_test : nat_lt (number_at 0 4 (body_block r)) 64 ≡ true
  entity_test = ap (λ (n : ℕ). nat_lt n 64) entity_back ∙ lt-ltb r.entity 64 g.entity

  length_test : (nat_le 1 (number_at 4 4 (body_block r)) && nat_le (number_at 4 4 (body_block r)) most_length) ≡ true
  length_test = ap (λ (n : ℕ). nat_le 1 n && nat_le n most_length) length_back ∙ and_from (nat_le 1 r.length) (nat_le r.length most_length) (le-leb 1 r.length g.lengths.0) (le-leb r.length most_length g.lengths.1)

  version_test : (is_epoch (number_at 8 8 (body_block r)) && nat_lt (last_version before (number_at 0 4 (body_block r))) (number_at 8 8 (body_block r))) ≡ true
  version_test =
      ap (λ (n : ℕ). is_epoch (number_at 8 8 (body_block r)) && nat_lt (last_version before n) (number_at 8 8 (body_block r))) entity_back
      ∙ (ap (λ (n : ℕ). is_epoch n && nat_lt (last_version before r.entity) n) version_back
      ∙ and_from (is_epoch r.version) (nat_lt (last_version before r.entity) r.version)
      (and_from (nat_le 1 r.version) (nat_le r.version last_number) (le-leb 1 r.version g.versions.0) (le-leb r.version last_number g.versions.1))
      (lt-ltb (last_version before r.entity) r.version g.newer))

  component_test : (y : ℕ) → y < 64 → (if y == r.entity then number_at (16 + 8 * y) 8 (body_block r) == r.version else nat_le (number_at (16 + 8 * y) 8 (body_block r)) last_number) ≡ true
  component_test y lt =
      let c : ℕ = number_at (16 + 8 * y) 8 (body_block r) in
      elim (cases_eq y r.entity) as (λ _. (if y == r.entity then c == r.version else nat_le c last_number) ≡ true) [
        | inl is ↦
            (ap (λ (t : Bool). if t then c == r.version else nat_le c last_number) (eq-eqb y r.entity is)
            ∙ eq-eqb c r.version (component y lt ∙ (ap (λ (k : ℕ). get_or r.stamp k 0) is ∙ g.own)))
        | inr other ↦
            (ap (λ (t : Bool). if t then c == r.version else nat_le c last_number) (ne_test y r.entity other)
            ∙ (ap (λ (n : ℕ). nat_le n last_number) (component y lt) ∙ le-leb (get_or r.stamp y 0) last_number (g.small y lt)))
      ]

  stamps : stamps_fault r.entity r.version (body_block r) ≡ None
  unfolding stamps_fault
  stamps = first_all (stamp_fault r.entity r.version (body_block r)) 64 (λ y lt. unless_true _ (16 + 8 * y) (component_test y lt))

  number_test : (i : ℕ) → is_block_number count (blocks_for r.length) r.blocks i ≡ true
  number_test i =
      let x : ℕ = get_or r.blocks i 0 in
      let in_pool : Bool = nat_le pool_at x && nat_lt x count && not (list_any (λ c. c == x) (take i r.blocks)) in
      elim (cases_lt i (blocks_for r.length)) as (λ _. (if nat_lt i (blocks_for r.length) then in_pool else x == 0) ≡ true) [
        | inl lt ↦
            (let range = g.needed i lt in
            let others : list_any (λ c. c == x) (take i r.blocks) ≡ false =
            none_equal (take i r.blocks) x (λ k low.
            let k_lt : k < i = (let n = length-take i r.blocks in omega (arith, low, n)) in
            λ e. g.different i k lt k_lt (sym (get_or-take i r.blocks k 0 k_lt) ∙ e)) in
            ap (λ (t : Bool). if t then in_pool else x == 0) (lt-ltb i (blocks_for r.length) lt)
            ∙ and_from (nat_le pool_at x && nat_lt x count) (not (list_any (λ c. c == x) (take i r.blocks)))
            (and_from (nat_le pool_at x) (nat_lt x count) (le-leb pool_at x range.0) (lt-ltb x count range.1)) (ap not others))
        | inr ge ↦ (ap (λ (t : Bool). if t then in_pool else x == 0) (not_lt i (blocks_for r.length) ge) ∙ eq-eqb x 0 (g.unused i ge))
      ]

  blocks_good : blocks_fault count (blocks_for r.length) r.blocks ≡ None
  unfolding blocks_fault
  blocks_good = first_all (block_fault count (blocks_for r.length) r.blocks) 8 (λ i lt. unless_true _ (528 + 4 * i) (number_test i))

  zeros : zeros_from 560 (body_block r) ≡ None
  zeros = ap (first_not_zero 560) (ap (λ (l : List ℕ). drop 560 l) front_five ∙ drop_at ((((e4 ++ l4) ++ v8) ++ s) ++ b) z 560 len_five) ∙ zeros_read 560 464

  good : body_fault count before (body_block r) ≡ None
  good =
      let body : List ℕ = body_block r in
      let three : Option ℕ = unless_at (is_epoch (number_at 8 8 body) && nat_lt (last_version before (number_at 0 4 body)) (number_at 8 8 body)) 8 in
      let four : Option ℕ = stamps_fault (number_at 0 4 body) (number_at 8 8 body) body in
      let five : Option ℕ = blocks_fault count (blocks_for (number_at 4 4 body)) (record_in body).blocks in
      let two : Option ℕ = unless_at (nat_le 1 (number_at 4 4 body) && nat_le (number_at 4 4 body) most_length) 4 in
      first_next (unless_at (nat_lt (number_at 0 4 body) 64) 0) (two ∷ three ∷ four ∷ five ∷ zeros_from 560 body ∷ []) (unless_true _ 0 entity_test)
      ∙ (first_next two (three ∷ four ∷ five ∷ zeros_from 560 body ∷ []) (unless_true _ 4 length_test)
      ∙ (first_next three (four ∷ five ∷ zeros_from 560 body ∷ []) (unless_true _ 8 version_test)
      ∙ (first_next four (five ∷ zeros_from 560 body ∷ [])
      (ap (λ (n : ℕ). stamps_fault n (number_at 8 8 body) body) entity_back ∙ (ap (λ (n : ℕ). stamps_fault r.entity n body) version_back ∙ stamps))
      ∙ (first_next five (zeros_from 560 body ∷ [])
      (ap (λ (n : ℕ). blocks_fault count (blocks_for n) (record_in body).blocks) length_back ∙ (ap (λ (q : Rec). blocks_fault count (blocks_for r.length) q.blocks) back ∙ blocks_good))
      ∙ first_next (zeros_from 560 body) [] zeros))))

pub fitting_law : FittingLaw
fitting_law count before r small g = record { good = good count before r small g; back = back count before r small g }
