-- Each record of an image is in range behind those before it.
use Rattle.std.proofs.Common.{Bool, List, None, Option, Some, [], ap, arith, eqb-true, false, get_or, if◌then◌else◌, inl, inr, length, map, nat_le, nat_lt, not, refl, subst, suc, sym, take, true, zero, ℕ, ◌&&◌, ◌*◌, ◌++◌, ◌+◌, ◌-◌, ◌<◌, ◌==◌, ◌∙◌, ◌∷◌, ◌≡◌, ◌≢◌, ◌≤◌, ◌⊎◌}
use Rattle.std.specs.Prelude.{slice_get, slice_index}
use Rattle.std.specs.List.{list_any}
use Rattle.std.proofs.lemmas.Bool.{and_parts, cases_eq, cases_lt, eq-eqb, false≢true, leb-true, lt-ltb, ltb-true, not-true}
use Rattle.std.proofs.lemmas.Bool.Decides.{nat_tests}
use Rattle.std.proofs.lemmas.List.{get_or-append_right, get_or-map, get_or-take, get_or_append_left, get_or_past, length-append, length-map, length-take}
use Rattle.std.proofs.lemmas.List.Folds.{list_any_at}
use Rattle.std.proofs.lemmas.Option.{get_or_from_slice_get, slice_get-get_or, slice_get_within}
use Rattle.base_types.specs.Edges.{upto}
use Rattle.base_types.specs.declared.records.Rec.{Rec}
use Rattle.image_facts.specs.model_kernel.Words.{first}
use Rattle.image_facts.specs.Bodies.{blocks_for, number_at, record_in}
use Rattle.image_facts.specs.Checks.{block_fault, blocks_fault, count_in, is_block_number, is_epoch, last_version, stamp_fault, stamps_fault}
use Rattle.image_blocks.specs.Checks.{body_in}
use Rattle.image_facts.specs.Layout.{last_number, most_length, pool_at}
use Rattle.image_blocks.specs.Logs.{AscendingLaw, InRangeLaw}
use Rattle.image_facts.specs.Logs.{IsInRange}
use Rattle.image_facts.proofs.LastVersions.{last_version-more}
use Rattle.image_facts.proofs.Firsts.{first_each, ne_test, unless_none}
use Rattle.image_blocks.proofs.Opening.{Tests, read, slot_none, tests, used_before}
use Rattle.image_facts.proofs.model_kernel_lemmas.Lists.{upto_get, upto_len}

-- the numbers of a list made by a function
row_at : (f : ℕ → ℕ) (n i : ℕ) → i < n → slice_index (map f (upto n)) i ≡ f i
row_at f n i lt = let len = upto_len n in get_or-map f (upto n) i 0 0 (omega (arith, lt, len)) ∙ ap f (upto_get n i lt)

row_len : (f : ℕ → ℕ) (n : ℕ) → length (map f (upto n)) ≡ n
row_len f n = length-map (upto n) f ∙ upto_len n

-- no number of the list is this one
none_is : (xs : List ℕ) (n k : ℕ) → list_any (λ b. b == n) xs ≡ false → k < length xs → get_or xs k 0 ≢ n
none_is xs n k none lt = λ is. false≢true (sym none ∙ list_any_at (λ b. b == n) xs k 0 lt (eq-eqb (get_or xs k 0) n is))

not_below : (a b : ℕ) → b ≤ a → nat_lt a b ≡ false
not_below a b le = grind (arith, nat_tests)

module _ (count : ℕ) (before : List Rec) (body : List ℕ) (t : Tests count before body) where
  abbrev x : ℕ
  x = number_at 0 4 body

  abbrev v : ℕ
  v = number_at 8 8 body

  abbrev need : ℕ
  need = blocks_for (number_at 4 4 body)

  abbrev component : ℕ → ℕ
  component y = number_at (16 + 8 * y) 8 body

  abbrev number : ℕ → ℕ
  number i = number_at (528 + 4 * i) 4 body

  version : ((1 ≤ v) × (v ≤ last_number)) × (last_version before x < v)
  version =
      let both = and_parts (is_epoch v) (nat_lt (last_version before x) v) t.version in
      let range = and_parts (nat_le 1 v) (nat_le v last_number) both.0 in
      ((leb-true 1 v range.0, leb-true v last_number range.1), ltb-true (last_version before x) v both.1)

  -- (the number of components is a variable here: a literal would be counted down)
  component_test : (n : ℕ) → first (map (stamp_fault x v body) (upto n)) ≡ None → (y : ℕ) → y < n → (if y == x then component y == v else nat_le (component y) last_number) ≡ true
  component_test n none y lt = unless_none _ (16 + 8 * y) (first_each (stamp_fault x v body) n none y lt)

  tested : (y : ℕ) → y < 64 → (if y == x then component y == v else nat_le (component y) last_number) ≡ true
  unfolding stamps_fault
  tested y lt = component_test 64 t.stamp y lt

  own : x < 64 → component x ≡ v
  own lt = eqb-true (component x) v (sym (ap (λ c. if c then component x == v else nat_le (component x) last_number) (eq-eqb x x refl)) ∙ tested x lt)

  small : (y : ℕ) → y < 64 → component y ≤ last_number
  small y lt = elim (cases_eq y x) as (λ _. component y ≤ last_number) [
    | inl is ↦ (let e : component y ≡ v = subst (λ z. component z ≡ v) (sym is) (own (subst (λ z. z < 64) is lt)) in let high = version.0.1 in omega (arith, e, high))
    | inr other ↦ leb-true (component y) last_number (sym (ap (λ c. if c then component y == v else nat_le (component y) last_number) (ne_test y x other)) ∙ tested y lt)
  ]

  number_test : (n : ℕ) → first (map (block_fault count need (record_in body).blocks) (upto n)) ≡ None → (i : ℕ) → i < n → is_block_number count need (record_in body).blocks i ≡ true
  number_test n none i lt = unless_none _ (528 + 4 * i) (first_each (block_fault count need (record_in body).blocks) n none i lt)

  numbered : (i : ℕ) → i < 8 → is_block_number count need (record_in body).blocks i ≡ true
  unfolding blocks_fault
  numbered i lt = number_test 8 t.numbers i lt

  few : need ≤ 8
  few = let high = (and_parts (nat_le 1 (number_at 4 4 body)) (nat_le (number_at 4 4 body) most_length) t.length).1 in let le = leb-true (number_at 4 4 body) most_length high in omega (arith, le)

  abbrev in_pool : ℕ → Bool
  in_pool i = nat_le pool_at (slice_index (record_in body).blocks i) && nat_lt (slice_index (record_in body).blocks i) count && not (list_any (λ b. b == slice_index (record_in body).blocks i) (take i (record_in body).blocks))

  is_needed : (i : ℕ) → i < need → in_pool i ≡ true
  is_needed i lt = sym (ap (λ c. if c then in_pool i else slice_index (record_in body).blocks i == 0) (lt-ltb i need lt)) ∙ numbered i (let most = few in omega (arith, lt, most))

  pub in_range : IsInRange count before (record_in body)
  unfolding record_in
  in_range = record {
    entity = ltb-true x 64 t.entity;
    lengths = (let both = and_parts (nat_le 1 (number_at 4 4 body)) (nat_le (number_at 4 4 body) most_length) t.length in (leb-true 1 (number_at 4 4 body) both.0, leb-true (number_at 4 4 body) most_length both.1));
    versions = version.0;
    newer = version.1;
    components = row_len component 64;
    own = row_at component 64 x (ltb-true x 64 t.entity) ∙ own (ltb-true x 64 t.entity);
    small = λ y lt. subst (λ n. n ≤ last_number) (sym (row_at component 64 y lt)) (small y lt);
    numbers = row_len number 8;
    needed = λ i lt. (let two = and_parts _ _ (and_parts _ _ (is_needed i lt)).0 in (leb-true _ _ two.0, ltb-true _ _ two.1));
    different = λ i k lt earlier.
        (let others = not-true _ (and_parts _ _ (is_needed i lt)).1 in
        let len = row_len number 8 in
        let most = few in
        let cut = length-take i (record_in body).blocks in
        λ same. none_is (take i (record_in body).blocks) (slice_index (record_in body).blocks i) k others (omega (arith, cut, len, lt, earlier, most)) (get_or-take i (record_in body).blocks k 0 earlier ∙ same));
    unused = λ i past. zero_at i past (cases_lt i 8);
  }
    where
      zero_at : (i : ℕ) → need ≤ i → (i < 8) ⊎ (8 ≤ i) → slice_index (record_in body).blocks i ≡ 0
      zero_at i past (inl lt) = eqb-true _ 0 (sym (ap (λ c. if c then in_pool i else slice_index (record_in body).blocks i == 0) (not_below i need past)) ∙ numbered i lt)
      zero_at i past (inr far) = get_or_past (record_in body).blocks i 0 (let len : length (record_in body).blocks ≡ 8 = row_len number 8 in omega (arith, len, far))

pub in_range_law : InRangeLaw
in_range_law recs image h i r here =
    let lt = used_before recs image h i r here in
    subst (IsInRange (count_in image) (take i recs)) (sym (read recs image h i r here lt)) (in_range (count_in image) (take i recs) (body_in image h.area i) (tests (count_in image) (take i recs) (body_in image h.area i) (slot_none recs image h i lt)))

-- VERSIONS ASCEND

-- each record newer than the last one of its entity
abbrev AreNewer : List Rec → Type 0
AreNewer recs = (i : ℕ) (r : Rec) → slice_get recs i ≡ Some r → last_version (take i recs) r.entity < r.version

take_more : (recs : List Rec) (i : ℕ) (r : Rec) → slice_get recs i ≡ Some r → take (suc i) recs ≡ take i recs ++ r ∷ []
take_more [] i r here = absurd (let e : None ≡ Some r = here in cc)
take_more (q ∷ recs) zero r here = ap (λ o. or_else q o ∷ []) here
  where
    or_else : Rec → Option Rec → Rec
    or_else d None = d
    or_else d (Some x) = x
take_more (q ∷ recs) (suc i) r here = ap (λ l. q ∷ l) (take_more recs i r here)

abbrev pub rec_or : Rec → Option Rec → Rec
rec_or d None = d
rec_or d (Some r) = r

-- one record more: the last version of its entity is its own, and that of another stays
module _ (recs : List Rec) (newer : AreNewer recs) (i k : ℕ) (q : Rec) (here : slice_get recs k ≡ Some q) (x : ℕ) (of : q.entity ≡ x) (before : k < i → q.version ≤ last_version (take i recs) x) where
  by_test : (s : Rec) → slice_get recs i ≡ Some s → (b : Bool) → (s.entity == x) ≡ b → (k ≡ i) ⊎ (k < i) → q.version ≤ (if b then s.version else last_version (take i recs) x)
  by_test s there b e (inl is) =
      let same : q ≡ s = ap (rec_or q) (sym here ∙ (ap (slice_get recs) is ∙ there)) in
      let yes : (s.entity == x) ≡ true = eq-eqb s.entity x (sym (ap (λ (y : Rec). y.entity) same) ∙ of) in
      subst (λ c. q.version ≤ (if c then s.version else last_version (take i recs) x)) (sym yes ∙ e) (let v : q.version ≡ s.version = ap (λ (y : Rec). y.version) same in omega (arith, v))
  by_test s there true e (inr low) =
      let less : last_version (take i recs) x < s.version = subst (λ y. last_version (take i recs) y < s.version) (eqb-true s.entity x e) (newer i s there) in
      let le = before low in
      omega (arith, le, less)
  by_test s there false e (inr low) = before low

  at_end : i < length recs → k ≤ i → (o : Option Rec) → slice_get recs i ≡ o → q.version ≤ last_version (take (suc i) recs) x
  at_end within low None none = absurd (let e : None ≡ Some (get_or recs i q) = sym none ∙ slice_get-get_or recs i q within in cc)
  at_end within low (Some s) there =
      subst (λ n. q.version ≤ n) (sym (ap (λ l. last_version l x) (take_more recs i s there) ∙ last_version-more (take i recs) s x)) (by_test s there (s.entity == x) refl (at_or_below (cases_eq k i)))
    where
      at_or_below : (k ≡ i) ⊎ (k ≢ i) → (k ≡ i) ⊎ (k < i)
      at_or_below (inl is) = inl is
      at_or_below (inr other) = inr (omega (arith, low, other))

-- no record before has a greater version than the last one
last_most : (recs : List Rec) → AreNewer recs → (i k : ℕ) (q : Rec) → k < i → i ≤ length recs → slice_get recs k ≡ Some q → (x : ℕ) → q.entity ≡ x → q.version ≤ last_version (take i recs) x
last_most recs newer zero k q lt few here x of = absurd (omega (arith, lt))
last_most recs newer (suc i) k q lt few here x of =
    at_end recs newer i k q here x of (λ low. last_most recs newer i k q low (omega (arith, few)) here x of) (omega (arith, few)) (omega (arith, lt)) (slice_get recs i) refl

pub ascending_law : AscendingLaw
ascending_law recs image h i k r q lt earlier here same =
    let newer : AreNewer recs = λ j s there. (in_range_law recs image h j s there).newer in
    let most = last_most recs newer i k q lt (let w = slice_get_within recs i r here in omega (arith, w)) earlier r.entity same in
    let less = newer i r here in
    omega (arith, most, less)

-- an item of a list with one more
pub last_or_before : (recs : List Rec) (rec : Rec) (i : ℕ) (r : Rec) → slice_get (recs ++ rec ∷ []) i ≡ Some r → ((i < length recs) × (slice_get recs i ≡ Some r)) ⊎ ((i ≡ length recs) × (rec ≡ r))
last_or_before recs rec i r here = elim (cases_lt i (length recs)) as (λ _. ((i < length recs) × (slice_get recs i ≡ Some r)) ⊎ ((i ≡ length recs) × (rec ≡ r))) [
  | inl lt ↦
      (let e : get_or (recs ++ rec ∷ []) i r ≡ r = get_or_from_slice_get (recs ++ rec ∷ []) i r r here in
      let f : get_or recs i r ≡ r = sym (get_or_append_left recs (rec ∷ []) r i lt) ∙ e in
      inl (lt, slice_get-get_or recs i r lt ∙ ap Some f))
  | inr ge ↦
      (let within : i < length (recs ++ rec ∷ []) = slice_get_within (recs ++ rec ∷ []) i r here in
      let more : length (recs ++ rec ∷ []) ≡ length recs + 1 = length-append recs (rec ∷ []) in
      let is : i ≡ length recs = omega (arith, ge, within, more) in
      let e : get_or (recs ++ rec ∷ []) i r ≡ r = get_or_from_slice_get (recs ++ rec ∷ []) i r r here in
      let last : get_or (recs ++ rec ∷ []) i r ≡ rec = ap (λ k. get_or (recs ++ rec ∷ []) k r) is ∙ get_or-append_right recs (rec ∷ []) (length recs) (length recs) r refl (omega arith) ∙ ap (λ k. get_or (rec ∷ []) k r) (let z : length recs - length recs ≡ 0 = omega arith in z) in
      inr (is, sym last ∙ e))
]
