-- An image with a good front and a log of fitting records has these records.
use Rattle.std.proofs.Common.{◌≡◌, ℕ, zero, suc, ◌+◌, ◌≤◌, ◌<◌, Bool, true, false, if◌then◌else◌, nat_lt, inl, inr, List, [], ◌∷◌, length, map, take, get_or, Some, None, refl, sym, ap, subst, ◌∙◌, arith}
use Rattle.std.specs.Prelude.{slice_get}
use Rattle.std.proofs.lemmas.Bool.{cases_lt, false≢true}
use Rattle.std.proofs.lemmas.List.{ext_get_or, get_or-map, length-map}
use Rattle.std.proofs.lemmas.Option.{slice_get-get_or}
use Rattle.edge_disk.specs.Image.{Image}
use Rattle.base_types.specs.Edges.{upto}
use Rattle.base_types.specs.declared.records.Rec.{Rec}
use Rattle.image_facts.specs.model_kernel.Words.{first}
use Rattle.image_facts.specs.Bodies.{record_in}
use Rattle.image_blocks.specs.Checks.{active_area, active_by, area_fault, body_in, check_2, check_3, in_block, log_fault, log_in, records_fault, slot_fault, used_from, used_in}
use Rattle.image_facts.specs.Checks.{body_fault, count_in}
use Rattle.image_blocks.specs.Layout.{body_at, epoch_in, gate_at, header_at, other, slot_gate_at}
use Rattle.image_facts.specs.Layout.{is_open, slot_count}
use Rattle.image_facts.specs.Logs.{AreFitting}
use Rattle.image_blocks.specs.Logs.{HasFront, HasLog, HasSlots, LogLaw, Place}
use Rattle.image_blocks.specs.declared.areas.Area.{Area}
use Rattle.image_blocks.specs.declared.areas.Area.TheVariants.{A, B}
use Rattle.image_facts.proofs.Firsts.{first_all}
use Rattle.model_kernel.proofs.Lists.{upto_get, upto_len}

-- THE ACTIVE AREA

active_first : (x y : Bool) (a b : ℕ) → x ≡ true → (y ≡ true → b < a) → active_by x y a b ≡ Some A
active_first true true a b e above =
    let lt = above refl in
    let test : nat_lt b a ≡ true = grind (arith, lt) in
    ap (λ t. if t then Some A else if nat_lt a b then Some B else None) test
active_first true false a b e above = refl
active_first false y a b e above = absurd (false≢true e)

active_second : (x y : Bool) (a b : ℕ) → y ≡ true → (x ≡ true → a < b) → active_by x y a b ≡ Some B
active_second true true a b e above =
    let lt = above refl in
    let no_test : nat_lt b a ≡ false = grind (arith, lt) in
    let test : nat_lt a b ≡ true = grind (arith, lt) in
    ap (λ t. if t then Some A else if nat_lt a b then Some B else None) no_test ∙ ap (λ t. if t then Some B else None) test
active_second false true a b e above = refl
active_second true false a b e above = absurd (false≢true e)
active_second false false a b e above = absurd (false≢true e)

active_is : (image : Image) (a : Area) (epoch : ℕ) → is_open image (gate_at a) ≡ true → epoch_in image a ≡ epoch → (is_open image (gate_at (other a)) ≡ true → epoch_in image (other a) < epoch) → active_area image ≡ Some a
active_is image A epoch gate is above = active_first (is_open image 2) (is_open image 4) (epoch_in image A) (epoch_in image B) gate (λ o. (let lt = above o in omega (arith, lt, is)))
active_is image B epoch gate is above = active_second (is_open image 2) (is_open image 4) (epoch_in image A) (epoch_in image B) gate (λ o. (let lt = above o in omega (arith, lt, is)))

-- HOW MANY SLOTS ARE USED

used_is : (image : Image) (area : Area) (len n i : ℕ) → i + n ≡ slot_count → i ≤ len → len ≤ slot_count → ((j : ℕ) → j < len → is_open image (slot_gate_at area j) ≡ true)
    → (len < slot_count → is_open image (slot_gate_at area len) ≡ false) → i + used_from n image area i ≡ len
used_is image area len zero i all le few gates closed = omega (arith, all, le, few)
used_is image area len (suc n) i all le few gates closed = elim (cases_lt i len) as (λ _. i + used_from (suc n) image area i ≡ len) [
  | inl lt ↦
      (let rest = used_is image area len n (i + 1) (omega (arith, all)) (omega (arith, lt)) few gates closed in
      ap (λ (b : Bool). i + (if b then suc (used_from n image area (i + 1)) else 0)) (gates i lt) ∙ omega (arith, rest))
  | inr ge ↦
      (let is : i ≡ len = omega (arith, ge, le) in
      let shut : is_open image (slot_gate_at area i) ≡ false = subst (λ (k : ℕ). is_open image (slot_gate_at area k) ≡ false) (sym is) (closed (omega (arith, all, is))) in
      ap (λ (b : Bool). i + (if b then suc (used_from n image area (i + 1)) else 0)) shut ∙ omega (arith, is))
]

-- (the number of slots is a variable here: a literal would be counted down)
used_all : (image : Image) (area : Area) (recs : List Rec) (n : ℕ) → n ≡ slot_count → HasSlots area recs image → used_from n image area 0 ≡ length recs
used_all image area recs n is has =
    let e = used_is image area (length recs) n 0 (omega (arith, is)) (omega arith) has.few has.gates has.closed in
    omega (arith, e)

-- THE LOG

map_upto : (f : ℕ → Rec) (recs : List Rec) (d : Rec) → ((i : ℕ) (r : Rec) → slice_get recs i ≡ Some r → f i ≡ r) → map f (upto (length recs)) ≡ recs
map_upto f recs d each =
    let len = upto_len (length recs) in
    ext_get_or d (map f (upto (length recs))) recs (length-map (upto (length recs)) f ∙ len) (λ i lt.
    let low : i < length recs = (let a = length-map (upto (length recs)) f in omega (arith, lt, a, len)) in
    get_or-map f (upto (length recs)) i 0 d (omega (arith, low, len)) ∙ (ap f (upto_get (length recs) i low) ∙ each i (get_or recs i d) (slice_get-get_or recs i d low)))

module _ (count : ℕ) (p : Place) (recs : List Rec) (image : Image) (front : HasFront count p image) (has : HasLog p recs image) (fit : AreFitting count recs) where
  active : active_area image ≡ Some p.active
  active = active_is image p.active p.epoch has.active.gate has.active.epoch has.active.above

  used : used_in image p.active ≡ length recs
  used = used_all image p.active recs slot_count refl has.slots

  log : log_in image p.active ≡ recs
  log = ap (λ (n : ℕ). map (λ i. record_in (body_in image p.active i)) (upto n)) used
      ∙ map_upto (λ i. record_in (body_in image p.active i)) recs (record_in []) (λ i r here. ap record_in (has.slots.bodies i r here) ∙ (fit i r here).back)

  slot_good : (i : ℕ) (r : Rec) → slice_get recs i ≡ Some r → slot_fault image p.active i ≡ None
  slot_good i r here =
      let fault : body_fault (count_in image) (take i (log_in image p.active)) (body_in image p.active i) ≡ None =
      ap (λ (n : ℕ). body_fault n (take i (log_in image p.active)) (body_in image p.active i)) front.count_is
      ∙ (ap (λ (rs : List Rec). body_fault count (take i rs) (body_in image p.active i)) log
      ∙ (ap (λ (b : List ℕ). body_fault count (take i recs) b) (has.slots.bodies i r here) ∙ (fit i r here).good)) in
      ap (in_block (body_at p.active i)) fault

  third : check_3 image ≡ None
  third = ap (log_fault image) active
      ∙ first_all (slot_fault image p.active) (used_in image p.active) (λ i lt. slot_good i (get_or recs i (record_in [])) (slice_get-get_or recs i (record_in []) (omega (arith, lt, used))))

  second : check_2 image ≡ None
  second = ap (area_fault image) active ∙ ap (in_block (header_at p.active)) front.header

  good : records_fault image ≡ None
  unfolding records_fault
  good =
      ap (λ o. first (o ∷ check_2 image ∷ check_3 image ∷ [])) front.first
      ∙ (ap (λ o. first (None ∷ o ∷ check_3 image ∷ [])) second ∙ ap (λ o. first (None ∷ None ∷ o ∷ [])) third)

pub log_law : LogLaw
log_law count p recs image front has fit = record {
  good = good count p recs image front has fit;
  area = p.active;
  active = active count p recs image front has fit;
  log = log count p recs image front has fit;
}
