-- Logs through writes into the next slot.
use Rattle.std.proofs.Common.{◌≡◌, ◌<◌, ◌+◌, ℕ, Bool, true, false, ◌==◌, inl, inr, List, [], ◌∷◌, ◌++◌, length, set, refl, sym, ap, subst, ◌∙◌, arith}
use Rattle.std.proofs.lemmas.Bool.{cases_eq}
use Rattle.std.proofs.lemmas.List.{get_or-set_same, length-append}
use Rattle.std.proofs.lemmas.Option.{slice_get_within}
use Rattle.edge_tally.specs.edge_disk.declared.disk.Disk.{Ghosts}
use Rattle.edge_tally.specs.edge_disk.Image.{Image, SameOutside, block_at}
use Rattle.edge_tally.specs.edge_disk.Moments.{LeavesOnly, Quiet}
use Rattle.edge_tally.proofs.edge_disk_lemmas.Images.{SameOutside-set, SameOutside-trans, SameOutside-weaker}
use Rattle.edge_tally.proofs.edge_disk_lemmas.Phases.{LeavesOnly-from_quiet, LeavesOnly-now, LeavesOnly-then, LeavesOnly-weaker, Moments}
use Rattle.image_blocks.specs.base_types.declared.records.Rec.{Rec}
use Rattle.image_blocks.specs.image_facts.Bodies.{body_block}
use Rattle.image_blocks.specs.Layout.{body_at, slot_gate_at}
use Rattle.image_blocks.specs.image_facts.Layout.{slot_count, first_number, is_open, closed_gate, open_gate}
use Rattle.image_blocks.specs.Logs.{HasSlots, IsAppending, IsNextSlot}
use Rattle.image_blocks.specs.declared.areas.Area.{Area}
use Rattle.image_blocks.specs.declared.areas.Area.TheVariants.{A, B}
use Rattle.log_facts.specs.Bodies.{IsBodyBlock, IsOpening}
use Rattle.log_facts.specs.Gates.{HasGates}
use Rattle.image_blocks.proofs.Ranges.{last_or_before}

-- GATES

closed_reads : (first_number closed_gate == 1) ≡ false
unfolding closed_gate
closed_reads = refl

open_reads : (first_number open_gate == 1) ≡ true
unfolding open_gate
open_reads = refl

pub gate_closed : (image : Image) (n : ℕ) → block_at image n ≡ closed_gate → is_open image n ≡ false
gate_closed image n is = ap (λ b. first_number b == 1) is ∙ closed_reads

pub gate_open : (image : Image) (n : ℕ) → block_at image n ≡ open_gate → is_open image n ≡ true
gate_open image n is = ap (λ b. first_number b == 1) is ∙ open_reads

pub same_gate : (d c : Image) (n : ℕ) → block_at c n ≡ block_at d n → is_open c n ≡ is_open d n
same_gate d c n same = ap (λ b. first_number b == 1) same

-- PLACES

pub gate_low : (area : Area) (i : ℕ) → i < slot_count → slot_gate_at area i < 2565
gate_low A i lt = omega (arith, lt)
gate_low B i lt = omega (arith, lt)

body_in_next : (area : Area) (used n : ℕ) → IsBodyBlock area used n → IsNextSlot area used n
body_in_next area used n (inl is) = inl is
body_in_next area used n (inr is) = inr (inr is)

gate_in_next : (area : Area) (used n : ℕ) → n ≡ slot_gate_at area used → IsNextSlot area used n
gate_in_next area used n is = inr (inl is)

body_not_next : (area : Area) (used i : ℕ) → i < used → IsNextSlot area used (body_at area i) → ⊥
body_not_next area used i lt (inl is) = absurd (omega (arith, lt, is))
body_not_next area used i lt (inr (inl is)) = absurd (omega (arith, lt, is))
body_not_next area used i lt (inr (inr (room, is))) = absurd (omega (arith, lt, is))

gate_not_next : (area : Area) (used i : ℕ) → i < used → IsNextSlot area used (slot_gate_at area i) → ⊥
gate_not_next area used i lt (inl is) = absurd (omega (arith, lt, is))
gate_not_next area used i lt (inr (inl is)) = absurd (omega (arith, lt, is))
gate_not_next area used i lt (inr (inr (room, is))) = absurd (omega (arith, lt, is))

gate_not_body : (area : Area) (used : ℕ) → IsBodyBlock area used (slot_gate_at area used) → ⊥
gate_not_body area used (inl is) = absurd (omega (arith, is))
gate_not_body area used (inr (room, is)) = absurd (omega (arith, is))

-- THE OLD LOG stays, where its next gate is closed
stays : (area : Area) (recs : List Rec) (d c : Image) → SameOutside (IsNextSlot area (length recs)) d c → (length recs < slot_count → is_open c (slot_gate_at area (length recs)) ≡ false)
    → HasSlots area recs d → HasSlots area recs c
stays area recs d c same closed has = record {
  few = has.few;
  bodies = λ i r here. same.same (body_at area i) (body_not_next area (length recs) i (slice_get_within recs i r here)) ∙ has.bodies i r here;
  gates = λ i lt. same_gate d c (slot_gate_at area i) (same.same (slot_gate_at area i) (gate_not_next area (length recs) i lt)) ∙ has.gates i lt;
  closed = closed;
}

length_more : (recs : List Rec) (rec : Rec) → length (recs ++ rec ∷ []) ≡ length recs + 1
length_more recs rec = length-append recs (rec ∷ [])

-- THE NEW LOG stands, where the body is there and its gate is open
added : (area : Area) (recs : List Rec) (rec : Rec) (d c : Image) → SameOutside (IsNextSlot area (length recs)) d c → length recs < slot_count
    → block_at c (body_at area (length recs)) ≡ body_block rec → is_open c (slot_gate_at area (length recs)) ≡ true
    → (length recs + 1 < slot_count → is_open c (slot_gate_at area (length recs + 1)) ≡ false)
    → HasSlots area recs d → HasSlots area (recs ++ rec ∷ []) c
added area recs rec d c same room body gate next has = record {
  few = (let e = length_more recs rec in omega (arith, e, room));
  bodies = λ i r here. elim (last_or_before recs rec i r here) as (λ _. block_at c (body_at area i) ≡ body_block r) [
    | inl old ↦ (same.same (body_at area i) (body_not_next area (length recs) i old.0) ∙ has.bodies i r old.1)
    | inr last ↦ (ap (λ k. block_at c (body_at area k)) last.0 ∙ (body ∙ ap body_block last.1))
  ];
  gates = λ i lt. elim (cases_eq i (length recs)) as (λ _. is_open c (slot_gate_at area i) ≡ true) [
    | inl is ↦ subst (λ k. is_open c (slot_gate_at area k) ≡ true) (sym is) gate
    | inr other ↦
        (let old : i < length recs = (let e = length_more recs rec in omega (arith, e, lt, other)) in
        same_gate d c (slot_gate_at area i) (same.same (slot_gate_at area i) (gate_not_next area (length recs) i old)) ∙ has.gates i old)
  ];
  closed = λ more.
      let e : length (recs ++ rec ∷ []) ≡ length recs + 1 = length_more recs rec in
      subst (λ k. is_open c (slot_gate_at area k) ≡ false) (sym e) (next (omega (arith, e, more)));
}

-- MOMENTS of the first half
pub first_half : {D : Type 0} {disks : Ghosts D} (laws : Moments disks)
    (area : Area) (recs : List Rec) (rec : Rec) (used : ℕ) (old mid : D) → length recs ≡ used → ((c : Image) → disks.may_leave old c → HasSlots area recs c) → used < slot_count
    → Quiet disks (IsBodyBlock area used) old mid → LeavesOnly disks old mid (IsAppending disks area recs rec old)
first_half {disks} laws area recs rec used old mid is left room quiet =
    LeavesOnly-from_quiet laws (IsAppending disks area recs rec old) quiet (λ d c could same.
    let same_next : SameOutside (IsNextSlot area (length recs)) d c = subst (λ k. SameOutside (IsNextSlot area k) d c) (sym is) (SameOutside-weaker (IsBodyBlock area used) (IsNextSlot area used) d c (body_in_next area used) same) in
    let gate : is_open c (slot_gate_at area (length recs)) ≡ is_open d (slot_gate_at area (length recs)) =
    subst (λ k. is_open c (slot_gate_at area k) ≡ is_open d (slot_gate_at area k)) (sym is) (same_gate d c (slot_gate_at area used) (same.same (slot_gate_at area used) (gate_not_body area used))) in
    inl (record { from = d; could = could; same = same_next; slots = stays area recs d c same_next (λ lt. gate ∙ (left d could).closed lt) (left d could) }))

-- what stands when the body is written
pub record IsPrepared (area : Area) (rec : Rec) (old mid : Image) (at used : ℕ) : Type 0 where
  pub room : used < slot_count
  pub same : SameOutside (IsBodyBlock area used) old mid
  pub body : block_at mid (body_at area used) ≡ body_block rec
  pub next : used + 1 < slot_count → block_at mid (slot_gate_at area (used + 1)) ≡ closed_gate
  pub gate : at ≡ slot_gate_at area used

through : (area : Area) (recs : List Rec) (rec : Rec) (old mid c : Image) (at : ℕ) → IsPrepared area rec old mid at (length recs) → SameOutside (λ n. n ≡ at) mid c → SameOutside (IsNextSlot area (length recs)) old c
through area recs rec old mid c at p same =
    SameOutside-trans (IsNextSlot area (length recs)) old mid c
    (SameOutside-weaker (IsBodyBlock area (length recs)) (IsNextSlot area (length recs)) old mid (body_in_next area (length recs)) p.same)
    (SameOutside-weaker (λ n. n ≡ at) (IsNextSlot area (length recs)) mid c (λ n is. gate_in_next area (length recs) n (is ∙ p.gate)) same)

-- with the gate open the new log stands
pub now_added : (area : Area) (recs : List Rec) (rec : Rec) (old mid c : Image) (at : ℕ) → IsPrepared area rec old mid at (length recs) → SameOutside (λ n. n ≡ at) mid c
    → HasSlots area recs old → is_open c (slot_gate_at area (length recs)) ≡ true → HasSlots area (recs ++ rec ∷ []) c
now_added area recs rec old mid c at p same has gate =
    let g = p.gate in
    added area recs rec old c (through area recs rec old mid c at p same) p.room
    (same.same (body_at area (length recs)) (λ is. absurd (omega (arith, is, g))) ∙ p.body)
    gate
    (λ more. gate_closed c (slot_gate_at area (length recs + 1)) (same.same (slot_gate_at area (length recs + 1)) (λ is. absurd (omega (arith, is, g))) ∙ p.next more))
    has

module _ {D : Type 0} {disks : Ghosts D} (laws : Moments disks) (reads_now : (d : D) → disks.may_leave d (disks.reading d)) where
  torn : (area : Area) (recs : List Rec) (rec : Rec) (old : D) (mid c : Image) (at : ℕ) → IsPrepared area rec (disks.reading old) mid at (length recs) → SameOutside (λ n. n ≡ at) mid c
      → HasSlots area recs (disks.reading old) → (b : Bool) → is_open c (slot_gate_at area (length recs)) ≡ b → IsAppending disks area recs rec old c
  torn area recs rec old mid c at p same has true e = inr (record { same = through area recs rec (disks.reading old) mid c at p same; slots = now_added area recs rec (disks.reading old) mid c at p same has e })
  torn area recs rec old mid c at p same has false e =
      let next = through area recs rec (disks.reading old) mid c at p same in
      inl (record { from = disks.reading old; could = reads_now old; same = next; slots = stays area recs (disks.reading old) c next (λ lt. e) has })

  opening : (area : Area) (recs : List Rec) (rec : Rec) (old mid : D) (at : ℕ) → IsPrepared area rec (disks.reading old) (disks.reading mid) at (length recs) → HasSlots area recs (disks.reading old)
      → LeavesOnly disks old mid (IsAppending disks area recs rec old) → (c : Image) → IsOpening disks at mid c → IsAppending disks area recs rec old c
  opening area recs rec old mid at p has first c (inl could) = LeavesOnly-now laws first c could
  opening area recs rec old mid at p has first c (inr same) = torn area recs rec old (disks.reading mid) c at p same has (is_open c (slot_gate_at area (length recs))) refl

  -- MOMENTS of the whole
  pub second_half : (area : Area) (recs : List Rec) (rec : Rec) (old mid new : D) (at used : ℕ) → length recs ≡ used → IsPrepared area rec (disks.reading old) (disks.reading mid) at used → HasSlots area recs (disks.reading old)
      → LeavesOnly disks old mid (IsAppending disks area recs rec old)
      → LeavesOnly disks mid new (IsOpening disks at mid) → LeavesOnly disks old new (IsAppending disks area recs rec old)
  second_half area recs rec old mid new at used is p has first second =
      LeavesOnly-then laws first (LeavesOnly-weaker laws (IsAppending disks area recs rec old) (opening area recs rec old mid at (subst (IsPrepared area rec (disks.reading old) (disks.reading mid) at) (sym is) p) has first) second)

-- what reads at the end
pub gates_written : (area : Area) (rec : Rec) (old mid new : Image) (at used : ℕ) → IsPrepared area rec old mid at used → at < length mid → new ≡ set mid at open_gate → HasGates area used new
gates_written area rec old mid new at used p within wrote =
    let same : SameOutside (λ n. n ≡ at) mid new = subst (λ (image : Image). SameOutside (λ n. n ≡ at) mid image) (sym wrote) (SameOutside-set mid at open_gate) in
    record {
      own = subst (λ n. block_at new n ≡ open_gate) p.gate (ap (λ (image : Image). block_at image at) wrote ∙ get_or-set_same mid at open_gate [] within);
      next = λ more. same.same (slot_gate_at area (used + 1)) (λ is. absurd (let g = p.gate in omega (arith, is, g))) ∙ p.next more;
    }

pub reads_added : (area : Area) (recs : List Rec) (rec : Rec) (old mid new : Image) (at used : ℕ) → length recs ≡ used → IsPrepared area rec old mid at used → HasSlots area recs old
    → at < length mid → new ≡ set mid at open_gate → HasSlots area (recs ++ rec ∷ []) new
reads_added area recs rec old mid new at used is p has within wrote =
    let q : IsPrepared area rec old mid at (length recs) = subst (IsPrepared area rec old mid at) (sym is) p in
    now_added area recs rec old mid new at q (subst (λ (image : Image). SameOutside (λ n. n ≡ at) mid image) (sym wrote) (SameOutside-set mid at open_gate)) has
    (gate_open new (slot_gate_at area (length recs)) (gates_written area rec old mid new at (length recs) q within wrote).own)
