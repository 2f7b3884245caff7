-- Images while the log is turned.
use Rattle.std.proofs.Common.{◌≡◌, ◌≤◌, ◌<◌, ◌+◌, ◌^◌, ℕ, Bool, true, false, inl, inr, List, length, replicate, refl, sym, ap, subst, ◌∙◌, arith}
use Rattle.std.proofs.lemmas.Bool.{false≢true}
use Rattle.std.proofs.lemmas.Option.{slice_get_within}
use Rattle.edge_tally.specs.edge_disk.declared.disk.Disk.{Ghosts}
use Rattle.byteorder.specs.Numbers.{little_number-reads_back}
use Rattle.edge_tally.specs.edge_disk.Disk.{Only}
use Rattle.edge_tally.specs.edge_disk.Image.{Image, SameOutside, block_at}
use Rattle.edge_tally.specs.edge_disk.Moments.{LeavesOnly, Quiet}
use Rattle.edge_tally.proofs.edge_disk_lemmas.Images.{SameOutside-trans, SameOutside-weaker}
use Rattle.edge_tally.proofs.edge_disk_lemmas.Phases.{LeavesOnly-from_quiet, LeavesOnly-now, LeavesOnly-quiet, LeavesOnly-then, LeavesOnly-weaker, Moments}
use Rattle.image_blocks.specs.base_types.declared.records.Rec.{Rec}
use Rattle.image_blocks.specs.Layout.{body_at, epoch_in, gate_at, header_at, other, slot_gate_at, slots_at}
use Rattle.image_blocks.specs.image_facts.Layout.{first_number, header_block, is_open}
use Rattle.image_blocks.specs.Logs.{HasLog, HasSlots, IsKeptLog, IsTurned, IsTurning, Place}
use Rattle.image_blocks.specs.declared.areas.Area.{Area}
use Rattle.image_blocks.specs.declared.areas.Area.TheVariants.{A, B}
use Rattle.log_facts.specs.Stages.{HasSlotGates, IsBehindGate, IsClosing, IsEitherGate, IsSwitching}
use Rattle.log_facts.specs.Areas.{SameAreas}
use Rattle.log_facts.proofs.Through.{same_gate}

-- HEADERS

same_epoch : (area : Area) (d c : Image) → block_at c (header_at area) ≡ block_at d (header_at area) → epoch_in c area ≡ epoch_in d area
same_epoch area d c same = ap first_number same

pub epoch_reads : (area : Area) (c : Image) (epoch : ℕ) → epoch < 2 ^ 64 → block_at c (header_at area) ≡ header_block epoch → epoch_in c area ≡ epoch
unfolding header_block
epoch_reads area c epoch fits is = ap first_number is ∙ little_number-reads_back 8 epoch (replicate 1016 0) fits

-- THE TWO AREAS

own_header : (a : Area) → IsTurned a (header_at a) → ⊥
own_header A (inl (inl is)) = absurd (omega (arith, is))
own_header A (inl (inr (inl is))) = absurd (omega (arith, is))
own_header A (inl (inr (inr run))) = absurd (let e = run.0 in omega (arith, e))
own_header A (inr is) = absurd (omega (arith, is))
own_header B (inl (inl is)) = absurd (omega (arith, is))
own_header B (inl (inr (inl is))) = absurd (omega (arith, is))
own_header B (inl (inr (inr run))) = absurd (let e = run.0 in omega (arith, e))
own_header B (inr is) = absurd (omega (arith, is))

own_slot : (a : Area) (n : ℕ) → slots_at a ≤ n → n < slots_at a + 1280 → IsTurned a n → ⊥
own_slot A n from to (inl (inl is)) = absurd (omega (arith, is, from))
own_slot A n from to (inl (inr (inl is))) = absurd (omega (arith, is, from))
own_slot A n from to (inl (inr (inr run))) = absurd (let e = run.0 in omega (arith, e, to))
own_slot A n from to (inr is) = absurd (omega (arith, is, from))
own_slot B n from to (inl (inl is)) = absurd (omega (arith, is, from))
own_slot B n from to (inl (inr (inl is))) = absurd (omega (arith, is, from))
own_slot B n from to (inl (inr (inr run))) = absurd (let e = run.1 in omega (arith, e, from))
own_slot B n from to (inr is) = absurd (omega (arith, is, from))

gates_apart : (a : Area) → gate_at a ≡ gate_at (other a) → ⊥
gates_apart A is = absurd (omega (arith, is))
gates_apart B is = absurd (omega (arith, is))

header_not_gate_of : (a b : Area) → header_at a ≡ gate_at b → ⊥
header_not_gate_of A A is = absurd (omega (arith, is))
header_not_gate_of A B is = absurd (omega (arith, is))
header_not_gate_of B A is = absurd (omega (arith, is))
header_not_gate_of B B is = absurd (omega (arith, is))

slot_not_gate_of : (a b : Area) (n : ℕ) → slots_at a ≤ n → n ≡ gate_at b → ⊥
slot_not_gate_of A A n from is = absurd (omega (arith, is, from))
slot_not_gate_of A B n from is = absurd (omega (arith, is, from))
slot_not_gate_of B A n from is = absurd (omega (arith, is, from))
slot_not_gate_of B B n from is = absurd (omega (arith, is, from))

gate_not_behind : (a b : Area) → IsBehindGate a (gate_at b) → ⊥
gate_not_behind A A (inl is) = absurd (omega (arith, is))
gate_not_behind A B (inl is) = absurd (omega (arith, is))
gate_not_behind B A (inl is) = absurd (omega (arith, is))
gate_not_behind B B (inl is) = absurd (omega (arith, is))
gate_not_behind A A (inr run) = absurd (let e = run.0 in omega (arith, e))
gate_not_behind A B (inr run) = absurd (let e = run.0 in omega (arith, e))
gate_not_behind B A (inr run) = absurd (let e = run.0 in omega (arith, e))
gate_not_behind B B (inr run) = absurd (let e = run.0 in omega (arith, e))

other_other : (a : Area) → other (other a) ≡ a
other_other A = refl
other_other B = refl

pub closing_turned : (a : Area) (image : Image) (n : ℕ) → IsClosing image (other a) n → IsTurned a n
closing_turned a image n is = inl (inr (inl is.0))

pub behind_turned : (a : Area) (n : ℕ) → IsBehindGate (other a) n → IsTurned a n
behind_turned a n (inl is) = inl (inl is)
behind_turned a n (inr run) = inl (inr (inr run))

pub gate_turned : (a : Area) (n : ℕ) → n ≡ gate_at (other a) → IsTurned a n
gate_turned a n is = inl (inr (inl is))

either_turned : (a : Area) (n : ℕ) → IsEitherGate a n → IsTurned a n
either_turned a n (inl is) = inl (inr (inl is))
either_turned a n (inr is) = inr is

either_out : (a : Area) (n : ℕ) → (n ≡ gate_at a → ⊥) → (n ≡ gate_at (other a) → ⊥) → IsEitherGate a n → ⊥
either_out a n own new (inl is) = new is
either_out a n own new (inr is) = own is

pub switch_same : (a : Area) (old one c : Image) → SameOutside (λ n. n ≡ gate_at (other a)) old one → SameOutside (λ n. n ≡ gate_at a) one c → SameOutside (IsEitherGate a) old c
switch_same a old one c first second =
    SameOutside-trans (IsEitherGate a) old one c (SameOutside-weaker (λ n. n ≡ gate_at (other a)) (IsEitherGate a) old one (λ n is. inl is) first) (SameOutside-weaker (λ n. n ≡ gate_at a) (IsEitherGate a) one c (λ n is. inr is) second)

pub other_gate_same : (a : Area) (one c : Image) → SameOutside (λ n. n ≡ gate_at a) one c → block_at c (gate_at (other a)) ≡ block_at one (gate_at (other a))
other_gate_same a one c same = same.same (gate_at (other a)) (λ is. gates_apart a (sym is))

-- GATES that stay through a switch
pub gates_stay : (a o : Area) (used : ℕ) (d c : Image) → o ≡ other a → SameOutside (IsEitherGate a) d c → HasSlotGates o used d → HasSlotGates (other a) used c
gates_stay a o used d c is same has =
    let out : (n : ℕ) → slots_at (other a) ≤ n → block_at c n ≡ block_at d n = λ n from. same.same n (either_out a n (slot_not_gate_of (other a) a n from) (slot_not_gate_of (other a) (other a) n from)) in
    let there : HasSlotGates (other a) used d = subst (λ (b : Area). HasSlotGates b used d) is has in
    record { opened = λ i lt. out (slot_gate_at (other a) i) (omega arith) ∙ there.opened i lt; closed = λ lt. out (slot_gate_at (other a) used) (omega arith) ∙ there.closed lt }

-- LOGS that stay

slots_same : (area : Area) (recs : List Rec) (d c : Image) → ((n : ℕ) → slots_at area ≤ n → n < slots_at area + 1280 → block_at c n ≡ block_at d n) → HasSlots area recs d → HasSlots area recs c
slots_same area recs d c same has = record {
  few = has.few;
  bodies = λ i r here. same (body_at area i) (omega arith) (let few = has.few in let lt = slice_get_within recs i r here in omega (arith, few, lt)) ∙ has.bodies i r here;
  gates = λ i lt. same_gate d c (slot_gate_at area i) (same (slot_gate_at area i) (omega arith) (let few = has.few in omega (arith, few, lt))) ∙ has.gates i lt;
  closed = λ lt. same_gate d c (slot_gate_at area (length recs)) (same (slot_gate_at area (length recs)) (omega arith) (omega (arith, lt))) ∙ has.closed lt;
}

log_same : (p : Place) (recs : List Rec) (d c : Image) → SameOutside (IsTurned p.active) d c → is_open c (gate_at p.active) ≡ true
    → (is_open c (gate_at (other p.active)) ≡ true → epoch_in c (other p.active) < p.epoch) → HasLog p recs d → HasLog p recs c
log_same p recs d c same gate above has = record {
  active = record { gate = gate; epoch = same_epoch p.active d c (same.same (header_at p.active) (own_header p.active)) ∙ has.active.epoch; above = above };
  slots = slots_same p.active recs d c (λ n from to. same.same n (own_slot p.active n from to)) has.slots;
}

-- an image that could be left at the start, with any bytes in the blocks of a turn, and the old log
pub record IsBefore {D : Type 0} (may_leave : D → Image → Type 0) (p : Place) (recs : List Rec) (old : D) (c : Image) : Type 0 where
  pub from : Image
  pub could : may_leave old from
  pub same : SameOutside (IsTurned p.active) from c
  pub log : HasLog p recs c

-- with the other gate closed the old log stays
before_same : {D : Type 0} (may_leave : D → Image → Type 0) (p : Place) (recs : List Rec) (old : D) (d c : Image) → IsBefore may_leave p recs old d → SameOutside (IsTurned p.active) d c
    → block_at c (gate_at p.active) ≡ block_at d (gate_at p.active) → is_open c (gate_at (other p.active)) ≡ false → IsBefore may_leave p recs old c
before_same may_leave p recs old d c b same own closed = record {
  from = b.from;
  could = b.could;
  same = SameOutside-trans (IsTurned p.active) b.from d c b.same same;
  log = log_same p recs d c same (same_gate d c (gate_at p.active) own ∙ b.log.active.gate) (λ opens. absurd (false≢true (sym closed ∙ opens))) b.log;
}

-- the new log, with the new area's gate open, whatever is in the old one's
next_log : (p : Place) (recs kept : List Rec) (m c : Image) → p.epoch + 1 < 2 ^ 64 → HasLog p recs m → block_at m (header_at (other p.active)) ≡ header_block (p.epoch + 1) → HasSlots (other p.active) kept m
    → ((n : ℕ) → (n ≡ gate_at p.active → ⊥) → (n ≡ gate_at (other p.active) → ⊥) → block_at c n ≡ block_at m n) → is_open c (gate_at (other p.active)) ≡ true → IsKeptLog p kept c
next_log p recs kept m c fits has header slots same opens =
    let old_epoch : epoch_in c p.active ≡ p.epoch =
    same_epoch p.active m c (same (header_at p.active) (header_not_gate_of p.active p.active) (header_not_gate_of p.active (other p.active))) ∙ has.active.epoch in
    let front : block_at c (header_at (other p.active)) ≡ header_block (p.epoch + 1) =
    same (header_at (other p.active)) (header_not_gate_of (other p.active) p.active) (header_not_gate_of (other p.active) (other p.active)) ∙ header in
    record {
      log = record {
        active = record {
          gate = opens;
          epoch = epoch_reads (other p.active) c (p.epoch + 1) fits front;
          above = λ _. subst (λ (a : Area). epoch_in c a < p.epoch + 1) (sym (other_other p.active)) (omega (arith, old_epoch));
        };
        slots = slots_same (other p.active) kept m c (λ n from to. same n (slot_not_gate_of (other p.active) p.active n from) (slot_not_gate_of (other p.active) (other p.active) n from)) slots;
      };
      header = front;
    }

-- WHAT THE PARTS OF A TURN DID: from the place p to the area o. Each phase has the one before.

module _ {D : Type 0} (disks : Ghosts D) (p : Place) (kept : List Rec) where
  pub record Closing (o : Area) (old one : D) : Type 0 where
    pub same : SameOutside (IsClosing (disks.reading old) o) (disks.reading old) (disks.reading one)
    pub quiet : Quiet disks (IsClosing (disks.reading old) o) old one

  pub record Writing (o : Area) (old one two : D) : Type 0 where
    pub closing : Closing o old one
    pub closed : is_open (disks.reading one) (gate_at o) ≡ false
    pub stable : is_open (disks.reading old) (gate_at o) ≡ true → Only (disks.reading one) (disks.may_leave one)
    pub same : SameOutside (IsBehindGate o) (disks.reading one) (disks.reading two)
    pub quiet : Quiet disks (IsBehindGate o) one two

  pub record Switching (o : Area) (old one two new : D) : Type 0 where
    pub writing : Writing o old one two
    pub header : block_at (disks.reading two) (header_at o) ≡ header_block (p.epoch + 1)
    pub slots : HasSlots o kept (disks.reading two)
    pub moments : LeavesOnly disks two new (IsSwitching p.active (disks.reading two))

module _ {D : Type 0} {disks : Ghosts D} (laws : Moments disks) (reads_now : (d : D) → disks.may_leave d (disks.reading d))
    (p : Place) (fits : p.epoch + 1 < 2 ^ 64) (recs kept : List Rec) (old : D) (left : (c : Image) → disks.may_leave old c → HasLog p recs c × SameAreas (disks.reading old) c) where
  -- where the other gate is open it was open, with its header
  still_above : (d c : Image) → disks.may_leave old d → SameOutside (IsClosing (disks.reading old) (other p.active)) d c → is_open c (gate_at (other p.active)) ≡ true
      → (b : Bool) → is_open (disks.reading old) (gate_at (other p.active)) ≡ b → epoch_in c (other p.active) < p.epoch
  still_above d c could same opens b e =
      let has = left d could in
      let was : is_open d (gate_at (other p.active)) ≡ true = elim b as (λ b. is_open (disks.reading old) (gate_at (other p.active)) ≡ b → is_open d (gate_at (other p.active)) ≡ true) [
        | true ↦ λ e. same_gate (disks.reading old) d (gate_at (other p.active)) (has.1.gate (other p.active)) ∙ e
        | false ↦ λ e. sym (same_gate d c (gate_at (other p.active)) (same.same (gate_at (other p.active)) (λ is. absurd (false≢true (sym e ∙ is.1))))) ∙ opens
      ] e in
      let above = has.0.active.above was in
      let epoch = same_epoch (other p.active) d c (same.same (header_at (other p.active)) (λ is. header_not_gate_of (other p.active) (other p.active) is.0)) in
      omega (arith, above, epoch)

  closing_before : (one : D) → Quiet disks (IsClosing (disks.reading old) (other p.active)) old one → LeavesOnly disks old one (IsBefore disks.may_leave p recs old)
  closing_before one quiet = LeavesOnly-from_quiet laws (IsBefore disks.may_leave p recs old) quiet (λ d c could same.
      let has = left d could in
      let turned : SameOutside (IsTurned p.active) d c = SameOutside-weaker (IsClosing (disks.reading old) (other p.active)) (IsTurned p.active) d c (closing_turned p.active (disks.reading old)) same in
      let own : is_open c (gate_at p.active) ≡ true = same_gate d c (gate_at p.active) (same.same (gate_at p.active) (λ is. gates_apart p.active is.0)) ∙ has.0.active.gate in
      record {
        from = d;
        could = could;
        same = turned;
        log = log_same p recs d c turned own (λ opens. still_above d c could same opens (is_open (disks.reading old) (gate_at (other p.active))) refl) has.0;
      })

  -- each image that may be left has the other gate closed
  closed_left : (one : D) → Quiet disks (IsClosing (disks.reading old) (other p.active)) old one → is_open (disks.reading one) (gate_at (other p.active)) ≡ false
      → (is_open (disks.reading old) (gate_at (other p.active)) ≡ true → Only (disks.reading one) (disks.may_leave one)) → (d : Image) → disks.may_leave one d
      → (b : Bool) → is_open (disks.reading old) (gate_at (other p.active)) ≡ b → is_open d (gate_at (other p.active)) ≡ false
  closed_left one quiet closed stable d could true e = subst (λ (i : Image). is_open i (gate_at (other p.active)) ≡ false) (sym (stable e d could)) closed
  closed_left one quiet closed stable d could false e =
      let was = LeavesOnly-now laws quiet d could in
      same_gate was.from d (gate_at (other p.active)) (was.same.same (gate_at (other p.active)) (λ is. absurd (false≢true (sym e ∙ is.1))))
      ∙ (same_gate (disks.reading old) was.from (gate_at (other p.active)) ((left was.from was.could).1.gate (other p.active)) ∙ e)

  writing_before : (one two : D) → Writing disks p kept (other p.active) old one two → LeavesOnly disks old two (IsBefore disks.may_leave p recs old)
  writing_before one two w =
      let first = closing_before one w.closing.quiet in
      LeavesOnly-quiet laws first w.quiet (λ d c could same.
      let closed : is_open d (gate_at (other p.active)) ≡ false = closed_left one w.closing.quiet w.closed w.stable d could (is_open (disks.reading old) (gate_at (other p.active))) refl in
      before_same disks.may_leave p recs old d c (LeavesOnly-now laws first d could)
      (SameOutside-weaker (IsBehindGate (other p.active)) (IsTurned p.active) d c (behind_turned p.active) same)
      (same.same (gate_at p.active) (gate_not_behind (other p.active) p.active))
      (same_gate d c (gate_at (other p.active)) (same.same (gate_at (other p.active)) (gate_not_behind (other p.active) (other p.active))) ∙ closed))

  turning : (c : Image) → IsBefore disks.may_leave p recs old c → IsTurning disks.may_leave p recs kept old c
  turning c b = record { from = b.from; could = b.could; same = b.same; log = inl b.log }

  before_two : (one two : D) → Writing disks p kept (other p.active) old one two → IsBefore disks.may_leave p recs old (disks.reading two)
  before_two one two w = LeavesOnly-now laws (writing_before one two w) (disks.reading two) (reads_now two)

  -- with the new area's gate torn
  opening_torn : (one two new : D) (w : Switching disks p kept (other p.active) old one two new) (c : Image) → SameOutside (λ n. n ≡ gate_at (other p.active)) (disks.reading two) c
      → (b : Bool) → is_open c (gate_at (other p.active)) ≡ b → IsTurning disks.may_leave p recs kept old c
  opening_torn one two new w c same false e =
      turning c (before_same disks.may_leave p recs old (disks.reading two) c (before_two one two w.writing)
      (SameOutside-weaker (λ n. n ≡ gate_at (other p.active)) (IsTurned p.active) (disks.reading two) c (gate_turned p.active) same)
      (same.same (gate_at p.active) (gates_apart p.active)) e)
  opening_torn one two new w c same true e =
      let b = before_two one two w.writing in
      record {
        from = b.from;
        could = b.could;
        same = SameOutside-trans (IsTurned p.active) b.from (disks.reading two) c b.same (SameOutside-weaker (λ n. n ≡ gate_at (other p.active)) (IsTurned p.active) (disks.reading two) c (gate_turned p.active) same);
        log = inr (next_log p recs kept (disks.reading two) c fits b.log w.header w.slots (λ n own new. same.same n new) e);
      }

  -- with the new area's gate open the kept log stands, whatever is in the old gate
  switched_log : (one two new : D) (w : Switching disks p kept (other p.active) old one two new) (c : Image) → SameOutside (IsEitherGate p.active) (disks.reading two) c → is_open c (gate_at (other p.active)) ≡ true → IsKeptLog p kept c
  switched_log one two new w c same opens =
      next_log p recs kept (disks.reading two) c fits (before_two one two w.writing).log w.header w.slots (λ n own other. same.same n (either_out p.active n own other)) opens

  switched : (one two new : D) (w : Switching disks p kept (other p.active) old one two new) (c : Image) → IsSwitching p.active (disks.reading two) c → IsTurning disks.may_leave p recs kept old c
  switched one two new w c (inl same) = opening_torn one two new w c same (is_open c (gate_at (other p.active))) refl
  switched one two new w c (inr there) =
      let b = before_two one two w.writing in
      record {
        from = b.from;
        could = b.could;
        same = SameOutside-trans (IsTurned p.active) b.from (disks.reading two) c b.same (SameOutside-weaker (IsEitherGate p.active) (IsTurned p.active) (disks.reading two) c (either_turned p.active) there.0);
        log = inr (switched_log one two new w c there.0 there.1);
      }

  switching_turning : (one two new : D) → Switching disks p kept (other p.active) old one two new → LeavesOnly disks old new (IsTurning disks.may_leave p recs kept old)
  switching_turning one two new w =
      LeavesOnly-then laws (LeavesOnly-weaker laws (IsTurning disks.may_leave p recs kept old) turning (writing_before one two w.writing))
      (LeavesOnly-weaker laws (IsTurning disks.may_leave p recs kept old) (switched one two new w) w.moments)

  -- the same for an area that is known to be the other one
  pub moments_closing : (o : Area) → o ≡ other p.active → (one : D) → Closing disks p kept o old one → LeavesOnly disks old one (IsTurning disks.may_leave p recs kept old)
  moments_closing o is one w = LeavesOnly-weaker laws (IsTurning disks.may_leave p recs kept old) turning (closing_before one (subst (λ (a : Area). Closing disks p kept a old one) is w).quiet)

  pub moments_writing : (o : Area) → o ≡ other p.active → (one two : D) → Writing disks p kept o old one two → LeavesOnly disks old two (IsTurning disks.may_leave p recs kept old)
  moments_writing o is one two w = LeavesOnly-weaker laws (IsTurning disks.may_leave p recs kept old) turning (writing_before one two (subst (λ (a : Area). Writing disks p kept a old one two) is w))

  pub moments_switching : (o : Area) → o ≡ other p.active → (one two new : D) → Switching disks p kept o old one two new → LeavesOnly disks old new (IsTurning disks.may_leave p recs kept old)
  moments_switching o is one two new w = switching_turning one two new (subst (λ (a : Area). Switching disks p kept a old one two new) is w)

  -- what reads at the end
  pub reads_turned : (o : Area) → o ≡ other p.active → (one two new : D) → Switching disks p kept o old one two new → SameOutside (IsEitherGate p.active) (disks.reading two) (disks.reading new) → is_open (disks.reading new) (gate_at (other p.active)) ≡ true
      → HasLog (record { active = o; epoch = p.epoch + 1 }) kept (disks.reading new) × (block_at (disks.reading new) (header_at (other p.active)) ≡ header_block (p.epoch + 1))
  reads_turned o is one two new w same opens =
      let there : Switching disks p kept (other p.active) old one two new = subst (λ (a : Area). Switching disks p kept a old one two new) is w in
      let log = switched_log one two new there (disks.reading new) same opens in
      (subst (λ (a : Area). HasLog (record { active = a; epoch = p.epoch + 1 }) kept (disks.reading new)) (sym is) log.log, log.header)

-- THE SWITCH
module _ {D : Type 0} {disks : Ghosts D} (laws : Moments disks) (a : Area) (old one : D)
    (only : Only (disks.reading old) (disks.may_leave old)) (quiet : Quiet disks (λ n. n ≡ gate_at (other a)) old one) where
  pub switch_opening : LeavesOnly disks old one (IsSwitching a (disks.reading old))
  switch_opening = LeavesOnly-from_quiet laws (IsSwitching a (disks.reading old)) quiet (λ d c could same. inl (subst (λ (i : Image). SameOutside (λ n. n ≡ gate_at (other a)) i c) (only d could) same))

  pub switch_closing : (new : D) → Only (disks.reading one) (disks.may_leave one) → SameOutside (λ n. n ≡ gate_at (other a)) (disks.reading old) (disks.reading one) → is_open (disks.reading one) (gate_at (other a)) ≡ true
      → Quiet disks (λ n. n ≡ gate_at a) one new → LeavesOnly disks old new (IsSwitching a (disks.reading old))
  switch_closing new stable reads opens second =
      LeavesOnly-quiet laws switch_opening second (λ d c could same.
      let there : SameOutside (λ n. n ≡ gate_at a) (disks.reading one) c = subst (λ (i : Image). SameOutside (λ n. n ≡ gate_at a) i c) (stable d could) same in
      inr (switch_same a (disks.reading old) (disks.reading one) c reads there, same_gate (disks.reading one) c (gate_at (other a)) (other_gate_same a (disks.reading one) c there) ∙ opens))

-- WHAT READS, outside the blocks of a turn
pub outside_closing : (a o : Area) (old one : Image) → o ≡ other a → SameOutside (IsClosing old o) old one → SameOutside (IsTurned a) old one
outside_closing a o old one is same = SameOutside-weaker (IsClosing old o) (IsTurned a) old one (λ n here. inl (inr (inl (here.0 ∙ ap gate_at is)))) same

pub outside_writing : (a o : Area) (old one two : Image) → o ≡ other a → SameOutside (IsTurned a) old one → SameOutside (IsBehindGate o) one two → SameOutside (IsTurned a) old two
outside_writing a o old one two is first same =
    SameOutside-trans (IsTurned a) old one two first (SameOutside-weaker (IsBehindGate o) (IsTurned a) one two (λ n here. behind_turned a n (subst (λ (b : Area). IsBehindGate b n) is here)) same)

pub outside_switch : (a : Area) (old two new : Image) → SameOutside (IsTurned a) old two → SameOutside (IsEitherGate a) two new → SameOutside (IsTurned a) old new
outside_switch a old two new first same = SameOutside-trans (IsTurned a) old two new first (SameOutside-weaker (IsEitherGate a) (IsTurned a) two new (either_turned a) same)
