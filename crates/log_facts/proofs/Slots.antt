-- The slots of an area while kept records are written into them.
use Rattle.std.proofs.Common.{◌≡◌, ◌≤◌, ◌<◌, ◌+◌, ◌*◌, ℕ, inl, inr, List, [], length, set, get_or, Some, ap, subst, ◌∙◌, arith}
use Rattle.std.specs.Prelude.{slice_get}
use Rattle.std.proofs.lemmas.Bool.{cases_eq}
use Rattle.std.proofs.lemmas.List.{get_or-set_same}
use Rattle.std.proofs.lemmas.Option.{slice_get_within, get_or_from_slice_get}
use Rattle.edge_tally.specs.edge_disk.declared.disk.Disk.{Ghosts}
use Rattle.edge_tally.specs.edge_disk.Image.{Image, SameOutside, block_at}
use Rattle.edge_tally.specs.edge_disk.Moments.{Quiet}
use Rattle.edge_tally.specs.Counts.{CountsOn}
use Rattle.image_blocks.specs.base_types.declared.records.Rec.{Rec}
use Rattle.image_blocks.specs.image_facts.Bodies.{body_block}
use Rattle.image_blocks.specs.Layout.{body_at, header_at, other, slot_gate_at}
use Rattle.image_blocks.specs.image_facts.Layout.{closed_gate, open_gate, slot_count}
use Rattle.image_blocks.specs.Logs.{HasSlots}
use Rattle.image_blocks.specs.declared.areas.Area.{Area}
use Rattle.image_blocks.specs.declared.areas.Area.TheVariants.{A, B}
use Rattle.log_facts.proofs.Through.{gate_closed, gate_open}
use Rattle.log_facts.specs.Stages.{HasFilled, HasSlotGates, IsBehindGate, IsGateOf, IsOfSlot}

-- what a write of a block leaves there
pub wrote : (old new : Image) (at n : ℕ) (block : List ℕ) → at ≡ n → at < length old → new ≡ set old at block → block_at new n ≡ block
wrote old new at n block is within e =
    subst (λ (k : ℕ). block_at new k ≡ block) is (ap (λ (image : Image). block_at image at) e ∙ get_or-set_same old at block [] within)

-- THE SLOTS THAT ARE WRITTEN, so far

pub record HasFirst (area : Area) (recs : List Rec) (so_many : ℕ) (image : Image) : Type 0 where
  pub bodies : (i : ℕ) (r : Rec) → i < so_many → slice_get recs i ≡ Some r → block_at image (body_at area i) ≡ body_block r
  pub gates : (i : ℕ) → i < so_many → block_at image (slot_gate_at area i) ≡ open_gate

pub record SlotsSoFar {D : Type 0} (disks : Ghosts D)
    (area : Area) (kept : List Rec) (i begun begun_now : ℕ) (old now : D) : Type 0 where
  pub count : disks.block_count now ≡ disks.block_count old
  pub few : begun_now ≤ begun + 2 * i
  pub counts : CountsOn (disks.clock old) (disks.clock now) begun begun_now
  pub later : disks.faults old ≤ disks.faults now
  pub first : disks.tells → HasFirst area kept i (disks.reading now)
  pub header : disks.tells → block_at (disks.reading now) (header_at area) ≡ block_at (disks.reading old) (header_at area)
  pub same : disks.tells → SameOutside (IsBehindGate area) (disks.reading old) (disks.reading now)
  pub quiet : disks.tells → Quiet disks (IsBehindGate area) old now

body_not_slot : (area : Area) (i k : ℕ) → (k ≡ i → ⊥) → IsOfSlot area i (body_at area k) → ⊥
body_not_slot area i k other (inl is) = other (omega (arith, is))
body_not_slot area i k other (inr is) = absurd (omega (arith, is))

gate_not_slot : (area : Area) (i k : ℕ) → (k ≡ i → ⊥) → IsOfSlot area i (slot_gate_at area k) → ⊥
gate_not_slot area i k other (inl is) = absurd (omega (arith, is))
gate_not_slot area i k other (inr is) = other (omega (arith, is))

pub slot_behind : (area : Area) (i n : ℕ) → i < slot_count → IsOfSlot area i n → IsBehindGate area n
slot_behind area i n lt (inl is) = inr (omega (arith, is), omega (arith, is, lt))
slot_behind area i n lt (inr is) = inr (omega (arith, is), omega (arith, is, lt))

pub gate_behind : (area : Area) (i n : ℕ) → IsGateOf area i n → IsBehindGate area n
gate_behind area i n (lt, is) = inr (omega (arith, is), omega (arith, is, lt))

pub header_not_slot : (area : Area) (i : ℕ) → IsOfSlot area i (header_at area) → ⊥
header_not_slot A i (inl is) = absurd (omega (arith, is))
header_not_slot A i (inr is) = absurd (omega (arith, is))
header_not_slot B i (inl is) = absurd (omega (arith, is))
header_not_slot B i (inr is) = absurd (omega (arith, is))

-- one slot more
pub first_more : (area : Area) (recs : List Rec) (i : ℕ) (rec : Rec) (old new : Image) → rec ≡ get_or recs i rec → HasFirst area recs i old → SameOutside (IsOfSlot area i) old new
    → block_at new (body_at area i) ≡ body_block rec → block_at new (slot_gate_at area i) ≡ open_gate → HasFirst area recs (i + 1) new
first_more area recs i rec old new item first same body gate = record {
  bodies = λ k r lt here. elim (cases_eq k i) as (λ _. block_at new (body_at area k) ≡ body_block r) [
    | inl is ↦
        (let there : slice_get recs i ≡ Some r = subst (λ (n : ℕ). slice_get recs n ≡ Some r) is here in
        let one : rec ≡ r = item ∙ get_or_from_slice_get recs i r rec there in
        ap (λ (n : ℕ). block_at new (body_at area n)) is ∙ (body ∙ ap body_block one))
    | inr other ↦ same.same (body_at area k) (body_not_slot area i k other) ∙ first.bodies k r (omega (arith, lt, other)) here
  ];
  gates = λ k lt. elim (cases_eq k i) as (λ _. block_at new (slot_gate_at area k) ≡ open_gate) [
    | inl is ↦ ap (λ (n : ℕ). block_at new (slot_gate_at area n)) is ∙ gate
    | inr other ↦ same.same (slot_gate_at area k) (gate_not_slot area i k other) ∙ first.gates k (omega (arith, lt, other))
  ];
}

pub first_all : (area : Area) (recs : List Rec) (i : ℕ) (image : Image) → length recs ≤ i → HasFirst area recs i image → HasFilled area recs image
first_all area recs i image all first = record {
  bodies = λ k r here. first.bodies k r (let lt = slice_get_within recs k r here in omega (arith, lt, all)) here;
  gates = λ k lt. first.gates k (omega (arith, lt, all));
}

-- filled slots with a closed gate behind them
pub gates_closed : (area : Area) (recs : List Rec) (used : ℕ) (d c : Image) → used ≡ length recs → HasFilled area recs d → SameOutside (IsGateOf area used) d c
    → (used < 640 → block_at c (slot_gate_at area used) ≡ closed_gate) → HasSlotGates area (length recs) c
gates_closed area recs used d c is filled same closed = record {
  opened = λ k lt. same.same (slot_gate_at area k) (λ at. absurd (let e = at.1 in omega (arith, e, lt, is))) ∙ filled.gates k lt;
  closed = λ lt. subst (λ (n : ℕ). block_at c (slot_gate_at area n) ≡ closed_gate) is (closed (omega (arith, lt, is)));
}

-- are the log of an area
pub slots_closed : (area : Area) (recs : List Rec) (used : ℕ) (d c : Image) → used ≡ length recs → length recs ≤ slot_count → HasFilled area recs d → SameOutside (IsGateOf area used) d c
    → (used < 640 → block_at c (slot_gate_at area used) ≡ closed_gate) → HasSlots area recs c
slots_closed area recs used d c is few filled same closed =
    let gates = gates_closed area recs used d c is filled same closed in
    record {
      few = few;
      bodies = λ k r here. same.same (body_at area k) (λ at. absurd (let e = at.1 in omega (arith, e))) ∙ filled.bodies k r here;
      gates = λ k lt. gate_open c (slot_gate_at area k) (gates.opened k lt);
      closed = λ lt. gate_closed c (slot_gate_at area (length recs)) (gates.closed lt);
    }
