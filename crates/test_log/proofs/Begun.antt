-- An image with the front of an empty log, and what two calls leave of a log.
use Rattle.std.proofs.Common.{◌≡◌, ℕ, inl, inr, List, [], ◌∷◌, ◌++◌, sym, ap, subst, ◌∙◌, arith}
use Rattle.std.proofs.lemmas.Bool.{false≢true}
use Rattle.std.proofs.lemmas.Option.{slice_get_within}
use Rattle.edge_disk.specs.declared.disk.Disk.{Ghosts}
use Rattle.edge_disk.specs.Disk.{Only}
use Rattle.edge_disk.specs.Image.{Image, SameOutside, block_at}
use Rattle.edge_disk.specs.Moments.{LeavesOnly}
use Rattle.edge_disk.proofs.Phases.{LeavesOnly-then, LeavesOnly-weaker, Moments}
use Rattle.base_types.specs.declared.records.Rec.{Rec}
use Rattle.image_blocks.specs.image_facts.Layout.{closed_gate, header_block, open_gate}
use Rattle.image_blocks.specs.Layout.{gate_at, header_at, slot_gate_at}
use Rattle.image_blocks.specs.Logs.{HasLog, IsTurning, Place}
use Rattle.image_blocks.specs.declared.areas.Area.{Area}
use Rattle.image_blocks.specs.declared.areas.Area.TheVariants.{A, B}
use Rattle.log_reading.proofs.log_facts_lemmas.Through.{gate_closed, gate_open}
use Rattle.log_reading.specs.log_facts.Stages.{IsLogging}
use Rattle.log_turn.specs.Standing.{Stands, area_of, epoch_of, used_of}
use Rattle.log_turn.specs.declared.areas.Areas.{Areas}
use Rattle.log_reading.proofs.log_facts_lemmas.Turning.{epoch_reads}
use Rattle.test_log.specs.Uses.{IsOneOf}

-- the four blocks of the front
pub record IsFront (image : Image) : Type 0 where
  pub other_gate : block_at image (gate_at B) ≡ closed_gate
  pub header : block_at image (header_at A) ≡ header_block 1
  pub slot_gate : block_at image (slot_gate_at A 0) ≡ closed_gate
  pub gate : block_at image (gate_at A) ≡ open_gate

pub empty_log : (image : Image) → IsFront image → HasLog (record { active = A; epoch = 1 }) [] image
empty_log image front = record {
  active = record {
    gate = gate_open image (gate_at A) front.gate;
    epoch = epoch_reads A image 1 (omega arith) front.header;
    above = λ opens. absurd (false≢true (sym (gate_closed image (gate_at B) front.other_gate) ∙ opens));
  };
  slots = record {
    few = omega arith;
    bodies = λ i r here. absurd (let lt = slice_get_within [] i r here in omega (arith, lt));
    gates = λ i lt. absurd (omega (arith, lt));
    closed = λ lt. gate_closed image (slot_gate_at A 0) front.slot_gate;
  };
}

-- the areas stand on a stable disk that reads so
pub begun : {D : Type 0} (disks : Ghosts D) (areas : Areas) (disk : D) → area_of areas ≡ A → epoch_of areas ≡ 1 → used_of areas ≡ 0 → IsFront (disks.reading disk) → Only (disks.reading disk) (disks.may_leave disk)
    → Stands disks areas [] disk
begun disks areas disk area epoch used front only =
    let log : HasLog (record { active = area_of areas; epoch = epoch_of areas }) [] (disks.reading disk) =
    subst (λ (a : Area). HasLog (record { active = a; epoch = epoch_of areas }) [] (disks.reading disk)) (sym area)
    (subst (λ (e : ℕ). HasLog (record { active = A; epoch = e }) [] (disks.reading disk)) (sym epoch) (empty_log (disks.reading disk) front)) in
    record {
      used = sym used;
      log = log;
      left = λ image may.
          let e = only image may in (
            subst (λ (i : Image). HasLog (record { active = area_of areas; epoch = epoch_of areas }) [] i) (sym e) log,
            record { header = λ a. ap (λ (i : Image). block_at i (header_at a)) e; gate = λ a. ap (λ (i : Image). block_at i (gate_at a)) e },
          );
    }

-- four blocks that are written one after the other
pub four_written : (one two three four : Image) → SameOutside (λ n. n ≡ 1) one two → SameOutside (λ n. n ≡ 6) two three → SameOutside (λ n. n ≡ 2) three four → block_at one 4 ≡ closed_gate → block_at two 1 ≡ header_block 1
    → block_at three 6 ≡ closed_gate → block_at four 2 ≡ open_gate → IsFront four
four_written one two three four second third fourth other header slot gate = record {
  other_gate = fourth.same 4 (λ is. absurd (omega (arith, is))) ∙ (third.same 4 (λ is. absurd (omega (arith, is))) ∙ (second.same 4 (λ is. absurd (omega (arith, is))) ∙ other));
  header = fourth.same 1 (λ is. absurd (omega (arith, is))) ∙ (third.same 1 (λ is. absurd (omega (arith, is))) ∙ header);
  slot_gate = fourth.same 6 (λ is. absurd (omega (arith, is))) ∙ slot;
  gate = gate;
}

-- an append, and then a turn
module _ {D : Type 0} {disks : Ghosts D} (laws : Moments disks) (p : Place) (recs : List Rec) (rec : Rec) (kept : List Rec) where
  logged : (old : D) (c : Image) → IsLogging disks p recs rec old c → IsOneOf p recs rec kept c
  logged old c (inl was) = inl was.log
  logged old c (inr is) = inr (inl is.log)

  turned : (mid : D) (c : Image) → IsTurning disks.may_leave p (recs ++ rec ∷ []) kept mid c → IsOneOf p recs rec kept c
  turned mid c left = elim left.log as (λ _. IsOneOf p recs rec kept c) [
    | inl was ↦ inr (inl was)
    | inr is ↦ inr (inr is.log)
  ]

  pub one_of : (q : Place) (old mid new : D) → q.active ≡ p.active → q.epoch ≡ p.epoch → LeavesOnly disks old mid (IsLogging disks p recs rec old)
      → LeavesOnly disks mid new (IsTurning disks.may_leave q (recs ++ rec ∷ []) kept mid) → LeavesOnly disks old new (IsOneOf p recs rec kept)
  one_of q old mid new area epoch first second =
      let here = subst (λ (a : Area). LeavesOnly disks mid new (IsTurning disks.may_leave (record { active = a; epoch = q.epoch }) (recs ++ rec ∷ []) kept mid)) area second in
      let there = subst (λ (e : ℕ). LeavesOnly disks mid new (IsTurning disks.may_leave (record { active = p.active; epoch = e }) (recs ++ rec ∷ []) kept mid)) epoch here in
      LeavesOnly-then laws (LeavesOnly-weaker laws (IsOneOf p recs rec kept) (logged old) first) (LeavesOnly-weaker laws (IsOneOf p recs rec kept) (turned mid) there)
