-- An append, with the log's place.
use Rattle.std.proofs.Common.{◌≡◌, ◌==◌, ◌<◌, ℕ, inl, inr, List, length, sym, ap, subst, ◌∙◌, arith}
use Rattle.std.specs.Prelude.{Result, Ok, Err, OnOk}
use Rattle.edge_disk.specs.declared.disk.Disk.{Ghosts}
use Rattle.edge_disk.specs.Disk.{Only}
use Rattle.edge_disk.specs.Image.{Image, SameOutside, block_at}
use Rattle.edge_disk.specs.Moments.{LeavesOnly}
use Rattle.edge_disk.proofs.Phases.{LeavesOnly-weaker, Moments}
use Rattle.base_types.specs.declared.records.Rec.{Rec}
use Rattle.log_append.specs.image_blocks.Layout.{epoch_in, gate_at, header_at, other}
use Rattle.log_append.specs.image_facts.Layout.{first_number}
use Rattle.log_append.specs.image_blocks.Logs.{HasLog, IsActive, IsAppending, IsNextSlot, Place}
use Rattle.log_append.specs.image_blocks.declared.areas.Area.{Area}
use Rattle.log_append.specs.image_blocks.declared.areas.Area.TheVariants.{A, B}
use Rattle.log_append.specs.Standing.{area_of as log_area, Stands as LogStands}
use Rattle.log_append.specs.declared.log.Log.{Log}
use Rattle.edge_tally.specs.declared.Tally.{Tally}
use Rattle.log_append.specs.log_facts.Stages.{IsLogging}
use Rattle.log_turn.specs.Standing.{Stands, area_of, place_of, used_of}
use Rattle.log_turn.specs.declared.areas.Areas.{Areas}

front_not_next : (area : Area) (used n : ℕ) → n < 5 → IsNextSlot area used n → ⊥
front_not_next A used n low (inl is) = absurd (omega (arith, is, low))
front_not_next A used n low (inr (inl is)) = absurd (omega (arith, is, low))
front_not_next A used n low (inr (inr here)) = absurd (let is = here.1 in omega (arith, is, low))
front_not_next B used n low (inl is) = absurd (omega (arith, is, low))
front_not_next B used n low (inr (inl is)) = absurd (omega (arith, is, low))
front_not_next B used n low (inr (inr here)) = absurd (let is = here.1 in omega (arith, is, low))

header_low : (area : Area) → header_at area < 5
header_low A = omega arith
header_low B = omega arith

gate_low : (area : Area) → gate_at area < 5
gate_low A = omega arith
gate_low B = omega arith

pub active_same : (p : Place) (used : ℕ) (d c : Image) → SameOutside (IsNextSlot p.active used) d c → IsActive p d → IsActive p c
active_same p used d c same has =
    let header = λ (area : Area). same.same (header_at area) (front_not_next p.active used (header_at area) (header_low area)) in
    let gate = λ (area : Area). ap (λ (b : List ℕ). first_number b == 1) (same.same (gate_at area) (front_not_next p.active used (gate_at area) (gate_low area))) in
    record {
      gate = gate p.active ∙ has.gate;
      epoch = ap first_number (header p.active) ∙ has.epoch;
      above = λ opens. (let lt = has.above (sym (gate (other p.active)) ∙ opens) in let e : epoch_in c (other p.active) ≡ epoch_in d (other p.active) = ap first_number (header (other p.active)) in omega (arith, lt, e));
    }

module _ {D : Type 0} {disks : Ghosts D} (laws : Moments disks) where
  pub log_stands : (areas : Areas) (recs : List Rec) (disk : D) → Stands disks areas recs disk → LogStands disks areas.log recs disk
  log_stands areas recs disk s = record { used = s.used; slots = s.log.slots; left = λ c may. (s.left c may).0.slots }

  logging : (areas : Areas) (recs : List Rec) (rec : Rec) (old : D) → Stands disks areas recs old → (c : Image) → IsAppending disks (area_of areas) recs rec old c → IsLogging disks (place_of areas) recs rec old c
  logging areas recs rec old s c (inl not_yet) = inl (record {
    from = not_yet.from;
    could = not_yet.could;
    same = not_yet.same;
    log = record { active = active_same (place_of areas) (length recs) not_yet.from c not_yet.same (s.left not_yet.from not_yet.could).0.active; slots = not_yet.slots };
  })
  logging areas recs rec old s c (inr added) = inr (record {
    same = added.same;
    log = record { active = active_same (place_of areas) (length recs) (disks.reading old) c added.same s.log.active; slots = added.slots };
  })

  pub moments_logging : (areas : Areas) (recs : List Rec) (rec : Rec) (old new : D) → Stands disks areas recs old → LeavesOnly disks old new (IsAppending disks (area_of areas) recs rec old)
      → LeavesOnly disks old new (IsLogging disks (place_of areas) recs rec old)
  moments_logging areas recs rec old new s so_far = LeavesOnly-weaker laws (IsLogging disks (place_of areas) recs rec old) (logging areas recs rec old s) so_far

-- the areas stand with one record more
pub stands_more : {D : Type 0} (disks : Ghosts D) (areas : Areas) (log : Log) (tally : Tally) (recs more : List Rec) (old new : D) → Stands disks areas recs old → log_area log ≡ area_of areas
    → SameOutside (IsNextSlot (area_of areas) (used_of areas)) (disks.reading old) (disks.reading new) → LogStands disks log more new → Only (disks.reading new) (disks.may_leave new)
    → Stands disks (record { log = log; tally = tally; epoch = areas.epoch }) more new
stands_more disks areas log tally recs more old new s area outside after only =
    let active : IsActive (record { active = log_area log; epoch = areas.epoch }) (disks.reading new) =
    subst (λ (a : Area). IsActive (record { active = a; epoch = areas.epoch }) (disks.reading new)) (sym area) (active_same (place_of areas) (used_of areas) (disks.reading old) (disks.reading new) outside s.log.active) in
    let whole : HasLog (record { active = log_area log; epoch = areas.epoch }) more (disks.reading new) = record { active = active; slots = after.slots } in
    record {
      used = after.used;
      log = whole;
      left = λ c may.
          let e = only c may in (
            subst (λ (i : Image). HasLog (record { active = log_area log; epoch = areas.epoch }) more i) (sym e) whole,
            record { header = λ a. ap (λ (i : Image). block_at i (header_at a)) e; gate = λ a. ap (λ (i : Image). block_at i (gate_at a)) e },
          );
    }

pub on_ok_two : {T E P Q R : Type 0} (r : Result T E) → (P → Q → R) → OnOk r P → OnOk r Q → OnOk r R
on_ok_two (Ok x) f p q = f p q
on_ok_two (Err e) f p q = p
