-- Where the image is bad whose chosen entities don't fit each other, and what is accepted.
use Rattle.std.proofs.Common.{◌≡◌, ℕ, List, Option, Some, None, refl, sym, ap, subst, ◌∙◌, inl, inr}
use Rattle.edge_disk.specs.Image.{Image}
use Rattle.base_types.specs.declared.records.Rec.{Rec}
use Rattle.image_blobs.specs.image_blocks.Checks.{Bad}
use Rattle.image_blobs.specs.image_facts.Checks.{count_in}
use Rattle.image_blobs.specs.image_blocks.Layout.{body_at}
use Rattle.image_blobs.specs.image_blocks.declared.areas.Area.{Area}
use Rattle.image_blobs.specs.image_meaning.Fits.{IsFit}
use Rattle.image_blobs.specs.image_meaning.Foreign.{IsBadBlob, IsBadMeaning, IsUnfit}
use Rattle.image_blobs.specs.image_meaning.Parts.{AreSpelt, Part, chosen, chosen_by, cut_of}
use Rattle.image_blobs.proofs.image_meaning_lemmas.Firsts.{clash}
use Rattle.image_blobs.specs.log_reading.Logs.{IsLogOf}
use Rattle.image_blobs.specs.log_reading.declared.log.ImageLog.{ImageLog}
use Rattle.image_blobs.specs.image_fits.Chosen.{entity_at, parts_of, record_in}
use Rattle.image_blobs.specs.image_fits.Fits.{AreChosen, AreFit, IsFirstUnfit}
use Rattle.image_blobs.specs.image_fits.declared.chosen.ChosenEntity.{ChosenEntity}
use Rattle.image_blobs.proofs.image_fits_lemmas.Choices.{part_there}
use Rattle.image_chosen_facts.specs.Choosing.{IsChosenSlot}
use Rattle.image_chosen_facts.specs.Parts.{IsAcceptedWith}
use Rattle.image_chosen_facts.proofs.Reading.{slot_body}

abbrev pub bad_at : ℕ → ℕ → Bad
bad_at block place = record { block = block; place = place }

-- the body of one that doesn't fit is bad
pub unfit_at : (image : Image) (count : ℕ) (recs : List Rec) (area : Area) (parts : ℕ → Option Part) (p : ℕ → ℕ) (x slot : ℕ) (bad : Bad) → p ≡ cut_of recs → IsChosenSlot p recs x slot
    → AreSpelt image recs parts → count ≡ count_in image → IsFirstUnfit count recs parts x → bad ≡ record { block = body_at area slot; place = 0 } → IsUnfit image recs area bad
unfit_at image count recs area parts p x slot bad is s spelt counted u place = record {
  parts = parts;
  spelt = spelt;
  entity = x;
  part = u.part;
  is = u.is;
  rec = s.rec;
  body = body_at area slot;
  at = slot_body recs p is x slot s area (body_at area slot) refl;
  before = λ y q lt at. subst (λ (n : ℕ). IsFit n recs parts y q) counted (u.before y q lt at);
  unfit = λ fit. u.unfit (subst (λ (n : ℕ). IsFit n recs parts x u.part) (sym counted) fit);
  place = place;
}

-- only a chosen one is told
pub told_chosen : (count : ℕ) (recs : List Rec) (es : List (Option ChosenEntity)) (p : ℕ → ℕ) (x : ℕ) → p ≡ cut_of recs → AreChosen recs es → IsFirstUnfit count recs (parts_of es) x → chosen_by p recs x ≡ None → ⊥
told_chosen count recs es p x is chose u none =
    let there = part_there (entity_at es x) u.part u.is in
    let some : chosen recs x ≡ Some there.0.rec = chose x ∙ ap record_in there.1 in
    clash (chosen recs x) there.0.rec (ap (λ (f : ℕ → ℕ). chosen_by f recs x) (sym is) ∙ none) some

-- THE IMAGE

module _ (image : Image) (log : ImageLog) (is : IsLogOf image log) where
  pub accepted_with : (parts : ℕ → Option Part) → AreSpelt image log.recs.items parts → AreFit log.blocks log.recs.items parts → IsAcceptedWith image log.recs.items parts
  accepted_with parts spelt fit = record {
    whole = record {
      recs = log.recs.items;
      has = is.has;
      parts = parts;
      spelt = spelt;
      fit = λ x part at. subst (λ (n : ℕ). IsFit n log.recs.items parts x part) is.blocks (fit x part at);
    };
    recs_are = refl;
    parts_are = refl;
  }

  pub blob_meaning : (bad : Bad) → IsBadBlob image log.recs.items log.area bad → IsBadMeaning image bad
  blob_meaning bad b = record { recs = log.recs.items; has = is.has; fault = inl (subst (λ (a : Area). IsBadBlob image log.recs.items a bad) (sym is.area) b) }

  pub unfit_meaning : (bad : Bad) → IsUnfit image log.recs.items log.area bad → IsBadMeaning image bad
  unfit_meaning bad u = record { recs = log.recs.items; has = is.has; fault = inr (subst (λ (a : Area). IsUnfit image log.recs.items a bad) (sym is.area) u) }
