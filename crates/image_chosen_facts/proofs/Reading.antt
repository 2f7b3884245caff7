-- What is chosen of one entity, and of those that are read so far.
use Rattle.std.proofs.Common.{◌≡◌, ℕ, ◌+◌, ◌<◌, ◌≤◌, List, [], ◌∷◌, ◌++◌, length, get_or, Option, Some, None, refl, sym, ap, subst, ◌∙◌, ⊎_elim, ◌⊎◌, arith}
use Rattle.std.specs.Prelude.{All, IfSome, MatchOption, slice_get}
use Rattle.std.proofs.lemmas.Bool.{cases_lt}
use Rattle.std.proofs.lemmas.List.{get_or-take, get_or_append_left, get_or_push, length-take}
use Rattle.std.proofs.lemmas.List.Elements.{All-from_get_or}
use Rattle.edge_disk.specs.Image.{Image}
use Rattle.base_types.specs.declared.records.Rec.{Rec}
use Rattle.image_blobs.specs.Loading.{IsBadRecord}
use Rattle.image_blobs.specs.image_facts.Bodies.{blob_blocks, blocks_for}
use Rattle.image_blobs.specs.image_blocks.Checks.{Bad}
use Rattle.image_blobs.specs.image_blocks.Layout.{body_at}
use Rattle.image_blobs.specs.image_facts.Logs.{IsInRange}
use Rattle.image_blobs.specs.image_blocks.declared.areas.Area.{Area}
use Rattle.image_blobs.specs.image_meaning.Foreign.{IsBadBlob, IsBadRest, IsBadSpelling, IsBodyBlock}
use Rattle.image_blobs.specs.image_meaning.Parts.{AreFormed, AreSpelt, IsFormed, IsSpelt, Part, chosen, chosen_by, cut_of}
use Rattle.image_blobs.proofs.image_meaning_lemmas.Finding.{slot_of}
use Rattle.image_blobs.proofs.image_meaning_lemmas.Firsts.{clash}
use Rattle.image_blobs.specs.log_facts.Logs.{AreInRange}
use Rattle.image_blobs.specs.image_fits.Chosen.{entity_at, part_in, part_of, parts_of, record_in, records_of}
use Rattle.image_blobs.specs.image_fits.Fits.{AreChosen}
use Rattle.image_blobs.specs.image_fits.declared.chosen.ChosenEntity.{ChosenEntity}
use Rattle.image_blobs.proofs.image_fits_lemmas.Choices.{none_past}
use Rattle.image_chosen_facts.specs.Choosing.{IsBadEntity, IsBadSlot, IsChosenSlot}
use Rattle.image_chosen_facts.proofs.Slots.{chosen_entity}
use Rattle.std.proofs.lemmas.Option.{same_Some}

-- ONE RECORD

-- the blocks of its blob are an image's
pub blocks_there : (count n : ℕ) (before : List Rec) (r : Rec) → IsInRange count before r → count ≤ n → All (λ b. b < n) (blob_blocks r)
blocks_there count n before r range within =
    All-from_get_or (λ b. b < n) (blob_blocks r) 0
    (λ k lt.
    let long = length-take (blocks_for r.length) r.blocks in
    let at : k < blocks_for r.length = omega (arith, lt, long) in
    let same = get_or-take (blocks_for r.length) r.blocks k 0 at in
    let low = (range.needed k at).1 in
    let lower : get_or r.blocks k 0 < n = omega (arith, low, within) in
    subst (λ (m : ℕ). m < n) (sym same) lower)

-- THE RECORD OF A SLOT

module _ (recs : List Rec) (p : ℕ → ℕ) (is : p ≡ cut_of recs) (x slot : ℕ) (s : IsChosenSlot p recs x slot) where
  slot_taken : chosen recs x ≡ Some s.rec
  slot_taken = ap (λ (f : ℕ → ℕ). chosen_by f recs x) (sym is) ∙ s.is_chosen

  slot_record : (r : Rec) → slice_get recs slot ≡ Some r → s.rec ≡ r
  slot_record r there = same_Some s.rec r (sym s.there ∙ there)

  pub slot_chosen : (r : Rec) → slice_get recs slot ≡ Some r → chosen recs x ≡ Some r
  slot_chosen r there = slot_taken ∙ ap Some (slot_record r there)

  pub slot_entity : (r : Rec) → slice_get recs slot ≡ Some r → r.entity ≡ x
  slot_entity r there = chosen_entity (cut_of recs) recs x r (slot_chosen r there)

  pub slot_body : (area : Area) (block : ℕ) → block ≡ body_at area slot → IsBodyBlock area recs x s.rec block
  slot_body area block at = record { slot = slot; there = s.there; first = s.first; is_chosen = slot_taken; is = at }

  pub slot_bad : (image : Image) (area : Area) (bad : Bad) → IsBadSlot image recs area slot bad → IsBadEntity image recs area x bad
  slot_bad image area bad b =
      let same : b.rec ≡ s.rec = sym (slot_record b.rec b.there) in
      let fault : IsBadRecord image s.rec (body_at area slot) bad = subst (λ (r : Rec). IsBadRecord image r (body_at area slot) bad) same b.fault in
      record {
        rec = s.rec;
        body = body_at area slot;
        at = slot_body area (body_at area slot) refl;
        fault = subst (λ (y : ℕ). IsBadSpelling y image s.rec (body_at area slot) bad ⊎ IsBadRest y image s.rec bad) (slot_entity s.rec s.there) fault;
      }

-- no record is chosen of a number that is no entity's
pub none_far : (count : ℕ) (recs : List Rec) (x : ℕ) → AreInRange count recs → 64 ≤ x → chosen recs x ≡ None
none_far count recs x range far = by (chosen recs x) refl
  where
    by : (o : Option Rec) → chosen recs x ≡ o → chosen recs x ≡ None
    by None is = is
    by (Some r) is =
        let at = slot_of (cut_of recs) x recs r is in
        let low = (range at.0 r at.1).entity in
        let same = chosen_entity (cut_of recs) recs x r is in
        absurd (omega (arith, low, same, far))

-- THE ENTITIES THAT ARE READ

abbrev pub IsSpeltEntity : Image → ℕ → Option ChosenEntity → Type 0
IsSpeltEntity image x o = IfSome o (λ e. IsSpelt image x e.rec (part_of e.part))

abbrev pub IsFormedEntity : ℕ → Option ChosenEntity → Type 0
IsFormedEntity x o = IfSome o (λ e. IsFormed x (part_of e.part))

abbrev pub FormedTo : List (Option ChosenEntity) → ℕ → Type 0
FormedTo es n = (x : ℕ) → x < n → IsFormedEntity x (entity_at es x)

abbrev pub ChosenTo : List Rec → List (Option ChosenEntity) → ℕ → Type 0
ChosenTo recs es n = (x : ℕ) → x < n → chosen recs x ≡ records_of es x

abbrev pub SpeltTo : Image → List (Option ChosenEntity) → ℕ → Type 0
SpeltTo image es n = (x : ℕ) → x < n → IsSpeltEntity image x (entity_at es x)

-- one more behind the others
module _ (es : List (Option ChosenEntity)) (o : Option ChosenEntity) where
  at_front : (x : ℕ) → x < length es → entity_at (es ++ o ∷ []) x ≡ entity_at es x
  at_front x lt = get_or_append_left es (o ∷ []) None x lt

  at_end : (n : ℕ) → length es ≡ n → entity_at (es ++ o ∷ []) n ≡ o
  at_end n long = get_or_push es o None n long

  -- what holds of each of them and of the one behind
  pub with_one : (P : ℕ → Option ChosenEntity → Type 0) (n : ℕ) → length es ≡ n → ((x : ℕ) → x < n → P x (entity_at es x)) → P n o → (x : ℕ) → x < n + 1 → P x (entity_at (es ++ o ∷ []) x)
  with_one P n long before here x lt = ⊎_elim
      (λ (less : x < n). subst (P x) (sym (at_front x (omega (arith, less, long)))) (before x less))
      (λ (high : n ≤ x).
      let same : n ≡ x = omega arith in
      subst (λ (k : ℕ). P k (entity_at (es ++ o ∷ []) k)) same (subst (P n) (sym (at_end n long)) here))
      (cases_lt x n)

-- all of them
pub all_chosen : (count : ℕ) (recs : List Rec) (es : List (Option ChosenEntity)) → AreInRange count recs → length es ≡ 64 → ChosenTo recs es 64 → AreChosen recs es
all_chosen count recs es range long to x = ⊎_elim
    (λ (less : x < 64). to x less)
    (λ (far : 64 ≤ x). none_far count recs x range far ∙ sym (ap record_in (none_past es x (omega (arith, far, long)))))
    (cases_lt x 64)

-- what is spelt by what is chosen of an entity
spelt_one : (image : Image) (x : ℕ) (c : Option Rec) (o : Option ChosenEntity) → c ≡ record_in o → IsSpeltEntity image x o
    → MatchOption c (part_in o ≡ None) (λ r. (part : Part) × (part_in o ≡ Some part) × IsSpelt image x r part)
spelt_one image x c None is spelt = subst (λ (d : Option Rec). MatchOption d (part_in None ≡ None) (λ r. (part : Part) × (part_in None ≡ Some part) × IsSpelt image x r part)) (sym is) refl
spelt_one image x c (Some e) is spelt =
    subst (λ (d : Option Rec). MatchOption d (part_in (Some e) ≡ None) (λ r. (part : Part) × (part_in (Some e) ≡ Some part) × IsSpelt image x r part)) (sym is) (part_of e.part, refl, spelt)

spelt_past : (image : Image) (es : List (Option ChosenEntity)) (x : ℕ) → length es ≤ x → IsSpeltEntity image x (entity_at es x)
spelt_past image es x past = subst (IsSpeltEntity image x) (sym (none_past es x past)) tt

pub all_spelt : (image : Image) (recs : List Rec) (es : List (Option ChosenEntity)) → AreChosen recs es → length es ≡ 64 → SpeltTo image es 64 → AreSpelt image recs (parts_of es)
all_spelt image recs es chose long to x = spelt_one image x (chosen recs x) (entity_at es x) (chose x)
    (⊎_elim (λ (less : x < 64). to x less) (λ (far : 64 ≤ x). spelt_past image es x (omega (arith, far, long))) (cases_lt x 64))

-- what is in form of what is chosen of an entity
formed_one : (x : ℕ) (o : Option ChosenEntity) (p : Part) → part_in o ≡ Some p → IsFormedEntity x o → IsFormed x p
formed_one x None p is formed = clash None p refl is
formed_one x (Some e) p is formed = subst (IsFormed x) (same (part_of e.part) p is) formed
  where
    same : (q r : Part) → Some q ≡ Some r → q ≡ r
    same q r is = cc

pub all_formed : (es : List (Option ChosenEntity)) → length es ≡ 64 → FormedTo es 64 → AreFormed (parts_of es)
all_formed es long to x p is = formed_one x (entity_at es x) p is
    (⊎_elim (λ (less : x < 64). to x less) (λ (far : 64 ≤ x). subst (IsFormedEntity x) (sym (none_past es x (omega (arith, far, long)))) tt) (cases_lt x 64))

-- the part of a chosen record that is read
part_read : (image : Image) (x : ℕ) (r : Rec) (o : Option ChosenEntity) → Some r ≡ record_in o → IsSpeltEntity image x o → (part : Part) × IsSpelt image x r part
part_read image x r None is spelt = clash None r refl (sym is)
part_read image x r (Some e) is spelt = (part_of e.part, subst (λ (q : Rec). IsSpelt image x q (part_of e.part)) (sym (same_Some r e.rec is)) spelt)

-- the first bad one
pub first_bad_blob : (image : Image) (recs : List Rec) (area : Area) (es : List (Option ChosenEntity)) (n x : ℕ) (bad : Bad) → x ≡ n → ChosenTo recs es n → SpeltTo image es n → IsBadEntity image recs area x bad
    → IsBadBlob image recs area bad
first_bad_blob image recs area es n x bad same chose spelt b = record {
  entity = x;
  rec = b.rec;
  body = b.body;
  at = b.at;
  before = λ y r lt is. part_read image y r (entity_at es y) (sym is ∙ chose y (omega (arith, lt, same))) (spelt y (omega (arith, lt, same)));
  fault = b.fault;
}
