-- Which record of a log a choice takes of an entity, and in which slot.
use Rattle.std.proofs.Common.{◌≡◌, ℕ, zero, suc, ◌+◌, ◌<◌, ◌≤◌, Bool, true, false, ◌&&◌, ◌==◌, if◌then◌else◌, List, [], ◌∷◌, length, Some, None, refl, sym, ap, subst, ◌∙◌, ⊎_elim, arith, eqb-true}
use Rattle.std.specs.Prelude.{slice_get}
use Rattle.std.proofs.lemmas.Bool.{and_parts, cases_lt, false≢true}
use Rattle.std.proofs.lemmas.List.{get_or_past}
use Rattle.std.proofs.lemmas.Option.{same_Some, slice_get_within}
use Rattle.data_cuts.specs.model_cut_laws.Agreeing.{nothing}
use Rattle.data_cuts.specs.model_cut_laws.Records.{commits_of}
use Rattle.base_types.specs.declared.records.Rec.{Rec}
use Rattle.data_cuts.specs.model_kernel.Choices.{IsGreatest, IsNarrow}
use Rattle.data_cuts.proofs.model_kernel_lemmas.Lowering.{greatest_is, greatest_one}
use Rattle.image_blobs.specs.image_meaning.Parts.{chosen_by, cut_of}
use Rattle.image_blobs.proofs.image_meaning_lemmas.Finding.{passes}
use Rattle.image_blobs.proofs.image_meaning_lemmas.Firsts.{clash}
use Rattle.image_blobs.specs.log_facts.Logs.{AreInRange}
use Rattle.image_chosen_facts.specs.Choosing.{IsChosenSlot}

-- THE CUT

-- stamps of 64 components are narrow
pub narrow_all : (recs : List Rec) → ((i : ℕ) (r : Rec) → slice_get recs i ≡ Some r → length r.stamp ≡ 64) → IsNarrow (commits_of recs)
narrow_all [] each = tt
narrow_all (r ∷ recs) each = ((λ y far. get_or_past r.stamp y 0 (let len = each zero r refl in omega (arith, len, far))), narrow_all recs (λ i s here. each (suc i) s here))

-- the greatest closed choice is one alone
pub cut_is : (count : ℕ) (recs : List Rec) (p : ℕ → ℕ) → AreInRange count recs → IsGreatest nothing (commits_of recs) p → p ≡ cut_of recs
cut_is count recs p range greatest =
    greatest_one nothing (commits_of recs) p (cut_of recs) greatest (greatest_is nothing (commits_of recs) (narrow_all recs (λ i r here. (range i r here).components)))

-- THE SLOT

-- the record is of the entity, at the choice
abbrev pub is_taken : (ℕ → ℕ) → ℕ → Rec → Bool
is_taken cut x r = r.entity == x && r.version == cut x

-- none of the first records is
abbrev pub NotYet : (ℕ → ℕ) → ℕ → List Rec → ℕ → Type 0
NotYet cut x recs n = (k : ℕ) (q : Rec) → k < n → slice_get recs k ≡ Some q → is_taken cut x q ≡ false

-- one that is none, and those before it are none
pub not_more : (cut : ℕ → ℕ) (x : ℕ) (recs : List Rec) (n : ℕ) (r : Rec) → NotYet cut x recs n → slice_get recs n ≡ Some r → is_taken cut x r ≡ false → NotYet cut x recs (n + 1)
not_more cut x recs n r before here none k q lt at = ⊎_elim
    (λ (less : k < n). before k q less at)
    (λ (high : n ≤ k).
    let same : k ≡ n = omega arith in
    let is : r ≡ q = same_Some r q (sym here ∙ (ap (slice_get recs) (sym same) ∙ at)) in
    subst (λ (s : Rec). is_taken cut x s ≡ false) is none)
    (cases_lt k n)

pub none_taken : (cut : ℕ → ℕ) (x : ℕ) (recs : List Rec) (n : ℕ) → length recs ≤ n → NotYet cut x recs n → chosen_by cut recs x ≡ None
none_taken cut x [] n le none = refl
none_taken cut x (q ∷ recs) zero le none = absurd (omega (arith, le))
none_taken cut x (q ∷ recs) (suc n) le none =
    ap (λ (b : Bool). if b then Some q else chosen_by cut recs x) (none zero q (omega arith) refl)
    ∙ none_taken cut x recs n (omega (arith, le)) (λ k s lt at. none (suc k) s (omega (arith, lt)) at)

first_taken : (cut : ℕ → ℕ) (x : ℕ) (recs : List Rec) (n : ℕ) (r : Rec) → NotYet cut x recs n → slice_get recs n ≡ Some r → is_taken cut x r ≡ true → chosen_by cut recs x ≡ Some r
first_taken cut x [] n r none here good = clash (slice_get [] n) r refl here
first_taken cut x (q ∷ recs) zero r none here good =
    let is : q ≡ r = same_Some q r here in
    ap (λ (b : Bool). if b then Some q else chosen_by cut recs x) (subst (λ (s : Rec). is_taken cut x s ≡ true) (sym is) good) ∙ ap Some is
first_taken cut x (q ∷ recs) (suc n) r none here good =
    ap (λ (b : Bool). if b then Some q else chosen_by cut recs x) (none zero q (omega arith) refl)
    ∙ first_taken cut x recs n r (λ k s lt at. none (suc k) s (omega (arith, lt)) at) here good

-- the slot at which a search stops
pub found_slot : (cut : ℕ → ℕ) (x : ℕ) (recs : List Rec) (n : ℕ) (r : Rec) → NotYet cut x recs n → slice_get recs n ≡ Some r → is_taken cut x r ≡ true → IsChosenSlot cut recs x n
found_slot cut x recs n r none here good = record {
  rec = r;
  there = here;
  first = λ earlier lt at. false≢true (sym (none earlier r lt at) ∙ good);
  is_chosen = first_taken cut x recs n r none here good;
}

-- it is one of the log's
pub slot_few : (recs : List Rec) (cut : ℕ → ℕ) (x slot : ℕ) → IsChosenSlot cut recs x slot → slot < length recs
slot_few recs cut x slot s = slice_get_within recs slot s.rec s.there

-- CHOSEN RECORDS

-- one of the entity
pub chosen_entity : (cut : ℕ → ℕ) (recs : List Rec) (x : ℕ) (r : Rec) → chosen_by cut recs x ≡ Some r → r.entity ≡ x
chosen_entity cut recs x r is = eqb-true r.entity x (and_parts (r.entity == x) (r.version == cut x) (passes cut x recs r is)).0
