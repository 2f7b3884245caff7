-- The versions of the cut are low, since those of records are.
use Rattle.std.proofs.Common.{◌≡◌, ℕ, zero, suc, ◌≤◌, ◌^◌, inl, inr, List, [], ◌∷◌, get_or, Some, refl, ap, arith}
use Rattle.std.specs.Prelude.{All, slice_get, slice_index}
use Rattle.std.proofs.lemmas.List.Elements.{All-from_get_or}
use Rattle.image_state_laws.specs.model_cut_laws.Agreeing.{nothing}
use Rattle.image_state_laws.specs.model_cut_laws.Records.{commits_of}
use Rattle.base_types.specs.declared.records.Rec.{Rec}
use Rattle.image_facts.specs.model_kernel.Choices.{Among, Commit}
use Rattle.image_facts.proofs.model_kernel_lemmas.Lowering.{greatest_is}
use Rattle.image_facts.specs.Layout.{last_number}
use Rattle.image_state_laws.specs.image_meaning.Parts.{cut_of}
use Rattle.image_chosen.specs.log_facts.Logs.{AreInRange}
use Rattle.image_chosen.proofs.image_chosen_facts_lemmas.Slots.{narrow_all}

-- a version that some commit has is one of a record
low_among : (x n : ℕ) (P : Commit → Type 0) (recs : List Rec) → ((i : ℕ) (r : Rec) → slice_get recs i ≡ Some r → r.version ≤ last_number)
    → Among (commits_of recs) (λ c. (c.entity ≡ x) × (c.version ≡ n) × P c) → n ≤ last_number
low_among x n P [] low some = absurd some
low_among x n P (r ∷ recs) low (inl (of, is, more)) = (let h = low zero r refl in omega (arith, h, is))
low_among x n P (r ∷ recs) low (inr later) = low_among x n P recs (λ i q here. low (suc i) q here) later

cut_low : (count : ℕ) (recs : List Rec) (x : ℕ) → AreInRange count recs → cut_of recs x ≤ last_number
cut_low count recs x range =
    let greatest = greatest_is nothing (commits_of recs) (narrow_all recs (λ i r here. (range i r here).components)) in
    elim (greatest.closed x) as (λ _. cut_of recs x ≤ last_number) [
      | inl zero_is ↦ (let e : cut_of recs x ≡ 0 = zero_is in omega (arith, e))
      | inr some ↦ low_among x (cut_of recs x) (λ c. (y : ℕ) → c.stamp y ≤ cut_of recs y) recs (λ i r here. (range i r here).versions.1) some
    ]

-- each place of the cut
pub all_low : (count : ℕ) (recs : List Rec) (cut : List ℕ) → AreInRange count recs → slice_index cut ≡ cut_of recs → All (λ v. v ≤ 2 ^ 62) cut
all_low count recs cut range is = All-from_get_or (λ v. v ≤ 2 ^ 62) cut 0
    (λ i lt. let e : get_or cut i 0 ≡ cut_of recs i = ap (λ (f : ℕ → ℕ). f i) is in let low : cut_of recs i ≤ last_number = cut_low count recs i range in omega (arith, e, low))
