-- The kept records agree with the log, before a commit and behind it.
use Rattle.std.proofs.Common.{◌≡◌, ℕ, ◌≤◌, true, List, [], ◌∷◌, ◌++◌, refl, sym, ap, ◌∙◌, arith}
use Rattle.std.specs.Prelude.{filter}
use Rattle.std.proofs.lemmas.Bool.{le-leb, leb-true}
use Rattle.std.proofs.lemmas.List.Elements.{filter-append}
use Rattle.base_types.specs.declared.records.Rec.{Rec}
use Rattle.store_books.specs.model_kernel.Choices.{IsBelow, IsGreatest}
use Rattle.store_books.specs.model_cut_laws.Agreeing.{nothing}
use Rattle.store_books.specs.model_cut_laws.Records.{commits_of, is_rec_from, recs_from}
use Rattle.store_books.proofs.model_cut_laws_lemmas.Filters.{filter_within}
use Rattle.store_books.proofs.model_cut_laws_lemmas.Joins.{same_greatest}
use Rattle.store_books.proofs.image_meaning_lemmas.Choosing.{from_commits}
use Rattle.store_commit.specs.Agreed.{AgreedLaw}

raise : (cut p : ℕ → ℕ) → IsBelow cut p → (r : Rec) → is_rec_from p r ≡ true → is_rec_from cut r ≡ true
raise cut p below r h = le-leb (cut r.entity) r.version (let a : p r.entity ≤ r.version = leb-true (p r.entity) r.version h in let b : cut r.entity ≤ p r.entity = below r.entity in omega arith)

-- from a later cut on, with one record more behind the kept ones
from_later : (cut p : ℕ → ℕ) (recs : List Rec) (r : Rec) → IsBelow cut p → recs_from p (recs ++ r ∷ []) ≡ recs_from p (recs_from cut recs ++ r ∷ [])
from_later cut p recs r below =
    filter-append (is_rec_from p) recs (r ∷ [])
    ∙ (ap (λ rs. rs ++ filter (is_rec_from p) (r ∷ [])) (sym (filter_within (is_rec_from cut) (is_rec_from p) (raise cut p below) recs))
    ∙ sym (filter-append (is_rec_from p) (recs_from cut recs) (r ∷ [])))

-- a list that agrees from the greatest choice on has it too
greatest_too : (cut : ℕ → ℕ) (rs qs : List Rec) → recs_from cut rs ≡ recs_from cut qs → IsGreatest nothing (commits_of rs) cut → IsGreatest nothing (commits_of qs) cut
greatest_too cut rs qs same greatest = same_greatest nothing cut (commits_of rs) (commits_of qs) (from_commits cut rs ∙ (ap commits_of same ∙ sym (from_commits cut qs))) greatest

-- those at or above the greatest choice have it too
pub greatest_kept : (cut : ℕ → ℕ) (rs : List Rec) → IsGreatest nothing (commits_of rs) cut → IsGreatest nothing (commits_of (recs_from cut rs)) cut
greatest_kept cut rs greatest = greatest_too cut rs (recs_from cut rs) (sym (filter_within (is_rec_from cut) (is_rec_from cut) (λ q h. h) rs)) greatest

-- THE KEPT RECORDS, at or above the greatest closed choice, agree so
pub are_agreed : AgreedLaw
are_agreed recs r cut next greatest greatest_next below =
    let kept : List Rec = recs_from cut recs in
    let same : recs_from cut recs ≡ recs_from cut (recs_from cut recs) = sym (filter_within (is_rec_from cut) (is_rec_from cut) (λ q h. h) recs) in
    let later : recs_from next (recs ++ r ∷ []) ≡ recs_from next (recs_from cut recs ++ r ∷ []) = from_later cut next recs r below in
    record {
      agree = record { cut = cut; greatest = greatest; same = same };
      kept_agree = record { cut = cut; greatest = greatest_too cut recs (recs_from cut recs) same greatest; same = refl };
      agree_more = record { cut = next; greatest = greatest_next; same = later };
      kept_agree_more = record { cut = next; greatest = greatest_too next (recs ++ r ∷ []) (recs_from cut recs ++ r ∷ []) later greatest_next; same = refl };
    }
