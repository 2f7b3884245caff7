-- The kept records are those of the log at or above its greatest closed choice.
use Rattle.std.proofs.Common.{◌≡◌, ℕ, Bool, true, false, List, [], ◌∷◌, nat_le, if◌then◌else◌, refl, sym, ap, ◌∙◌, arith}
use Rattle.std.proofs.lemmas.List.{get_or_past}
use Rattle.std.specs.Prelude.{filter, map}
use Rattle.edge_disk.specs.Image.{Image}
use Rattle.image_blocks.specs.base_types.declared.records.Rec.{Rec}
use Rattle.image_blocks.proofs.model_kernel_lemmas.Lowering.{greatest_is}
use Rattle.image_blocks.specs.model_kernel.Choices.{IsNarrow}
use Rattle.image_meaning.specs.model_cut_laws.Agreeing.{nothing}
use Rattle.image_meaning.proofs.model_cut_laws_lemmas.Filters.{filter_within}
use Rattle.image_meaning.specs.model_cut_laws.Records.{AgreeInRecs, commits_of, is_rec_from, recs_from}
use Rattle.image_meaning.specs.Stores.{recs_of}
use Rattle.store_books.specs.Books.{Books, HaveComponents, Logged, cut_in, kept_for, kept_of, logged_recs, recs_in}

abbrev pub at_or_above : (ℕ → ℕ) → Logged → Bool
at_or_above cut l = nat_le (cut l.rec.entity) l.rec.version

one_more : (image : Image) (l : Logged) (ls : List Logged) (rs : List Rec) (b : Bool) → recs_of (map (kept_for image) ls) ≡ rs
    → recs_of (map (kept_for image) (if b then l ∷ ls else ls)) ≡ (if b then l.rec ∷ rs else rs)
one_more image l ls rs true e = ap (λ (qs : List Rec). l.rec ∷ qs) e
one_more image l ls rs false e = e

kept_recs_by : (image : Image) (cut : ℕ → ℕ) (ls : List Logged) → recs_of (map (kept_for image) (filter (at_or_above cut) ls)) ≡ recs_from cut (logged_recs ls)
kept_recs_by image cut [] = refl
kept_recs_by image cut (l ∷ ls) =
    one_more image l (filter (at_or_above cut) ls) (recs_from cut (logged_recs ls)) (at_or_above cut l) (kept_recs_by image cut ls)

pub kept_recs : (image : Image) (b : Books) → recs_of (kept_of image b) ≡ recs_from (cut_in b) (recs_in b)
kept_recs image b = kept_recs_by image (cut_in b) b.logged

-- no component of a record is past the last entity
pub narrow_recs : (recs : List Rec) → HaveComponents recs → IsNarrow (commits_of recs)
narrow_recs [] all = tt
narrow_recs (r ∷ recs) (one, all) = ((λ y far. get_or_past r.stamp y 0 (omega (arith, one, far))), narrow_recs recs all)

-- those at or above a choice are all at or above it
above_again : (cut : ℕ → ℕ) (rs : List Rec) → recs_from cut (recs_from cut rs) ≡ recs_from cut rs
above_again cut rs = filter_within (is_rec_from cut) (is_rec_from cut) (λ r h. h) rs

pub kept_agree : (image : Image) (b : Books) → IsNarrow (commits_of (recs_in b)) → AgreeInRecs (recs_in b) (recs_of (kept_of image b))
kept_agree image b narrow = record {
  cut = cut_in b;
  greatest = greatest_is nothing (commits_of (recs_in b)) narrow;
  same = sym (above_again (cut_in b) (recs_in b)) ∙ sym (ap (recs_from (cut_in b)) (kept_recs image b));
}
