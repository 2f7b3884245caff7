-- How many records are kept, and which are newer.
use Rattle.std.proofs.Common.{◌≡◌, ℕ, ◌+◌, Bool, cond, count_by, fold, List, [], ◌∷◌, length, nat_le, refl, sym, ap, ◌∙◌}
use Rattle.std.specs.Prelude.{slice_index}
use Rattle.std.proofs.lemmas.List.Sums.{length-filter}
use Rattle.base_types.specs.declared.records.Rec.{Rec}
use Rattle.store_snapshots.specs.store_books.Books.{Books, Logged, cut_in, kept_in, logged_recs, recs_in}

count_recs : (p : Rec → Bool) (a : ℕ) (ls : List Logged) → fold (λ (n : ℕ) (r : Rec). n + cond {A = ℕ} (p r) 1 0) a (logged_recs ls) ≡ fold (λ (n : ℕ) (l : Logged). n + cond {A = ℕ} (p l.rec) 1 0) a ls
count_recs p a [] = refl
count_recs p a (l ∷ ls) = count_recs p (a + cond {A = ℕ} (p l.rec) 1 0) ls

-- the records at or above the choice are those that are kept
pub kept_many : (b : Books) (cut : List ℕ) (recs : List Rec) (n : ℕ) → recs ≡ recs_in b → ((x : ℕ) → slice_index cut x ≡ cut_in b x) → n ≡ count_by (λ (r : Rec). nat_le (slice_index cut r.entity) r.version) recs → length (kept_in b) ≡ n
kept_many b cut recs n is same count =
    let p : Rec → Bool = λ r. nat_le (cut_in b r.entity) r.version in
    let q : Rec → Bool = λ r. nat_le (slice_index cut r.entity) r.version in
    let tests : q ≡ p = λ i r. nat_le (same r.entity i) r.version in
    length-filter (λ (l : Logged). p l.rec) b.logged
    ∙ (sym (count_recs p 0 b.logged)
    ∙ (ap (λ (t : Rec → Bool). count_by t (recs_in b)) (sym tests) ∙ (ap (λ (rs : List Rec). count_by q rs) (sym is) ∙ sym count)))
