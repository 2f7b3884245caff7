-- How many records each entity has.
use Rattle.std.proofs.Common.{◌≡◌, ℕ, ◌+◌, ◌<◌, ◌==◌, Bool, cond, fold, List, [], ◌∷◌, ◌++◌, length, replicate, set, take, get_or, count_by, inl, inr, refl, sym, ap, subst, ◌∙◌, arith, eq-eqb}
use Rattle.std.specs.Prelude.{slice_index}
use Rattle.std.proofs.lemmas.Bool.{cases_eq}
use Rattle.std.proofs.lemmas.List.{get_or-replicate, get_or-set_other, get_or-set_same, take_more, take_more_set}
use Rattle.std.proofs.lemmas.List.Sums.{sum_by_push}
use Rattle.base_types.specs.declared.records.Rec.{Rec}
use Rattle.log_reading.proofs.image_facts_lemmas.Firsts.{ne_test}
use Rattle.data_blocks.specs.declared.ShadowTable.{ShadowTable}
use Rattle.store_facts.specs.Shelves.{AreTallied, logged_with, records_of}
use Rattle.store_facts.proofs.Shelving.{first_recs}
use Rattle.page_words.specs.store_books.Books.{Logged, logged_recs}

pub none_tallied : AreTallied (replicate 64 0) []
none_tallied x lt = get_or-replicate 64 x 0 0 lt

-- one record more
pub tally_more : (counts : List ℕ) (recs : List Rec) (r : Rec) (n : ℕ) → length counts ≡ 64 → r.entity < 64 → n ≡ slice_index counts r.entity → AreTallied counts recs → AreTallied (set counts r.entity (n + 1)) (recs ++ r ∷ [])
tally_more counts recs r n len low is all x lt =
    let more = sum_by_push (λ (q : Rec). cond {A = ℕ} (q.entity == x) 1 0) recs r in
    let before = all x lt in
    elim (cases_eq x r.entity) as (λ _. slice_index (set counts r.entity (n + 1)) x ≡ count_by (λ (q : Rec). q.entity == x) (recs ++ r ∷ [])) [
      | inl same ↦
          let here : slice_index (set counts r.entity (n + 1)) x ≡ n + 1 = ap (slice_index (set counts r.entity (n + 1))) same ∙ get_or-set_same counts r.entity (n + 1) 0 (omega (arith, len, low)) in
          let one : ◌≡◌ {A = ℕ} (cond {A = ℕ} (r.entity == x) 1 0) 1 = ap (λ (b : Bool). cond {A = ℕ} b 1 0) (eq-eqb r.entity x (sym same)) in
          let at : slice_index counts x ≡ slice_index counts r.entity = ap (slice_index counts) same in
          omega (arith, here, one, at, is, more, before)
      | inr apart ↦
          let other : slice_index (set counts r.entity (n + 1)) x ≡ slice_index counts x = get_or-set_other counts r.entity x (n + 1) 0 apart in
          let none : ◌≡◌ {A = ℕ} (cond {A = ℕ} (r.entity == x) 1 0) 0 = ap (λ (b : Bool). cond {A = ℕ} b 1 0) (ne_test r.entity x (λ e. apart (sym e))) in
          omega (arith, other, none, more, before)
    ]

-- the next record of a list, and one that is put behind the first ones
module _ (counts : List ℕ) (recs : List Rec) (i x : ℕ) (r : Rec) (len : length counts ≡ 64) (low : r.entity < 64) (same : x ≡ r.entity) (lt : i < length recs) (all : AreTallied counts (take i recs)) where
  more_at : AreTallied (set counts x (slice_index counts x + 1)) (take i recs ++ r ∷ [])
  more_at = subst (λ (y : ℕ). AreTallied (set counts y (slice_index counts y + 1)) (take i recs ++ r ∷ [])) (sym same) (tally_more counts (take i recs) r (slice_index counts r.entity) len low refl all)

  pub tally_next : r ≡ get_or recs i r → AreTallied (set counts x (slice_index counts x + 1)) (take (i + 1) recs)
  tally_next is = subst (AreTallied (set counts x (slice_index counts x + 1))) (ap (λ (q : Rec). take i recs ++ q ∷ []) is ∙ sym (take_more recs i r lt)) more_at

  pub tally_pushed : AreTallied (set counts x (slice_index counts x + 1)) (take (i + 1) (set recs i r))
  tally_pushed = subst (AreTallied (set counts x (slice_index counts x + 1))) (sym (take_more_set recs i r lt)) more_at

-- of records on a shelf
count_of : (x a : ℕ) (ls : List Logged) → fold (λ (n : ℕ) (r : Rec). n + cond {A = ℕ} (r.entity == x) 1 0) a (logged_recs ls) ≡ fold (λ (n : ℕ) (l : Logged). n + cond {A = ℕ} (l.rec.entity == x) 1 0) a ls
count_of x a [] = refl
count_of x a (l ∷ ls) = count_of x (a + cond {A = ℕ} (l.rec.entity == x) 1 0) ls

pub tally_read : (counts : List ℕ) (rs : List Rec) (ts : List ShadowTable) (n x : ℕ) → length ts ≡ length rs → AreTallied counts (take n rs) → x < 64 → slice_index counts x ≡ records_of x (take n (logged_with rs ts))
tally_read counts rs ts n x len all lt =
    all x lt ∙ (ap (count_by (λ (r : Rec). r.entity == x)) (first_recs rs ts n len) ∙ count_of x 0 (take n (logged_with rs ts)))

-- where the same records are the first ones
pub tally_copied : (counts : List ℕ) (recs rs : List Rec) (tables ts : List ShadowTable) (n : ℕ) → length tables ≡ length recs → length ts ≡ length rs → take n (logged_with rs ts) ≡ take n (logged_with recs tables) → AreTallied counts (take n recs) → AreTallied counts (take n rs)
tally_copied counts recs rs tables ts n len long same all =
    subst (AreTallied counts) (first_recs recs tables n len ∙ (ap logged_recs (sym same) ∙ sym (first_recs rs ts n long))) all
