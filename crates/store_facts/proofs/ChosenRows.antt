-- The chosen records with their page tables, as a store keeps them.
use Rattle.std.proofs.Common.{◌≡◌, ℕ, zero, suc, ◌<◌, List, [], ◌∷◌, ◌++◌, filter, Option, Some, None, refl, sym, ap, subst, ◌∙◌, arith, append-nil}
use Rattle.std.specs.Prelude.{All, AllPairs, nat_le}
use Rattle.std.specs.List.{AllByRecursion}
use Rattle.base_types.specs.Edges.{upto}
use Rattle.base_types.specs.declared.records.Rec.{Rec}
use Rattle.page_words.specs.image_meaning.Parts.{chosen, chosen_by, cut_of}
use Rattle.log_reading.specs.log_facts.Logs.{AreInRange, IsOlder}
use Rattle.data_blocks.specs.declared.ShadowTable.{ShadowTable}
use Rattle.store_facts.specs.Choosing.{chosen_list, listed, table_of, with_tables}
use Rattle.store_facts.specs.Shelves.{is_from}
use Rattle.store_facts.proofs.Chosen.{chosen_is, chosen_more}
use Rattle.store_facts.proofs.Keep.{rows_recs}
use Rattle.store_commit.proofs.Stays.{all_more}
use Rattle.page_words.specs.store_books.Books.{Books, Logged, kept_in, logged_recs}
use Rattle.store_facts.proofs.ChosenAlone.{row_cut, row_kept, row_of}

-- what is true of each chosen record is true of the row of them
module _ (cut : ℕ → ℕ) (recs : List Rec) (P : Rec → Type 0) where
  one_more : (n : ℕ) (o : Option Rec) → chosen_by cut recs n ≡ o → ((r : Rec) → chosen_by cut recs n ≡ Some r → P r) → (xs : List Rec) → AllByRecursion P xs → AllByRecursion P (xs ++ listed o)
  one_more n None is each xs all = subst (AllByRecursion P) (sym (append-nil xs)) all
  one_more n (Some r) is each xs all = all_more P xs r all (each r is)

  pub row_all : (n : ℕ) → ((x : ℕ) (r : Rec) → x < n → chosen_by cut recs x ≡ Some r → P r) → AllByRecursion P (chosen_list cut recs (upto n))
  row_all zero each = tt
  row_all (suc n) each =
      subst (AllByRecursion P) (sym (chosen_more cut recs n))
      (one_more n (chosen_by cut recs n) refl (λ r is. each n r (omega arith) is) (chosen_list cut recs (upto n)) (row_all n (λ x r lt is. each x r (omega (arith, lt)) is)))

pub rows_all : (P : Logged → Type 0) (tables : List ShadowTable) (row : List Rec) → AllByRecursion (λ (r : Rec). P (record { rec = r; table = table_of tables r.entity })) row → All P (with_tables tables row)
rows_all P tables [] all k d lt = absurd (omega (arith, lt))
rows_all P tables (r ∷ row) all zero d lt = all.0
rows_all P tables (r ∷ row) all (suc k) d lt = rows_all P tables row all.1 k d (omega (arith, lt))

-- a row is the chosen record of its entity, with the table of it
pub record IsRow (recs : List Rec) (tables : List ShadowTable) (l : Logged) : Type 0 where
  pub is_chosen : chosen recs l.rec.entity ≡ Some l.rec
  pub low : l.rec.entity < 64
  pub table : l.table ≡ table_of tables l.rec.entity

pub are_rows : (recs : List Rec) (tables : List ShadowTable) → All (IsRow recs tables) (with_tables tables (row_of recs))
are_rows recs tables =
    rows_all (IsRow recs tables) tables (row_of recs)
    (row_all (cut_of recs) recs (λ (r : Rec). IsRow recs tables (record { rec = r; table = table_of tables r.entity })) 64 (λ x r lt is.
    let of : r.entity ≡ x = (chosen_is (cut_of recs) recs x r is).entity in
    record { is_chosen = ap (chosen recs) of ∙ is; low = omega (arith, lt, of); table = refl }))

-- those of these records that are kept
abbrev pub kept_from : List Logged → List Logged
kept_from ls = filter (λ (l : Logged). nat_le (cut_of (logged_recs ls) l.rec.entity) l.rec.version) ls

-- THE ROWS are all kept
pub rows_stay : (count : ℕ) (recs : List Rec) → AreInRange count recs → AllPairs IsOlder recs → (tables : List ShadowTable) (b : Books) → b.logged ≡ with_tables tables (row_of recs) → kept_in b ≡ with_tables tables (row_of recs)
rows_stay count recs range older tables b is =
    let rows : List Logged = with_tables tables (row_of recs) in
    let cut : cut_of (logged_recs rows) ≡ cut_of recs = ap cut_of (rows_recs tables (row_of recs)) ∙ row_cut count recs range older in
    ap kept_from is
    ∙ (ap (λ (c : ℕ → ℕ). filter (is_from c) rows) cut ∙ sym (row_kept count recs range older tables).kept)
