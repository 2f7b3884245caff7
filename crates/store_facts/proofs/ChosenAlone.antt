-- The chosen records alone: the greatest closed choice takes the same of them.
use Rattle.std.proofs.Common.{◌≡◌, ◌≢◌, ℕ, zero, suc, ◌<◌, ◌≤◌, Bool, true, false, ◌&&◌, ◌==◌, if◌then◌else◌, List, [], ◌∷◌, ◌++◌, Option, Some, None, refl, sym, ap, subst, ◌∙◌, ⊎_elim, arith}
use Rattle.std.specs.Prelude.{AllPairs}
use Rattle.std.proofs.lemmas.Bool.{cases_lt}
use Rattle.data_cuts.specs.model_cut_laws.Agreeing.{nothing}
use Rattle.data_cuts.specs.model_cut_laws.Records.{commits_of}
use Rattle.base_types.specs.Edges.{upto}
use Rattle.base_types.specs.declared.records.Rec.{Rec}
use Rattle.page_store.proofs.model_kernel_lemmas.Lowering.{greatest_is, greatest_one}
use Rattle.page_store.specs.model_kernel.Choices.{IsGreatest, IsNarrow}
use Rattle.log_reading.proofs.image_facts_lemmas.Firsts.{ne_test}
use Rattle.page_words.specs.image_meaning.Parts.{chosen, chosen_by, cut_of}
use Rattle.page_words.proofs.image_meaning_lemmas.Finding.{passes}
use Rattle.log_reading.specs.log_facts.Logs.{AreInRange, IsOlder}
use Rattle.data_blocks.specs.declared.ShadowTable.{ShadowTable}
use Rattle.store_facts.specs.Choosing.{chosen_list, listed, with_tables}
use Rattle.store_facts.specs.Keeping.{AreKept}
use Rattle.store_facts.proofs.Chosen.{are_row, chosen_greatest, chosen_is, chosen_more}
use Rattle.store_facts.proofs.Keep.{rows_kept, rows_recs}
use Rattle.store_facts.proofs.Opened.{narrow_in_range}

-- IN A LIST behind another

no_some : {X : Type 0} (r : Rec) → None ≡ Some r → X
no_some r clash = absurd (let e : None ≡ Some r = clash in cc)

front : (cut : ℕ → ℕ) (xs ys : List Rec) (x : ℕ) (r : Rec) → chosen_by cut xs x ≡ Some r → chosen_by cut (xs ++ ys) x ≡ Some r
front cut [] ys x r is = no_some r is
front cut (q ∷ xs) ys x r is = by_test (λ at. front cut xs ys x r at) (q.entity == x && q.version == cut x) is
  where
    by_test : (chosen_by cut xs x ≡ Some r → chosen_by cut (xs ++ ys) x ≡ Some r) → (b : Bool) → (if b then Some q else chosen_by cut xs x) ≡ Some r → (if b then Some q else chosen_by cut (xs ++ ys) x) ≡ Some r
    by_test later true at = at
    by_test later false at = later at

behind : (cut : ℕ → ℕ) (xs ys : List Rec) (x : ℕ) → chosen_by cut xs x ≡ None → chosen_by cut (xs ++ ys) x ≡ chosen_by cut ys x
behind cut [] ys x none = refl
behind cut (q ∷ xs) ys x none = by_test (λ at. behind cut xs ys x at) (q.entity == x && q.version == cut x) none
  where
    by_test : (chosen_by cut xs x ≡ None → chosen_by cut (xs ++ ys) x ≡ chosen_by cut ys x) → (b : Bool) → (if b then Some q else chosen_by cut xs x) ≡ None → (if b then Some q else chosen_by cut (xs ++ ys) x) ≡ chosen_by cut ys x
    by_test later true at = no_some q (sym at)
    by_test later false at = later at

-- THE ROW of them

abbrev pub row_of : List Rec → List Rec
row_of recs = chosen_list (cut_of recs) recs (upto 64)

module _ (cut : ℕ → ℕ) (recs : List Rec) where
  own : (n : ℕ) (o : Option Rec) → chosen_by cut recs n ≡ o → chosen_by cut (listed o) n ≡ o
  own n None is = refl
  own n (Some r) is = ap (λ (b : Bool). if b then Some r else None) (passes cut n recs r is)

  other : (n x : ℕ) (o : Option Rec) → chosen_by cut recs n ≡ o → n ≢ x → chosen_by cut (listed o) x ≡ None
  other n x None is apart = refl
  other n x (Some r) is apart =
      let of : r.entity ≡ n = (chosen_is cut recs n r is).entity in
      ap (λ (b : Bool). if b && r.version == cut x then Some r else None) (ne_test r.entity x (λ same. apart (sym of ∙ same)))

  past : (n x : ℕ) → n ≤ x → chosen_by cut (chosen_list cut recs (upto n)) x ≡ None
  past zero x le = refl
  past (suc n) x le =
      ap (λ (l : List Rec). chosen_by cut l x) (chosen_more cut recs n)
      ∙ (behind cut (chosen_list cut recs (upto n)) (listed (chosen_by cut recs n)) x (past n x (omega (arith, le)))
      ∙ other n x (chosen_by cut recs n) refl (λ same. absurd (omega (arith, le, same))))

  earlier : (n x : ℕ) → x < n → (o : Option Rec) → chosen_by cut recs x ≡ o → chosen_by cut (chosen_list cut recs (upto n)) x ≡ chosen_by cut recs x
      → chosen_by cut (chosen_list cut recs (upto n) ++ listed (chosen_by cut recs n)) x ≡ chosen_by cut recs x
  earlier n x lt None is at =
      behind cut (chosen_list cut recs (upto n)) (listed (chosen_by cut recs n)) x (at ∙ is)
      ∙ (other n x (chosen_by cut recs n) refl (λ same. absurd (omega (arith, lt, same))) ∙ sym is)
  earlier n x lt (Some r) is at = front cut (chosen_list cut recs (upto n)) (listed (chosen_by cut recs n)) x r (at ∙ is) ∙ sym is

  within : (n x : ℕ) → x < n → chosen_by cut (chosen_list cut recs (upto n)) x ≡ chosen_by cut recs x
  within zero x lt = absurd (omega (arith, lt))
  within (suc n) x lt =
      ap (λ (l : List Rec). chosen_by cut l x) (chosen_more cut recs n)
      ∙ ⊎_elim
      (λ (low : x < n). earlier n x low (chosen_by cut recs x) refl (within n x low))
      (λ (high : n ≤ x).
      let same : n ≡ x = omega (arith, lt, high) in
      subst (λ (k : ℕ). chosen_by cut (chosen_list cut recs (upto n) ++ listed (chosen_by cut recs n)) k ≡ chosen_by cut recs k) same
      (behind cut (chosen_list cut recs (upto n)) (listed (chosen_by cut recs n)) n (past n n (omega arith)) ∙ own n (chosen_by cut recs n) refl))
      (cases_lt x n)

module _ (count : ℕ) (recs : List Rec) (range : AreInRange count recs) (older : AllPairs IsOlder recs) where
  row_greatest : IsGreatest nothing (commits_of (row_of recs)) (cut_of recs)
  row_greatest = chosen_greatest (cut_of recs) recs older (λ i r here. (range i r here).entity) (greatest_is nothing (commits_of recs) (narrow_in_range count recs range))

  pub row_kept : (tables : List ShadowTable) → AreKept (with_tables tables (row_of recs)) (with_tables tables (row_of recs)) (cut_of recs)
  row_kept tables = rows_kept (cut_of recs) recs (row_of recs) 64 count (are_row (cut_of recs) recs 64) range tables row_greatest

  -- their greatest closed choice is the log's
  pub row_cut : cut_of (row_of recs) ≡ cut_of recs
  row_cut =
      let narrow : IsNarrow (commits_of (row_of recs)) = subst (λ (rs : List Rec). IsNarrow (commits_of rs)) (rows_recs [] (row_of recs)) (row_kept []).narrow in
      greatest_one nothing (commits_of (row_of recs)) (cut_of (row_of recs)) (cut_of recs) (greatest_is nothing (commits_of (row_of recs)) narrow) row_greatest

  none_past : (x : ℕ) → 64 ≤ x → (o : Option Rec) → chosen recs x ≡ o → o ≡ None
  none_past x le None is = refl
  none_past x le (Some r) is =
      let c = chosen_is (cut_of recs) recs x r is in
      absurd (let lt = (range c.place r c.here).entity in let of = c.entity in omega (arith, le, lt, of))

  -- and takes the same record of each entity
  pub same_chosen : (x : ℕ) → chosen (row_of recs) x ≡ chosen recs x
  same_chosen x =
      ap (λ (cut : ℕ → ℕ). chosen_by cut (row_of recs) x) row_cut
      ∙ ⊎_elim
      (λ (low : x < 64). within (cut_of recs) recs 64 x low)
      (λ (high : 64 ≤ x). past (cut_of recs) recs 64 x high ∙ sym (none_past x high (chosen recs x) refl))
      (cases_lt x 64)
