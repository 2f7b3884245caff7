-- The chosen records as the newest ones of a log of them alone.
use Rattle.std.proofs.Common.{◌≡◌, ◌⊎◌, inl, inr, ℕ, zero, suc, ◌<◌, ◌≤◌, List, [], Option, Some, None, refl, sym, ap, subst, ◌∙◌, ⊎_elim, arith}
use Rattle.std.specs.Prelude.{All, AllPairs, Any, Contains, slice_index}
use Rattle.std.proofs.lemmas.Bool.{cases_lt}
use Rattle.std.proofs.lemmas.List.Elements.{All-from_recursion, Contains-append_left, Contains-append_right}
use Rattle.cell_wish_laws.specs.model_cut_laws.Agreeing.{nothing}
use Rattle.cell_wish_laws.specs.model_cut_laws.Records.{commits_of}
use Rattle.base_types.specs.Edges.{upto}
use Rattle.base_types.specs.declared.records.Rec.{Rec}
use Rattle.page_store.proofs.model_kernel_lemmas.Lowering.{greatest_is}
use Rattle.page_store.specs.model_kernel.Choices.{Among, Commit, IsBelow, IsGreatest}
use Rattle.kernel_record_facts.specs.image_meaning.Parts.{chosen, chosen_by, cut_of}
use Rattle.kernel_records.specs.Keeping.{HasNewest}
use Rattle.store_snapshots.specs.log_facts.Logs.{AreInRange, IsOlder}
use Rattle.store_snapshots.specs.store_facts.Choosing.{chosen_list, listed}
use Rattle.store_snapshots.proofs.store_facts_lemmas.Chosen.{are_row, chosen_is, chosen_more, picked}
use Rattle.store_snapshots.proofs.store_facts_lemmas.Opened.{narrow_in_range}
use Rattle.store_snapshots.proofs.store_facts_lemmas.ChosenAlone.{row_of}
use Rattle.store_snapshots.proofs.store_facts_lemmas.ChosenRows.{row_all}

-- the version of a chosen record, 0 for none; and its stamp
abbrev pub version_in : Option Rec → ℕ
version_in None = 0
version_in (Some r) = r.version

abbrev pub stamp_in : Option Rec → List ℕ
stamp_in None = []
stamp_in (Some r) = r.stamp

-- RECORDS

module _ (count : ℕ) (recs : List Rec) (range : AreInRange count recs) (older : AllPairs IsOlder recs) where
  g : IsGreatest nothing (commits_of recs) (cut_of recs)
  g = greatest_is nothing (commits_of recs) (narrow_in_range count recs range)

  in_row : (n x : ℕ) (r : Rec) → x < n → chosen recs x ≡ Some r → Contains (chosen_list (cut_of recs) recs (upto n)) r
  in_row zero x r lt is = absurd (omega (arith, lt))
  in_row (suc n) x r lt is =
      let front : List Rec = chosen_list (cut_of recs) recs (upto n) in
      let back : List Rec = listed (chosen_by (cut_of recs) recs n) in
      subst (λ (l : List Rec). Contains l r) (sym (chosen_more (cut_of recs) recs n))
      (⊎_elim
      (λ (low : x < n). Contains-append_left front back r (in_row n x r low is))
      (λ (high : n ≤ x).
      let same : x ≡ n = omega (arith, lt, high) in
      let here : chosen recs n ≡ Some r = subst (λ (k : ℕ). chosen recs k ≡ Some r) same is in
      let one : Contains (listed (Some r)) r = (0, omega arith, refl) in
      Contains-append_right front back r (subst (λ (o : Option Rec). Contains (listed o) r) (sym here) one))
      (cases_lt x n))

  low_entity : (x : ℕ) (r : Rec) → chosen recs x ≡ Some r → x < 64
  low_entity x r is =
      let c = chosen_is (cut_of recs) recs x r is in
      let of = c.entity in
      let lt = (range c.place r c.here).entity in
      omega (arith, of, lt)

  same_rec : (q r : Rec) → Some q ≡ Some r → q ≡ r
  same_rec q r is = cc

  clash : {X : Type 0} (o : Option Rec) (r : Rec) → o ≡ None → o ≡ Some r → X
  clash o r none some = absurd (let e : None ≡ Some r = sym none ∙ some in cc)

  -- a chosen record rests on the choice
  stamp_low : (x : ℕ) (r : Rec) → chosen recs x ≡ Some r → (y : ℕ) → slice_index r.stamp y ≤ cut_of recs y
  stamp_low x r is y =
      let c = chosen_is (cut_of recs) recs x r is in
      ⊎_elim
      (λ (none : cut_of recs x ≡ nothing x). absurd (let some = (range c.place r c.here).versions.0 in let version = c.version in omega (arith, none, some, version)))
      (λ (among : Among (commits_of recs) (λ (k : Commit). (k.entity ≡ x) × (k.version ≡ cut_of recs x) × IsBelow k.stamp (cut_of recs))).
      let p = picked (cut_of recs) recs x (λ (k : Commit). IsBelow k.stamp (cut_of recs)) older among in
      let same : p.rec ≡ r = same_rec p.rec r (sym p.chosen ∙ is) in
      subst (λ (q : Rec). slice_index q.stamp y ≤ cut_of recs y) same (p.has y))
      (g.closed x)

  -- the choice takes the versions of the chosen records
  cut_version : (y : ℕ) (o : Option Rec) → chosen recs y ≡ o → cut_of recs y ≡ version_in o
  cut_version y (Some q) is = sym (chosen_is (cut_of recs) recs y q is).version
  cut_version y None is = ⊎_elim
      (λ (none : cut_of recs y ≡ nothing y). none)
      (λ (among : Among (commits_of recs) (λ (k : Commit). (k.entity ≡ y) × (k.version ≡ cut_of recs y) × IsBelow k.stamp (cut_of recs))).
      let p = picked (cut_of recs) recs y (λ (k : Commit). IsBelow k.stamp (cut_of recs)) older among in
      clash (chosen recs y) p.rec is p.chosen)
      (g.closed y)

  module _ (n : ℕ → ℕ) (newest : (x : ℕ) → n x ≡ version_in (chosen recs x)) where
    abbrev pub stamps : ℕ → List ℕ
    stamps x = stamp_in (chosen recs x)

    row_facts : (P : Rec → Type 0) → ((x : ℕ) (r : Rec) → x < 64 → chosen recs x ≡ Some r → P r) → All P (row_of recs)
    row_facts P each = All-from_recursion P (row_of recs) (row_all (cut_of recs) recs P 64 each)

    one_newest : (x : ℕ) (o : Option Rec) → chosen recs x ≡ o → (n x ≡ 0) ⊎ Any (λ (r : Rec). (r.entity ≡ x) × (r.version ≡ n x) × (r.stamp ≡ stamps x)) (row_of recs)
    one_newest x None is = inl (newest x ∙ ap version_in is)
    one_newest x (Some r) is =
        let at = in_row 64 x r (low_entity x r is) is in
        inr (at.0, r, at.1, at.2, ((chosen_is (cut_of recs) recs x r is).entity, sym (newest x ∙ ap version_in is), sym (ap stamp_in is)))

    pub row_newest : HasNewest n stamps (row_of recs)
    row_newest = record {
      most = row_facts (λ (r : Rec). r.version ≤ n r.entity) (λ x r lt is.
          let of : r.entity ≡ x = (chosen_is (cut_of recs) recs x r is).entity in
          let at : n r.entity ≡ r.version = ap n of ∙ (newest x ∙ ap version_in is) in
          omega (arith, at));
      newest = λ x. one_newest x (chosen recs x) refl;
      ascending = λ i j d lt within same. absurd (let low = (are_row (cut_of recs) recs 64).ascending i j d lt within in omega (arith, low, same));
      numbers = row_facts (λ (r : Rec). r.entity < 64) (λ x r lt is. (let of = (chosen_is (cut_of recs) recs x r is).entity in omega (arith, lt, of)));
    }

    one_below : (x y : ℕ) (o : Option Rec) → chosen recs x ≡ o → 0 < n x → slice_index (stamp_in o) y ≤ n y
    one_below x y None is some = absurd (let none = newest x ∙ ap version_in is in omega (arith, none, some))
    one_below x y (Some r) is some =
        let low = stamp_low x r is y in
        let at : n y ≡ cut_of recs y = newest y ∙ sym (cut_version y (chosen recs y) refl) in
        omega (arith, low, at)

    pub row_below : (x y : ℕ) → 0 < n x → slice_index (stamps x) y ≤ n y
    row_below x y some = one_below x y (chosen recs x) refl some
