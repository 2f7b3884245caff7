-- A value that comes back is put at its number, and so all of them stand in order.
use Rattle.std.proofs.Common.{◌≡◌, ◌≢◌, ◌||◌, ℕ, ◌+◌, ◌<◌, ◌≤◌, true, ne_eqb, List, [], ◌∷◌, ◌++◌, length, set, take, Option, Some, inl, inr, sym, ap, ◌∙◌, subst, arith, None, get_or}
use Rattle.std.specs.Prelude.{slice_get}
use Rattle.std.proofs.lemmas.Bool.{cases_eq, false≢true}
use Rattle.std.proofs.lemmas.List.{get_or-set_other, get_or-set_same, length-map, length-set, take_more}
use Rattle.std.proofs.lemmas.Option.{get_or_from_slice_get, slice_get-get_or, slice_get_cases, slice_get_within}
use Rattle.thread_history.specs.Numbers.{AllBelow}
use Rattle.thread_history.specs.Rules.{AllDiffer, is_among}
use Rattle.thread_history.proofs.Numbers.{all_there}
use Rattle.thread_ties.specs.Rules.{Shown}
use Rattle.thread_ties.specs.Sides.{AllAgree, AllWithin, Ending, numbers_of}
use Rattle.thread_returns.specs.Values.{AreBack}

-- an item, after a change in its place and elsewhere
module _ {A : Type 0} (xs : List A) (i : ℕ) (a : A) where
  put_here : i < length xs → slice_get (set xs i a) i ≡ Some a
  put_here lt =
      slice_get-get_or (set xs i a) i a (let same = length-set xs i a in omega (arith, lt, same))
      ∙ ap (λ (x : A). Some x) (get_or-set_same xs i a a lt)

  pub put_else : (j : ℕ) (y : A) → j ≢ i → slice_get xs j ≡ Some y → slice_get (set xs i a) j ≡ Some y
  put_else j y other at =
      slice_get-get_or (set xs i a) j y (let same = length-set xs i a in let within = slice_get_within xs j y at in omega (arith, within, same))
      ∙ ap (λ (x : A). Some x) (get_or-set_other xs i j a y other ∙ get_or_from_slice_get xs j y y at)

module _ {V : Type 0} where
  pub none_back : (e : Ending V) (places : List (Option V)) → e.back ≡ [] → AreBack e places
  none_back e places none = record {
    differ = subst (λ (fs : List (Shown V)). AllDiffer (numbers_of fs)) (sym none) tt;
    within = subst (λ (fs : List (Shown V)). AllWithin e.values fs) (sym none) tt;
    stand = λ k among. absurd (false≢true (subst (λ (fs : List (Shown V)). is_among k (numbers_of fs) ≡ true) none among));
  }

  -- ONE MORE comes back, of number n, with its value
  module _ (e : Ending V) (places : List (Option V)) (f : Shown V) (v : V) (n : ℕ) (len : length places ≡ length e.values) (back : AreBack e places) (number : f.number ≡ n) (value : f.value ≡ Some v) where
    stands : AllWithin e.values (f ∷ e.back) → AllAgree e.values (f ∷ e.back) → (k : ℕ) → is_among k (f.number ∷ numbers_of e.back) ≡ true → slice_get (set places n (Some v)) k ≡ Some (slice_get e.values k)
    stands within agreed k among =
        let low : n < length places = (let w = within.0 in omega (arith, w, number, len)) in
        elim (cases_eq f.number k) as (λ _. slice_get (set places n (Some v)) k ≡ Some (slice_get e.values k)) [
          | inl here ↦
              subst (λ j. slice_get (set places n (Some v)) j ≡ Some (slice_get e.values j)) (sym number ∙ here)
              (put_here places n (Some v) low ∙ ap (λ (o : Option V). Some o) (sym value ∙ (sym agreed.0 ∙ ap (slice_get e.values) number)))
          | inr other ↦
              put_else places n (Some v) k (slice_get e.values k) (λ same. other (number ∙ sym same))
              (back.stand k (sym (ap (λ b. b || is_among k (numbers_of e.back)) (ne_eqb f.number k other)) ∙ among))
        ]

    pub one_back : (d : Ending V) → d ≡ record { values = e.values; back = f ∷ e.back } → AllDiffer (numbers_of d.back) → AllWithin d.values d.back → AllAgree d.values d.back → AreBack d (set places n (Some v))
    one_back d is differ within agreed =
        let inside = subst (λ (z : Ending V). AllWithin z.values z.back) is within in
        let same = subst (λ (z : Ending V). AllAgree z.values z.back) is agreed in
        subst (λ (z : Ending V). AreBack z (set places n (Some v))) (sym is) (record {
          differ = subst (λ (z : Ending V). AllDiffer (numbers_of z.back)) is differ;
          within = inside;
          stand = stands inside same;
        })

  -- ALL are there
  below_of : (vs : List V) (fs : List (Shown V)) → AllWithin vs fs → AllBelow (length vs) (numbers_of fs)
  below_of vs [] w = tt
  below_of vs (f ∷ fs) w = (w.0, below_of vs fs w.1)

  pub all_back : (e : Ending V) (places : List (Option V)) → AreBack e places → length e.values ≤ length e.back → (k : ℕ) → k < length e.values → slice_get places k ≡ Some (slice_get e.values k)
  all_back e places back all k low =
      let many = length-map e.back (λ (f : Shown V). f.number) in
      back.stand k (all_there (length e.values) (numbers_of e.back) back.differ (below_of e.values e.back back.within) (omega (arith, all, many)) k low)

  -- the same of what is seen of them
  pub all_seen : (e d : Ending V) (places : List (Option V)) → e ≡ d → AreBack e places → length d.values ≤ length d.back → (k : ℕ) → k < length d.values → slice_get places k ≡ Some (slice_get d.values k)
  all_seen e d places is back = all_back d places (subst (λ (z : Ending V). AreBack z places) is back)

  -- the next of them
  pub next_back : (vs ws : List V) (n : ℕ) (v : V) → slice_get vs n ≡ Some v → ws ≡ take n vs → ws ++ v ∷ [] ≡ take (n + 1) vs
  next_back vs ws n v at so_far =
      ap (λ (l : List V). l ++ v ∷ []) so_far
      ∙ (ap (λ (x : V). take n vs ++ x ∷ []) (sym (get_or_from_slice_get vs n v v at))
      ∙ sym (take_more vs n v (slice_get_within vs n v at)))

-- the value at a place, as it is read there
module _ {V : Type 0} (ps : List (Option V)) (vs : List V) (n : ℕ) (o : Option V) (at : slice_get ps n ≡ Some (slice_get vs n)) (read : o ≡ get_or ps n o) where
  pub value_is : o ≡ slice_get vs n
  value_is = read ∙ get_or_from_slice_get ps n (slice_get vs n) o at

  pub value_here : n < length vs → o ≡ None → ⊥
  value_here low none =
      let v = slice_get_cases vs n in
      elim v.1 as (λ _. ⊥) [
        | inl there ↦ (let clash : None ≡ Some there.0 = sym none ∙ (value_is ∙ there.2) in cc clash)
        | inr past ↦ (let over = past.0 in omega (arith, over, low))
      ]
