-- What is seen of the pages after a change of the page table or of the frames.
use Rattle.std.proofs.Common.{◌≡◌, ◌≢◌, ℕ, suc, ◌+◌, ◌<◌, false, cond, List, [], ◌∷◌, length, get_or, set, map, Option, Some, None, is_some, count_by, refl, sym, ap, ◌∙◌, inl, inr, zero-add, arith}
use Rattle.std.proofs.lemmas.Bool.{cases_eq}
use Rattle.std.proofs.lemmas.List.{get_or-map, get_or-set_same, get_or-set_other, length-map, length-set}
use Rattle.std.proofs.lemmas.List.Sums.{sum_by-set, sum_by-cons}
use Rattle.slab.specs.Slab.{Slab}
use Rattle.data_frames.specs.declared.clock.Frame.{Frame}
use Rattle.data_frames.specs.FrameTable.{Resident}
use Rattle.data_frames.specs.Held.{seen_in, key_of}

-- two lists of one length with the same at each place are equal
pub list_ext : {X : Type 0} (xs ys : List X) (d : X) → length xs ≡ length ys → ((i : ℕ) → i < length xs → get_or xs i d ≡ get_or ys i d) → xs ≡ ys
list_ext [] [] d e same = refl
list_ext [] (y ∷ ys) d e same = absurd (omega arith)
list_ext (x ∷ xs) [] d e same = absurd (omega arith)
list_ext (x ∷ xs) (y ∷ ys) d e same =
    let first : x ≡ y = same 0 (omega arith) in
    let rest : xs ≡ ys = list_ext xs ys d (omega arith) (λ i within. same (suc i) (omega arith)) in
    cc

-- one page is seen as this, and every other page as before
pub pages_changed :
    (old new : Slab Frame) (table table' : List (Option ℕ)) (page : ℕ) (slot : Option Resident)
    → length table' ≡ length table → page < length table → seen_in new (key_of table' page) ≡ slot
    → ((other : ℕ) → other ≢ page → seen_in new (key_of table' other) ≡ seen_in old (key_of table other))
    → map (seen_in new) table' ≡ set (map (seen_in old) table) page slot
pages_changed old new table table' page slot len within at others =
    list_ext _ _ None (omega (arith, length-map table' (seen_in new), length-map table (seen_in old), length-set (map (seen_in old) table) page slot)) each
  where
    each : (i : ℕ) → i < length (map (seen_in new) table') → get_or (map (seen_in new) table') i None ≡ get_or (set (map (seen_in old) table) page slot) i None
    each i inside =
        let inside' : i < length table' = omega (arith, length-map table' (seen_in new)) in
        let left = get_or-map (seen_in new) table' i None None inside' in
        elim (cases_eq i page) [
          | inl same ↦
              let right = get_or-set_same (map (seen_in old) table) page slot None (omega (arith, length-map table (seen_in old))) in
              left ∙ ap (λ n. seen_in new (key_of table' n)) same ∙ at ∙ sym right ∙ ap (λ n. get_or (set (map (seen_in old) table) page slot) n None) (sym same)
          | inr differs ↦
              left ∙ others i differs ∙ sym (get_or-map (seen_in old) table i None None (omega arith)) ∙ sym (get_or-set_other (map (seen_in old) table) page i slot None differs)
        ]

module _ {X : Type 0} (xs : List (Option X)) (i : ℕ) (within : i < length xs) where
  counted : Option X → ℕ
  counted o = cond (is_some o) 1 0

  count-set : (y : Option X) → count_by is_some (set xs i y) + counted (get_or xs i None) ≡ count_by is_some xs + counted y
  unfolding counted
  count-set y = sum_by-set (λ o. cond (is_some o) 1 0) xs i y None within

  none_counts : counted None ≡ 0
  unfolding counted
  none_counts = refl

  some_counts : (y : X) → counted (Some y) ≡ 1
  unfolding counted
  some_counts y = refl

  -- one more is there after a write to an empty place
  pub count-set_new : (y : X) → get_or xs i None ≡ None → count_by is_some (set xs i (Some y)) ≡ count_by is_some xs + 1
  count-set_new y at = omega (arith, count-set (Some y), some_counts y, ap counted at, none_counts)

  -- one fewer after an end of one
  pub count-set_gone : (x : X) → get_or xs i None ≡ Some x → count_by is_some (set xs i None) + 1 ≡ count_by is_some xs
  count-set_gone x at = omega (arith, count-set None, some_counts x, ap counted at, none_counts)

  -- as many after one takes the place of another
  pub count-set_kept : (x y : X) → get_or xs i None ≡ Some x → count_by is_some (set xs i (Some y)) ≡ count_by is_some xs
  count-set_kept x y at = omega (arith, count-set (Some y), some_counts x, ap counted at, some_counts y)

-- where each is there exactly where the other is, there are as many
pub count-map : {X Y : Type 0} (f : Option X → Option Y) (xs : List (Option X)) → ((i : ℕ) → i < length xs → is_some (f (get_or xs i None)) ≡ is_some (get_or xs i None)) → count_by is_some (map f xs) ≡ count_by is_some xs
count-map f [] same = refl
count-map f (x ∷ xs) same =
    let first = same 0 (omega arith) in
    let rest = count-map f xs (λ i within. same (suc i) (omega arith)) in
    sum_by-cons (λ o. cond (is_some o) 1 0) (f x) (map f xs) ∙ ap (λ b. cond b 1 0 + count_by is_some (map f xs)) first
    ∙ ap (λ n. cond (is_some x) 1 0 + n) rest ∙ sym (sum_by-cons (λ o. cond (is_some o) 1 0) x xs)

-- a list with nothing at any place has none
pub count-none : {X : Type 0} (xs : List (Option X)) → ((i : ℕ) → get_or xs i None ≡ None) → count_by is_some xs ≡ 0
count-none [] none = refl
count-none (x ∷ xs) none =
    let first : x ≡ None = none 0 in
    let rest = count-none xs (λ i. none (suc i)) in
    sum_by-cons (λ o. cond (is_some o) 1 0) x xs ∙ ap (λ o. cond (is_some o) 1 0 + count_by is_some xs) first ∙ zero-add (count_by is_some xs) ∙ rest

-- what is nothing
pub not_some : {X : Type 0} (o : Option X) → is_some o ≡ false → o ≡ None
not_some None e = refl
not_some (Some x) e = absurd (cc e)

-- two lists that have something at the same places have as much
pub count-same : {X : Type 0} (xs ys : List (Option X)) → ((i : ℕ) → is_some (get_or xs i None) ≡ is_some (get_or ys i None)) → count_by is_some xs ≡ count_by is_some ys
count-same [] ys same = sym (count-none ys (λ i. not_some (get_or ys i None) (sym (same i))))
count-same (x ∷ xs) [] same = count-none (x ∷ xs) (λ i. not_some (get_or (x ∷ xs) i None) (same i))
count-same (x ∷ xs) (y ∷ ys) same =
    let first : is_some x ≡ is_some y = same 0 in
    let rest : count_by is_some xs ≡ count_by is_some ys = count-same xs ys (λ i. same (suc i)) in
    sum_by-cons (λ o. cond (is_some o) 1 0) x xs ∙ ap (λ b. cond b 1 0 + count_by is_some xs) first
    ∙ ap (λ n. cond (is_some y) 1 0 + n) rest ∙ sym (sum_by-cons (λ o. cond (is_some o) 1 0) y ys)
