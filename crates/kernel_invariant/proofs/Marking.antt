-- Fronts of a history, and how many of its entries complete records.
use Rattle.std.proofs.Common.{◌≡◌, ℕ, ◌+◌, true, false, cond, List, [], ◌∷◌, ◌++◌, count_by, refl, sym, ◌∙◌, arith, ◌⊎◌, inl, inr}
use Rattle.std.proofs.lemmas.List.Sums.{sum_by-append, sum_by-cons}
use Rattle.store_books.specs.base_types.declared.histories.Entry.{Entry}
use Rattle.kernel_invariant.specs.Marks.{completes}

-- of two fronts one is the front of the other
pub comparable : {A : Type 0} (xs ys zs ws : List A) → xs ++ zs ≡ ys ++ ws → ((ds : List A) × (ys ≡ xs ++ ds)) ⊎ ((ds : List A) × (xs ≡ ys ++ ds))
comparable [] ys zs ws e = inl (ys, refl)
comparable (x ∷ xs) [] zs ws e = inr (x ∷ xs, refl)
comparable {A = A} (x ∷ xs) (y ∷ ys) zs ws e =
    let same : x ≡ y = cc in
    let rest : xs ++ zs ≡ ys ++ ws = cc in
    elim (comparable xs ys zs ws rest) as (λ _. ((ds : List A) × (y ∷ ys ≡ x ∷ xs ++ ds)) ⊎ ((ds : List A) × (x ∷ xs ≡ y ∷ ys ++ ds))) [
      | inl d ↦ inl (d.0, (let t : ys ≡ xs ++ d.0 = d.1 in cc))
      | inr d ↦ inr (d.0, (let t : xs ≡ ys ++ d.0 = d.1 in cc))
    ]

pub count_append : (fs gs : List Entry) → count_by completes (fs ++ gs) ≡ count_by completes fs + count_by completes gs
count_append fs gs = sum_by-append (λ e. cond (completes e) 1 0) fs gs

pub count_cons : (e : Entry) (es : List Entry) → count_by completes (e ∷ es) ≡ cond (completes e) 1 0 + count_by completes es
count_cons e es = sum_by-cons (λ e. cond (completes e) 1 0) e es

pub none_of_none : (e : Entry) (es : List Entry) → count_by completes (e ∷ es) ≡ 0 → (completes e ≡ false) × (count_by completes es ≡ 0)
none_of_none e es none =
    let sum = count_cons e es in
    elim (completes e) as (λ b. cond b 1 0 + count_by completes es ≡ 0 → (b ≡ false) × (count_by completes es ≡ 0)) [
      | true ↦ λ h. absurd (omega (arith, h))
      | false ↦ λ h. (refl, omega (arith, h))
    ] (sym sum ∙ none)
