-- How often a number stands in a list.
use Rattle.std.proofs.Common.{◌≡◌, ℕ, zero, suc, ◌+◌, ◌≤◌, List, [], ◌∷◌, Some, refl, ap, ◌∙◌, ⊎_elim, arith}
use Rattle.std.specs.Prelude.{Contains, slice_get, cond, ◌==◌}
use Rattle.std.proofs.lemmas.Bool.{cases_eq}
use Rattle.std.proofs.lemmas.List.Sums.{sum_by-cons}
use Rattle.std.proofs.lemmas.Option.{get_or_from_slice_get, same_Some, slice_get-get_or, slice_get_within}
use Rattle.image_fit_facts.specs.Naming.{count_of, one_at}
use Rattle.image_fit_facts.proofs.Uses.{one_other, one_same}

-- NUMBERS IN A LIST

count_cons : (n b : ℕ) (xs : List ℕ) → count_of (n ∷ xs) b ≡ one_at n b + count_of xs b
count_cons n b xs = sum_by-cons (λ (m : ℕ). cond (m == b) 1 0) n xs

pub counted : (xs : List ℕ) (k b : ℕ) → slice_get xs k ≡ Some b → 1 ≤ count_of xs b
counted [] k b e = cc
counted (n ∷ xs) zero b e = let one = one_same n b (same_Some n b e) in let all = count_cons n b xs in omega (arith, one, all)
counted (n ∷ xs) (suc k) b e = let more = counted xs k b e in let all = count_cons n b xs in omega (arith, more, all)

pub twice : (xs : List ℕ) (p q b : ℕ) → slice_get xs p ≡ Some b → slice_get xs q ≡ Some b → (p ≡ q → ⊥) → 2 ≤ count_of xs b
twice [] p q b e f apart = cc
twice (n ∷ xs) zero zero b e f apart = absurd (apart refl)
twice (n ∷ xs) zero (suc q) b e f apart =
    let one = one_same n b (same_Some n b e) in
    let more = counted xs q b f in
    let all = count_cons n b xs in
    omega (arith, one, more, all)
twice (n ∷ xs) (suc p) zero b e f apart =
    let one = one_same n b (same_Some n b f) in
    let more = counted xs p b e in
    let all = count_cons n b xs in
    omega (arith, one, more, all)
twice (n ∷ xs) (suc p) (suc q) b e f apart =
    let more = twice xs p q b e f (λ s. apart (ap suc s)) in
    let all = count_cons n b xs in
    omega (arith, more, all)

pub contained : (xs : List ℕ) (b : ℕ) → Contains xs b → 1 ≤ count_of xs b
contained xs b (k, lt, is) = counted xs k b (slice_get-get_or xs k b lt ∙ ap Some is)

found_at : (xs : List ℕ) (b : ℕ) → 1 ≤ count_of xs b → (k : ℕ) × (slice_get xs k ≡ Some b)
found_at [] b some = absurd (omega arith)
found_at (n ∷ xs) b some = ⊎_elim
    (λ (same : n ≡ b). (0, ap Some same))
    (λ (other : n ≡ b → ⊥).
    let none = one_other n b other in
    let all = count_cons n b xs in
    let f = found_at xs b (omega (arith, none, all, some)) in
    (suc f.0, f.1))
    (cases_eq n b)

nothing : (n : ℕ) → (1 ≤ n → ⊥) → n ≡ 0
nothing zero h = refl
nothing (suc n) h = absurd (h (omega arith))

pub uncounted : (xs : List ℕ) (b : ℕ) → (Contains xs b → ⊥) → count_of xs b ≡ 0
uncounted xs b none = nothing (count_of xs b) (λ some. let f = found_at xs b some in
    none (f.0, slice_get_within xs f.0 b f.1, get_or_from_slice_get xs f.0 b b f.1))

pub counted_once : (xs : List ℕ) (b : ℕ) → ((p q : ℕ) → slice_get xs p ≡ Some b → slice_get xs q ≡ Some b → p ≡ q) → count_of xs b ≤ 1
counted_once [] b once = omega arith
counted_once (n ∷ xs) b once = ⊎_elim
    (λ (same : n ≡ b).
    let one = one_same n b same in
    let none : count_of xs b ≡ 0 = nothing (count_of xs b) (λ some. let f = found_at xs b some in
    let e : 0 ≡ suc f.0 = once 0 (suc f.0) (ap Some same) f.1 in omega (arith, e)) in
    let all = count_cons n b xs in
    omega (arith, one, none, all))
    (λ (other : n ≡ b → ⊥).
    let none = one_other n b other in
    let all = count_cons n b xs in
    let more = counted_once xs b (λ p q e f. let s = once (suc p) (suc q) e f in omega (arith, s)) in
    omega (arith, none, all, more))
    (cases_eq n b)
