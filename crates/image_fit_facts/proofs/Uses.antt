-- How often blocks are named, counted up to two.
use Rattle.std.proofs.Common.{◌≡◌, ℕ, ◌+◌, ◌<◌, ◌≤◌, Bool, if◌then◌else◌, List, length, set, get_or, take, sym, ap, ◌∙◌, subst, ⊎_elim, arith, get_or-set_same, get_or-set_other, eq-eqb}
use Rattle.std.specs.Prelude.{replicate, min, sum_by}
use Rattle.std.proofs.lemmas.Bool.{cases_eq}
use Rattle.std.proofs.lemmas.List.Sums.{sum_by_more}
use Rattle.std.proofs.Common.{length-set, take_all}
use borrow.Author.Tests.{ne_eqb}
use Rattle.std.proofs.Math.Seq.{take-append_seam}
use Rattle.std.proofs.lemmas.Option.{get_or_from_slice_get, slice_get-get_or}
use Rattle.std.proofs.Common.{◌++◌}
use Rattle.image_fit_facts.specs.Naming.{AreUses, one_at}
use Rattle.data_atlas_facts.proofs.Naming.{zeros}

pub one_same : (n b : ℕ) → n ≡ b → one_at n b ≡ 1
one_same n b e = ap (λ (t : Bool). if t then 1 else 0) (eq-eqb n b e)

pub one_other : (n b : ℕ) → (n ≡ b → ⊥) → one_at n b ≡ 0
one_other n b e = ap (λ (t : Bool). if t then 1 else 0) (ne_eqb n b e)

pub past : (uses : List ℕ) (f : ℕ → ℕ) (n : ℕ) → length uses ≤ n → AreUses uses f → AreUses uses (λ b. f b + one_at n b)
past uses f n behind all b lt =
    let none : one_at n b ≡ 0 = one_other n b (λ e. omega arith) in
    let same : f b ≡ f b + one_at n b = omega (arith, none) in
    all b lt ∙ ap (λ m. min m 2) same

pub full : (uses : List ℕ) (f : ℕ → ℕ) (n : ℕ) → 2 ≤ get_or uses n 0 → AreUses uses f → AreUses uses (λ b. f b + one_at n b)
full uses f n many all b lt = ⊎_elim
    (λ (same : n ≡ b).
    let one : one_at n b ≡ 1 = one_same n b same in
    let here : 2 ≤ get_or uses b 0 = subst (λ m. 2 ≤ get_or uses m 0) same many in
    let was : get_or uses b 0 ≡ min (f b) 2 = all b lt in
    let is : min (f b) 2 ≡ min (f b + one_at n b) 2 = omega (arith, one, here, was) in
    was ∙ is)
    (λ (other : n ≡ b → ⊥).
    let none : one_at n b ≡ 0 = one_other n b other in
    let same : f b ≡ f b + one_at n b = omega (arith, none) in
    all b lt ∙ ap (λ m. min m 2) same)
    (cases_eq n b)

pub used : (uses : List ℕ) (f : ℕ → ℕ) (n : ℕ) → n < length uses → get_or uses n 0 < 2 → AreUses uses f → AreUses (set uses n (get_or uses n 0 + 1)) (λ b. f b + one_at n b)
used uses f n within few all b lt = ⊎_elim
    (λ (same : b ≡ n).
    let one : one_at n b ≡ 1 = one_same n b (sym same) in
    let here : get_or (set uses n (get_or uses n 0 + 1)) b 0 ≡ get_or uses n 0 + 1 =
    ap (λ z. get_or (set uses n (get_or uses n 0 + 1)) z 0) same ∙ get_or-set_same uses n (get_or uses n 0 + 1) 0 within in
    let was : get_or uses n 0 ≡ min (f b) 2 = ap (λ z. get_or uses z 0) (sym same) ∙ all b (subst (λ z. z < length uses) (sym same) within) in
    let is : get_or uses n 0 + 1 ≡ min (f b + one_at n b) 2 = omega (arith, one, was, few) in
    here ∙ is)
    (λ (other : b ≡ n → ⊥).
    let none : one_at n b ≡ 0 = one_other n b (λ e. other (sym e)) in
    let same : f b ≡ f b + one_at n b = omega (arith, none) in
    let there : get_or (set uses n (get_or uses n 0 + 1)) b 0 ≡ get_or uses b 0 = get_or-set_other uses n b (get_or uses n 0 + 1) 0 other in
    let long : length (set uses n (get_or uses n 0 + 1)) ≡ length uses = length-set uses n (get_or uses n 0 + 1) in
    there ∙ (all b (subst (λ m. b < m) long lt) ∙ ap (λ m. min m 2) same))
    (cases_eq b n)

pub uses_same : (uses : List ℕ) (f g : ℕ → ℕ) → ((b : ℕ) → f b ≡ g b) → AreUses uses f → AreUses uses g
uses_same uses f g same all b lt = all b lt ∙ ap (λ m. min m 2) (same b)

-- THE STEPS of a loop that counts what each element of a list names

pub summed_none : (uses : List ℕ) (f : ℕ → ℕ) → AreUses uses f → AreUses uses (λ b. f b + 0)
summed_none uses f = uses_same uses f (λ b. f b + 0) (λ b. omega arith)

pub summed_more : {X : Type 0} (uses : List ℕ) (f : ℕ → ℕ) (g : ℕ → X → ℕ) (xs : List X) (i : ℕ) (x : X) → i < length xs → x ≡ get_or xs i x
    → AreUses uses (λ b. f b + sum_by (g b) (take i xs) + g b x) → AreUses uses (λ b. f b + sum_by (g b) (take (i + 1) xs))
summed_more uses f g xs i x lt is = uses_same uses (λ b. f b + sum_by (g b) (take i xs) + g b x) (λ b. f b + sum_by (g b) (take (i + 1) xs))
    (λ b. let more = sum_by_more (g b) xs i x lt in let e = ap (g b) is in omega (arith, more, e))

pub summed_end : {X : Type 0} (uses : List ℕ) (f : ℕ → ℕ) (g : ℕ → X → ℕ) (xs : List X) (i : ℕ) → length xs ≤ i → AreUses uses (λ b. f b + sum_by (g b) (take i xs))
    → AreUses uses (λ b. f b + sum_by (g b) xs)
summed_end uses f g xs i behind = uses_same uses (λ b. f b + sum_by (g b) (take i xs)) (λ b. f b + sum_by (g b) xs) (λ b. ap (λ l. f b + sum_by (g b) l) (take_all i xs behind))

-- a number that is read from a list is read again whatever stands in for one past the end
pub read_again : (xs : List ℕ) (i : ℕ) → i < length xs → get_or xs i 0 ≡ get_or xs i (get_or xs i 0)
read_again xs i lt = sym (get_or_from_slice_get xs i (get_or xs i 0) (get_or xs i 0) (slice_get-get_or xs i 0 lt))

-- at first no block is named
pub none_used : (n : ℕ) → AreUses (replicate n 0) (λ b. 0)
none_used n b lt = zeros n b

pub put_back : (n : ℕ) (new rest : List ℕ) → n ≡ length new → take n (new ++ rest) ≡ new
put_back n new rest e = ap (λ m. take m (new ++ rest)) e ∙ take-append_seam new rest
