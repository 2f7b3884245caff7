-- Sums over entities.
use Rattle.std.proofs.Common.{◌≡◌, ℕ, zero, suc, ◌+◌, ◌*◌, ◌≤◌, ◌<◌, Bool, true, false, ◌==◌, cond, List, [], ◌∷◌, count_by, refl, sym, ap, ◌∙◌, arith, eq-eqb, inl, inr}
use Rattle.std.specs.List.{AllByRecursion, sum_by}
use Rattle.std.proofs.lemmas.Bool.{cases_lt}
use Rattle.std.proofs.lemmas.List.Sums.{sum_by-cons, sum_by_push}
use Rattle.base_types.specs.Edges.{upto}
use Rattle.kernel_invariant.proofs.model_sound_runs_lemmas.Counting.{total, total_mono}
use Rattle.kernel_block_laws.proofs.Counting.{count_more}

pub total_upto : (f : ℕ → ℕ) (n : ℕ) → sum_by f (upto n) ≡ total f n
total_upto f zero = refl
total_upto f (suc n) = (let more = sum_by_push f (upto n) n in let rest = total_upto f n in omega (arith, more, rest))

pub total_add : (f g : ℕ → ℕ) (n : ℕ) → total (λ x. f x + g x) n ≡ total f n + total g n
total_add f g zero = refl
total_add f g (suc n) = (let rest = total_add f g n in omega (arith, rest))

pub total_scale : (k : ℕ) (f : ℕ → ℕ) (n : ℕ) → total (λ x. k * f x) n ≡ k * total f n
total_scale k f zero = omega arith
total_scale k f (suc n) = (let rest = total_scale k f n in omega (arith, rest))

pub total_point : (k : ℕ) (f : ℕ → ℕ) (n : ℕ) → k < n → f k ≤ total (λ x. cond (k == x) (f x) 0) n
total_point k f zero lt = absurd (omega (arith, lt))
total_point k f (suc n) lt = elim (cases_lt k n) as (λ _. f k ≤ total (λ x. cond (k == x) (f x) 0) (suc n)) [
  | inl low ↦ (let rest = total_point k f n low in omega (arith, rest))
  | inr high ↦ (
      let is : k ≡ n = omega (arith, lt, high) in
      let here : cond (k == n) (f n) 0 ≡ f k = ap (λ t. cond t (f n) 0) (eq-eqb k n is) ∙ ap f (sym is) in
      omega (arith, here))
]

split_one : (t : Bool) (c r : ℕ) → (cond t 1 0 + c) * r ≡ cond t r 0 + c * r
split_one true c r = omega arith
split_one false c r = omega arith

product_le : (a b r : ℕ) → a ≤ b → a * r ≤ b * r
product_le a b zero le = omega arith
product_le a b (suc r) le = (let rest = product_le a b r le in omega (arith, rest, le))

module _ {A : Type 0} (f : A → ℕ) (key : A → ℕ) (room : ℕ → ℕ) (m : ℕ) where
  -- each costs at most the room of its entity
  abbrev pub AreWithin : List A → Type 0
  AreWithin xs = AllByRecursion (λ x. (key x < m) × (f x ≤ room (key x))) xs

  abbrev cost : List A → ℕ → ℕ
  cost xs k = count_by (λ x. key x == k) xs * room k

  cost_more : (x : A) (xs : List A) (k : ℕ) → cond (key x == k) (room k) 0 + cost xs k ≤ cost (x ∷ xs) k
  cost_more x xs k =
      let more : count_by (λ y. key y == k) (x ∷ xs) ≡ cond (key x == k) 1 0 + count_by (λ y. key y == k) xs = count_more (λ y. key y == k) x xs in
      let product : cost (x ∷ xs) k ≡ (cond (key x == k) 1 0 + count_by (λ y. key y == k) xs) * room k = ap (λ n. n * room k) more in
      let split = split_one (key x == k) (count_by (λ y. key y == k) xs) (room k) in
      omega (arith, product, split)

  sum_cost : (xs : List A) → AreWithin xs → sum_by f xs ≤ total (cost xs) m
  sum_cost [] all = omega arith
  sum_cost (x ∷ xs) ((low, within), all) =
      let rest = sum_cost xs all in
      let sum = sum_by-cons f x xs in
      let point = total_point (key x) room m low in
      let add = total_add (λ k. cond (key x == k) (room k) 0) (cost xs) m in
      let more = total_mono (λ k. cond (key x == k) (room k) 0 + cost xs k) (cost (x ∷ xs)) (cost_more x xs) m in
      omega (arith, rest, sum, point, add, more, within)

  -- so where there are at most n of each entity, all together cost n times all rooms
  pub sum_bound : (n : ℕ) (xs : List A) → AreWithin xs → ((k : ℕ) → count_by (λ x. key x == k) xs ≤ n) → sum_by f xs ≤ n * sum_by room (upto m)
  sum_bound n xs all few =
      let sum = sum_cost xs all in
      let less = total_mono (cost xs) (λ k. n * room k) (λ k. product_le (count_by (λ x. key x == k) xs) n (room k) (few k)) m in
      let scale = total_scale n room m in
      let same : n * sum_by room (upto m) ≡ n * total room m = ap (λ t. n * t) (total_upto room m) in
      omega (arith, sum, less, scale, same)
