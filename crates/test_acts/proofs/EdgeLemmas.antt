-- Counts of regions by what they show.
use Rattle.std.proofs.Common.{◌≡◌, ℕ, zero, suc, ◌+◌, ◌<◌, ◌≤◌, Bool, true, false, ◌==◌, nat_lt, if◌then◌else◌, List, take, Some, slice_get, refl, sym, ap, ◌∙◌, arith}
use Rattle.std.specs.Prelude.{All}
use Rattle.std.proofs.lemmas.List.Sums.{count_by_more_no, count_by_more_yes}
use Rattle.std.proofs.lemmas.Bool.Decides.{nat_tests}
use Rattle.std.proofs.lemmas.Option.{slice_get_within, get_or_from_slice_get}
use Rattle.base_types.specs.Edges.{Edges}
use Rattle.base_types.specs.declared.capabilities.Region.{Region}
use Rattle.model_circles.specs.Containers.{IsAmongContainers}
use Rattle.plain_states.specs.Born.{shown}
use Rattle.plain_states.proofs.model_sound_runs_lemmas.Tables.{shown_target}

one_more_by : (t : ℕ) (xs : List Region) (i : ℕ) (x : Region) → slice_get xs i ≡ Some x → (b : Bool) → (x.target == t) ≡ b → shown (take (i + 1) xs) t ≡ shown (take i xs) t + (if b then 1 else 0)
one_more_by t xs i x h true e = count_by_more_yes (λ (r : Region). r.target == t) xs i x (slice_get_within xs i x h) (ap (λ (r : Region). r.target == t) (get_or_from_slice_get xs i x x h) ∙ e)
one_more_by t xs i x h false e =
    let more = count_by_more_no (λ (r : Region). r.target == t) xs i x (slice_get_within xs i x h) (ap (λ (r : Region). r.target == t) (get_or_from_slice_get xs i x x h) ∙ e) in
    omega (arith, more)

-- the count with one region more
pub one_more : (t : ℕ) (xs : List Region) (i : ℕ) (x : Region) → slice_get xs i ≡ Some x → shown (take (i + 1) xs) t ≡ shown (take i xs) t + (if x.target == t then 1 else 0)
one_more t xs i x h = one_more_by t xs i x h (x.target == t) refl

none_past : (most n y : ℕ) → (1 ≤ n → y < most) → most ≤ y → n ≡ 0
none_past most zero y low far = refl
none_past most (suc n) y low far = let bad = low (omega arith) in absurd (omega (arith, bad))

module _ (edges : Edges) (c : ℕ) (rs : List Region) (inside : IsAmongContainers edges) (all : All (λ (r : Region). r.target < 64) rs) where
  past : (y : ℕ) → 64 ≤ y → edges c y ≡ shown rs y
  past y far =
      let none = none_past 64 (shown rs y) y (λ some. shown_target (λ z. z < 64) rs y all some) far in
      let unborn = none_past 41 (edges c y) y (λ some. (inside c y some).3) (omega (arith, far)) in
      unborn ∙ sym none

  by_side : (t y : ℕ) → ((z : ℕ) → z < t → edges c z ≡ shown rs z) → 64 ≤ t → (b : Bool) → nat_lt y t ≡ b → edges c y ≡ shown rs y
  by_side t y counted end true e = counted y (grind (arith, nat_tests))
  by_side t y counted end false e = past y (grind (arith, nat_tests))

  -- what is counted to each entity is counted to each number
  pub all_counted : (t : ℕ) → ((z : ℕ) → z < t → edges c z ≡ shown rs z) → 64 ≤ t → (y : ℕ) → edges c y ≡ shown rs y
  all_counted t counted end y = by_side t y counted end (nat_lt y t) refl
