-- Commits whose clocks agree above a start have one greatest choice from that start.
use Rattle.std.proofs.Common.{◌≡◌, ℕ, zero, suc, ◌+◌, ◌≤◌, Bool, true, false, ◌&&◌, ◌==◌, cond, nat_le, if◌then◌else◌, max, List, [], ◌∷◌, ◌++◌, length, refl, sym, ap, ◌∙◌, arith}
use Rattle.std.proofs.lemmas.Bool.Decides.{nat_tests}
use Rattle.std.proofs.lemmas.List.Sums.{sum_by-cons}
use Rattle.model_kernel.specs.Choices.{Commit, all_below, covered, greatest, lower, lowered, top}
use Rattle.model_kernel.specs.Histories.{commits_above}
use Rattle.model_clocks.proofs.Events.{IsLikeStamp}

pub record IsLikeCommit (start : ℕ → ℕ) (c d : Commit) : Type 0 where
  pub entity : c.entity ≡ d.entity
  pub version : c.version ≡ d.version
  pub stamp : IsLikeStamp start c.stamp d.stamp

abbrev pub AreLikeCommits : (ℕ → ℕ) → List Commit → List Commit → Type 0
AreLikeCommits start [] [] = Unit {0}
AreLikeCommits start [] (d ∷ ds) = ⊥
AreLikeCommits start (c ∷ cs) [] = ⊥
AreLikeCommits start (c ∷ cs) (d ∷ ds) = IsLikeCommit start c d × AreLikeCommits start cs ds

pub like_append : (start : ℕ → ℕ) (cs ds es fs : List Commit) → AreLikeCommits start cs ds → AreLikeCommits start es fs → AreLikeCommits start (cs ++ es) (ds ++ fs)
like_append start [] [] es fs a b = b
like_append start [] (d ∷ ds) es fs a b = absurd a
like_append start (c ∷ cs) [] es fs a b = absurd a
like_append start (c ∷ cs) (d ∷ ds) es fs a b = (a.0, like_append start cs ds es fs a.1 b)

pub above_like : (start : ℕ → ℕ) (cs ds : List Commit) → AreLikeCommits start cs ds → (cut : ℕ → ℕ) (x : ℕ) → commits_above cs cut x ≡ commits_above ds cut x
above_like start [] [] like cut x = refl
above_like start [] (d ∷ ds) like cut x = absurd like
above_like start (c ∷ cs) [] like cut x = absurd like
above_like start (c ∷ cs) (d ∷ ds) like cut x =
    let test : Commit → ℕ = λ c. cond (c.entity == x && nat_le (cut x) c.version) 1 0 in
    let one : test c ≡ test d = λ i. cond (like.0.entity i == x && nat_le (cut x) (like.0.version i)) 1 0 in
    sum_by-cons test c cs ∙ (λ i. one i + above_like start cs ds like.1 cut x i) ∙ sym (sum_by-cons test d ds)

length_like : (start : ℕ → ℕ) (cs ds : List Commit) → AreLikeCommits start cs ds → length cs ≡ length ds
length_like start [] [] like = refl
length_like start [] (d ∷ ds) like = absurd like
length_like start (c ∷ cs) [] like = absurd like
length_like start (c ∷ cs) (d ∷ ds) like = ap suc (length_like start cs ds like.1)

le_same : (a b m n : ℕ) → max a m ≡ max b m → m ≤ n → nat_le a n ≡ nat_le b n
le_same a b m n same low = grind (arith, nat_tests)

covered_like : (start f g p : ℕ → ℕ) → IsLikeStamp start f g → ((y : ℕ) → start y ≤ p y) → covered f p ≡ covered g p
unfolding covered
covered_like start f g p like low = λ i. all_below (λ y. le_same (f y) (g y) (start y) (p y) (like y) (low y) i) 64

lowered_like : (start : ℕ → ℕ) (cs ds : List Commit) → AreLikeCommits start cs ds → (p : ℕ → ℕ) → ((y : ℕ) → start y ≤ p y) → (x : ℕ) → lowered start cs p x ≡ lowered start ds p x
lowered_like start [] [] like p low x = refl
lowered_like start [] (d ∷ ds) like p low x = absurd like
lowered_like start (c ∷ cs) [] like p low x = absurd like
lowered_like start (c ∷ cs) (d ∷ ds) like p low x =
    let rest = lowered_like start cs ds like.1 p low x in
    let covers = covered_like start c.stamp d.stamp p like.0.stamp low in
    λ i. if like.0.entity i == x && nat_le (like.0.version i) (p x) && covers i then max (like.0.version i) (rest i) else rest i

top_like : (start : ℕ → ℕ) (cs ds : List Commit) → AreLikeCommits start cs ds → (x : ℕ) → top start cs x ≡ top start ds x
top_like start [] [] like x = refl
top_like start [] (d ∷ ds) like x = absurd like
top_like start (c ∷ cs) [] like x = absurd like
top_like start (c ∷ cs) (d ∷ ds) like x = (let rest = top_like start cs ds like.1 x in λ i. if like.0.entity i == x then max (like.0.version i) (rest i) else rest i)

more_or_same : (b : Bool) (m n v : ℕ) → m ≤ n → m ≤ (if b then max v n else n)
more_or_same true m n v le = omega (arith, le)
more_or_same false m n v le = le

lowered_from : (start : ℕ → ℕ) (cs : List Commit) (p : ℕ → ℕ) (x : ℕ) → start x ≤ lowered start cs p x
lowered_from start [] p x = omega arith
lowered_from start (c ∷ cs) p x = more_or_same (c.entity == x && nat_le c.version (p x) && covered c.stamp p) (start x) (lowered start cs p x) c.version (lowered_from start cs p x)

top_from : (start : ℕ → ℕ) (cs : List Commit) (x : ℕ) → start x ≤ top start cs x
top_from start [] x = omega arith
top_from start (c ∷ cs) x = more_or_same (c.entity == x) (start x) (top start cs x) c.version (top_from start cs x)

lower_like : (n : ℕ) (start : ℕ → ℕ) (cs ds : List Commit) → AreLikeCommits start cs ds → (p : ℕ → ℕ) → ((y : ℕ) → start y ≤ p y) → lower n start cs p ≡ lower n start ds p
lower_like zero start cs ds like p low = refl
lower_like (suc n) start cs ds like p low =
    lower_like n start cs ds like (lowered start cs p) (lowered_from start cs p)
    ∙ (λ i. lower n start ds (λ x. lowered_like start cs ds like p low x i))

pub greatest_like : (start : ℕ → ℕ) (cs ds : List Commit) → AreLikeCommits start cs ds → greatest start cs ≡ greatest start ds
unfolding greatest
greatest_like start cs ds like =
    lower_like (length cs) start cs ds like (top start cs) (top_from start cs)
    ∙ (λ i. lower (length_like start cs ds like i) start ds (λ x. top_like start cs ds like x i))
