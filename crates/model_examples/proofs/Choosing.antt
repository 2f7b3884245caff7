-- Greatest closed choices over short lists of commits.
use Rattle.std.proofs.Common.{◌≡◌, ℕ, ◌≤◌, ◌==◌, false, if◌then◌else◌, List, [], ◌∷◌, ◌⊎◌, inl, inr, sym, subst, ◌∙◌, arith}
use Rattle.std.proofs.lemmas.Bool.Decides.{nat_tests}
use Rattle.model_run_laws.specs.model_kernel.Choices.{Among, Commit, IsBelow, IsClosedChoice}
use Rattle.model_run_laws.proofs.model_kernel_lemmas.CommitStamps.{AllCommits}
use Rattle.model_examples.specs.Snapshots.{version_at}

-- the record is at most this choice, or rests on more than a closed choice q gives
abbrev pub IsBarred : (ℕ → ℕ) → (ℕ → ℕ) → Commit → Type 0
IsBarred top q c = (c.version ≤ top c.entity) ⊎ (IsBelow c.stamp q → ⊥)

module _ (start top q : ℕ → ℕ) (low : (x : ℕ) → start x ≤ top x) where
  one_below : (x : ℕ) (c : Commit) → c.entity ≡ x → c.version ≡ q x → c.version ≤ top c.entity → q x ≤ top x
  one_below x c at is le = subst (λ z. q x ≤ top z) at (omega (arith, is, le))

  some_below : (cs : List Commit) → AllCommits (IsBarred top q) cs → (x : ℕ) → Among cs (λ c. (c.entity ≡ x) × (c.version ≡ q x) × IsBelow c.stamp q) → q x ≤ top x
  some_below [] all x a = absurd a
  some_below (c ∷ cs) all x a = elim a as (λ _. q x ≤ top x) [
    | inl k ↦ elim all.0 as (λ _. q x ≤ top x) [ inl le ↦ one_below x c k.0 k.1 le | inr barred ↦ absurd (barred k.2) ]
    | inr more ↦ some_below cs all.1 x more
  ]

  pub all_below : (cs : List Commit) → AllCommits (IsBarred top q) cs → IsClosedChoice start cs q → IsBelow q top
  all_below cs all closed x = elim (closed x) as (λ _. q x ≤ top x) [
    | inl e ↦ (let le = low x in omega (arith, e, le))
    | inr a ↦ some_below cs all x a
  ]

-- the record of the start
abbrev pub at_start : ℕ → Commit
at_start x = record { entity = x; version = version_at x; stamp = λ y. if x == y then version_at x else 0 }

pub zero_below : (n m : ℕ) → n ≡ 0 → n ≤ m
zero_below n m e = omega (arith, e)

pub other_way : (a x : ℕ) → (a == x) ≡ false → (x == a) ≡ false
other_way a x e = grind (arith, nat_tests)

-- an entity that has records of one version alone
module _ (start q : ℕ → ℕ) (x n : ℕ) where
  abbrev pub IsOther : Commit → Type 0
  IsOther c = (c.entity ≡ x → ⊥) ⊎ (c.version ≡ n)

  some_same : (cs : List Commit) → AllCommits IsOther cs → Among cs (λ c. (c.entity ≡ x) × (c.version ≡ q x) × IsBelow c.stamp q) → q x ≡ n
  some_same [] all a = absurd a
  some_same (c ∷ cs) all a = elim a as (λ _. q x ≡ n) [
    | inl k ↦ elim all.0 as (λ _. q x ≡ n) [ inl other ↦ absurd (other k.0) | inr is ↦ sym k.1 ∙ is ]
    | inr more ↦ some_same cs all.1 more
  ]

  pub only_version : (cs : List Commit) → start x ≡ n → AllCommits IsOther cs → IsClosedChoice start cs q → q x ≡ n
  only_version cs at all closed = elim (closed x) as (λ _. q x ≡ n) [ inl e ↦ e ∙ at | inr a ↦ some_same cs all a ]
