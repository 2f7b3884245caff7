-- New cells of a change, and what they leave at a number.
use Rattle.std.proofs.Common.{◌≡◌, ℕ, ◌+◌, true, false, ◌==◌, nat_lt, if◌then◌else◌, ◌⊎◌, inl, inr, List, [], ◌∷◌, Option, Some, None, is_some, refl, subst}
use Rattle.std.specs.Prelude.{IfSome}
use Rattle.model_sound_runs.specs.model_kernel.Changes.{Access, access_at, accessed, changed, insert_access, joined, merged, ordered, touches_of, written}
use Rattle.model_sound_runs.specs.model_kernel.State.{AtlasCell, Cell, ContainerCell, KernelState, LocusCell, NotBorn, Supply}
use Rattle.model_sound_states.specs.States.{IsSupplied}

-- a born entity's cell, with the supplier's words past a container's pages
abbrev pub IsGoodCell : Supply → Cell → Type 0
IsGoodCell s NotBorn = ⊥
IsGoodCell s (AtlasCell a) = Unit {0}
IsGoodCell s (ContainerCell c) = IsSupplied s c
IsGoodCell s (LocusCell l) = Unit {0}

abbrev pub IsGoodNew : Supply → Option Cell → Type 0
IsGoodNew s new = IfSome new (IsGoodCell s)

abbrev pub AreGood : Supply → List Access → Type 0
AreGood s [] = Unit {0}
AreGood s (m ∷ ms) = IsGoodNew s m.new × AreGood s ms

module _ (s : Supply) where
  inserted_good : (m : Access) (ms : List Access) → IsGoodNew s m.new → AreGood s ms → AreGood s (insert_access m ms)
  inserted_good m [] h all = (h, tt)
  inserted_good m (n ∷ ms) h all =
      elim (nat_lt m.entity n.entity) as (λ b. AreGood s (if b then m ∷ n ∷ ms else if m.entity == n.entity then merged m n ∷ ms else n ∷ insert_access m ms)) [
        | true ↦ (h, (all.0, all.1))
        | false ↦ elim (m.entity == n.entity) as (λ b. AreGood s (if b then merged m n ∷ ms else n ∷ insert_access m ms)) [
          | true ↦ (elim (is_some n.new) as (λ b. IsGoodNew s (if◌then◌else◌ {A = Access} b n m).new) [ true ↦ all.0 | false ↦ h ], all.1)
          | false ↦ (all.0, inserted_good m ms h all.1)
        ]
      ]

  ordered_good : (ms : List Access) → AreGood s ms → AreGood s (ordered ms)
  ordered_good [] all = tt
  ordered_good (m ∷ ms) all = inserted_good m (ordered ms) all.0 (ordered_good ms all.1)

  found_good : (ms : List Access) (x : ℕ) (m : Access) → AreGood s ms → access_at ms x ≡ Some m → IsGoodNew s m.new
  found_good [] x m all e = cc
  found_good (n ∷ ms) x m all e =
      elim (n.entity == x) as (λ b. (if b then Some n else access_at ms x) ≡ Some m → IsGoodNew s m.new) [
        | true ↦ λ e. (let same : n ≡ m = cc in subst (λ (k : Access). IsGoodNew s k.new) same all.0)
        | false ↦ λ e. found_good ms x m all.1 e
      ] e

  -- an entity is as it was, or has a good cell and the next version
  pub changed_good : (w : KernelState) (ms : List Access) (x : ℕ) → AreGood s ms
      → (changed w (ordered ms) x ≡ w x) ⊎ (IsGoodCell s (changed w (ordered ms) x).cell × ((changed w (ordered ms) x).version ≡ (w x).version + 1))
  unfolding changed
  changed_good w ms x all = by_access (access_at (ordered ms) x) refl
    where
      stamp : ℕ → ℕ
      stamp = joined w (touches_of w (ordered ms))

      by_new : (new : Option Cell) → IsGoodNew s new → (written (w x) stamp new ≡ w x) ⊎ (IsGoodCell s (written (w x) stamp new).cell × ((written (w x) stamp new).version ≡ (w x).version + 1))
      by_new None good = inl refl
      by_new (Some c) good = inr (good, refl)

      by_access : (o : Option Access) → access_at (ordered ms) x ≡ o
          → (accessed (w x) (joined w (touches_of w (ordered ms))) (access_at (ordered ms) x) ≡ w x)
          ⊎ (IsGoodCell s (accessed (w x) (joined w (touches_of w (ordered ms))) (access_at (ordered ms) x)).cell × ((accessed (w x) (joined w (touches_of w (ordered ms))) (access_at (ordered ms) x)).version ≡ (w x).version + 1))
      by_access None e = rw e (inl refl)
      by_access (Some m) e = rw e (by_new m.new (found_good (ordered ms) x m (ordered_good ms all) e))
