-- The clocks of three entities, one of them read.
use Rattle.std.proofs.Common.{◌≡◌, ◌≢◌, ℕ, ◌+◌, true, false, Bool, if◌then◌else◌, ◌==◌, max, List, [], ◌∷◌, Some, refl, sym, ap, ◌∙◌, arith, eqb-true}
use Rattle.cell_clocks.specs.model_kernel.Changes.{Access, access_at, changed, joined, touches_of}
use Rattle.cell_clocks.specs.model_kernel.State.{Cell, KernelState}
use Rattle.data_stamps.specs.Stamps.{component}
use Rattle.cell_clocks.specs.declared.Clock.{Clock}
use Rattle.cell_clocks.specs.Clocks.{HasClock, writing, reading}
use Rattle.cell_clocks.proofs.Changing.{access_first, written_clock}

apart : (x y : ℕ) → x ≢ y → (x == y) ≡ false
apart x y other = by_test (x == y) refl
  where
    by_test : (t : Bool) → (x == y) ≡ t → (x == y) ≡ false
    by_test true e = absurd (other (eqb-true x y e))
    by_test false e = e

second : (a b : Access) (rest : List Access) → a.entity ≢ b.entity → access_at (a ∷ b ∷ rest) b.entity ≡ Some b
second a b rest other = rw (apart a.entity b.entity other) (access_first b rest)

third : (a b c : Access) (rest : List Access) → a.entity ≢ c.entity → b.entity ≢ c.entity → access_at (a ∷ b ∷ c ∷ rest) c.entity ≡ Some c
third a b c rest one two = rw (apart a.entity c.entity one) (second b c rest two)

joins : (a s n ra rs rn : ℕ) → max (max (max (max (max a s) n) ra) rs) rn ≡ max (max a ra) (max (max s rs) (max (max n rn) 0))
joins a s n ra rs rn = ap (λ m. max (max m rs) rn) (front a s n ra) ∙ back (max a ra) s n rs rn
  where
    front : (a s n ra : ℕ) → max (max (max a s) n) ra ≡ max (max (max a ra) s) n
    front a s n ra = omega arith

    back : (p s n rs rn : ℕ) → max (max (max (max p s) n) rs) rn ≡ max p (max (max s rs) (max (max n rn) 0))
    back p s n rs rn = ap (λ m. max m rn) (one p s n rs) ∙ two p (max s rs) n rn
      where
        one : (p s n rs : ℕ) → max (max (max p s) n) rs ≡ max (max p (max s rs)) n
        one p s n rs = omega arith

        two : (p q n rn : ℕ) → max (max (max p q) n) rn ≡ max p (max q (max (max n rn) 0))
        two p q n rn = omega arith

module _ (w : KernelState) (a s n a' n' : Clock) (hasa : HasClock w a) (hass : HasClock w s) (hasn : HasClock w n) (j k : Cell)
    (one : a.entity ≢ s.entity) (two : a.entity ≢ n.entity) (three : s.entity ≢ n.entity)
    (samea : a'.entity ≡ a.entity) (samen : n'.entity ≡ n.entity) (versiona : a'.version ≡ a.version + 1) (versionn : n'.version ≡ n.version + 1)
    (stamp : (y : ℕ) → component a'.stamp y ≡ max (max (max (max (max (component a.stamp y) (component s.stamp y)) (component n.stamp y)) (if a.entity == y then a.version + 1 else 0)) (if s.entity == y then s.version else 0)) (if n.entity == y then n.version + 1 else 0))
    (both : n'.stamp ≡ a'.stamp) where
  abbrev those : List Access
  those = writing a.entity j ∷ reading s.entity ∷ writing n.entity k ∷ []

  stamps : (y : ℕ) → component a'.stamp y ≡ joined w (touches_of w those) y
  stamps y =
      stamp y ∙ joins (component a.stamp y) (component s.stamp y) (component n.stamp y) (if a.entity == y then a.version + 1 else 0) (if s.entity == y then s.version else 0) (if n.entity == y then n.version + 1 else 0)
      ∙ (λ i. max (max (sym (hasa.stamp y) i) (if a.entity == y then sym hasa.version i + 1 else 0)) (max (max (sym (hass.stamp y) i) (if s.entity == y then sym hass.version i else 0)) (max (max (sym (hasn.stamp y) i) (if n.entity == y then sym hasn.version i + 1 else 0)) 0)))

  pub carries : HasClock (changed w those) a' × HasClock (changed w those) n'
  carries = (
    written_clock w those a a' (writing a.entity j) j hasa (access_first (writing a.entity j) (reading s.entity ∷ writing n.entity k ∷ [])) refl samea versiona stamps,
    written_clock w those n n' (writing n.entity k) k hasn (third (writing a.entity j) (reading s.entity) (writing n.entity k) [] two three) refl samen versionn (λ y. ap (λ t. component t y) both ∙ stamps y),
  )
