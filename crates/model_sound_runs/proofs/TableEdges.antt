-- The edges of a newborn container.
use Rattle.std.proofs.Common.{◌≡◌, ◌≢◌, ℕ, ◌+◌, true, false, if◌then◌else◌, ◌==◌, List, [], ◌∷◌, Option, refl, sym, ◌∙◌, arith, eqb-true, eq-eqb}
use Rattle.std.specs.List.{All}
use Rattle.std.proofs.lemmas.Bool.Decides.{nat_tests}
use Rattle.std.proofs.lemmas.List.Elements.{All-head, All-tail}
use Rattle.script_types.specs.base_types.declared.capabilities.Region.{Region}
use Rattle.script_types.specs.model_kernel.Births.{edges_from, number_or_0, region_from, regions_from, with_edge}
use Rattle.script_types.specs.model_kernel.Scripts.{RegionTable}
use Rattle.script_types.specs.model_kernel.State.{Text, AtlasState}
use Rattle.script_types.specs.model_kernel.Words.{insert_region, put}
use Rattle.model_sound_steps.proofs.RegionLists.{shown, shown_inserted, shown_more}

-- COUNTS OF REGIONS

-- what no region shows
pub not_shown : (rs : List Region) (y : ℕ) → All (λ (r : Region). r.target ≢ y) rs → shown rs y ≡ 0
not_shown [] y all = refl
not_shown (r ∷ rs) y all =
    let one = shown_more r rs y in
    let rest = not_shown rs y (All-tail (λ (r : Region). r.target ≢ y) r rs all) in
    let head : (r.target == y) ≡ false = off r.target y (All-head (λ (r : Region). r.target ≢ y) r rs all) in
    one ∙ rw head (omega (arith, rest))
  where
    off : (a b : ℕ) → a ≢ b → (a == b) ≡ false
    off a b h = grind (arith, nat_tests)

-- THE MODEL'S EDGES

-- one more from n to d, where m is the count so far
pub one_more : (n d x y e f g m k : ℕ) → e ≡ k + (if x == n then m else 0) → f ≡ e + (if x == n then if d == y then 1 else 0 else 0) → g ≡ (if d == y then 1 else 0) + m → f ≡ k + (if x == n then g else 0)
one_more n d x y e f g m k so_far more next =
    elim (x == n) as (λ b. e ≡ k + (if b then m else 0) → f ≡ e + (if b then if d == y then 1 else 0 else 0) → f ≡ k + (if b then g else 0)) [
      | true ↦ λ p q. omega arith
      | false ↦ λ p q. omega arith
    ] so_far more

pub put_one : (a : AtlasState) (n d x y : ℕ) → (with_edge a n d).edges x y ≡ a.edges x y + (if x == n then if d == y then 1 else 0 else 0)
put_one a n d x y =
    elim (x == n) as (λ b. (x == n) ≡ b → (if b then put (a.edges n) d (a.edges n d + 1) else a.edges x) y ≡ a.edges x y + (if b then if d == y then 1 else 0 else 0)) [
      | true ↦ λ is.
          let e : x ≡ n = eqb-true x n is in
          elim (y == d) as (λ t. (y == d) ≡ t → (if t then a.edges n d + 1 else a.edges n y) ≡ a.edges x y + (if d == y then 1 else 0)) [
            | true ↦ λ at.
                let f : y ≡ d = eqb-true y d at in
                let back : (d == y) ≡ true = eq-eqb d y (sym f) in
                rw back (λ i. a.edges (sym e i) (sym f i) + 1)
            | false ↦ λ at.
                let back : (d == y) ≡ false = grind (arith, nat_tests) in
                let here : a.edges n y ≡ a.edges x y = (λ i. a.edges (sym e i) y) in
                rw back (omega (arith, here))
          ] refl
      | false ↦ λ _. omega arith
    ] refl

pub model_edges : (number : Text → Option ℕ) (n : ℕ) (ts : List RegionTable) (a : AtlasState) (x y : ℕ) → (edges_from number n ts a).edges x y ≡ a.edges x y + (if x == n then shown (regions_from number ts) y else 0)
model_edges number n [] a x y = elim (x == n) as (λ b. a.edges x y ≡ a.edges x y + (if b then 0 else 0)) [ true ↦ omega arith | false ↦ omega arith ]
model_edges number n (t ∷ ts) a x y =
    let d = number_or_0 number t.target in
    let rest = edges_from number n ts a in
    one_more n d x y (rest.edges x y) ((with_edge rest n d).edges x y) (shown (insert_region (region_from number t) (regions_from number ts)) y) (shown (regions_from number ts) y) (a.edges x y)
    (model_edges number n ts a x y) (put_one rest n d x y) (shown_inserted (region_from number t) (regions_from number ts) y)

pub model_containers : (number : Text → Option ℕ) (n : ℕ) (ts : List RegionTable) (a : AtlasState) → (edges_from number n ts a).containers ≡ a.containers
model_containers number n [] a = refl
model_containers number n (t ∷ ts) a = model_containers number n ts a

pub model_loci : (number : Text → Option ℕ) (n : ℕ) (ts : List RegionTable) (a : AtlasState) → (edges_from number n ts a).loci ≡ a.loci
model_loci number n [] a = refl
model_loci number n (t ∷ ts) a = model_loci number n ts a
