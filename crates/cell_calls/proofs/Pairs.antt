-- Accesses of two entities, the lower number first.
use Rattle.std.proofs.Common.{◌≡◌, ◌≢◌, ℕ, ◌<◌, ◌≤◌, Bool, true, false, nat_lt, if◌then◌else◌, [], ◌∷◌, Some, refl, ap, arith, ne_eqb}
use Rattle.std.proofs.lemmas.Bool.Decides.{nat_tests}
use Rattle.cell_states.specs.model_kernel.Changes.{access_at, merged, ordered}
use Rattle.cell_states.specs.model_kernel.State.{Cell}
use Rattle.cell_states.specs.cell_clocks.Clocks.{writing}
use Rattle.cell_states.proofs.cell_clocks_lemmas.Changing.{access_first, access_second}
use Rattle.cell_calls.specs.Besides.{pair_of}

-- they are in order
pub ordered_pair : (me x : ℕ) (j k : Cell) → x ≢ me → ordered (writing x k ∷ writing me j ∷ []) ≡ pair_of me j x k
ordered_pair me x j k apart =
    ap (λ (b : Bool). if nat_lt x me then writing x k ∷ writing me j ∷ [] else if b then merged (writing x k) (writing me j) ∷ [] else writing me j ∷ writing x k ∷ []) (ne_eqb x me apart)

-- and each is met
pub access_own : (me x : ℕ) (j k : Cell) → x ≢ me → access_at (pair_of me j x k) me ≡ Some (writing me j)
access_own me x j k apart =
    elim (nat_lt x me) as (λ b. nat_lt x me ≡ b → access_at (if b then writing x k ∷ writing me j ∷ [] else writing me j ∷ writing x k ∷ []) me ≡ Some (writing me j)) [
      | true ↦ λ is. let lt : x < me = grind (arith, nat_tests) in access_second (writing x k) (writing me j) [] lt
      | false ↦ λ _. access_first (writing me j) (writing x k ∷ [])
    ] refl

pub access_other : (me x : ℕ) (j k : Cell) → x ≢ me → access_at (pair_of me j x k) x ≡ Some (writing x k)
access_other me x j k apart =
    elim (nat_lt x me) as (λ b. nat_lt x me ≡ b → access_at (if b then writing x k ∷ writing me j ∷ [] else writing me j ∷ writing x k ∷ []) x ≡ Some (writing x k)) [
      | true ↦ λ _. access_first (writing x k) (writing me j ∷ [])
      | false ↦ λ is. access_second (writing me j) (writing x k) [] (above is)
    ] refl
  where
    above : nat_lt x me ≡ false → me < x
    above is = let le : me ≤ x = grind (arith, nat_tests) in omega arith

-- the pair, by which number is lower
pub pair_below : (me x : ℕ) (j k : Cell) → x < me → pair_of me j x k ≡ writing x k ∷ writing me j ∷ []
pair_below me x j k lt = let is : nat_lt x me ≡ true = grind (arith, nat_tests) in ap (λ (b : Bool). if b then writing x k ∷ writing me j ∷ [] else writing me j ∷ writing x k ∷ []) is

pub pair_above : (me x : ℕ) (j k : Cell) → me ≤ x → pair_of me j x k ≡ writing me j ∷ writing x k ∷ []
pair_above me x j k le = let is : nat_lt x me ≡ false = grind (arith, nat_tests) in ap (λ (b : Bool). if b then writing x k ∷ writing me j ∷ [] else writing me j ∷ writing x k ∷ []) is
