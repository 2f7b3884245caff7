-- What is before what in a history (Lamport, 1978). A place is the number of entries before it.
use Rattle.std.specs.Prelude.{◌≡◌, ◌<◌, ◌≤◌, ◌⊎◌, [], ◌∷◌, ℕ, Bool, List, if◌then◌else◌, suc, true, zero}
use Rattle.base_types.specs.declared.histories.Entry.{Entry}
use Rattle.model_kernel.specs.Histories.{touches, writes}

-- the entry stands at the place
abbrev pub IsAt : List Entry → ℕ → Entry → Type 0
IsAt [] i e = ⊥
IsAt (f ∷ fs) zero e = f ≡ e
IsAt (f ∷ fs) (suc i) e = IsAt fs i e

-- the entry at the one place comes earlier, and writes an entity that the entry at the other touches
pub record IsDirectlyBefore (es : List Entry) (i j : ℕ) : Type 0 where
  pub earlier : i < j
  pub cause : Entry
  pub effect : Entry
  pub at : IsAt es i cause
  pub there : IsAt es j effect
  pub entity : ℕ
  pub wrote : writes cause entity ≡ true
  pub touched : touches effect entity ≡ true

-- over these places in between each is directly before the next
abbrev pub IsChain : List Entry → ℕ → List ℕ → ℕ → Type 0
IsChain es i [] j = IsDirectlyBefore es i j
IsChain es i (k ∷ ks) j = IsDirectlyBefore es i k × IsChain es k ks j

-- the one place is before the other
abbrev pub IsBefore : List Entry → ℕ → ℕ → Type 0
IsBefore es i j = (between : List ℕ) × IsChain es i between j

-- the place is in the past of the entity: it has the last entry that writes the entity, or is before that one
pub record IsInPast (es : List Entry) (x i : ℕ) : Type 0 where
  pub last : ℕ
  pub writer : Entry
  pub at : IsAt es last writer
  pub wrote : writes writer x ≡ true
  pub newest : (k : ℕ) (e : Entry) → IsAt es k e → writes e x ≡ true → k ≤ last
  pub up_to : (i ≡ last) ⊎ IsBefore es i last

-- the entries at the places that pass
abbrev pub picked : (ℕ → Bool) → List Entry → List Entry
picked f [] = []
picked f (e ∷ es) = if f 0 then e ∷ picked (λ i. f (suc i)) es else picked (λ i. f (suc i)) es
