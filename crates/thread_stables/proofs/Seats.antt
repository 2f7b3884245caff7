-- The cell at a locus's place is lent and comes back, and seats stay.
use Rattle.std.proofs.Common.{◌≡◌, ◌<◌, ℕ, List, get_or, map, refl, ap, ◌∙◌}
use Rattle.thread_cells.specs.Locked.{Keeping}
use Rattle.thread_settling.specs.Rows.{AreSameSeats, IsRow}
use Rattle.thread_settling.proofs.Lent.{has_number, lent_here}

-- what is lent at the place of a number is the cell of that number
pub lent_at : {A : Type 0} (f : A → Keeping) (gs : List A) (i me : ℕ) (r : A) (k : Keeping) → r ≡ get_or gs i r → k ≡ f (get_or gs i r) → IsRow (map f gs) → i ≡ me → i < 64
    → (k ≡ get_or (map f gs) i k) × (k.number ≡ me)
lent_at f gs i me r k is same row mine small =
    let again = lent_here f gs i (get_or gs i r) k same (ap (get_or gs i) is) in
    (again, has_number (map f gs) i k row small again ∙ mine)

pub same_seats : (ks : List Keeping) → AreSameSeats ks ks
same_seats ks = record { numbers = refl; known = refl }

pub seats_then : (ks ls ms : List Keeping) → AreSameSeats ks ls → AreSameSeats ls ms → AreSameSeats ks ms
seats_then ks ls ms first next = record { numbers = next.numbers ∙ first.numbers; known = next.known ∙ first.known }
