-- Arrays that are filled with one value.
use Rattle.std.proofs.Common.{◌≡◌, ℕ, get_or, length, arith, inl, inr}
use Rattle.std.proofs.Math.ListN.{replicate}
use Rattle.std.proofs.lemmas.Bool.{cases_lt}
use Rattle.std.proofs.lemmas.List.{get_or-replicate, get_or_past, length-replicate}

-- the value is read at each index, also past the end
pub get_or-replicate_all : {A : Type 0} → (n i : ℕ) (a : A) → get_or (replicate n a) i a ≡ a
get_or-replicate_all n i a =
    let long : length (replicate n a) ≡ n = length-replicate n a in
    elim (cases_lt i n) [ inl low ↦ get_or-replicate n i a a low | inr high ↦ get_or_past (replicate n a) i a (omega arith) ]
