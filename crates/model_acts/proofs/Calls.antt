-- The last call of a chain.
use Rattle.std.proofs.Common.{◌≡◌, ℕ, ◌-◌, List, [], ◌∷◌, length, slice_get, refl, ◌∙◌, ap, arith}
use Rattle.base_types.specs.declared.instructions.Call.{Call}
use Rattle.model_kernel.specs.Words.{last_call}

last_at : (c : Call) (rest : List Call) → last_call (c ∷ rest) ≡ slice_get (c ∷ rest) (length rest)
last_at c [] = refl
last_at c (d ∷ rest) = last_at d rest

pub last_get : (calls : List Call) (n : ℕ) → n ≡ length calls - 1 → last_call calls ≡ slice_get calls n
last_get [] n e = refl
last_get (c ∷ rest) n e = let same : length rest ≡ n = omega arith in last_at c rest ∙ ap (slice_get (c ∷ rest)) same
