-- What holds where the locus refuses nothing, for callers.
use Rattle.std.proofs.Common.{◌≡◌, Bool, true, false, List, ◌∷◌, Option, Some, None, refl}
use Rattle.base_types.specs.declared.instructions.Reply.{Reply}
use Rattle.model_kernel.specs.Words.{first, unless}

pub unless_none : (test : Bool) (reply : Reply) → unless test reply ≡ None → test ≡ true
unless_none true reply e = refl
unless_none false reply e = cc

-- the first check passes, and the rest do
pub first_none : (x : Option Reply) (xs : List (Option Reply)) → first (x ∷ xs) ≡ None → (x ≡ None) × (first xs ≡ None)
first_none None xs e = (refl, e)
first_none (Some r) xs e = cc
