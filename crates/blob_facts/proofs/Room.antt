-- What is written at the end of a blob.
use Rattle.std.proofs.Common.{◌≡◌, ℕ, ◌+◌, List, ◌++◌, length, ap, ◌∙◌, length-append}

-- bytes behind bytes
pub grown : (old part new : List ℕ) → new ≡ old ++ part → length new ≡ length old + length part
grown old part new is = ap (λ (l : List ℕ). length l) is ∙ length-append old part
