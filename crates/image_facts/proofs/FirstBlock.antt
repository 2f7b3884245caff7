-- The superblock from its bytes.
use Rattle.std.proofs.Common.{◌≡◌, ℕ, List, [], ◌∷◌, ◌++◌, get_or, ap, ◌∙◌, replicate}
use Rattle.byteorder.specs.Endian.{little_bytes}
use Rattle.image_facts.specs.Layout.{superblock}

pub superblock-from : (count : ℕ) (number front rest : List ℕ) → number ≡ little_bytes 4 count
    → front ≡ 71 ∷ 82 ∷ 65 ∷ 83 ∷ 83 ∷ 72 ∷ 79 ∷ 80 ∷ 1 ∷ 0 ∷ 0 ∷ 0 ∷ get_or number 0 0 ∷ get_or number 1 0 ∷ get_or number 2 0 ∷ get_or number 3 0 ∷ []
    → rest ≡ replicate 1008 0 → front ++ rest ≡ superblock count
unfolding superblock
superblock-from count number front rest is spelled zeros =
    ap (λ (l : List ℕ). l ++ rest) spelled
    ∙ ap (λ (l : List ℕ). 71 ∷ 82 ∷ 65 ∷ 83 ∷ 83 ∷ 72 ∷ 79 ∷ 80 ∷ 1 ∷ 0 ∷ 0 ∷ 0 ∷ get_or l 0 0 ∷ get_or l 1 0 ∷ get_or l 2 0 ∷ get_or l 3 0 ∷ rest) is
    ∙ ap (λ (l : List ℕ). 71 ∷ 82 ∷ 65 ∷ 83 ∷ 83 ∷ 72 ∷ 79 ∷ 80 ∷ 1 ∷ 0 ∷ 0 ∷ 0 ∷ (little_bytes 4 count ++ l)) zeros
