-- Blocks that hold the bytes of a blob.
use Rattle.std.specs.Prelude.{◌≡◌, ℕ, List, length, take, drop, All}
use Rattle.std.specs.List.{concat}
use Rattle.store_books.specs.image_facts.Bodies.{blocks_for}

-- as many blocks as the bytes need hold them in order, and zeros behind
pub record HoldsBytes (bytes : List ℕ) (blocks : List (List ℕ)) : Type 0 where
  pub many : length blocks ≡ blocks_for (length bytes)
  pub spelled : take (length bytes) (concat blocks) ≡ bytes
  pub rest : All (λ x. x ≡ 0) (drop (length bytes) (concat blocks))
