-- A blob's room, block by block.
use Rattle.std.proofs.Common.{◌≡◌, ℕ, ◌+◌, ◌<◌, List, [], ◌∷◌, ◌++◌, length, map, take, get_or, sym, ap, ◌∙◌, append-nil}
use Rattle.std.specs.List.{concat}
use Rattle.std.proofs.lemmas.List.{map-append, take_more}
use Rattle.std.proofs.lemmas.List.Folds.{concat-append}
use Rattle.edge_disk.specs.Image.{Image, block_at}

-- one block more
pub room_more : (image : Image) (i : ℕ) (blocks room new : List ℕ) → i < length blocks → room ≡ concat (map (block_at image) (take i blocks)) → new ≡ room ++ block_at image (get_or blocks i 0)
    → new ≡ concat (map (block_at image) (take (i + 1) blocks))
room_more image i blocks room new lt so_far is =
    let front : List ℕ = take i blocks in
    let here : List ℕ = block_at image (get_or blocks i 0) in
    let whole : List ℕ = concat (map (block_at image) front) in
    let one : concat (here ∷ []) ≡ here = append-nil here in
    is
    ∙ (ap (λ (l : List ℕ). l ++ here) so_far
    ∙ (ap (λ (l : List ℕ). whole ++ l) (sym one)
    ∙ (sym (concat-append (map (block_at image) front) (here ∷ []))
    ∙ (ap concat (sym (map-append (block_at image) front (get_or blocks i 0 ∷ []))) ∙ ap (λ (l : List ℕ). concat (map (block_at image) l)) (sym (take_more blocks i 0 lt))))))
