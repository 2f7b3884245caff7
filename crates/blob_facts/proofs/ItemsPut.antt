-- Lists that are written item by item.
use Rattle.std.proofs.Common.{◌≡◌, ◌<◌, ◌≤◌, ℕ, zero, suc, ◌+◌, List, [], ◌∷◌, ◌++◌, length, get_or, take, arith, length-append}
use Rattle.std.specs.List.{flat_map}
use Rattle.std.proofs.lemmas.List.Folds.{length-flat_map-take}
use Rattle.base_bytes.specs.Blobs.{HasRoom}
use Rattle.blob_grammar.specs.Spelling.{listed}
use Rattle.blob_facts.proofs.Room.{grown}

-- where the items before it are written, the next one has room
pub items_fit : {X : Type 0} (item : X → List ℕ) (xs : List X) (i : ℕ) (d : X) (old blob : List ℕ) → i < length xs
    → HasRoom old (length (flat_map item xs)) → blob ≡ old ++ flat_map item (take i xs) → HasRoom blob (length (item (get_or xs i d)))
items_fit item xs i d old blob within room is =
    let far = grown old (flat_map item (take i xs)) blob is in
    let most = length-flat_map-take item xs i d within in
    omega (arith, far, most)

-- the same behind the byte that tells how many there are
pub listed_fit : {X : Type 0} (item : X → List ℕ) (xs : List X) (i : ℕ) (d : X) (old blob : List ℕ) → i < length xs
    → HasRoom old (length (listed item xs)) → blob ≡ old ++ length xs ∷ flat_map item (take i xs) → HasRoom blob (length (item (get_or xs i d)))
listed_fit item xs i d old blob within room is =
    let far = grown old (length xs ∷ flat_map item (take i xs)) blob is in
    let most = length-flat_map-take item xs i d within in
    omega (arith, far, most)

-- the first items take no more than all
front_most : {X : Type 0} (item : X → List ℕ) (i : ℕ) (xs : List X) → length (flat_map item (take i xs)) ≤ length (flat_map item xs)
front_most item zero [] = omega arith
front_most item zero (x ∷ xs) = omega arith
front_most item (suc i) [] = omega arith
front_most item (suc i) (x ∷ xs) =
    let few = front_most item i xs in
    omega (arith, few, length-append (item x) (flat_map item (take i xs)), length-append (item x) (flat_map item xs))

-- so that no more is written than the list takes
pub listed_most : {X : Type 0} (item : X → List ℕ) (xs : List X) (i most : ℕ) (old blob : List ℕ) → blob ≡ old ++ length xs ∷ flat_map item (take i xs)
    → length (listed item xs) ≤ most → length blob ≤ length old + most
listed_most item xs i most old blob is few =
    let far = grown old (length xs ∷ flat_map item (take i xs)) blob is in
    let front = front_most item i xs in
    omega (arith, far, front, few)

-- the same where no byte tells how many there are
pub items_most : {X : Type 0} (item : X → List ℕ) (xs : List X) (i most : ℕ) (old blob : List ℕ) → blob ≡ old ++ flat_map item (take i xs)
    → length (flat_map item xs) ≤ most → length blob ≤ length old + most
items_most item xs i most old blob is few =
    let far = grown old (flat_map item (take i xs)) blob is in
    let front = front_most item i xs in
    omega (arith, far, front, few)
