-- The bytes of a blob, 1,024 to a block.
use Rattle.std.proofs.Common.{◌≡◌, ℕ, ◌+◌, ◌-◌, ◌*◌, ◌≤◌, ◌<◌, inl, inr, List, [], ◌∷◌, ◌++◌, length, take, drop, set, replicate, refl, sym, ap, subst, ◌∙◌, arith, append_assoc, length-drop}
use Rattle.std.specs.Prelude.{All, min}
use Rattle.std.specs.List.{concat}
use Rattle.std.proofs.lemmas.Bool.{cases_lt}
use Rattle.std.proofs.lemmas.List.{append-nil, drop-replicate, drop_at, length-take, length-take-le, take_all, take_at, take_more_set}
use Rattle.std.proofs.lemmas.List.Elements.{All-replicate}
use Rattle.std.proofs.lemmas.List.Folds.{concat-append}
use Rattle.std.proofs.Math.Seq.{take-add}
use Rattle.store_books.specs.image_facts.Bodies.{blocks_for}
use Rattle.store_commit.specs.BlobBytes.{HoldsBytes}

-- the first blocks hold the bytes as far as they reach, and zeros behind
abbrev pub HasChunks : List ℕ → ℕ → List (List ℕ) → Type 0
HasChunks bytes i blocks = concat (take i blocks) ≡ take (1024 * i) bytes ++ replicate (1024 * i - length bytes) 0

take_least : (n m : ℕ) (l : List ℕ) → n ≡ min m (length l) → take n l ≡ take m l
take_least n m l is = elim (cases_lt m (length l)) as (λ _. take n l ≡ take m l) [
  | inl lt ↦ ap (λ (k : ℕ). take k l) (let e : n ≡ m = omega (arith, is, lt) in e)
  | inr past ↦ take_all n l (omega (arith, is, past)) ∙ sym (take_all m l past)
]

-- one block more
pub chunk_more : (bytes chunk block : List ℕ) (blocks : List (List ℕ)) (i end : ℕ) → i < length blocks → 1024 * i < length bytes → end ≡ min (1024 * i + 1024) (length bytes)
    → chunk ≡ take (end - 1024 * i) (drop (1024 * i) bytes) → block ≡ chunk ++ replicate (1024 - length chunk) 0 → HasChunks bytes i blocks → HasChunks bytes (i + 1) (set blocks i block)
chunk_more bytes chunk block blocks i end lt within end_is chunk_is block_is so_far =
    let left : length (drop (1024 * i) bytes) ≡ length bytes - 1024 * i = length-drop (1024 * i) bytes in
    let least : end - 1024 * i ≡ min 1024 (length (drop (1024 * i) bytes)) = omega (arith, left, end_is, within) in
    let len : length chunk ≡ end - 1024 * i = ap length chunk_is ∙ (length-take (end - 1024 * i) (drop (1024 * i) bytes) ∙ (let e : min (end - 1024 * i) (length (drop (1024 * i) bytes)) ≡ end - 1024 * i = omega (arith, left, end_is, within) in e)) in
    let zeros : ℕ = 1024 * (i + 1) - length bytes in
    let none : take (1024 * i) bytes ++ replicate (1024 * i - length bytes) 0 ≡ take (1024 * i) bytes =
    ap (λ (n : ℕ). take (1024 * i) bytes ++ replicate n 0) (let e : 1024 * i - length bytes ≡ 0 = omega (arith, within) in e) ∙ append-nil (take (1024 * i) bytes) in
    let filled : block ≡ take 1024 (drop (1024 * i) bytes) ++ replicate zeros 0 =
    block_is
    ∙ (ap (λ (n : ℕ). chunk ++ replicate n 0) (let e : 1024 - length chunk ≡ zeros = omega (arith, len, end_is, within) in e)
    ∙ ap (λ (l : List ℕ). l ++ replicate zeros 0) (chunk_is ∙ take_least (end - 1024 * i) 1024 (drop (1024 * i) bytes) least)) in
    let next : 1024 * i + 1024 ≡ 1024 * (i + 1) = omega arith in
    ap concat (take_more_set blocks i block lt)
    ∙ (concat-append (take i blocks) (block ∷ [])
    ∙ (ap (λ (l : List ℕ). l ++ (block ++ [])) (so_far ∙ none)
    ∙ (ap (λ (l : List ℕ). take (1024 * i) bytes ++ l) (append-nil block ∙ filled)
    ∙ (sym (append_assoc (take (1024 * i) bytes) (take 1024 (drop (1024 * i) bytes)) (replicate zeros 0))
    ∙ ap (λ (l : List ℕ). l ++ replicate zeros 0) (sym (take-add (1024 * i) 1024 bytes) ∙ ap (λ (n : ℕ). take n bytes) next)))))

-- all of them
chunks_are : (bytes : List ℕ) (blocks : List (List ℕ)) (n : ℕ) → n ≡ blocks_for (length bytes) → n ≤ length blocks → HasChunks bytes n blocks → HoldsBytes bytes (take n blocks)
chunks_are bytes blocks n is few so_far =
    let zeros : List ℕ = replicate (1024 * n - length bytes) 0 in
    let all : concat (take n blocks) ≡ bytes ++ zeros = so_far ∙ ap (λ (l : List ℕ). l ++ zeros) (take_all (1024 * n) bytes (omega (arith, is))) in
    record {
      many = length-take-le n blocks few ∙ is;
      spelled = ap (take (length bytes)) all ∙ take_at bytes zeros (length bytes) refl;
      rest = subst (λ (l : List ℕ). All (λ x. x ≡ 0) l) (sym (ap (drop (length bytes)) all ∙ drop_at bytes zeros (length bytes) refl)) (All-replicate (λ (x : ℕ). x ≡ 0) (1024 * n - length bytes) 0 refl);
    }

pub chunks_all : (bytes : List ℕ) (blocks : List (List ℕ)) (n : ℕ) → n ≡ blocks_for (length bytes) → n ≤ length blocks → HasChunks bytes n blocks → HoldsBytes bytes (take (blocks_for (length bytes)) blocks)
chunks_all bytes blocks n is few so_far = subst (λ (k : ℕ). HoldsBytes bytes (take k blocks)) is (chunks_are bytes blocks n is few so_far)

-- one block, filled up
pub filled_from : (bytes front rest : List ℕ) → front ≡ bytes → rest ≡ drop (length bytes) (replicate 1024 0) → front ++ rest ≡ bytes ++ replicate (1024 - length bytes) 0
filled_from bytes front rest is zeros = ap (λ (l : List ℕ). l ++ rest) is ∙ ap (λ (l : List ℕ). bytes ++ l) (zeros ∙ drop-replicate (length bytes) 1024 0)
