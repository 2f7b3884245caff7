-- Images that differ in some blocks.
use Rattle.std.proofs.Common.{◌≡◌, ◌≢◌, ◌<◌, inl, inr, ℕ, ◌+◌, List, [], length, take, set, get_or, refl, sym, ap, subst, ◌∙◌, arith}
use Rattle.std.proofs.lemmas.List.{length-set, length-take, get_or-set_other, get_or-set_same, get_or-take}
use Rattle.std.proofs.lemmas.Bool.{cases_eq}
use Rattle.edge_disk.specs.Image.{Image, HasRun, SameOutside, block_at}

pub SameOutside-refl : (these : ℕ → Type 0) (image : Image) → SameOutside these image image
SameOutside-refl these image = record { len = refl; same = λ n out. refl }

pub SameOutside-trans : (these : ℕ → Type 0) (a b c : Image) → SameOutside these a b → SameOutside these b c → SameOutside these a c
SameOutside-trans these a b c ab bc = record { len = bc.len ∙ ab.len; same = λ n out. bc.same n out ∙ ab.same n out }

pub SameOutside-weaker : (these those : ℕ → Type 0) (a b : Image) → ((n : ℕ) → these n → those n) → SameOutside these a b → SameOutside those a b
SameOutside-weaker these those a b more same = record { len = same.len; same = λ n out. same.same n (λ inside. out (more n inside)) }

-- a write changes its block alone
pub SameOutside-set : (image : Image) (at : ℕ) (block : List ℕ) → SameOutside (λ n. n ≡ at) image (set image at block)
SameOutside-set image at block = record {
  len = length-set image at block;
  same = λ n out. get_or-set_other image at n block [] out;
}

-- one block of these
pub SameOutside-one : (these : ℕ → Type 0) (at : ℕ) (a b : Image) → these at → SameOutside (λ n. n ≡ at) a b → SameOutside these a b
SameOutside-one these at a b inside = SameOutside-weaker (λ n. n ≡ at) these a b (λ n is. subst these (sym is) inside)

-- one block more of a run
pub HasRun-more : (at : ℕ) (run : List (List ℕ)) (i : ℕ) (old new : Image) → i < length run → at + i < length old → HasRun at (take i run) old
    → new ≡ set old (at + i) (get_or run i []) → HasRun at (take (i + 1) run) new
HasRun-more at run i old new lt within so_far is k below =
    let up_to : k < i + 1 = omega (arith, below, length-take (i + 1) run) in
    let taken : block_at (take (i + 1) run) k ≡ block_at run k = get_or-take (i + 1) run k [] up_to in
    elim (cases_eq k i) [
      | inl here ↦
          ap (λ (image : Image). block_at image (at + k)) is
          ∙ ap (λ (n : ℕ). get_or (set old (at + i) (get_or run i [])) (at + n) []) here
          ∙ get_or-set_same old (at + i) (get_or run i []) [] within
          ∙ ap (λ (n : ℕ). block_at run n) (sym here)
          ∙ sym taken
      | inr other ↦
          let apart : at + k ≢ at + i = omega (arith, other) in
          let before : k < i = omega (arith, up_to, other) in
          let inside : k < length (take i run) = omega (arith, length-take i run, before, lt) in
          ap (λ (image : Image). block_at image (at + k)) is
          ∙ get_or-set_other old (at + i) (at + k) (get_or run i []) [] apart
          ∙ so_far k inside
          ∙ get_or-take i run k [] before
          ∙ sym taken
    ]
