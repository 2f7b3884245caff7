-- A record that was read is in range behind those before it.
use Rattle.std.proofs.Common.{◌≡◌, ℕ, ◌≤◌, true, ◌&&◌, ◌==◌, nat_le, inl, inr, List, [], ◌∷◌, ◌++◌, length, take, Option, None, refl, sym, ap, subst, ◌∙◌, arith, codes}
use Rattle.std.specs.Prelude.{bytes_eq}
use Rattle.std.proofs.lemmas.Bool.{and_parts, leb-true}
use Rattle.std.proofs.lemmas.List.{take-append-le}
use Rattle.image_blocks.specs.base_types.declared.records.Rec.{Rec}
use Rattle.image_blocks.specs.image_facts.Bodies.{number_at, record_in}
use Rattle.image_blocks.specs.image_facts.Checks.{body_fault, is_count, superblock_fault, unless_at, zeros_from}
use Rattle.image_blocks.specs.image_facts.Layout.{least_blocks, most_blocks}
use Rattle.image_blocks.specs.image_facts.Logs.{IsInRange}
use Rattle.image_blocks.proofs.image_facts_lemmas.Firsts.{first_head, unless_none}
use Rattle.image_blocks.proofs.Opening.{tests}
use Rattle.log_facts.specs.Logs.{AreInRange}
use Rattle.image_blocks.proofs.Ranges.{in_range, last_or_before}

-- a body that no check refuses
pub read_in_range : (count : ℕ) (before : List Rec) (body : List ℕ) (r : Rec) → body_fault count before body ≡ None → r ≡ record_in body → IsInRange count before r
read_in_range count before body r none is = subst (IsInRange count before) (sym is) (in_range count before body (tests count before body none))

-- one record more
pub in_range_more : (count : ℕ) (recs : List Rec) (rec : Rec) → AreInRange count recs → IsInRange count recs rec → AreInRange count (recs ++ rec ∷ [])
in_range_more count recs rec before here i r at = elim (last_or_before recs rec i r at) as (λ _. IsInRange count (take i (recs ++ rec ∷ [])) r) [
  | inl old ↦ (let low : i ≤ length recs = (let lt = old.0 in omega (arith, lt)) in subst (λ l. IsInRange count l r) (sym (take-append-le i recs (rec ∷ []) low)) (before i r old.1))
  | inr last ↦
      (let low : i ≤ length recs = (let is = last.0 in omega (arith, is)) in
      let all : take i (recs ++ rec ∷ []) ≡ recs = take-append-le i recs (rec ∷ []) low ∙ (ap (λ n. take n recs) last.0 ∙ take_whole recs) in
      subst (λ l. IsInRange count l r) (sym all) (subst (IsInRange count recs) last.1 here))
]
  where
    take_whole : (l : List Rec) → take (length l) l ≡ l
    take_whole [] = refl
    take_whole (x ∷ l) = ap (λ m. x ∷ m) (take_whole l)

-- the number of blocks that a good superblock has
pub count_most : (blocks : ℕ) (block : List ℕ) (count : ℕ) → superblock_fault blocks block ≡ None → count ≡ number_at 12 4 block → count ≤ most_blocks
count_most blocks block count none is =
    let word : Option ℕ = unless_at (bytes_eq (take 8 block) (codes "GRASSHOP")) 0 in
    let format : Option ℕ = unless_at (number_at 8 4 block == 1) 8 in
    let here : Option ℕ = unless_at (is_count blocks (number_at 12 4 block)) 12 in
    let behind : List (Option ℕ) = zeros_from 16 block ∷ [] in
    let one = first_head word (format ∷ here ∷ behind) none in
    let two = first_head format (here ∷ behind) one.1 in
    let good : is_count blocks (number_at 12 4 block) ≡ true = unless_none (is_count blocks (number_at 12 4 block)) 12 (first_head here behind two.1).0 in
    let outer = and_parts (nat_le least_blocks (number_at 12 4 block) && nat_le (number_at 12 4 block) most_blocks) (nat_le (number_at 12 4 block) blocks) good in
    let inner = and_parts (nat_le least_blocks (number_at 12 4 block)) (nat_le (number_at 12 4 block) most_blocks) outer.0 in
    let high = leb-true (number_at 12 4 block) most_blocks inner.1 in
    omega (arith, high, is)
