-- What a record of a cell needs of a table in order, and what all need together.
use Rattle.std.proofs.Common.{◌≡◌, ℕ, zero, suc, ◌+◌, ◌<◌, ◌≤◌, Bool, true, false, if◌then◌else◌, List, [], ◌∷◌, slice_get, get_or, take, length, Some, refl, sym, ap, ◌∙◌, arith}
use Rattle.std.specs.List.{sum_by}
use Rattle.std.proofs.lemmas.List.Sums.{sum_by-cons, sum_by_more}
use Rattle.std.proofs.lemmas.Option.{same_Some, slice_get-get_or}
use Rattle.cell_steps.specs.cell_states.declared.cells.Cell.{Cell}
use Rattle.cell_steps.specs.cell_states.declared.cells.Part.{Part}
use Rattle.cell_steps.specs.cell_states.declared.cells.Part.TheVariants as part
use Rattle.cell_blob_laws.specs.cell_blobs.Blobs.{IsFormed, blob_need, is_recorded, need_in, page_need}
use Rattle.cell_blob_laws.proofs.cell_blobs_lemmas.Shortage.{few_pages}
use Rattle.cell_blob_laws.proofs.Formed.{cell_formed}
use Rattle.table_laws.specs.Tables.{IsOrderly, state_in}
use Rattle.table_laws.proofs.Having.{no_supply, no_words, state_has}
use Rattle.cell_blob_laws.proofs.cell_blobs_lemmas.BlobSizes.{blob_few}

-- each cell of a table in order has a spelling
pub formed_at : (held : ℕ → Bool) (cs : List Cell) (x : ℕ) (c : Cell) → IsOrderly held cs → slice_get cs x ≡ Some c → IsFormed c.part
formed_at held cs x c ord at =
    cell_formed held no_supply no_words (state_in no_supply no_words cs) c (ord.sound no_supply no_words).sound
    (state_has no_supply no_words cs c (ap (slice_get cs) (ord.numbers.each x c at) ∙ at)) (ord.own x c at)

pages_few : (kept : ℕ → Bool) (p : Part) → page_need kept p ≤ 256
pages_few kept (part.Atlas a) = omega arith
pages_few kept (part.Container b) = few_pages kept b.memory
pages_few kept (part.Locus l) = omega arith

-- 264 blocks at most
pub need_few : (kept : ℕ → Bool) (c : Cell) → IsFormed c.part → need_in kept c ≤ 264
need_few kept c formed = by_test (is_recorded c)
  where
    by_test : (t : Bool) → (if t then 0 else page_need kept c.part + blob_need c.part) ≤ 264
    by_test true = omega arith
    by_test false = let pages = pages_few kept c.part in let blob = blob_few c.part formed in omega (arith, pages, blob)

-- the next one adds to those so far
pub next_need : (held kept : ℕ → Bool) (cs : List Cell) (i : ℕ) (c : Cell) → IsOrderly held cs → i < length cs → c ≡ get_or cs i c
    → (sum_by (need_in kept) (take (i + 1) cs) ≡ sum_by (need_in kept) (take i cs) + need_in kept c) × (need_in kept c ≤ 264)
next_need held kept cs i c ord lt is = (
  sum_by_more (need_in kept) cs i c lt ∙ ap (λ e. sum_by (need_in kept) (take i cs) + need_in kept e) (sym is),
  need_few kept c (formed_at held cs i c ord (slice_get-get_or cs i c lt ∙ ap Some (sym is))),
)

-- one of them is within the sum
pub one_within : (f : Cell → ℕ) (cs : List Cell) (x : ℕ) (c : Cell) → slice_get cs x ≡ Some c → f c ≤ sum_by f cs
one_within f [] x c at = absurd (cc at)
one_within f (a ∷ cs) zero c at = let same = ap f (same_Some a c at) in let sum = sum_by-cons f a cs in omega (arith, same, sum)
one_within f (a ∷ cs) (suc x) c at = let rest = one_within f cs x c at in let sum = sum_by-cons f a cs in omega (arith, rest, sum)

-- each of them is no more than before
all_less : (f f' : Cell → ℕ) (cs cs' : List Cell) → ((y : ℕ) → slice_get cs' y ≡ slice_get cs y) → ((y : ℕ) (e : Cell) → slice_get cs' y ≡ Some e → f' e ≤ f e) → sum_by f' cs' ≤ sum_by f cs
all_less f f' [] [] same less = omega arith
all_less f f' [] (a ∷ cs') same less = absurd (let h = same zero in cc h)
all_less f f' (a ∷ cs) [] same less = absurd (let h = same zero in cc h)
all_less f f' (a ∷ cs) (a' ∷ cs') same less =
    let head : f a' ≡ f a = ap f (same_Some a' a (same zero)) in
    let here = less zero a' refl in
    let rest = all_less f f' cs cs' (λ y. same (suc y)) (λ y. less (suc y)) in
    let old = sum_by-cons f a cs in
    let new = sum_by-cons f' a' cs' in
    omega (arith, head, here, rest, old, new)

-- one cell in the place of another, and the others are no more than before
pub one_replaced : (f f' : Cell → ℕ) (cs cs' : List Cell) (x : ℕ) (c d : Cell) → slice_get cs x ≡ Some c → slice_get cs' x ≡ Some d
    → ((y : ℕ) → (y ≡ x → ⊥) → slice_get cs' y ≡ slice_get cs y) → ((y : ℕ) (e : Cell) → (y ≡ x → ⊥) → slice_get cs' y ≡ Some e → f' e ≤ f e)
    → sum_by f' cs' + f c ≤ sum_by f cs + f' d
one_replaced f f' [] cs' x c d at is same less = absurd (cc at)
one_replaced f f' (a ∷ cs) [] x c d at is same less = absurd (cc is)
one_replaced f f' (a ∷ cs) (a' ∷ cs') zero c d at is same less =
    let old : f a ≡ f c = ap f (same_Some a c at) in
    let new : f' a' ≡ f' d = ap f' (same_Some a' d is) in
    let rest = all_less f f' cs cs' (λ y. same (suc y) (λ e. absurd (omega (arith, e)))) (λ y e. less (suc y) e (λ z. absurd (omega (arith, z)))) in
    let before = sum_by-cons f a cs in
    let now = sum_by-cons f' a' cs' in
    omega (arith, old, new, rest, before, now)
one_replaced f f' (a ∷ cs) (a' ∷ cs') (suc x) c d at is same less =
    let head : f a' ≡ f a = ap f (same_Some a' a (same zero (λ e. absurd (omega (arith, e))))) in
    let here = less zero a' (λ e. absurd (omega (arith, e))) refl in
    let rest = one_replaced f f' cs cs' x c d at is (λ y differs. same (suc y) (λ e. differs (omega (arith, e)))) (λ y e differs. less (suc y) e (λ z. differs (omega (arith, z)))) in
    let before = sum_by-cons f a cs in
    let now = sum_by-cons f' a' cs' in
    omega (arith, head, here, rest, before, now)
