-- How many blocks a page table names.
use Rattle.std.proofs.Common.{◌≡◌, ℕ, zero, suc, ◌≤◌, Bool, true, false, not, ◌==◌, cond, List, [], ◌∷◌, get_or, count_by, Option, Some, None, refl, ap, arith, eq-eqb}
use Rattle.std.proofs.lemmas.List.Sums.{sum_by-cons}
use Rattle.cell_blobs.specs.act_alone.declared.loci.Head.{Head}
use Rattle.cell_blobs.specs.page_memory.declared.paged.PagedMemory.{PagedMemory}
use Rattle.cell_blobs.specs.page_memory.Words.{IsSoundTable}
use Rattle.cell_blobs.specs.cell_states.declared.cells.Part.{Part}
use Rattle.cell_blobs.specs.cell_states.declared.cells.Part.TheVariants as part
use Rattle.cell_blob_laws.specs.Memories.{HasOwnMemory, IsOwn, blocks_named, pages_born, pages_of}

abbrev pub is_block : ℕ → Bool
is_block n = not (n == 0)

abbrev pub number : Bool → ℕ
number b = cond b 1 0

at_most_one : (b : Bool) → number b ≤ 1
at_most_one true = omega arith
at_most_one false = omega arith

-- where nothing stands from a place on, as many stand before it at most
few : (xs : List ℕ) (n : ℕ) → ((k : ℕ) → n ≤ k → get_or xs k 0 ≡ 0) → count_by is_block xs ≤ n
few [] n past = (let none : count_by is_block [] ≡ 0 = refl in omega (arith, none))
few (x ∷ xs) zero past =
    let first : is_block x ≡ false = ap not (eq-eqb x 0 (past 0 (omega arith))) in
    let here : number (is_block x) ≡ 0 = ap number first in
    let rest = few xs zero (λ k _. past (suc k) (omega arith)) in
    let count = sum_by-cons (λ (n : ℕ). number (is_block n)) x xs in
    omega (arith, here, rest, count)
few (x ∷ xs) (suc n) past =
    let here = at_most_one (is_block x) in
    let rest = few xs n (λ k le. past (suc k) (omega (arith, le))) in
    let count = sum_by-cons (λ (n : ℕ). number (is_block n)) x xs in
    omega (arith, here, rest, count)

memory_few : (held : ℕ → Bool) (m : PagedMemory) → IsSoundTable held m → count_by is_block m.table ≤ m.pages
memory_few held m sound = few m.table m.pages (λ k past. (sound.none_past k past).0)

own_few : (held : ℕ → Bool) (m : PagedMemory) (o : Option Head) → IsOwn m o → IsSoundTable held m → count_by is_block m.table ≤ pages_of o
own_few held m None own sound = (let few = memory_few held m sound in omega (arith, few, own))
own_few held m (Some h) own sound = (let few = memory_few held m sound in omega (arith, few, own.pages))

pub part_few : (held : ℕ → Bool) (p : Part) → HasOwnMemory held p → blocks_named p ≤ pages_born p
part_few held (part.Atlas a) own = omega arith
part_few held (part.Container b) own = own_few held b.memory b.head own.0 own.1
part_few held (part.Locus l) own = omega arith
