-- One more name of a block among chosen entities.
use Rattle.std.proofs.Common.{◌≡◌, ℕ, ◌+◌, List, Option, Some, ap, arith}
use borrow.Author.Tests.{ne_eqb}
use Rattle.image_blocks.specs.image_facts.Bodies.{blob_blocks}
use Rattle.image_fit_facts.specs.image_meaning.Parts.{table_in}
use Rattle.image_fits.specs.Chosen.{part_of}
use Rattle.image_fit_facts.specs.Naming.{AreUses, count_of}
use Rattle.image_fits.specs.Naming.{names_in}
use Rattle.image_fits.specs.declared.chosen.ChosenEntity.{ChosenEntity}
use Rattle.image_fit_facts.proofs.Uses.{uses_same}

pub named_more : (uses : List ℕ) (f : ℕ → ℕ) (o : Option ChosenEntity) (e : ChosenEntity) → o ≡ Some e → (table blob again : List ℕ) → table ≡ table_in (part_of e.part)
    → blob ≡ blob_blocks e.rec → again ≡ blob_blocks e.rec → AreUses uses (λ b. f b + count_of table b + count_of blob b + count_of again b)
    → AreUses uses (λ b. f b + names_in b o)
named_more uses f o e is table blob again t s q = uses_same uses (λ b. f b + count_of table b + count_of blob b + count_of again b) (λ b. f b + names_in b o)
    (λ b. let x : count_of table b ≡ count_of (table_in (part_of e.part)) b = ap (λ l. count_of l b) t in
    let y : count_of blob b ≡ count_of (blob_blocks e.rec) b = ap (λ l. count_of l b) s in
    let z : count_of again b ≡ count_of (blob_blocks e.rec) b = ap (λ l. count_of l b) q in
    let all : names_in b o ≡ count_of (table_in (part_of e.part)) b + count_of (blob_blocks e.rec) b + count_of (blob_blocks e.rec) b = ap (names_in b) is in
    omega (arith, x, y, z, all))
