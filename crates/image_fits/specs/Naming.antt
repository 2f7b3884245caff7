-- How often blocks are named by the page tables and the blobs of chosen entities.
use Rattle.std.specs.Prelude.{ℕ, ◌+◌, List, Option, Some, None, sum_by}
use Rattle.image_blocks.specs.image_facts.Bodies.{blob_blocks}
use Rattle.image_fit_facts.specs.image_meaning.Parts.{table_in}
use Rattle.image_fits.specs.Chosen.{part_of}
use Rattle.image_fits.specs.declared.chosen.ChosenEntity.{ChosenEntity}
use Rattle.image_fit_facts.specs.Naming.{count_of}

-- a page names its block once, a blob each of its blocks twice: a block that is named once is so by one page alone
abbrev pub names_in : ℕ → Option ChosenEntity → ℕ
names_in b None = 0
names_in b (Some e) = count_of (table_in (part_of e.part)) b + count_of (blob_blocks e.rec) b + count_of (blob_blocks e.rec) b

abbrev pub names_of : List (Option ChosenEntity) → ℕ → ℕ
names_of es b = sum_by (names_in b) es
