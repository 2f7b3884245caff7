-- The blob of a container, as it is read: a head, and the block of each page.
use Rattle.std.specs.Prelude.{ℕ, List}
use Rattle.blob_grammar.specs.Forms.{SpellsContainer}
use Rattle.blob_facts.specs.act_alone.Loci.{container_with}
use Rattle.blob_facts.specs.act_alone.declared.loci.Head.{Head}

-- the bytes spell the container of this head and this table, whatever its words are
abbrev pub IsHeadSpelled : Head → List ℕ → List ℕ → Type 0
IsHeadSpelled head table bytes = (words : ℕ → ℕ) → SpellsContainer (container_with words head) table bytes
