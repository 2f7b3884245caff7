-- The blob of an atlas, as it is read.
use Rattle.std.specs.Prelude.{ℕ, List}
use Rattle.act_atlas_laws.specs.data_atlas_facts.Directory.{Directory}
use Rattle.blob_grammar.specs.Forms.{SpellsAtlas}
use Rattle.act_atlas_laws.specs.act_calls.Calls.{atlas_state}

-- the bytes spell the names and edges of this directory
abbrev pub IsAtlasSpelled : Directory → List ℕ → Type 0
IsAtlasSpelled a bytes = SpellsAtlas (atlas_state a) bytes
