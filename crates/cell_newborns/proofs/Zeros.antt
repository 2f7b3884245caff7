-- A table without blocks.
use Rattle.std.proofs.Common.{◌≡◌, ℕ, ◌/◌, ◌%◌, Bool, List, replicate, slice_index, ap, ◌∙◌}
use Rattle.cell_states.specs.model_kernel.Outcomes.{supplied}
use Rattle.cell_states.specs.model_kernel.State.{Supply}
use Rattle.cell_states.specs.page_memory.declared.paged.PagedMemory.{PagedMemory}
use Rattle.cell_states.specs.page_memory.Words.{AreHeldBlocks, stored_word, words_of}
use Rattle.data_atlas.proofs.data_atlas_facts_lemmas.Naming.{zeros}

-- it has no block for any page
pub zero_at : (table : List ℕ) → table ≡ replicate 256 0 → (page : ℕ) → slice_index table page ≡ 0
zero_at table is page = ap (λ t. slice_index t page) is ∙ zeros 256 page

pub zero_held : (held : ℕ → Bool) (table : List ℕ) → table ≡ replicate 256 0 → AreHeldBlocks held table
zero_held held table is = record { held_blocks = λ page some. absurd (some (zero_at table is page)); differ = λ p q some e. absurd (some (zero_at table is p)) }

-- so each word is the supplier's
pub zero_words : (s : Supply) (words : ℕ → List ℕ) (tag : ℕ) (m : PagedMemory) (table : List ℕ) → table ≡ replicate 256 0
    → ((address : ℕ) → words_of s words m address ≡ stored_word s tag words (slice_index table (address / 128)) (address / 128) (address % 128)) → (address : ℕ) → words_of s words m address ≡ supplied s tag address
zero_words s words tag m table is told address =
    told address ∙ ap (λ block. stored_word s tag words block (address / 128) (address % 128)) (zero_at table is (address / 128))
