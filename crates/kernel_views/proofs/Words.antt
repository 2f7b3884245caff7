-- A memory and a part mean what they did where the blocks of its pages have the same words.
use Rattle.std.proofs.Common.{◌≡◌, ◌≢◌, ℕ, ◌/◌, ◌%◌, ◌==◌, inl, inr, if◌then◌else◌, List, slice_index, Option, Some, None, refl, sym, ap, subst, ◌∙◌}
use Rattle.std.proofs.lemmas.Bool.{cases_eq}
use Rattle.kernel_records.specs.model_kernel.State.{ContainerCell, Supply}
use Rattle.data_frames.specs.FrameTable.{Resident, page_at}
use Rattle.kernel_records.specs.act_alone.declared.loci.Head.{Head}
use Rattle.kernel_records.specs.act_alone.Loci.{container_with}
use Rattle.kernel_records.specs.page_memory.declared.paged.PagedMemory.{PagedMemory}
use Rattle.kernel_records.specs.page_memory.Words.{AreCleanTrue, block_at, stored_word, word_by, words_of}
use Rattle.kernel_records.specs.cell_states.declared.cells.Part.{Part}
use Rattle.kernel_records.specs.cell_states.declared.cells.Part.TheVariants as part
use Rattle.kernel_records.specs.cell_states.Cells.{container_cell, part_of}
use Rattle.table_laws.specs.cell_calls.Besides.{memory_of}

module _ (s : Supply) (words words' : ℕ → List ℕ) where
  -- the blocks of the memory's pages have the same words
  abbrev pub SameBlocks : PagedMemory → Type 0
  SameBlocks m = (page : ℕ) → block_at m page ≢ 0 → words' (block_at m page) ≡ words (block_at m page)

  module _ (m : PagedMemory) (same : SameBlocks m) where
    stored_same : (page place : ℕ) → stored_word s m.tag words' (block_at m page) page place ≡ stored_word s m.tag words (block_at m page) page place
    stored_same page place = elim (cases_eq (block_at m page) 0) as (λ _. stored_word s m.tag words' (block_at m page) page place ≡ stored_word s m.tag words (block_at m page) page place) [
      | inl none ↦ subst (λ (b : ℕ). stored_word s m.tag words' b page place ≡ stored_word s m.tag words b page place) (sym none) refl
      | inr some ↦ ap (λ (w : List ℕ). if block_at m page == 0 then s m.tag page place else slice_index w place) (same page some)
    ]

    word_same : (page place : ℕ) (o : Option Resident) → word_by s m.tag words' (block_at m page) page place o ≡ word_by s m.tag words (block_at m page) page place o
    word_same page place None = stored_same page place
    word_same page place (Some r) = refl

    words_same : words_of s words' m ≡ words_of s words m
    words_same = λ i address. word_same (address / 128) (address % 128) (page_at m.frames (address / 128)) i

    pub clean_same : AreCleanTrue s words m → AreCleanTrue s words' m
    clean_same clean = λ page place lt there unchanged.
        word_same page place (page_at m.frames page) ∙ (clean page place lt there unchanged ∙ sym (stored_same page place))

    cell_same : (o : Option Head) → container_cell s words' m o ≡ container_cell s words m o
    cell_same None = refl
    cell_same (Some h) = ap (λ (f : ℕ → ℕ). ContainerCell (container_with f h)) words_same

  pub part_same : (q : Part) → ((m : PagedMemory) → memory_of q ≡ Some m → SameBlocks m) → part_of s words' q ≡ part_of s words q
  part_same (part.Atlas a) same = refl
  part_same (part.Container b) same = cell_same b.memory (same b.memory refl) b.head
  part_same (part.Locus l) same = refl
