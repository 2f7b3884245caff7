-- A part means what it did where the blocks that are held have the same words.
use Rattle.std.proofs.Common.{◌≡◌, ◌≢◌, ℕ, ◌/◌, ◌%◌, ◌≤◌, ◌==◌, ◌||◌, inl, inr, Bool, true, if◌then◌else◌, List, slice_index, Option, Some, None, refl, sym, ap, subst, ◌∙◌}
use Rattle.std.proofs.lemmas.Bool.{cases_eq}
use Rattle.edge_disk.specs.Image.{Image}
use Rattle.page_store.specs.model_kernel.State.{ContainerCell, Supply}
use Rattle.kernel_block_laws.specs.image_facts.Layout.{pool_at}
use Rattle.kernel_block_laws.specs.store_books.Books.{Books, kept_names, words_of_bytes}
use Rattle.store_snapshots.specs.store_facts.Committed.{SameUsed}
use Rattle.data_frames.specs.FrameTable.{Resident, page_at}
use Rattle.cell_wish_laws.specs.act_alone.declared.loci.Head.{Head}
use Rattle.cell_wish_laws.specs.act_alone.Loci.{container_with}
use Rattle.cell_wish_laws.specs.page_memory.declared.paged.PagedMemory.{PagedMemory}
use Rattle.cell_wish_laws.specs.page_memory.Words.{IsSoundTable, block_at as page_block, stored_word, word_by, words_of}
use Rattle.cell_wish_laws.specs.cell_states.declared.cells.Part.{Part}
use Rattle.cell_wish_laws.specs.cell_states.declared.cells.Part.TheVariants as part
use Rattle.cell_wish_laws.specs.cell_states.Cells.{container_cell, part_of}
use Rattle.kernel_record_facts.specs.Cells.{IsCleanIn, IsSoundIn, words_on}

module _ (s : Supply) (held : ℕ → Bool) (words words' : ℕ → List ℕ) (same : (n : ℕ) → held n ≡ true → words' n ≡ words n) where
  stored_stays : (tag block page place : ℕ) → (block ≢ 0 → held block ≡ true) → stored_word s tag words' block page place ≡ stored_word s tag words block page place
  stored_stays tag block page place is_held = elim (cases_eq block 0) as (λ _. stored_word s tag words' block page place ≡ stored_word s tag words block page place) [
    | inl none ↦ subst (λ (b : ℕ). stored_word s tag words' b page place ≡ stored_word s tag words b page place) (sym none) refl
    | inr some ↦ ap (λ (w : List ℕ). if block == 0 then s tag page place else slice_index w place) (same block (is_held some))
  ]

  word_stays : (tag block page place : ℕ) (o : Option Resident) → (block ≢ 0 → held block ≡ true) → word_by s tag words' block page place o ≡ word_by s tag words block page place o
  word_stays tag block page place None is_held = stored_stays tag block page place is_held
  word_stays tag block page place (Some r) is_held = refl

  words_stay : (m : PagedMemory) → IsSoundTable held m → words_of s words' m ≡ words_of s words m
  words_stay m sound = λ i address.
      word_stays m.tag (page_block m (address / 128)) (address / 128) (address % 128) (page_at m.frames (address / 128)) (sound.held_blocks (address / 128)) i

  cell_stays : (m : PagedMemory) (o : Option Head) → IsSoundTable held m → container_cell s words' m o ≡ container_cell s words m o
  cell_stays m None sound = refl
  cell_stays m (Some h) sound = ap (λ (f : ℕ → ℕ). ContainerCell (container_with f h)) (words_stay m sound)

  pub part_stays : (q : Part) → IsSoundIn held q → part_of s words' q ≡ part_of s words q
  part_stays (part.Atlas a) sound = refl
  part_stays (part.Container b) sound = cell_stays b.memory b.head sound
  part_stays (part.Locus l) sound = refl

  pub clean_stays : (q : Part) → IsSoundIn held q → IsCleanIn s words q → IsCleanIn s words' q
  clean_stays (part.Atlas a) sound clean = tt
  clean_stays (part.Locus l) sound clean = tt
  clean_stays (part.Container b) sound clean = λ page place lt there unchanged.
      word_stays b.memory.tag (page_block b.memory page) page place (page_at b.memory.frames page) (sound.held_blocks page)
      ∙ (clean page place lt there unchanged ∙ sym (stored_stays b.memory.tag (page_block b.memory page) page place (sound.held_blocks page)))

-- the blocks of the pool that are in use read the same, so those that are held have the same words
pub held_words : (b : Books) (old new : Image) → SameUsed b old new → ((n : ℕ) → b.held n ≡ true → pool_at ≤ n) → (n : ℕ) → b.held n ≡ true → words_on new n ≡ words_on old n
held_words b old new same pool n held =
    ap words_of_bytes (same n (pool n held) (ap (λ (x : Bool). x || kept_names b n) held))
