-- The cells of a sound state keep their form.
use Rattle.std.proofs.Common.{ℕ, Bool, List, Option, Some, None, sym, subst}
use Rattle.cell_blobs.specs.model_kernel.State.{AtlasState, Cell as ModelCell, KernelState, Supply}
use Rattle.cell_blobs.specs.model_kernel.Soundness.{AreSound, IsSound}
use Rattle.cell_blobs.proofs.model_sound_steps_lemmas.Cells.{Fits, fits_in}
use Rattle.cell_blobs.specs.blob_grammar.Forms.{IsAtlasForm, IsNumber}
use Rattle.cell_blobs.specs.blob_grammar.Shapes.{IsContainerOver}
use Rattle.cell_blobs.proofs.blob_grammar_lemmas.Joins.{atlas_form, container_form, locus_form}
use Rattle.cell_blobs.specs.act_alone.declared.loci.Head.{Head}
use Rattle.cell_blobs.specs.act_alone.declared.loci.Locus.{Locus}
use Rattle.cell_blobs.specs.act_alone.Loci.{container_with, locus_of}
use Rattle.cell_blobs.specs.page_memory.declared.paged.PagedMemory.{PagedMemory}
use Rattle.cell_blobs.specs.page_memory.Words.{IsSoundTable}
use Rattle.cell_blobs.specs.cell_states.declared.cells.Cell.{Cell}
use Rattle.cell_blobs.specs.cell_states.declared.cells.Part.{Part}
use Rattle.cell_blobs.specs.cell_states.declared.cells.Part.TheVariants as part
use Rattle.cell_blobs.specs.cell_states.Cells.{HasCell, container_cell, locus_cell, part_of}
use Rattle.cell_blobs.specs.Blobs.{HasFormedHead, IsFormed, IsFormedLocus}
use Rattle.cell_blob_laws.specs.Memories.{HasOwnMemory, IsOwn}

-- a container keeps its shape whatever its words are
any_words : (f g : ℕ → ℕ) (h : Head) → IsContainerOver IsNumber IsNumber (container_with f h) → IsContainerOver IsNumber IsNumber (container_with g h)
any_words f g h k = record { some = k.some; size = k.size; entry = k.entry; code = k.code; few = k.few; regions = k.regions; inside = k.inside; apart = k.apart; caps = k.caps }

module _ (a : AtlasState) (cells : ℕ → ModelCell) (sound : AreSound a cells) (held : ℕ → Bool) (s : Supply) (words : ℕ → List ℕ) (x : ℕ) where
  storage_formed : (m : PagedMemory) (o : Option Head) → Fits a x (container_cell s words m o) → IsOwn m o → IsSoundTable held m → HasFormedHead m o
  storage_formed m None fits own table = tt
  storage_formed m (Some h) fits own table = (any_words _ (λ _. 0) h (container_form a _ sound.names fits.1), own, table.len)

  locus_formed : (o : Option Locus) → Fits a x (locus_cell o) → IsFormedLocus o
  locus_formed None fits = tt
  locus_formed (Some l) fits = locus_form a (locus_of l) sound.names fits.1

  part_formed : (p : Part) → Fits a x (part_of s words p) → HasOwnMemory held p → IsFormed p
  part_formed (part.Atlas d) fits own = subst IsAtlasForm (sym fits.1) (atlas_form a cells sound)
  part_formed (part.Container b) fits own = storage_formed b.memory b.head fits own.0 own.1
  part_formed (part.Locus l) fits own = locus_formed l fits

pub cell_formed : (held : ℕ → Bool) (s : Supply) (words : ℕ → List ℕ) (w : KernelState) (c : Cell) → IsSound (λ x. (w x).cell) → HasCell s words w c → HasOwnMemory held c.part → IsFormed c.part
cell_formed held s words w c sound has own =
    let cells : ℕ → ModelCell = λ x. (w x).cell in
    let x = c.clock.entity in
    part_formed sound.0 cells sound.1 held s words x c.part (subst (Fits sound.0 x) has.part (fits_in sound.0 cells sound.1 x)) own
