-- A record of a cell tells what the entity is.
use Rattle.std.proofs.Common.{◌≡◌, ℕ, ◌≤◌, inl, inr, Bool, List, length, take, replicate, Option, Some, None, IfSome, sym, ap, subst, ◌∙◌, arith}
use Rattle.std.specs.Prelude.{slice_index}
use Rattle.std.proofs.lemmas.Bool.{cases_lt}
use Rattle.std.proofs.lemmas.List.{get_or_past, get_or-replicate, length-replicate}
use Rattle.edge_disk.specs.Image.{Image, block_at}
use Rattle.cell_blobs.specs.model_kernel.State.{ContainerCell, EntityState, KernelState, Supply}
use Rattle.cell_blobs.specs.image_meaning.Parts.{IsOf, Part as Spelt, Spells, cell_of, table_in, words_in}
use Rattle.cell_blobs.specs.image_meaning.Stores.{Kept}
use Rattle.kernel_invariant.specs.store_books.Books.{AreApart}
use Rattle.kernel_invariant.specs.Telling.{TellsOf}
use Rattle.cell_blobs.specs.act_alone.declared.loci.Head.{Head}
use Rattle.cell_blobs.specs.act_alone.declared.loci.Locus.{Locus}
use Rattle.cell_blobs.specs.act_alone.Loci.{container_with}
use Rattle.cell_blobs.specs.page_memory.declared.paged.PagedMemory.{PagedMemory}
use Rattle.cell_blobs.specs.page_memory.Words.{AreCleanTrue, IsSoundTable, words_of}
use Rattle.cell_blobs.specs.page_memory.Calls.{IsUnchanged}
use Rattle.cell_blobs.specs.cell_states.declared.cells.Cell.{Cell}
use Rattle.cell_blobs.specs.cell_states.declared.cells.Part.{Part}
use Rattle.cell_blobs.specs.cell_states.declared.cells.Part.TheVariants as part
use Rattle.cell_blobs.specs.cell_states.Cells.{HasCell, container_cell, locus_cell, part_of}
use Rattle.cell_blobs.specs.Blobs.{HasFormedHead, IsFormed, spelt_in, spelt_locus, spelt_storage}
use Rattle.kernel_record_facts.specs.Cells.{IsCleanIn, IsSettled, IsSoundIn, IsSpellable, table_of, words_on}
use Rattle.kernel_record_facts.specs.Telling.{IsOnImage, IsRecordOf}
use Rattle.kernel_record_facts.proofs.Settled.{front_block, settled}
use Rattle.std.proofs.lemmas.Option.{same_Some}

pub no_blocks : (page : ℕ) → slice_index (replicate 256 0) page ≡ 0
no_blocks page = elim (cases_lt page 256) as (λ _. slice_index (replicate 256 0) page ≡ 0) [
  | inl low ↦ get_or-replicate 256 page 0 0 low
  | inr high ↦ get_or_past (replicate 256 0) page 0 (let len : length {A = ℕ} (replicate 256 0) ≡ 256 = length-replicate {A = ℕ} 256 0 in omega (arith, high, len))
]

-- what the three parts of the law say of a part
record Tells (s : Supply) (image : Image) (q : Part) (p : Spelt) : Type 0 where
  cell : part_of s (words_on image) q ≡ cell_of s (block_at image) p
  named : (page : ℕ) → slice_index (table_of q) page ≡ slice_index (table_in p) page
  once : AreApart (table_of q)

module _ (s : Supply) (image : Image) (held : ℕ → Bool) where
  -- of a container
  module _ (m : PagedMemory) (h : Head) (formed : HasFormedHead m (Some h)) (sound : IsSoundTable held m) (clean : AreCleanTrue s (words_on image) m) (unchanged : IsUnchanged m) where
    memory_words : words_of s (words_on image) m ≡ words_in s h.tag (block_at image) (take h.pages m.table)
    memory_words =
        settled s (block_at image) m clean unchanged sound.len sound.few (λ page past. (sound.none_past page past).0)
        ∙ ap (λ (t : ℕ). words_in s t (block_at image) (take m.pages m.table)) formed.1.tag
        ∙ ap (λ (n : ℕ). words_in s h.tag (block_at image) (take n m.table)) formed.1.pages

    container_told : container_cell s (words_on image) m (Some h) ≡ ContainerCell (container_with (words_in s h.tag (block_at image) (take h.pages m.table)) h)
    container_told = ap (λ (f : ℕ → ℕ). ContainerCell (container_with f h)) memory_words

    container_named : (page : ℕ) → slice_index m.table page ≡ slice_index (take h.pages m.table) page
    container_named page =
        let few : h.pages ≤ 256 = formed.0.size in
        sym (front_block m.table h.pages page sound.len few (λ past. (sound.none_past page (let same = formed.1.pages in omega (arith, past, same))).0))

  storage_tells : (m : PagedMemory) (o : Option Head) (p : Spelt) → spelt_storage m o ≡ Some p → HasFormedHead m o → IsSoundTable held m → AreCleanTrue s (words_on image) m → IsUnchanged m
      → (container_cell s (words_on image) m o ≡ cell_of s (block_at image) p) × ((page : ℕ) → slice_index m.table page ≡ slice_index (table_in p) page)
  storage_tells m None p e formed sound clean unchanged = absurd (cc e)
  storage_tells m (Some h) p e formed sound clean unchanged =
      let same = same_Some _ p e in (
        container_told m h formed sound clean unchanged ∙ ap (cell_of s (block_at image)) same,
        λ page. container_named m h formed sound clean unchanged page ∙ ap (λ (x : Spelt). slice_index (table_in x) page) same,
      )

  locus_tells : (l : Option Locus) (p : Spelt) → spelt_locus l ≡ Some p
      → (locus_cell l ≡ cell_of s (block_at image) p) × ((page : ℕ) → slice_index (replicate 256 0) page ≡ slice_index (table_in p) page)
  locus_tells None p e = absurd (cc e)
  locus_tells (Some l) p e =
      let same = same_Some _ p e in
      (ap (cell_of s (block_at image)) same, λ page. no_blocks page ∙ ap (λ (x : Spelt). slice_index (table_in x) page) same)

  none_apart : AreApart (replicate 256 0)
  none_apart p q some same = absurd (some (no_blocks p))

  part_tells : (q : Part) (p : Spelt) → spelt_in q ≡ Some p → IsFormed q → IsSoundIn held q → IsCleanIn s (words_on image) q → IsSettled q → Tells s image q p
  part_tells (part.Atlas a) p e formed sound clean settled =
      let same = same_Some _ p e in
      record { cell = ap (cell_of s (block_at image)) same; named = λ page. no_blocks page ∙ ap (λ (x : Spelt). slice_index (table_in x) page) same; once = none_apart }
  part_tells (part.Container b) p e formed sound clean settled =
      let told = storage_tells b.memory b.head p e formed sound clean settled in
      record { cell = told.0; named = told.1; once = sound.differ }
  part_tells (part.Locus l) p e formed sound clean settled =
      let told = locus_tells l p e in
      record { cell = told.0; named = told.1; once = none_apart }

  spelling : (o : Option Spelt) (p : Spelt) (bytes : List ℕ) → o ≡ Some p → IfSome o (λ q. Spells q bytes) → Spells p bytes
  spelling None p bytes e spells = absurd (cc e)
  spelling (Some q) p bytes e spells = subst (λ (x : Spelt). Spells x bytes) (same_Some q p e) spells

  -- THE LAW
  pub told : (w : KernelState) (c : Cell) (k : Kept) → HasCell s (words_on image) w c → IsSpellable c → IsOnImage s image held c → IsRecordOf image c k → TellsOf s w image (table_of c.part) k
  told w c k has may on is =
      let t : Tells s image c.part may.spelt = part_tells c.part may.spelt may.born may.formed on.table on.clean on.settled in
      let at : w k.rec.entity ≡ w c.clock.entity = ap w is.entity in
      record {
        version = is.version ∙ sym has.clock.version ∙ sym (ap (λ (x : EntityState). x.version) at);
        components = is.components;
        stamp = λ i y. (ap (λ (x : EntityState). x.stamp y) at ∙ has.clock.stamp y ∙ sym (ap (λ (l : List ℕ). slice_index l y) is.stamp)) i;
        part = may.spelt;
        kind = subst (λ (x : ℕ). IsOf x may.spelt) (sym is.entity) may.kind;
        spells = spelling (spelt_in c.part) may.spelt k.blob may.born is.spells;
        cell = ap (λ (x : EntityState). x.cell) at ∙ has.part ∙ t.cell;
        pages = is.pages;
        named = t.named;
        once = t.once;
      }
