-- The records of a copy's two cells tell what the state with the copy has.
use Rattle.std.proofs.Common.{◌≡◌, ◌≢◌, ℕ, Bool, true, List, [], length, refl, sym, ap, subst, ◌∙◌, arith}
use Rattle.std.specs.Prelude.{IfSome}
use Rattle.std.proofs.lemmas.Bool.{or_left}
use Rattle.std.proofs.lemmas.Option.{same_Some}
use Rattle.edge_disk.specs.Image.{Image}
use Rattle.kernel_invariant.specs.Telling.{TellsOf}
use Rattle.kernel_invariant.specs.image_meaning.Stores.{Kept}
use Rattle.kernel_invariant.specs.model_kernel.Histories.{never}
use Rattle.kernel_invariant.specs.model_kernel.State.{KernelState, Supply, Text}
use Rattle.kernel_invariant.proofs.Telling.{told_record}
use Rattle.store_copies.specs.Images.{IsAtlasRecord}
use Rattle.store_copies.specs.store_told.Told.{IsToldRecord}
use Rattle.kernel_copies.specs.Pairs.{MayCopy, MayCopyAtlas}
use Rattle.kernel_records.specs.cell_states.declared.cells.Cell.{Cell}
use Rattle.kernel_records.specs.cell_states.declared.cells.Part.{Part}
use Rattle.kernel_records.specs.cell_states.declared.cells.Part.TheVariants as part
use Rattle.kernel_records.specs.cell_states.Cells.{HasCell, part_of}
use Rattle.kernel_records.specs.page_memory.declared.paged.PagedMemory.{PagedMemory}
use Rattle.kernel_records.specs.page_memory.Words.{block_at as page_block}
use Rattle.kernel_record_facts.specs.image_meaning.Parts.{Spells}
use Rattle.kernel_record_facts.specs.cell_blobs.Blobs.{bytes_of, spelt_in}
use Rattle.kernel_record_facts.specs.Cells.{IsCleanIn, IsSoundIn, table_of, words_on}
use Rattle.kernel_record_facts.proofs.Telling.{told}
use Rattle.kernel_records.specs.Committing.{IsSpelt, MayCommit}
use Rattle.kernel_records.specs.store_books.Books.{Books, IsNewKept, kept_names, words_of_bytes}
use Rattle.kernel_records.specs.store_facts.Committed.{SameUsed}
use Rattle.kernel_records.specs.store_facts.State.{HoldsPoolBlocks}
use Rattle.kernel_views.proofs.Words.{clean_same, part_same}
use Rattle.copy_commits.specs.Committing.{AreCopyCells, MayCommitPair, StandsReady}

-- a record that tells of a state is a told record
told_as : (s : Supply) (w : KernelState) (image : Image) (table : List ℕ) (k : Kept) → TellsOf s w image table k → IsToldRecord s (λ x n. w x) k
told_as s w image table k t = (told_record (record {
  supply = s;
  policy = never;
  script = record { steps = 1; order = []; containers = []; loci = [] };
  state = w;
  since = 0;
  first = 0;
}) [] tt image table k t).told

-- where held blocks have the same words, a part whose blocks are held means the same, and its pages are clean
module _ (s : Supply) (held : ℕ → Bool) (words words' : ℕ → List ℕ) (same : (k : ℕ) → held k ≡ true → words' k ≡ words k) where
  pub part_again : (p : Part) → IsSoundIn held p → part_of s words' p ≡ part_of s words p
  part_again (part.Atlas a) sound = refl
  part_again (part.Container c) sound = part_same s words words' (part.Container c)
      (λ m is page some. (let one : c.memory ≡ m = same_Some c.memory m is in
      subst (λ (k : PagedMemory). page_block k page ≢ 0 → words' (page_block k page) ≡ words (page_block k page)) one (λ there. same (page_block c.memory page) (sound.held_blocks page there)) some))
  part_again (part.Locus l) sound = refl

  clean_again : (p : Part) → IsSoundIn held p → IsCleanIn s words p → IsCleanIn s words' p
  clean_again (part.Atlas a) sound clean = tt
  clean_again (part.Container c) sound clean = clean_same s words words' c.memory (λ page some. same (page_block c.memory page) (sound.held_blocks page some)) clean
  clean_again (part.Locus l) sound clean = tt

module _ (s : Supply) (b : Books) (image at : Image) (pool : HoldsPoolBlocks b) (same : SameUsed b image at) where
  -- a held block has the same words
  held_words : (n : ℕ) → b.held n ≡ true → words_on at n ≡ words_on image n
  held_words n held = ap words_of_bytes (same n (pool n held).0 (or_left (b.held n) (kept_names b n) held))

  module _ (w : KernelState) (tables : ℕ → List ℕ) (c : Cell) (may : MayCommit b c) (spelt : IsSpelt c) (r : StandsReady s w image tables c) (k : Kept)
      (is : IsNewKept c.clock.entity c.clock.version c.clock.stamp.0 (bytes_of (spelt_in c.part)) (table_of c.part) at k) where
    has_then : HasCell s (words_on at) w c
    has_then = record {
      part = r.has.part ∙ sym (part_again s b.held (words_on image) (words_on at) held_words c.part may.table);
      clock = r.has.clock;
    }

    pub tells : IsToldRecord s (λ x n. w x) k
    tells = told_as s w at (table_of c.part) k (told s at b.held w c k has_then may.spellable
        (record { table = may.table; clean = clean_again s b.held (words_on image) (words_on at) held_words c.part may.table r.clean; settled = r.settled })
        (record {
          entity = is.entity_is;
          version = is.version_is;
          stamp = is.stamp_is;
          components = ap length is.stamp_is ∙ spelt.components;
          spells = subst (λ (bytes : List ℕ). IfSome (spelt_in c.part) (λ p. Spells p bytes)) (sym is.blob_is) spelt.spells;
          pages = is.pages_are;
        }))

-- FROM CELLS TO RECORDS
module _ (s : Supply) (name fresh : Text) (v w : KernelState) (image : Image) (b : Books) (tables : ℕ → List ℕ) (a n : Cell)
    (may : MayCommitPair b a n) (are : AreCopyCells s name fresh v w image b tables a n) (spelt : IsSpelt a) where
  first_record : (at : Image) (k : Kept) → SameUsed b image at → IsNewKept a.clock.entity a.clock.version a.clock.stamp.0 (bytes_of (spelt_in a.part)) (table_of a.part) at k → IsAtlasRecord s w k
  first_record at k same is = record {
    is_atlas = is.entity_is ∙ are.is_atlas;
    tells = tells s b image at are.pool same w tables a may.first spelt are.atlas k is;
  }

  pub may_atlas : MayCopyAtlas s name fresh v w image b tables a.clock.entity a.clock.version a.clock.stamp.0 (bytes_of (spelt_in a.part)) (table_of a.part)
  may_atlas = record {
    meant = are.meant;
    copied = are.copied;
    records = are.records;
    owned = are.owned;
    pool = are.pool;
    table_is = are.atlas.table;
    first = first_record;
  }

  pub may_copy : IsSpelt n → MayCopy s name fresh v w image b tables a.clock.entity a.clock.version a.clock.stamp.0 (bytes_of (spelt_in a.part)) (table_of a.part)
      n.clock.entity n.clock.version n.clock.stamp.0 (bytes_of (spelt_in n.part)) (table_of n.part)
  may_copy spelt_n = record {
    meant = are.meant;
    copied = are.copied;
    records = are.records;
    all_kept = may.all_kept;
    owned = are.owned;
    pool = are.pool;
    first_table = are.atlas.table;
    second_table = are.copy.table;
    first = first_record;
    second = λ at k same is. record {
      leaves = are.leaves;
      is_copy = is.entity_is ∙ are.is_copy;
      tells = tells s b image at are.pool same w tables n may.second spelt_n are.copy k is;
    };
    small = are.small;
    fits = are.atlas.fits;
    epoch = (let low = are.epoch in omega (arith, low));
  }
