-- The part of a cell, by what is chosen of its entity.
use Rattle.std.proofs.Common.{◌≡◌, ◌≢◌, ℕ, ◌/◌, ◌%◌, ◌<◌, ◌≤◌, ◌==◌, if◌then◌else◌, Bool, true, List, [], length, replicate, take, Some, None, refl, sym, ap, subst, ◌∙◌, ⊎_elim, arith}
use Rattle.std.specs.Prelude.{slice_index}
use Rattle.std.proofs.lemmas.Bool.{cases_lt}
use Rattle.std.proofs.lemmas.List.{get_or_past, length-replicate}
use Rattle.base_types.specs.Kinds.{kind_of}
use Rattle.base_types.specs.declared.entities.Kind.TheVariants as kinds
use Rattle.base_types.specs.declared.records.Rec.{Rec}
use Rattle.cell_clocks.specs.model_kernel.State.{AtlasCell, ContainerCell, Supply, empty_state, no_atlas}
use Rattle.data_atlas.specs.data_atlas_facts.Directory.{Directory}
use Rattle.kernel_record_facts.proofs.blob_facts_lemmas.AtlasRead.{no_edges, no_rows}
use Rattle.kernel_record_facts.proofs.blob_facts_lemmas.AtlasWalk.{so_far}
use Rattle.page_memory.proofs.Begun.{begun_clean, begun_table, begun_words}
use Rattle.page_memory.specs.Words.{AreCleanTrue, AreHeldBlocks, words_of}
use Rattle.page_memory.specs.declared.paged.PagedMemory.{PagedMemory}
use Rattle.image_state_laws.specs.image_meaning.Parts.{IsFormed, word_in, words_in}
use Rattle.image_chosen.proofs.Placing.{zero_table}
use Rattle.image_chosen.specs.image_chosen_facts.Tables.{IsTableOf}
use Rattle.table_laws.specs.act_calls.Calls.{atlas_state}
use Rattle.kernel_record_facts.specs.cell_states.declared.cells.Part.TheVariants as part
use Rattle.image_chosen.specs.act_alone.Loci.{container_with}
use Rattle.image_state_laws.proofs.Meant.{empty_cell}
use Rattle.image_chosen.specs.image_fits.Chosen.{part_of}
use Rattle.image_chosen.specs.image_fits.declared.chosen.ChosenPart.TheVariants as chosen
use Rattle.image_chosen.specs.blob_reading.declared.containers.ContainerBlob.{ContainerBlob}
use Rattle.table_opened.specs.Opened.{HoldWords, IsChosenPart, memory_with}
use Rattle.table_opened.proofs.Numbers.{is_atlas, is_container}
use Rattle.std.proofs.lemmas.Option.{same_Some}

-- THE TABLE of a container

module _ (x : ℕ) (c : ContainerBlob) (table : List ℕ) (formed : IsFormed x (part_of (chosen.Container c))) (is : IsTableOf (take c.head.pages c.blocks) table) where
  abbrev blocks : List ℕ
  blocks = take c.head.pages c.blocks

  sized : length blocks ≡ c.head.pages
  sized = formed.spells.form.blocks.each_page

  few_pages : c.head.pages ≤ 256
  few_pages = formed.spells.form.shape.size

  same_block : (page : ℕ) → slice_index table page ≡ slice_index blocks page
  same_block page = ⊎_elim
      (λ (low : page < 256). is.same page low)
      (λ (high : 256 ≤ page).
      let long = is.long in
      let size = sized in
      let few = few_pages in
      get_or_past table page 0 (omega (arith, long, high)) ∙ sym (get_or_past blocks page 0 (omega (arith, size, few, high))))
      (cases_lt page 256)

  none_past : (page : ℕ) → c.head.pages ≤ page → slice_index table page ≡ 0
  none_past page high = same_block page ∙ get_or_past blocks page 0 (let size = sized in omega (arith, size, high))

  held_table : (held : ℕ → Bool) → AreHeldBlocks held blocks → AreHeldBlocks held table
  held_table held h = record {
    held_blocks = λ page. subst (λ (n : ℕ). n ≢ 0 → held n ≡ true) (sym (same_block page)) (h.held_blocks page);
    differ = λ p q some same. h.differ p q (subst (λ (n : ℕ). n ≢ 0) (same_block p) some) (sym (same_block p) ∙ (same ∙ same_block q));
  }

  -- the words of its memory
  module _ (frames : ℕ) where
    abbrev m : PagedMemory
    m = memory_with c.head.tag c.head.pages table frames

    word_is : (s : Supply) (bytes words : ℕ → List ℕ) → HoldWords bytes words → (address : ℕ) → words_of s words m address ≡ words_in s c.head.tag bytes blocks address
    word_is s bytes words holds address =
        let block : ℕ = slice_index table (address / 128) in
        begun_words m 256 refl s words address
        ∙ (ap (λ (w : ℕ). if block == 0 then s c.head.tag (address / 128) (address % 128) else w) (holds block (address % 128) (omega arith))
        ∙ ap (λ (n : ℕ). word_in s c.head.tag bytes n address) (same_block (address / 128)))

    pub container_part : (r : Rec) → IsChosenPart frames x (Some (record { rec = r; part = chosen.Container c })) (part.Container (record { head = Some c.head; memory = m }))
    container_part r = record {
      kind = is_container x (sym formed.kind);
      state = λ s bytes words holds. ap (λ (w : ℕ → ℕ). ContainerCell (container_with w c.head)) (λ i address. word_is s bytes words holds address i);
      table = same_block;
      own = λ held h. (record { tag = refl; pages = refl }, begun_table m 256 refl held few_pages is.long none_past (held_table held h));
      room = λ n same. ap (λ (k : PagedMemory). k.frames) (sym (same_Some m n same));
      clean = λ s words n same. subst (λ (k : PagedMemory). AreCleanTrue s words k) (same_Some m n same) (begun_clean m 256 refl s words);
    }

-- NOTHING IS CHOSEN

-- the atlas names nothing
no_names : atlas_state (so_far no_rows []) ≡ no_atlas
no_names = λ i. record { containers = []; loci = []; edges = λ x y. no_edges (so_far no_rows []) (so_far no_rows []) refl refl (so_far no_rows []) refl x y i }

pub unborn_atlas : (frames x : ℕ) (a : Directory) → kind_of x ≡ kinds.Atlas → a ≡ so_far no_rows [] → IsChosenPart frames x None (part.Atlas a)
unborn_atlas frames x a kind is = record {
  kind = is_atlas x kind;
  state = λ s bytes words holds.
      let zero_is : x ≡ 0 = is_atlas x kind in
      ap (λ (d : Directory). AtlasCell (atlas_state d)) is ∙ (ap AtlasCell no_names ∙ ap (λ (n : ℕ). (empty_state n).cell) (sym zero_is));
  table = λ page. refl;
  own = λ held h. tt;
  room = λ n same. absurd (none n same);
  clean = λ s words n same. absurd (none n same);
}
  where
    none : (n : PagedMemory) → None ≡ Some n → ⊥
    none n same = cc

pub unborn_container : (frames x : ℕ) → kind_of x ≡ kinds.Container → IsChosenPart frames x None (part.Container (record { head = None; memory = memory_with 0 0 (replicate 256 0) frames }))
unborn_container frames x kind =
    let m : PagedMemory = memory_with 0 0 (replicate 256 0) frames in
    let zeros : (page : ℕ) → slice_index m.table page ≡ 0 = λ page. zero_table m.table page refl in
    record {
      kind = is_container x kind;
      state = λ s bytes words holds. sym (empty_cell x (is_container x kind).0);
      table = zeros;
      own = λ held h. (
        refl,
        begun_table m 256 refl held (omega arith) (length-replicate {A = ℕ} 256 0) (λ page high. zeros page)
            (record { held_blocks = λ page some. absurd (some (zeros page)); differ = λ p q some same. absurd (some (zeros p)) }),
      );
      room = λ n same. ap (λ (k : PagedMemory). k.frames) (sym (same_Some m n same));
      clean = λ s words n same. subst (λ (k : PagedMemory). AreCleanTrue s words k) (same_Some m n same) (begun_clean m 256 refl s words);
    }
