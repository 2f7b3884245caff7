-- The cells of a copy in a table that was opened.
use Rattle.std.proofs.Common.{◌≡◌, ℕ, ◌+◌, ◌^◌, ◌<◌, ◌≤◌, ◌&&◌, Bool, true, false, IsTrue, List, length, Option, Some, None, is_none, refl, sym, ap, subst, ◌∙◌, arith}
use Rattle.std.specs.Prelude.{All, slice_get, slice_index}
use Rattle.std.specs.List.{All as AllOf}
use Rattle.std.proofs.lemmas.Bool.Decides.{nat_tests}
use Rattle.std.proofs.lemmas.List.Elements.{All-weaker}
use Rattle.edge_disk.specs.Image.{Image}
use Rattle.base_types.specs.declared.capabilities.Region.{Region}
use Rattle.base_types.specs.declared.records.Rec.{Rec}
use Rattle.data_atlas.specs.data_atlas_facts.Directory.{Directory}
use Rattle.data_frames.specs.FrameTable.{FrameTable, empty_table, page_at}
use Rattle.cell_copies.specs.Copying.{IsSource, MayCopyPart}
use Rattle.cell_copies.specs.Refusals.{copy_refusal}
use Rattle.cell_copies.proofs.Refusing.{good}
use Rattle.cell_copies.proofs.Words.{none_in}
use Rattle.cell_copies.specs.cell_births.act_alone.declared.loci.Head.{Head}
use Rattle.cell_copies.specs.cell_births.act_alone.Loci.{container_with}
use Rattle.cell_copies.specs.cell_births.act_calls.Calls.{atlas_state}
use Rattle.cell_copies.specs.cell_births.cell_states.declared.cells.Cell.{Cell}
use Rattle.cell_copies.specs.cell_births.cell_states.declared.cells.Part.TheVariants as part
use Rattle.cell_copies.specs.cell_births.cell_states.Cells.{HasCell, part_of}
use Rattle.cell_copies.specs.cell_births.page_memory.declared.paged.PagedMemory.{PagedMemory}
use Rattle.cell_copies.specs.cell_births.page_memory.Words.{words_of}
use Rattle.cell_copies.specs.model_copies.model_kernel.Outcomes.{free_container}
use Rattle.cell_copies.specs.model_copies.model_kernel.Scripts.{container_named, number_of}
use Rattle.cell_copies.specs.model_copies.model_kernel.Soundness.{AreSound, IsSoundContainer, IsSoundRegion, is_born_container, is_given_name, regions_onto}
use Rattle.cell_copies.specs.model_copies.model_kernel.State.{AtlasState, Cell as ModelCell, ContainerCell, ContainerState, KernelState, NotBorn, Supply, Text}
use Rattle.model_sound_states.proofs.model_sound_runs_lemmas.Tables.{container_named_born}
use Rattle.kernel_record_facts.specs.Cells.{IsSoundIn, table_of, words_on}
use Rattle.kernel_records.proofs.Newest.{few_kept}
use Rattle.open_image.specs.kernel_views.Views.{newest_at}
use Rattle.open_image.specs.open_facts.Images.{IsOpenedTable}
use Rattle.open_image.specs.store_books.Books.{recs_in}
use Rattle.open_image.specs.store_facts.State.{State, books}
use Rattle.open_image.specs.table_laws.Steps.{HasDirectory}
use Rattle.open_image.specs.table_laws.Tables.{IsOrderly, blocks_by, entity_in, memory_at, state_in, tables_in}
use Rattle.open_image.specs.table_laws.cell_calls.Besides.{memory_of}
use Rattle.open_image.specs.table_laws.cell_blob_laws.Memories.{HasOwnMemory}
use Rattle.table_laws.proofs.Facing.{cells, part_here}
use Rattle.table_laws.proofs.FacingAtlas.{directory_is, directory_sound, newborn_unborn}
use Rattle.table_laws.proofs.Having.{no_supply, no_words, state_has}
use Rattle.table_laws.proofs.cell_step_laws_lemmas.SoundParts.{IsBornPart, born_part}
use Rattle.container_copy.specs.Copying.{StandsTable}
use Rattle.container_copy.specs.Facing.{FacesCopy, StandsBefore}
use Rattle.container_copy.specs.Needs.{CellsNeed, TableNeeds, spelt_blocks}
use Rattle.page_placing.specs.Copying.{blocks_in}
use Rattle.table_births.proofs.AtlasStates.{has_atlas, same_atlas}
use Rattle.cell_copies.specs.model_copies.model_kernel.Steps.{atlas_in}
use Rattle.std.proofs.lemmas.Option.{same_Some}

none_is : (o : Option ℕ) → is_none o ≡ true → o ≡ None
none_is None e = refl
none_is (Some n) e = absurd (cc e)

both_true : (a b : Bool) → (a && b) ≡ true → (a ≡ true) × (b ≡ true)
both_true true b e = (refl, e)
both_true false b e = absurd (cc e)

-- the containers are numbers from 1 to 40
low_number : (a : AtlasState) (x : ℕ) → length a.containers ≤ 40 → IsTrue (is_born_container a x) → (1 ≤ x) × (x ≤ 40)
low_number a x few born =
    let lt : 0 < x = grind (arith, nat_tests) in
    let le : x ≤ length a.containers = grind (arith, nat_tests) in
    (omega (arith, lt), omega (arith, le, few))

pub source_low : (a : AtlasState) (x : ℕ) → IsTrue (is_born_container a x) → (0 < x) × (x ≤ length a.containers)
source_low a x born = ((let lt : 0 < x = grind (arith, nat_tests) in lt), (let le : x ≤ length a.containers = grind (arith, nat_tests) in le))

-- where none of the refusals holds, a number is free
pub few_of : (d : Directory) (name fresh : Text) → copy_refusal (atlas_state d) name fresh ≡ None → length d.containers < 40
few_of d name fresh none = by_free (good (atlas_state d) name fresh none).number (good (atlas_state d) name fresh none).free
  where
    by_free : (k : ℕ) → free_container (atlas_state d) ≡ Some k → length d.containers < 40
    by_free k is = (let low : length d.containers < 40 = grind (arith, nat_tests) in low)

module _ {D : Type 0} (st : State D) (cs : List Cell) (t : IsOpenedTable 1 1 st cs) (d : Directory) (has : HasDirectory cs d) (name fresh : Text)
    (none : copy_refusal (atlas_state d) name fresh ≡ None) where
  abbrev ord : IsOrderly (books st).held cs
  ord = t.orderly

  sound : AreSound (atlas_state d) (cells (books st).held cs ord)
  sound = directory_sound (books st).held cs t.orderly d has

  tests : (is_given_name fresh ≡ true) × (is_none (number_of (atlas_state d) fresh) ≡ true)
  tests = both_true (is_given_name fresh) (is_none (number_of (atlas_state d) fresh)) (good (atlas_state d) name fresh none).tests

  pub few_containers : length d.containers < 40
  few_containers = few_of d name fresh none

  module _ (source : ℕ) (named : container_named (atlas_state d) name ≡ Some source) (a src n : Cell)
      (at_a : slice_get cs 0 ≡ Some a) (at_src : slice_get cs source ≡ Some src) (at_n : slice_get cs (length d.containers + 1) ≡ Some n) where
    born : IsTrue (is_born_container (atlas_state d) source)
    born = container_named_born (atlas_state d) name source named

    there : (c : ContainerState) × (cells (books st).held cs ord source ≡ ContainerCell c) × IsSoundContainer (atlas_state d) c
    there = sound.containers source born

    born_src : IsBornPart no_supply no_words src.part there.0
    born_src = born_part no_supply no_words src.part there.0 (part_here (books st).held cs t.orderly source src at_src ∙ there.1)

    abbrev memory : PagedMemory
    memory = born_src.memory

    abbrev h : Head
    h = born_src.head

    at : src.clock.entity ≡ source
    at = t.orderly.numbers.each source src at_src

    at_newborn : n.clock.entity ≡ length d.containers + 1
    at_newborn = t.orderly.numbers.each (length d.containers + 1) n at_n

    own_src : HasOwnMemory (books st).held (part.Container (record { head = Some h; memory = memory }))
    own_src = subst (HasOwnMemory (books st).held) born_src.is (t.orderly.own source src at_src)

    frames : memory.frames ≡ empty_table 1
    frames = t.frames_are source born_src.memory (ap memory_at at_src ∙ ap memory_of born_src.is)

    is_source : IsSource src.part h memory.table
    is_source = record {
      memory = born_src.memory;
      is = born_src.is;
      tag = own_src.0.tag;
      table = refl;
      none_resident = λ page. ap (λ (f : FrameTable). page_at f page) frames ∙ none_in 256 page;
    }

    state_is : container_with (words_of no_supply no_words memory) h ≡ there.0
    state_is = born_src.state

    may_part : MayCopyPart d h (length d.containers + 1) fresh
    may_part = record {
      given = tests.0;
      is_new = none_is (number_of (atlas_state d) fresh) tests.1;
      free = few_containers;
      number_is = refl;
      unlinked = λ y. sound.edges (length d.containers + 1) y ∙ ap (λ (c : ModelCell). regions_onto c y) (unborn_cell n at_n);
      targets = subst (AllOf (λ (r : Region). (1 ≤ r.target) × (r.target ≤ 40))) (sym (ap (λ (c : ContainerState). c.regions) state_is))
          (All-weaker (IsSoundRegion (atlas_state d)) (λ (r : Region). (1 ≤ r.target) × (r.target ≤ 40)) (λ r s. low_number (atlas_state d) r.target (let few = few_containers in omega (arith, few)) s.target) there.0.regions there.2.regions);
      some = subst (λ k. 1 ≤ k) (sym (ap (λ (c : ContainerState). c.pages) state_is)) there.2.some;
      few = subst (λ k. k ≤ 256) (sym (ap (λ (c : ContainerState). c.pages) state_is)) there.2.size;
    }
      where
        unborn_cell : (k : Cell) → slice_get cs (length d.containers + 1) ≡ Some k → cells (books st).held cs t.orderly (length d.containers + 1) ≡ NotBorn
        unborn_cell k is =
            let u = newborn_unborn (books st).held cs t.orderly d k has few_containers is in
            sym (part_here (books st).held cs t.orderly (length d.containers + 1) k is) ∙ ap (part_of no_supply no_words) u.is

    newest_is : (x : ℕ) (c : Cell) → slice_get cs x ≡ Some c → newest_at (slice_get cs x) ≡ c.clock.version
    newest_is x c is = ap newest_at is ∙ (sym (t.wishes no_supply no_words x c is).newest ∙ (ap (λ y. (state_in no_supply no_words cs y).version) (t.orderly.numbers.each x c is) ∙ ap (λ o. (entity_in no_supply no_words x o).version) is))

    most : (x k : ℕ) → newest_at (slice_get cs x) ≤ k → (rs : List Rec) → All (λ (r : Rec). r.version ≤ newest_at (slice_get cs r.entity)) rs → All (λ (r : Rec). r.entity ≡ x → r.version ≤ k) rs
    most x k le rs all = All-weaker (λ (r : Rec). r.version ≤ newest_at (slice_get cs r.entity)) (λ (r : Rec). r.entity ≡ x → r.version ≤ k)
        (λ r low is. (let same : newest_at (slice_get cs r.entity) ≡ newest_at (slice_get cs x) = ap (λ y. newest_at (slice_get cs y)) is in omega (arith, low, same, le))) rs all

    unborn_version : n.clock.version ≡ 0
    unborn_version =
        let k = t.orderly.sound no_supply no_words in
        let u = newborn_unborn (books st).held cs t.orderly d n has few_containers at_n in
        let cell : (state_in no_supply no_words cs (length d.containers + 1)).cell ≡ NotBorn = ap (λ o. (entity_in no_supply no_words (length d.containers + 1) o).cell) at_n ∙ ap (part_of no_supply no_words) u.is in
        let version = (k.born (length d.containers + 1) (omega arith)).0 cell in
        sym (ap (λ o. (entity_in no_supply no_words (length d.containers + 1) o).version) at_n) ∙ version

    pub faces : (low : a.clock.version < 2 ^ 63) → FacesCopy (books st) fresh a src n
    unfolding is_source born_src
    faces low = record {
      directory = d;
      head = born_src.head;
      from = born_src.memory.table;
      is_atlas = directory_is (books st).held cs t.orderly d has a at_a;
      may = record {
        source_is = is_source;
        some = (let l = (source_low (atlas_state d) source born).0 in let e = at in omega (arith, l, e));
        born = (let l = (source_low (atlas_state d) source born).1 in let e = at in omega (arith, l, e));
        may = subst (λ k. MayCopyPart d born_src.head k fresh) (sym at_newborn) may_part;
      };
      name = name;
      named = named ∙ ap Some (sym at);
      unborn = newborn_unborn (books st).held cs t.orderly d n has few_containers at_n;
      zero_at = t.orderly.numbers.each 0 a at_a;
      low = (let e = at_newborn in let few = few_containers in omega (arith, e, few));
      few = (low, (let e = unborn_version in omega (arith, e)));
      held = subst (IsSoundIn (books st).held) (sym born_src.is) own_src.1;
      own_pages = own_src.0.pages;
      sound = λ s words. (
        state_in s words cs,
        t.orderly.sound s words,
        state_has s words cs a (ap (slice_get cs) (t.orderly.numbers.each 0 a at_a) ∙ at_a),
        state_has s words cs src (ap (slice_get cs) at ∙ at_src),
        state_has s words cs n (ap (slice_get cs) at_newborn ∙ at_n),
      );
      older = most 0 a.clock.version (let e = newest_is 0 a at_a in omega (arith, e)) (recs_in (books st)) t.newest.newest.most;
      none = subst (λ k. All (λ (r : Rec). r.entity ≡ k → r.version ≤ 0) (recs_in (books st))) (sym at_newborn)
          (most (length d.containers + 1) 0 (let e = newest_is (length d.containers + 1) n at_n in let z = unborn_version in omega (arith, e, z)) (recs_in (books st)) t.newest.newest.most);
      all_kept = t.opened.all_kept;
      read = t.opened.read;
      room = (let few = few_kept (λ x. newest_at (slice_get cs x)) t.newest.stamps 1 (books st) t.newest.newest t.newest.few in omega (arith, few));
      epoch = (let is = t.opened.epoch in let le = t.opened.known.epoch in omega (arith, is, le));
    }

    -- THE NEED of a copy, by the tables of the cells
    pub needs_in : (need : ℕ) → CellsNeed fresh a src n need → TableNeeds cs name fresh need
    needs_in need k s words =
        let atlas : atlas_in (state_in s words cs 0).cell ≡ atlas_state d = same_atlas s words cs ∙ has_atlas cs d has in
        let r = k s words (state_in s words cs) name (t.orderly.sound s words) (ap (λ (x : AtlasState). container_named x name) atlas ∙ (named ∙ ap Some (sym at)))
        (state_has s words cs a (ap (slice_get cs) (t.orderly.numbers.each 0 a at_a) ∙ at_a)) (state_has s words cs src (ap (slice_get cs) at ∙ at_src)) (state_has s words cs n (ap (slice_get cs) at_newborn ∙ at_n)) in
        let here : r.leaves.source ≡ source = same_Some r.leaves.source source (sym r.leaves.named ∙ (ap (λ (x : AtlasState). container_named x name) (sym (ap atlas_in r.leaves.was_atlas) ∙ atlas) ∙ named)) in
        let table : tables_in cs r.leaves.source ≡ table_of src.part =
        ap (tables_in cs) here ∙ (ap (λ o. blocks_by (memory_at o)) at_src ∙ (ap (λ q. blocks_by (memory_of q)) born_src.is ∙ sym (ap table_of born_src.is))) in
        record {
          state = r.state;
          copied = r.copied;
          leaves = r.leaves;
          need_is = r.need_is ∙ ap (λ (u : List ℕ). blocks_in u + (spelt_blocks (r.state 0).cell + spelt_blocks (r.state r.leaves.number).cell)) (sym table);
        }

    pub before : (s : Supply) (v : KernelState) (image : Image) → StandsTable s v image (books st) cs → StandsBefore s v image (books st) (tables_in cs) a src n
    before s v image k = record {
      meant = k.meant;
      records = k.records;
      owned = k.owned;
      small = k.small;
      epoch = k.epoch;
      versions = k.versions;
      no_atlas = λ p. ap (λ o. slice_index (blocks_by (memory_at o)) p) at_a
          ∙ ap (λ q. slice_index (blocks_by (memory_of q)) p) (directory_is (books st).held cs t.orderly d has a at_a);
      unset = λ p.
          let u = newborn_unborn (books st).held cs t.orderly d n has few_containers at_n in
          let own = subst (HasOwnMemory (books st).held) u.is (t.orderly.own (length d.containers + 1) n at_n) in
          let empty = own.0 in
          ap (λ x. slice_index (tables_in cs x) p) at_newborn
          ∙ (ap (λ o. slice_index (blocks_by (memory_at o)) p) at_n
          ∙ (ap (λ q. slice_index (blocks_by (memory_of q)) p) u.is
          ∙ (own.1.none_past p (omega (arith, empty))).0));
      has_atlas = subst (λ w. HasCell s (words_on image) w a) k.state (state_has s (words_on image) cs a (ap (slice_get cs) (t.orderly.numbers.each 0 a at_a) ∙ at_a));
      has_source = subst (λ w. HasCell s (words_on image) w src) k.state (state_has s (words_on image) cs src (ap (slice_get cs) at ∙ at_src));
      has_newborn = subst (λ w. HasCell s (words_on image) w n) k.state (state_has s (words_on image) cs n (ap (slice_get cs) at_newborn ∙ at_n));
    }
