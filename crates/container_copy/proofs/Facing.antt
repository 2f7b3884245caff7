-- What the cells of a copy ask and are, once they are made.
use Rattle.std.proofs.Common.{◌≡◌, ◌≢◌, inl, inr, ℕ, zero, suc, ◌+◌, ◌<◌, ◌≤◌, true, false, List, [], replicate, length, take, Option, Some, None, refl, sym, ap, subst, ◌∙◌, arith}
use Rattle.std.specs.Prelude.{slice_get, slice_index}
use Rattle.std.proofs.lemmas.Bool.{cases_eq, lt-ltb}
use Rattle.std.proofs.lemmas.List.{length-replicate, length-take-le}
use Rattle.std.proofs.lemmas.List.Elements.{All-weaker}
use Rattle.std.proofs.lemmas.Option.{same_Some}
use Rattle.edge_disk.specs.Image.{Image}
use Rattle.base_types.specs.declared.capabilities.Cap.{Cap}
use Rattle.base_types.specs.declared.records.Rec.{Rec}
use Rattle.data_atlas.specs.data_atlas_facts.Directory.{Directory}
use Rattle.data_stamps.specs.Stamps.{component}
use Rattle.cell_copies.specs.Copying.{HasCopy, IsBlankCopy, IsSource, MayPlace}
use Rattle.cell_copies.specs.cell_births.act_alone.declared.loci.Head.{Head}
use Rattle.cell_copies.specs.cell_births.act_alone.Loci.{container_with}
use Rattle.cell_copies.specs.cell_births.act_calls.Calls.{atlas_state}
use Rattle.cell_copies.specs.cell_births.cell_clocks.Clocks.{HasClock}
use Rattle.cell_copies.specs.cell_births.cell_clocks.declared.Clock.{Clock}
use Rattle.cell_copies.specs.cell_births.cell_states.declared.cells.Cell.{Cell}
use Rattle.cell_copies.specs.cell_births.cell_states.declared.cells.Part.{Part}
use Rattle.cell_copies.specs.cell_births.cell_states.declared.cells.Part.TheVariants as part
use Rattle.cell_copies.specs.cell_births.cell_states.Cells.{HasCell, container_cell, locus_cell, part_of}
use Rattle.cell_copies.specs.cell_births.page_memory.Words.{AreHeldBlocks, IsSoundTable, words_of}
use Rattle.cell_copies.specs.model_copies.Copies.{IsCopied, copied_container}
use Rattle.cell_copies.specs.model_copies.Needing.{LeavesCopy}
use Rattle.cell_copies.specs.model_copies.model_kernel.Outcomes.{free_container}
use Rattle.cell_copies.specs.model_copies.model_kernel.Scripts.{container_named}
use Rattle.cell_copies.specs.model_copies.model_kernel.State.{AtlasCell, AtlasState, Cell as ModelCell, ContainerCell, ContainerState, EntityState, KernelState, Supply, Text}
use Rattle.cell_copies.specs.model_copies.model_kernel.Steps.{atlas_in}
use Rattle.cell_copies.specs.model_copies.model_sound_states.States.{IsSoundState}
use Rattle.store_copies.proofs.model_copies_lemmas.Copying.{leaves, sound}
use Rattle.kernel_record_facts.specs.blob_grammar.Forms.{IsNumber}
use Rattle.kernel_record_facts.specs.blob_grammar.Shapes.{IsContainerOver}
use Rattle.kernel_record_facts.specs.blob_grammar.Spelling.{container_blob}
use Rattle.kernel_record_facts.specs.cell_blobs.Blobs.{HasFormedHead, IsFormed, blob_need, spelt_in}
use Rattle.kernel_record_facts.specs.image_meaning.Parts.{AtlasPart, ContainerPart, IsOf}
use Rattle.kernel_book_laws.proofs.Committable.{container_kind}
use Rattle.kernel_record_facts.specs.Cells.{IsSoundIn, IsSpellable, table_of, words_on}
use Rattle.kernel_record_facts.proofs.Telling.{no_blocks}
use Rattle.open_image.specs.table_laws.cell_blob_laws.Memories.{HasOwnMemory}
use Rattle.kernel_views.proofs.cell_blob_laws_lemmas.Formed.{cell_formed}
use Rattle.kernel_views.proofs.Leaving.{small_both}
use Rattle.copy_commits.specs.kernel_records.kernel_block_laws.image_facts.Bodies.{blocks_for}
use Rattle.copy_commits.specs.kernel_records.kernel_block_laws.image_facts.Layout.{last_number}
use Rattle.copy_commits.specs.kernel_records.store_books.Books.{Books, recs_in}
use Rattle.copy_commits.specs.kernel_records.store_facts.Putting.{are_small}
use Rattle.copy_commits.specs.Committing.{MayCommitPair}
use Rattle.copy_commits.specs.Putting.{MayPutCopy}
use Rattle.copy_commits.proofs.Telling.{part_again}
use Rattle.kernel_records.proofs.Spelling.{container_same}
use Rattle.page_placing.specs.Copying.{blocks_in}
use Rattle.container_copy.specs.Facing.{FacesCopy, StandsBefore}
use Rattle.container_copy.specs.Needs.{CellsNeed, NeedsBlocks, spelt_blocks}

pub some_supply : Supply
some_supply = λ tag page place. 0

pub some_words : ℕ → List ℕ
some_words = λ n. []

same_atlas : (a b : AtlasState) → AtlasCell a ≡ AtlasCell b → a ≡ b
same_atlas a b e = cc

-- a part that is an atlas's in the model
an_atlas : (s : Supply) (words : ℕ → List ℕ) (p : Part) (a : AtlasState) → part_of s words p ≡ AtlasCell a → (d : Directory) × (p ≡ part.Atlas d)
an_atlas s words (part.Atlas d) a e = (d, refl)
an_atlas s words (part.Container b) a e = absurd (by b.head e)
  where
    by : (o : Option Head) → container_cell s words b.memory o ≡ AtlasCell a → ⊥
    by None e = cc e
    by (Some h) e = cc e
an_atlas s words (part.Locus l) a e = absurd (by l e)
  where
    by : (o : Option _) → locus_cell o ≡ AtlasCell a → ⊥
    by None e = cc e
    by (Some k) e = cc e

-- no slot is used
none_used : (n slot : ℕ) (cap : Cap) → slice_get (replicate {A = Option Cap} n None) slot ≡ Some (Some cap) → ⊥
none_used zero slot cap e = cc e
none_used (suc n) zero cap e = cc e
none_used (suc n) (suc slot) cap e = none_used n slot cap e

-- a container without capabilities keeps its shape
without_caps : (h : Head) (k : IsContainerOver IsNumber IsNumber (container_with (λ _. 0) h)) → IsContainerOver IsNumber IsNumber (copied_container (container_with (λ _. 0) h))
without_caps h k = record {
  some = k.some;
  size = k.size;
  entry = k.entry;
  code = k.code;
  few = k.few;
  regions = k.regions;
  inside = k.inside;
  apart = k.apart;
  caps = record { slots = length-replicate {A = Option Cap} 32 None; each = λ slot cap e. absurd (none_used 32 slot cap e) };
}

same_container : (a b : ContainerState) → ContainerCell a ≡ ContainerCell b → a ≡ b
same_container a b e = cc

-- a blob has no words
wordless : (h : Head) (words : ℕ → ℕ) (table : List ℕ) → container_blob (container_with (λ _. 0) h) table ≡ container_blob (container_with words h) table
unfolding container_blob
wordless h words table = refl

module _ (b : Books) (fresh : Text) (a src n a' n' : Cell) (f : FacesCopy b fresh a src n)
    (copied : (s : Supply) (words : ℕ → List ℕ) (v : KernelState) (name : Text) → container_named (atlas_in (v 0).cell) name ≡ Some src.clock.entity
    → HasCell s words v a → HasCell s words v src → HasCell s words v n → (h : Head) (from : List ℕ) → IsSource src.part h from
    → (w : KernelState) × IsCopied name fresh v w × HasCopy s words w from a' n')
    (same_a : a'.clock.entity ≡ a.clock.entity) (same_n : n'.clock.entity ≡ n.clock.entity)
    (blank : (h : Head) (from : List ℕ) → IsSource src.part h from → IsBlankCopy h n'.part) where
  -- the atlas of a state that has its cell
  atlas_there : (s : Supply) (words : ℕ → List ℕ) (v : KernelState) → HasCell s words v a → (v 0).cell ≡ AtlasCell (atlas_state f.directory)
  atlas_there s words v has = ap (λ (x : ℕ). (v x).cell) (sym f.zero_at) ∙ (has.part ∙ ap (part_of s words) f.is_atlas)

  named_there : (s : Supply) (words : ℕ → List ℕ) (v : KernelState) → HasCell s words v a → container_named (atlas_in (v 0).cell) f.name ≡ Some src.clock.entity
  named_there s words v has = ap (λ (c : ModelCell). container_named (atlas_in c) f.name) (atlas_there s words v has) ∙ f.named

  abbrev state : (v : KernelState) × IsSoundState some_supply v × HasCell some_supply some_words v a × HasCell some_supply some_words v src × HasCell some_supply some_words v n
  state = f.sound some_supply some_words

  abbrev v0 : KernelState
  v0 = state.0

  abbrev made0 : (w : KernelState) × IsCopied f.name fresh v0 w × HasCopy some_supply some_words w f.from a' n'
  made0 = copied some_supply some_words state.0 f.name (named_there some_supply some_words state.0 state.2) state.2 state.3 state.4 f.head f.from f.may.source_is

  abbrev w0 : KernelState
  w0 = made0.0

  sound_then : IsSoundState some_supply w0
  sound_then = sound some_supply f.name fresh state.0 made0.0 state.1 made0.1

  out : LeavesCopy f.name fresh v0 w0
  out = leaves some_supply f.name fresh state.0 made0.0 state.1 made0.1

  -- whose number the copy has
  number_in : (s : Supply) (words : ℕ → List ℕ) (name : Text) (v w : KernelState) → HasCell s words v a → (l : LeavesCopy name fresh v w) → n'.clock.entity ≡ l.number
  number_in s words name v w has l =
      let same : atlas_state f.directory ≡ l.atlas = same_atlas (atlas_state f.directory) l.atlas (sym (atlas_there s words v has) ∙ l.was_atlas) in
      let few : length f.directory.containers < 40 = f.may.may.free in
      let free : free_container (atlas_state f.directory) ≡ Some (length f.directory.containers + 1) = rw (lt-ltb (length f.directory.containers) 40 few) refl in
      let one : Some (length f.directory.containers + 1) ≡ Some l.number = sym free ∙ (ap free_container same ∙ l.free) in
      let at : length f.directory.containers + 1 ≡ l.number = same_Some (length f.directory.containers + 1) l.number one in
      same_n ∙ (f.may.may.number_is ∙ at)

  number_out : n'.clock.entity ≡ out.number
  number_out = number_in some_supply some_words f.name state.0 made0.0 state.2 out

  at_zero : a'.clock.entity ≡ 0
  at_zero = same_a ∙ f.zero_at

  -- VERSIONS
  version_a : a'.clock.version ≡ a.clock.version + 1
  version_a =
      let now : (made0.0 0).version ≡ a'.clock.version = ap (λ (x : ℕ). (made0.0 x).version) (sym at_zero) ∙ made0.2.atlas.clock.version in
      let was : (state.0 0).version ≡ a.clock.version = ap (λ (x : ℕ). (state.0 x).version) (sym f.zero_at) ∙ state.2.clock.version in
      let up = out.atlas_version in
      omega (arith, now, was, up)

  version_n : n'.clock.version ≡ 1
  version_n = sym made0.2.clock.version ∙ (ap (λ (x : ℕ). (made0.0 x).version) number_out ∙ out.copy_version)

  -- FORMS
  is_atlas' : (d : Directory) × (a'.part ≡ part.Atlas d)
  is_atlas' = an_atlas some_supply some_words a'.part _ (sym made0.2.atlas.part ∙ (ap (λ (x : ℕ). (made0.0 x).cell) at_zero ∙ out.new_atlas))

  pub directory_then : (d : Directory) × (a'.part ≡ part.Atlas d)
  directory_then = is_atlas'

  pub formed_atlas : IsFormed a'.part
  formed_atlas = cell_formed (λ k. false) some_supply some_words made0.0 a' sound_then.sound made0.2.atlas (subst (HasOwnMemory (λ k. false)) (sym is_atlas'.1) tt)

  source_formed : HasFormedHead f.may.source_is.memory (Some f.head)
  source_formed =
      let table : IsSoundTable b.held f.may.source_is.memory = subst (IsSoundIn b.held) f.may.source_is.is f.held in
      let pages : f.may.source_is.memory.pages ≡ f.head.pages = f.own_pages in
      subst IsFormed f.may.source_is.is (cell_formed b.held some_supply some_words state.0 src state.1.sound state.3
      (subst (HasOwnMemory b.held) (sym f.may.source_is.is) (record { tag = f.may.source_is.tag; pages = pages }, table)))

  is_blank : IsBlankCopy f.head n'.part
  is_blank = blank f.head f.from f.may.source_is

  pub formed_copy : IsFormed n'.part
  formed_copy =
      let k = is_blank in
      let shape : IsContainerOver IsNumber IsNumber (container_with (λ _. 0) k.begun.head) = subst (IsContainerOver IsNumber IsNumber) (sym (k.same (λ _. 0))) (without_caps f.head source_formed.0) in
      let formed : HasFormedHead k.begun.memory (Some k.begun.head) = (shape, record { tag = k.begun.tag; pages = k.begun.pages }, ap length k.begun.table_is ∙ length-replicate {A = ℕ} 256 0) in
      subst IsFormed (sym k.begun.is) formed

  spellable_atlas : IsSpellable a'
  spellable_atlas = record {
    spelt = AtlasPart (atlas_state is_atlas'.0);
    born = ap spelt_in is_atlas'.1;
    kind = subst (λ (x : ℕ). IsOf x (AtlasPart (atlas_state is_atlas'.0))) (sym at_zero) refl;
    formed = formed_atlas;
  }

  spellable_copy : IsSpellable n'
  spellable_copy = record {
    spelt = ContainerPart (container_with (λ _. 0) is_blank.begun.head) (take is_blank.begun.head.pages is_blank.begun.memory.table);
    born = ap spelt_in is_blank.begun.is;
    kind = container_kind n'.clock.entity (let is = same_n in let at = f.may.may.number_is in omega (arith, is, at)) (let is = same_n in let low = f.low in omega (arith, is, low));
    formed = formed_copy;
  }

  own_of : (w : KernelState) (c : Clock) → IsSoundState some_supply w → HasClock w c → component c.stamp c.entity ≡ c.version
  own_of w c k has = sym (has.stamp c.entity) ∙ (k.own c.entity ∙ has.version)

  -- RECORDS MAY BE MADE
  blank_held : AreHeldBlocks b.held (replicate 256 0)
  blank_held = record { held_blocks = λ p some. absurd (some (no_blocks p)); differ = λ p q some is. absurd (some (no_blocks p)) }

  pub may_pair : MayCommitPair b a' n'
  may_pair = record {
    first = record {
      spellable = spellable_atlas;
      own = own_of made0.0 a'.clock sound_then made0.2.atlas.clock;
      some = (let up = version_a in omega (arith, up));
      newer = All-weaker (λ (r : Rec). r.entity ≡ 0 → r.version ≤ a.clock.version) (λ (r : Rec). r.entity ≡ a'.clock.entity → r.version < a'.clock.version)
          (λ r old is. (let le = old (is ∙ at_zero) in let up = version_a in omega (arith, le, up))) (recs_in b) f.older;
      table = subst (IsSoundIn b.held) (sym is_atlas'.1) tt;
      read = f.read;
      room = (let low = f.room in omega (arith, low));
      epoch = (let low = f.epoch in omega (arith, low));
    };
    second = record {
      spellable = spellable_copy;
      own = own_of made0.0 n'.clock sound_then made0.2.clock;
      some = (let one = version_n in omega (arith, one));
      newer = All-weaker (λ (r : Rec). r.entity ≡ n.clock.entity → r.version ≤ 0) (λ (r : Rec). r.entity ≡ n'.clock.entity → r.version < n'.clock.version)
          (λ r old is. (let le = old (is ∙ same_n) in let one = version_n in omega (arith, le, one))) (recs_in b) f.none;
      table = subst (IsSoundIn b.held) (sym is_blank.begun.is) (is_blank.begun.sound b.held blank_held);
      read = f.read;
      room = (let low = f.room in omega (arith, low));
      epoch = (let low = f.epoch in omega (arith, low));
    };
    apart = λ e. (let zero_is = at_zero in let is = same_n in let at = f.may.may.number_is in let no : ⊥ = omega (arith, e, zero_is, is, at) in no);
    all_kept = f.all_kept;
    room = f.room;
    epoch = f.epoch;
  }

  -- pages past the end have no block
  pub may_place : MayPlace n'.part f.from
  may_place = record {
    before = replicate 256 0;
    begun = is_blank.begun;
    none_past = λ page past.
        let table : IsSoundTable b.held f.may.source_is.memory = subst (IsSoundIn b.held) f.may.source_is.is f.held in
        let same : is_blank.begun.head.pages ≡ f.head.pages = ap (λ (c : ContainerState). c.pages) (is_blank.same (λ _. 0)) in
        let own : f.may.source_is.memory.pages ≡ f.head.pages = f.own_pages in
        let none = (table.none_past page (omega (arith, past, same, own))).0 in
        ap (λ (t : List ℕ). slice_index t page) (sym f.may.source_is.table) ∙ none;
  }

  pub in_use : (p : ℕ) → slice_index f.from p ≢ 0 → b.held (slice_index f.from p) ≡ true
  in_use p some =
      let table : IsSoundTable b.held f.may.source_is.memory = subst (IsSoundIn b.held) f.may.source_is.is f.held in
      let same : slice_index f.may.source_is.memory.table p ≡ slice_index f.from p = ap (λ (t : List ℕ). slice_index t p) f.may.source_is.table in
      subst (λ (k : ℕ). b.held k ≡ true) same (table.held_blocks p (λ none. some (sym same ∙ none)))

  pub from_is : table_of src.part ≡ f.from
  from_is = ap table_of f.may.source_is.is ∙ f.may.source_is.table

  -- THE NEED of a copy: its blobs are as long as those of the state's two cells
  module _ (s : Supply) (words : ℕ → List ℕ) (v : KernelState) (name : Text) (sound_v : IsSoundState s v) (named : container_named (atlas_in (v 0).cell) name ≡ Some src.clock.entity)
      (has_a : HasCell s words v a) (has_src : HasCell s words v src) (has_n : HasCell s words v n) where
    abbrev put : (w : KernelState) × IsCopied name fresh v w × HasCopy s words w f.from a' n'
    put = copied s words v name named has_a has_src has_n f.head f.from f.may.source_is

    left : LeavesCopy name fresh v put.0
    left = leaves s name fresh v put.0 sound_v put.1

    atlas_spelt : blob_need a'.part ≡ spelt_blocks (put.0 0).cell
    atlas_spelt =
        let is : (put.0 0).cell ≡ AtlasCell (atlas_state is_atlas'.0) = ap (λ (x : ℕ). (put.0 x).cell) (sym at_zero) ∙ (put.2.atlas.part ∙ ap (part_of s words) is_atlas'.1) in
        ap blob_need is_atlas'.1 ∙ sym (ap spelt_blocks is)

    source_at : left.source ≡ src.clock.entity
    source_at = same_Some left.source src.clock.entity (sym left.named ∙ (ap (λ (x : AtlasState). container_named x name) (sym (ap atlas_in left.was_atlas)) ∙ named))

    abbrev source_words : ℕ → ℕ
    source_words = words_of s words f.may.source_is.memory

    container_is : left.container ≡ container_with source_words f.head
    container_is = same_container left.container (container_with source_words f.head)
        (sym left.was_container ∙ (ap (λ (x : ℕ). (v x).cell) source_at ∙ (has_src.part ∙ ap (part_of s words) f.may.source_is.is)))

    copy_spelt : blob_need n'.part ≡ spelt_blocks (put.0 left.number).cell
    copy_spelt =
        let k = is_blank in
        let cell : (put.0 left.number).cell ≡ ContainerCell (container_with source_words k.begun.head) = left.copy ∙ ap ContainerCell (ap copied_container container_is ∙ sym (k.same source_words)) in
        let few = k.begun.few in
        let long : length k.begun.memory.table ≡ 256 = ap length k.begun.table_is ∙ length-replicate {A = ℕ} 256 0 in
        let fronts : length (take k.begun.head.pages k.begun.memory.table) ≡ length (replicate k.begun.head.pages 0) =
        length-take-le k.begun.head.pages k.begun.memory.table (omega (arith, few, long)) ∙ sym (length-replicate {A = ℕ} k.begun.head.pages 0) in
        ap blob_need k.begun.is
        ∙ (ap blocks_for (container_same (container_with (λ _. 0) k.begun.head) (take k.begun.head.pages k.begun.memory.table) (replicate k.begun.head.pages 0) fronts
        ∙ ap length (wordless k.begun.head source_words (replicate k.begun.head.pages 0)))
        ∙ sym (ap spelt_blocks cell))

    need_put : (need : ℕ) → need ≡ blocks_in (table_of src.part) + (blob_need a'.part + blob_need n'.part) → NeedsBlocks (λ x. table_of src.part) name fresh v need
    need_put need is = record {
      state = put.0;
      copied = put.1;
      leaves = left;
      need_is = is ∙ (ap (λ (k : ℕ). blocks_in (table_of src.part) + (k + blob_need n'.part)) atlas_spelt
          ∙ ap (λ (k : ℕ). blocks_in (table_of src.part) + (spelt_blocks (put.0 0).cell + k)) copy_spelt);
    }

  pub cells_need : (need : ℕ) → need ≡ blocks_in (table_of src.part) + (blob_need a'.part + blob_need n'.part) → CellsNeed fresh a src n need
  cells_need need is s words v name sound_v named has_a has_src has_n = need_put s words v name sound_v named has_a has_src has_n need is

  -- THE STATE OF BEFORE, as a copy is put from it
  module _ (s : Supply) (name : Text) (v : KernelState) (image : Image) (tables : ℕ → List ℕ) (named : container_named (atlas_in (v 0).cell) name ≡ Some src.clock.entity)
      (st : StandsBefore s v image b tables a src n) where
    -- the three cells, whatever the other blocks hold
    made : (words : ℕ → List ℕ) → ((k : ℕ) → b.held k ≡ true → words k ≡ words_on image k) → (w : KernelState) × IsCopied name fresh v w × HasCopy s words w f.from a' n'
    made words same = copied s words v name named
        (record { part = st.has_atlas.part ∙ (ap (part_of s (words_on image)) f.is_atlas ∙ sym (ap (part_of s words) f.is_atlas)); clock = st.has_atlas.clock })
        (record { part = st.has_source.part ∙ sym (part_again s b.held (words_on image) words same src.part f.held); clock = st.has_source.clock })
        (record { part = st.has_newborn.part ∙ (ap (part_of s (words_on image)) f.unborn.is ∙ sym (ap (part_of s words) f.unborn.is)); clock = st.has_newborn.clock })
        f.head f.from f.may.source_is

    one : (w : KernelState) × IsCopied name fresh v w × HasCopy s (words_on image) w f.from a' n'
    one = made (words_on image) (λ k held. refl)

    leaves_one : LeavesCopy name fresh v one.0
    leaves_one = leaves s name fresh v one.0 st.meant.sound one.1

    -- no version of the copy is above the bound
    low_then : (x : ℕ) → (one.0 x).version ≤ last_number
    low_then x = elim (cases_eq x 0) as (λ _. (one.0 x).version ≤ last_number) [
      | inl zero_is ↦ (let at : (one.0 x).version ≡ (one.0 0).version = ap (λ (y : ℕ). (one.0 y).version) zero_is in let up = leaves_one.atlas_version in let low = st.versions 0 in omega (arith, at, up, low))
      | inr other ↦ elim (cases_eq x leaves_one.number) as (λ _. (one.0 x).version ≤ last_number) [
        | inl is ↦ (let at : (one.0 x).version ≡ (one.0 leaves_one.number).version = ap (λ (y : ℕ). (one.0 y).version) is in let up = leaves_one.copy_version in omega (arith, at, up))
        | inr apart ↦ (let at : (one.0 x).version ≡ (v x).version = ap (λ (e : EntityState). e.version) (leaves_one.others x (λ e. other (sym e)) (λ e. apart (sym e))) in let low = st.versions x in omega (arith, at, low))
      ]
    ]

    fits_then : (c : Clock) → HasClock one.0 c → are_small c.version c.stamp.0 ≡ true
    fits_then c has = small_both c.version c.stamp.0 (let at = has.version in let low = low_then c.entity in omega (arith, at, low))
        (λ y. (let at = has.stamp y in let below = (sound s name fresh v one.0 st.meant.sound one.1).below c.entity y in let low = low_then y in omega (arith, at, below, low)))

    pub may_put : MayPutCopy s name fresh v image b tables f.from a' n'
    may_put = record {
      meant = st.meant;
      records = st.records;
      owned = st.owned;
      small = st.small;
      epoch = (let low = st.epoch in omega (arith, low));
      is_atlas = at_zero;
      no_atlas = st.no_atlas;
      unset = λ p. ap (λ (x : ℕ). slice_index (tables x) p) same_n ∙ st.unset p;
      fits_atlas = fits_then a'.clock one.2.atlas.clock;
      fits_copy = fits_then n'.clock one.2.clock;
      copy = made;
      number = λ w l. number_in s (words_on image) name v w st.has_atlas l;
    }
