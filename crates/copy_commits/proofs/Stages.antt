-- A copy put into a store: from its pages to its records.
use Rattle.std.proofs.Common.{◌≡◌, ◌≢◌, inl, inr, ℕ, ◌+◌, ◌<◌, true, false, List, sym, ap, subst, ◌∙◌}
use Rattle.std.specs.Prelude.{slice_index}
use Rattle.std.proofs.lemmas.Bool.{cases_eq, or_left}
use Rattle.edge_disk.specs.declared.disk.Disk.{Ghosts}
use Rattle.edge_disk.specs.Image.{Image}
use Rattle.edge_disk.specs.Moments.{LeavesOnly}
use Rattle.data_atlas.specs.data_atlas_facts.Directory.{Directory}
use Rattle.cell_copies.specs.Copying.{HasCopiedPages, HasCopy, HasPlaced, MayPlace}
use Rattle.page_placing.specs.Copying.{AreCopied, blocks_in}
use Rattle.kernel_placing.specs.Placing.{stores_of, with_table}
use Rattle.kernel_placing.proofs.Owners.{at_other, at_place, owned_with}
use Rattle.kernel_invariant.specs.image_meaning.Meaning.{Means}
use Rattle.kernel_invariant.specs.image_meaning.Stores.{Kept, Stores}
use Rattle.kernel_invariant.specs.model_kernel.State.{KernelState, Supply, Text}
use Rattle.kernel_invariant.proofs.Stretches.{leaves_map}
use Rattle.kernel_invariant.proofs.store_books_lemmas.Owners.{place_in}
use Rattle.store_copies.specs.Images.{AreRecordsOf}
use Rattle.store_copies.specs.Moments.{MeansEither}
use Rattle.store_copies.specs.model_copies.Copies.{IsCopied}
use Rattle.store_copies.proofs.model_copies_lemmas.Copying.{leaves}
use Rattle.kernel_copies.proofs.Pairing.{kept_means}
use Rattle.kernel_records.specs.cell_clocks.declared.Clock.{Clock}
use Rattle.kernel_records.specs.cell_states.declared.cells.Cell.{Cell}
use Rattle.kernel_records.specs.cell_states.declared.cells.Part.{Part}
use Rattle.kernel_records.specs.cell_states.declared.cells.Part.TheVariants as part
use Rattle.kernel_records.specs.page_memory.Words.{AreHeldBlocks}
use Rattle.kernel_record_facts.specs.Cells.{IsCleanIn, IsSettled, table_of, words_on}
use Rattle.kernel_record_facts.proofs.Telling.{no_blocks}
use Rattle.kernel_records.specs.kernel_block_laws.image_blocks.Logs.{Place}
use Rattle.kernel_records.specs.kernel_block_laws.image_facts.Layout.{last_number}
use Rattle.kernel_records.specs.store_books.Books.{AreSmall, AreTrue, kept_names, kept_of}
use Rattle.kernel_records.specs.store_books.Between.{LeavesOnly-join}
use Rattle.kernel_records.specs.store_books.Owning.{AreOwned}
use Rattle.kernel_records.specs.store_facts.Putting.{are_small}
use Rattle.kernel_records.specs.store_facts.State.{HoldsPoolBlocks, State, books}
use Rattle.store_snapshots.specs.Paging.{GoesByPages}
use Rattle.copy_commits.specs.Committing.{AreCopyCells, StandsReady}
use Rattle.copy_commits.specs.Putting.{LeavesCopyOf, MayPutCopy, MeansBeforeOr}

module _ {D : Type 0} (disks : Ghosts D) (from table : List ℕ) (old mid : State D) (k : AreCopied (stores_of disks) from table old mid) where
  -- the new blocks are held, each once
  pub blocks_held : AreHeldBlocks (books mid).held table
  blocks_held = record { held_blocks = λ p some. k.taken.now_held p some; differ = λ p q some same. k.taken.apart p q some same }

  pub none_there : (p : ℕ) → slice_index from p ≡ 0 → slice_index table p ≡ 0
  none_there p none = elim (cases_eq (slice_index table p) 0) as (λ _. slice_index table p ≡ 0) [ inl is ↦ is | inr some ↦ absurd (k.none p some none) ]

  module _ (t : disks.tells) (in_use : (p : ℕ) → slice_index from p ≢ 0 → (books old).held (slice_index from p) ≡ true) where
    -- a block that was held has its words still
    pub words_stay : (n : ℕ) → (books old).held n ≡ true → words_on (disks.reading mid.disk) n ≡ words_on (disks.reading old.disk) n
    words_stay n held = k.taken.same_words t n (or_left ((books old).held n) (kept_names (books old) n) held) (λ no. no)

    pub pages_copied : HasCopiedPages (words_on (disks.reading mid.disk)) from table
    pages_copied = record {
      none = none_there;
      each = λ p some. (k.each p some, k.words_are t p (k.each p some) ∙ sym (words_stay (slice_index from p) (in_use p some)));
    }

module _ {D : Type 0} (disks : Ghosts D) (s : Supply) (name fresh : Text) (v : KernelState) (from : List ℕ) (old mid : State D) (tables : ℕ → List ℕ) (a n : Cell)
    (t : disks.tells) (right : AreTrue disks (books old) old.disk) (working : (books old).shut ≡ false)
    (may : MayPutCopy s name fresh v (disks.reading old.disk) (books old) tables from a n) (go : GoesByPages disks old mid) where
  -- while the pages are copied
  pub by_pages : LeavesOnly disks old.disk mid.disk (MeansBeforeOr s name fresh v)
  by_pages = leaves_map disks old.disk mid.disk (Stores (books old).count (kept_of (disks.reading old.disk) (books old))) (MeansBeforeOr s name fresh v)
      (λ c st. inl (kept_means s v (disks.reading old.disk) c (books old) tables may.meant may.records may.owned st))
      (go.only.moments t right may.small working)

  module _ (table : List ℕ) (k : AreCopied (stores_of disks) from table old mid) (in_use : (p : ℕ) → slice_index from p ≢ 0 → (books old).held (slice_index from p) ≡ true)
      (pool : HoldsPoolBlocks (books mid)) (placed : Cell) (place : MayPlace n.part from) (is : HasPlaced n table placed) (d : Directory) (is_a : a.part ≡ part.Atlas d) where
    abbrev made : (w : KernelState) × IsCopied name fresh v w × HasCopy s (words_on (disks.reading mid.disk)) w from a n
    made = may.copy (words_on (disks.reading mid.disk)) (λ b held. words_stay disks from table old mid k t in_use b held)

    abbrev state : KernelState
    state = made.0

    abbrev now : ℕ → List ℕ
    now = with_table tables n.clock.entity table

    small_mid : AreSmall (books mid)
    small_mid = record {
      recs = go.only.same_small ∙ may.small.recs;
      epoch = subst (λ (p : Place). p.epoch < last_number) (sym go.only.same_place) may.small.epoch;
    }

    owned_mid : AreOwned (books mid) now
    owned_mid = owned_with disks (blocks_in from) table old mid k.taken tables n.clock.entity
        (λ m named. (let p = place_in (tables n.clock.entity) m named.1 in named.0 (sym p.1 ∙ may.unset p.0))) may.owned go.only.same_logged go.only.same_count

    same_clock : placed.clock ≡ n.clock
    same_clock = ap (λ (x : Cell). x.clock) is.only_part

    atlas_ready : StandsReady s state (disks.reading mid.disk) now a
    atlas_ready = record {
      has = made.2.atlas;
      clean = subst (IsCleanIn s (words_on (disks.reading mid.disk))) (sym is_a) tt;
      settled = subst IsSettled (sym is_a) tt;
      table = λ p. ap (λ (x : Part). slice_index (table_of x) p) is_a ∙ (no_blocks p ∙ sym (no_there p));
      fits = may.fits_atlas;
    }
      where
        differs : 0 ≢ n.clock.entity
        differs = (let l = leaves s name fresh v made.0 may.meant.sound made.1 in λ e. l.apart (e ∙ may.number made.0 l))

        no_there : (p : ℕ) → slice_index (with_table tables n.clock.entity table a.clock.entity) p ≡ 0
        no_there p =
            ap (λ (x : ℕ). slice_index (with_table tables n.clock.entity table x) p) may.is_atlas
            ∙ (ap (λ (ts : List ℕ). slice_index ts p) (at_other tables n.clock.entity table 0 differs) ∙ may.no_atlas p)

    copy_ready : StandsReady s state (disks.reading mid.disk) now placed
    copy_ready = record {
      has = made.2.newborn table placed (pages_copied disks from table old mid k t in_use) is;
      clean = subst (IsCleanIn s (words_on (disks.reading mid.disk))) (sym is.begun.is) (is.begun.clean s (words_on (disks.reading mid.disk)));
      settled = subst IsSettled (sym is.begun.is) is.begun.unchanged;
      table = λ p. ap (λ (ts : List ℕ). slice_index ts p) (ap table_of is.begun.is ∙ is.begun.table_is)
          ∙ sym (ap (λ (c : Clock). slice_index (with_table tables n.clock.entity table c.entity) p) same_clock ∙ ap (λ (ts : List ℕ). slice_index ts p) (at_place tables n.clock.entity table));
      fits = subst (λ (c : Clock). are_small c.version c.stamp.0 ≡ true) (sym same_clock) may.fits_copy;
    }

    pub are_copy : AreCopyCells s name fresh v state (disks.reading mid.disk) (books mid) now a placed
    are_copy = (let l = leaves s name fresh v made.0 may.meant.sound made.1 in record {
      meant = may.meant;
      copied = made.1;
      records = subst (λ (ks : List Kept). AreRecordsOf s v ks) (sym (go.only.same_kept t)) may.records;
      owned = owned_mid;
      pool = pool;
      small = small_mid;
      epoch = subst (λ (p : Place). p.epoch + 2 < last_number) (sym go.only.same_place) may.epoch;
      is_atlas = may.is_atlas;
      leaves = l;
      is_copy = ap (λ (c : Clock). c.entity) same_clock ∙ may.number made.0 l;
      atlas = atlas_ready;
      copy = copy_ready;
    })

    either_or : (c : Image) → MeansEither s v state c → MeansBeforeOr s name fresh v c
    either_or c (inl m) = inl m
    either_or c (inr m) = inr (made.0, made.1, m)

    module _ (new : State D) where
      pub by_pair : ((w : KernelState) (ts : ℕ → List ℕ) → AreCopyCells s name fresh v w (disks.reading mid.disk) (books mid) ts a placed → LeavesOnly disks mid.disk new.disk (MeansEither s v w))
          → LeavesOnly disks old.disk new.disk (MeansBeforeOr s name fresh v)
      by_pair commits = LeavesOnly-join disks (MeansBeforeOr s name fresh v) old.disk mid.disk new.disk by_pages
          (leaves_map disks mid.disk new.disk (MeansEither s v state) (MeansBeforeOr s name fresh v) either_or (commits state now are_copy))

      pub behind_pair : ((w : KernelState) (ts : ℕ → List ℕ) → AreCopyCells s name fresh v w (disks.reading mid.disk) (books mid) ts a placed → (c : Image) → disks.may_leave new.disk c → Means s c w)
          → LeavesCopyOf disks s name fresh v new.disk
      behind_pair done = record { state = made.0; copied = made.1; left = done state now are_copy }
