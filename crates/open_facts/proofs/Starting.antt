-- A kernel with the cells and the store of an image that was opened stands at the start.
use Rattle.std.proofs.Common.{◌≡◌, ℕ, ◌≤◌, Bool, true, List, [], Option, Some, None, refl, sym, ap, subst, ◌∙◌, arith}
use Rattle.std.specs.Prelude.{slice_get}
use Rattle.edge_disk.specs.declared.disk.Disk.{Ghosts}
use Rattle.edge_tally.specs.Counts.{Begins, shown}
use Rattle.edge_disk.specs.Disk.{Ticks}
use Rattle.edge_disk.specs.Image.{Image, SameOutside, block_at}
use Rattle.image_facts.specs.model_kernel.Histories.{start_run}
use Rattle.image_facts.specs.model_kernel.State.{KernelState, Supply}
use Rattle.table_opened.specs.image_meaning.Meaning.{Means, state_of}
use Rattle.table_opened.proofs.image_meaning_lemmas.Ones.{one_meaning}
use Rattle.table_opened.specs.image_meaning.Stores.{Kept}
use Rattle.table_opened.specs.image_chosen.Parts.{ArePartsOf}
use Rattle.table_opened.specs.image_chosen_facts.Parts.{IsAcceptedWith}
use Rattle.table_opened.specs.image_chosen.declared.parts.ImageParts.{ImageParts}
use Rattle.table_opened.specs.log_reading.declared.log.ImageLog.{ImageLog}
use Rattle.table_opened.specs.image_fits.Chosen.{parts_of}
use Rattle.kernel_views.specs.store_facts.State.{State, books}
use Rattle.kernel_views.proofs.store_commit_lemmas.Paged.{kept_all}
use Rattle.table_opened.specs.store_books.Books.{AreSmall, IsBeforePool, kept_in, kept_of, words_of_bytes}
use Rattle.table_opened.specs.cell_states.declared.cells.Cell.{Cell}
use Rattle.table_opened.specs.cell_states.declared.cells.Part.{Part}
use Rattle.table_opened.specs.cell_states.declared.cells.Part.TheVariants as part
use Rattle.data_stamps.specs.Stamps.{component}
use Rattle.image_facts.specs.model_kernel.State.{Cell as CellState}
use Rattle.table_opened.specs.cell_blob_laws.Memories.{HasOwnMemory}
use Rattle.table_opened.specs.table_laws.Tables.{HasTableWishes, IsOrderly, entity_in, state_in, tables_in}
use Rattle.kernel_views.proofs.kernel_records_lemmas.Staying.{part_stays}
use Rattle.table_opened.specs.kernel_record_facts.Cells.{IsSoundIn, words_on}
use Rattle.table_opened.specs.kernel_invariant.Beginnings.{Beginning, BeginsRight, completed}
use Rattle.table_opened.specs.kernel_invariant.Live.{HoldsCommits}
use Rattle.table_opened.specs.kernel_invariant.Records.{AreKeptRecords}
use Rattle.kernel_views.specs.kernel_laws.Opening.{StandsAtStart}
use Rattle.kernel_views.proofs.kernel_laws_lemmas.Opening.{opened_records}
use Rattle.kernel_views.specs.Views.{FollowsRun, view_of}
use Rattle.kernel_views.proofs.Following.{follows}
use Rattle.open_facts.specs.Images.{HasLowEpoch, HasTurnLeft, HoldsImage, IsOpened, MeansSince, StartsFrom}
use Rattle.open_facts.specs.Opened.{HaveBlocks}
use Rattle.table_opened.proofs.image_chosen_facts_lemmas.Naming.{block_pool}

-- CELLS over another image, whose pool is the same

pub sound_own : (held : ℕ → Bool) (p : Part) → HasOwnMemory held p → IsSoundIn held p
sound_own held (part.Atlas a) own = tt
sound_own held (part.Container b) own = own.1
sound_own held (part.Locus l) own = tt

pub state_stays : (s : Supply) (held : ℕ → Bool) (words words' : ℕ → List ℕ) (cs : List Cell) → ((n : ℕ) → held n ≡ true → words' n ≡ words n) → IsOrderly held cs → state_in s words' cs ≡ state_in s words cs
state_stays s held words words' cs same orderly = λ i x. at x (slice_get cs x) refl i
  where
    at : (x : ℕ) (o : Option Cell) → slice_get cs x ≡ o → entity_in s words' x o ≡ entity_in s words x o
    at x None is = refl
    at x (Some c) is = ap (λ (cell : CellState). record { cell = cell; version = c.clock.version; stamp = λ y. component c.clock.stamp y }) (part_stays s held words words' same c.part (sound_own held c.part (orderly.own x c is)))

module _ {D : Type 0} (disks : Ghosts D) (t : disks.tells)
    (old : D) (st : State D) (parts : ImageParts) (steps : ℕ) (cs : List Cell) (o : IsOpened st parts) (h : HoldsImage disks (disks.reading old) st parts) (orderly : IsOrderly (books st).held cs) (tables : HaveBlocks (tables_in cs) (parts_of parts.entities.items))
    (wishes : (s : Supply) (words : ℕ → List ℕ) → HasTableWishes steps (start_run (state_in s words cs)) cs)
    (state : (log : ImageLog) (image : Image) (s : Supply) → ArePartsOf log parts → IsAcceptedWith image log.recs.items (parts_of parts.entities.items) → Means s image (state_in s (words_on image) cs))
    (since : HasTurnLeft (disks.reading old) → MeansSince disks old st.disk) (begins : Begins 138 (shown disks old 0) (shown disks st.disk (books st).begun)) where
  held_high : (n : ℕ) → (books st).held n ≡ true → IsBeforePool n → ⊥
  held_high n held low =
      let at = o.held.no_others n held in
      let high = (block_pool o.log.blocks o.log.recs.items (parts_of parts.entities.items) o.parts_are.fit at.0 at.1 n at.2 at.3).0 in
      absurd (omega (arith, low, high))

  module _ (b : Beginning) (right : BeginsRight b) (same_steps : b.script.steps ≡ steps) (m : Means b.supply (disks.reading old) b.state) (low : HasLowEpoch (disks.reading old)) where
    turn : HasTurnLeft (disks.reading old)
    turn area at = (let le = low area at in omega (arith, le))

    same_pool : SameOutside IsBeforePool (disks.reading old) (disks.reading st.disk)
    same_pool = h.same turn

    same_state : state_in b.supply (words_on (disks.reading st.disk)) cs ≡ b.state
    same_state =
        state_stays b.supply (books st).held (words_on (disks.reading old)) (words_on (disks.reading st.disk)) cs (λ n held. ap words_of_bytes (same_pool.same n (held_high n held))) orderly
        ∙ one_meaning b.supply (disks.reading old) (state_in b.supply (words_on (disks.reading old)) cs) b.state (state h.log (disks.reading old) b.supply h.parts_are h.accepted) m

    follow : FollowsRun b (words_on (disks.reading st.disk)) cs []
    follow = record {
      state = same_state;
      wishes = subst (λ (n : ℕ). HasTableWishes n (start_run b.state) cs) (sym same_steps) (subst (λ (w : KernelState). HasTableWishes steps (start_run w) cs) same_state (wishes b.supply (words_on (disks.reading st.disk))));
    }

    small : AreSmall (books st)
    small = record { recs = o.small; epoch = (let is = h.epoch in let le = low h.area h.active in omega (arith, is, le)) }

    same_kept : kept_of (disks.reading old) (books st) ≡ kept_of (disks.reading st.disk) (books st)
    same_kept =
        kept_all IsBeforePool (disks.reading st.disk) (disks.reading old) (kept_in (books st)) (record { len = sym same_pool.len; same = λ n out. sym (same_pool.same n out) }) (h.books_true.stored small o.working).pool

    records : AreKeptRecords b [] (completed b []) (kept_of (disks.reading st.disk) (books st))
    records =
        let w : KernelState = state_of b.supply (block_at (disks.reading old)) h.accepted.whole.recs h.accepted.whole.parts in
        let is : b.state ≡ w = one_meaning b.supply (disks.reading old) b.state w m (record { accepted = h.accepted.whole; is = refl }) in
        subst (λ (ks : List Kept). AreKeptRecords b [] (completed b []) ks) same_kept
        (opened_records b (disks.reading old) (record { accepted = h.accepted.whole; is = is }) (books st) h.keeps)

    holds_commits : HoldsCommits b disks (view_of disks.reading b cs st [] [] None) st.disk
    holds_commits = record {
      working = o.working;
      looked = o.read;
      books = h.books_true;
      small = small;
      epoch = (let is = h.epoch in let le = low h.area h.active in omega (arith, is, le));
      owned = h.owned (tables_in cs) tables;
      records = records;
    }

    pub stands : (first : ℕ) → b.since ≡ disks.clock old → Ticks (disks.clock old) first → first ≤ b.first → b.first ≤ disks.clock st.disk → StandsAtStart b disks (view_of disks.reading b cs st [] [] None) st.disk
    stands first at ticks after later =
        let f = follows b [] (disks.reading st.disk) cs orderly.numbers tt follow (books st) [] None in
        record {
          history = refl;
          marks = refl;
          stop = refl;
          state = same_state;
          newest = λ x. ap (λ (g : ℕ → ℕ). g x) f.newest;
          by_step = λ x. ap (λ g. g x) f.by_step;
          asked = λ x. ap (λ g. g x) f.asked;
          left = λ x. (let all = f.left x in omega (arith, all));
          stored = λ told. holds_commits;
          few = (let few = begins.few in omega (arith, few));
          time = λ short. (let is = begins.counts.same (disks.clock old) (omega arith) short in omega (arith, is, at));
          later = later;
          moments = λ told s image le left. since turn first s image ticks (omega (arith, after, le)) left b.supply b.state m;
        }

  pub starts : StartsFrom disks steps old st cs
  starts b first right same m low at ticks after later = stands b right same m low first at ticks after later
