-- A commit of one cell takes a kernel on with its Snap.
use Rattle.std.proofs.Common.{◌≡◌, inl, inr, ℕ, ◌+◌, ◌≤◌, ◌^◌, Bool, true, ◌&&◌, List, [], ◌∷◌, ◌++◌, length, slice_get, slice_index, Some, None, IfSome, refl, sym, ap, subst, ◌∙◌, arith}
use Rattle.edge_disk.specs.Image.{Image}
use Rattle.base_types.specs.declared.histories.Entry.{Entry}
use Rattle.base_types.specs.declared.histories.Event.TheVariants.{Snap}
use Rattle.kernel_records.specs.model_kernel.Choices.{Commit}
use Rattle.kernel_records.specs.model_kernel.Histories.{MayCommit, Run, goes_on, mark, start_run}
use Rattle.kernel_records.specs.model_kernel.State.{KernelState}
use Rattle.kernel_records.proofs.model_kernel_lemmas.LegalRuns.{state_after as state_run}
use Rattle.kernel_laws.specs.image_facts.Logs.{AreFitting}
use Rattle.kernel_laws.specs.image_blocks.Logs.{Place}
use Rattle.kernel_laws.specs.image_meaning.Parts.{Spells}
use Rattle.kernel_laws.specs.store_books.Books.{AreApartFrom, AreSmall, IsBeforePool, Logged, kept_for, kept_of, logged_recs, recs_in}
use Rattle.kernel_laws.specs.store_books.Owning.{AreOwned}
use Rattle.kernel_records.specs.store_facts.Putting.{are_small}
use Rattle.kernel_records.specs.store_facts.State.{State, books}
use Rattle.kernel_records.specs.cell_clocks.declared.Clock.{Clock}
use Rattle.data_stamps.specs.Stamps.{component}
use Rattle.kernel_records.specs.cell_states.declared.cells.Cell.{Cell}
use Rattle.kernel_records.specs.cell_states.Wishes.{HasWish}
use Rattle.kernel_records.specs.cell_blobs.Blobs.{spelt_in}
use Rattle.table_laws.specs.Tables.{AreClean, IsOrderly, tables_in}
use Rattle.kernel_records.specs.kernel_record_facts.Cells.{table_of, words_on}
use Rattle.kernel_records.specs.kernel_record_facts.Telling.{IsRecordOf}
use Rattle.kernel_records.specs.Committing.{HasCommitted, HasPages, StoresKeptOrCell}
use Rattle.kernel_laws.specs.kernel_invariant.Beginnings.{Beginning, IsLegal, completed, run_of}
use Rattle.kernel_laws.specs.kernel_invariant.Left.{StoresNext}
use Rattle.kernel_laws.specs.kernel_invariant.Live.{HoldsCommits}
use Rattle.kernel_laws.specs.kernel_invariant.Records.{AreKeptRecords}
use Rattle.kernel_laws.proofs.kernel_invariant_lemmas.Growing.{books_grow, fitting_narrow}
use Rattle.kernel_laws.proofs.Going.{snap_commits, snap_sure}
use Rattle.kernel_laws.proofs.Numbers.{epoch_small, stamp_small, version_small}
use Rattle.kernel_records.proofs.kernel_block_laws_lemmas.Owned.{owned_more}
use Rattle.kernel_laws.proofs.kernel_invariant_lemmas.Stretches.{leaves_map}
use Rattle.kernel_laws.specs.Going.{MadeSnap}
use Rattle.kernel_records.proofs.cell_wish_laws_lemmas.Recorded.{other_wish, snap_wish, state_stays}
use Rattle.kernel_views.specs.Views.{FollowsRun, view_in}
use Rattle.kernel_views.specs.Snaps.{CommitsOne}
use Rattle.kernel_views.proofs.Following.{follows}
use Rattle.kernel_records.proofs.kernel_block_laws_lemmas.Unchanged.{blob_high, kept_same}
use Rattle.kernel_views.proofs.Legal.{legal_then, run_next}
use Rattle.kernel_views.proofs.Leaving.{LeftCell, clean_after, clean_before, follows_before, had, kept_clock, kept_entity, numbered, numbered_after, place_of, small_both, state_same, stood, version_is}
use Rattle.kernel_views.proofs.Storing.{IsNextEntry, hold, kept_record, next_commits, owned_by_pages, records0, same_books, stored, stores_next, stores_still, table_there}
use Rattle.std.proofs.lemmas.Option.{same_Some}
use Rattle.edge_disk.specs.declared.disk.Disk.{Ghosts}

module _ {D : Type 0} {disks : Ghosts D}
    {b : Beginning} {cs cs' : List Cell} {c d : Cell} {old new : State D} {es : List Entry} {marks : List ℕ}
    (q : LeftCell disks b cs cs' c d old new es marks)
    (sure : (run_of b es).tried ≡ None) (may : MayCommit b.policy (run_of b es) c.clock.entity)
    (k : CommitsOne disks cs cs' c d old new)
    (ord_at : (fl : State D) → HasPages disks c.part d.part old fl → IsOrderly (books fl).held cs') where
  abbrev x : ℕ
  x = c.clock.entity

  abbrev e : Entry
  e = mark Snap c.clock.entity c.clock.version

  abbrev words0 : ℕ → List ℕ
  words0 = words_on (disks.reading old.disk)

  abbrev words2 : ℕ → List ℕ
  words2 = words_on (disks.reading new.disk)

  abbrev r : Run
  r = run_of b es

  abbrev h : HasCommitted disks c d old new
  h = k.committed

  next : run_of b (es ++ e ∷ []) ≡ goes_on b.supply b.script r e
  next = run_next b es e

  run_state : (run_of b (es ++ e ∷ [])).state ≡ r.state
  run_state = ap (λ (z : Run). z.state) next ∙ state_stays b.supply b.script r e tt

  legal' : IsLegal b (es ++ e ∷ [])
  legal' = legal_then b (start_run b.state) es e q.stands.runs.legal (sure, (ap (mark Snap x) (version_is q), may))

  entry : IsNextEntry b es e x
  entry = record {
    legal = legal';
    state_is = sym run_state ∙ state_run b.supply b.policy b.script (start_run b.state) (es ++ e ∷ []);
    next = snap_sure b es e legal' refl ∙ ap (λ (z : Run). z.commits) next;
  }

  -- THE RUN GOES ON

  wish_at : (y : ℕ) (a : Cell) → slice_get cs' y ≡ Some a → HasWish b.script.steps (run_of b (es ++ e ∷ [])) a
  wish_at y a is = subst (λ (z : Run). HasWish b.script.steps z a) (sym next) (elim (place_of q y) as (λ _. HasWish b.script.steps (goes_on b.supply b.script r e) a) [
    | inl p ↦ subst (HasWish b.script.steps (goes_on b.supply b.script r e)) (same_Some d a (sym p.1 ∙ is))
        (snap_wish b.supply b.script r e words0 b.script.steps c d refl refl (had q) ((follows_before q).wishes x c (stood q)) h.recorded)
    | inr p ↦
        (let was : slice_get cs y ≡ Some a = sym p.1 ∙ is in
        other_wish b.supply b.script r e b.script.steps a refl (λ same. p.0 (sym ((numbered q).each y a was) ∙ same)) ((follows_before q).wishes y a was))
  ])

  follow' : FollowsRun b words2 cs' (es ++ e ∷ [])
  follow' = record { state = state_same q ∙ sym run_state; wishes = wish_at }

  -- BEHIND THE COMMIT

  abbrev fl : State D
  fl = h.leaves.flushed

  pages : HasPages disks c.part d.part old fl
  pages = h.leaves.pages

  ord' : IsOrderly (books fl).held cs'
  ord' = ord_at fl pages

  snap_more : length (completed b (es ++ e ∷ [])) ≡ length (completed b es) + 1
  snap_more = snap_commits b es e refl

  epoch_now : (books new).place.epoch ≤ 2 ^ 61 + 1 + length (completed b (es ++ e ∷ []))
  epoch_now = (
      let low = (hold q e entry).epoch in
      let place = ap (λ (z : Place). z.epoch) pages.only.same_place in
      let rise = h.has.made.epoch.1 in
      let one = snap_more in
      omega (arith, low, place, rise, one))

  small_cell : are_small d.clock.version d.clock.stamp.0 ≡ true
  small_cell =
      let version = version_small b es q.stands.runs.begins q.stands.runs.legal x in
      let same = ap (λ (w : KernelState). (w x).version) (sym (state_run b.supply b.policy b.script (start_run b.state) es)) in
      let own = ap (λ (z : Clock). z.version) (kept_clock q) in
      small_both d.clock.version d.clock.stamp.0 (let is = version_is q in omega (arith, version, same, own, is)) (λ y. (
      let stamp = stamp_small b es q.stands.runs.begins q.stands.runs.legal x y in
      let at_y = ap (λ (w : KernelState). (w x).stamp y) (sym (state_run b.supply b.policy b.script (start_run b.state) es)) in
      let cell = (had q).clock.stamp y in
      let mine = ap (λ (z : Clock). component z.stamp y) (kept_clock q) in
      omega (arith, stamp, at_y, cell, mine)))

  abbrev l : Logged
  l = record { rec = h.has.made.rec; table = table_of d.part }

  owned_fl : AreOwned (books fl) (tables_in cs')
  owned_fl = owned_by_pages q e entry fl pages h.settled h.spelt ord'

  last_is : IsRecordOf (disks.reading new.disk) d (kept_for (disks.reading new.disk) l)
  last_is = record {
    entity = h.has.made.entity_is;
    version = h.has.made.version_is;
    stamp = h.has.made.stamp_is;
    components = ap length h.has.made.stamp_is ∙ h.spelt.components;
    spells = subst (λ (bytes : List ℕ). IfSome (spelt_in d.part) (λ p. Spells p bytes)) (sym (h.has.blob q.told)) h.spelt.spells;
    pages = refl;
  }

  same_now : kept_of (disks.reading new.disk) (books fl) ≡ kept_of (disks.reading fl.disk) (books fl)
  same_now = kept_same (books fl) (disks.reading fl.disk) (disks.reading new.disk) (h.leaves.same_used q.told)
      (blob_high (books fl) (disks.reading fl.disk) (subst (AreApartFrom IsBeforePool) (sym (same_books q e entry fl pages h.settled h.spelt ord')) (stored q e entry).pool))
      (λ m n within named. (owned_fl.kept_pool m n within named).0)

  small_now : AreSmall (books new)
  small_now = record {
    recs = h.has.small ∙ (ap (λ (t : Bool). t && are_small d.clock.version d.clock.stamp.0) (pages.only.same_small ∙ (hold q e entry).small.recs) ∙ small_cell);
    epoch = epoch_small b (es ++ e ∷ []) q.stands.runs.begins legal' (books new).place.epoch epoch_now;
  }

  fit_before : AreFitting (books old).count (recs_in (books fl))
  fit_before = subst (λ (ls : List Logged). AreFitting (books old).count (logged_recs ls)) (sym pages.only.same_logged) (stored q e entry).fit

  fit_now : AreFitting (books old).count (recs_in (books new))
  fit_now = subst (λ (n : ℕ). AreFitting n (recs_in (books new))) (h.has.made.same_count ∙ pages.only.same_count) (k.true_books.stored small_now h.has.made.working).fit

  owned_now : AreOwned (books new) (tables_in cs')
  owned_now = owned_more (books old).count (books fl) (books new) (tables_in cs') l owned_fl fit_before fit_now (record {
    log = h.has.made.log;
    table = λ p. sym (table_there q e entry fl pages h.settled h.spelt ord' p) ∙ ap (λ (y : ℕ). slice_index (tables_in cs' y) p) (sym (h.has.made.entity_is ∙ kept_entity q));
    pool = h.leaves.pool;
    fresh = h.has.made.free.fresh;
    held = h.has.made.same_held;
    count = h.has.made.same_count;
  })

  records_now : AreKeptRecords b (es ++ e ∷ []) (completed b (es ++ e ∷ [])) (kept_of (disks.reading new.disk) (books new))
  records_now =
      let means = h.leaves.means q.told b.supply (clean_before q) in
      subst (λ (z : List Commit). AreKeptRecords b (es ++ e ∷ []) z (kept_of (disks.reading new.disk) (books new)))
      (sym (sym (snap_sure b es e legal' refl) ∙ next_commits q e entry fl pages h.settled h.spelt ord' (disks.reading new.disk) means (kept_for (disks.reading new.disk) l) last_is))
      (books_grow b (es ++ e ∷ []) (completed b es) (books fl) (disks.reading new.disk) l
      (subst (AreKeptRecords b (es ++ e ∷ []) (completed b es)) (sym same_now) (records0 q e entry fl pages h.settled h.spelt ord'))
      (kept_record q e entry fl pages h.settled h.spelt ord' (disks.reading new.disk) means (kept_for (disks.reading new.disk) l) last_is)
      (fitting_narrow (books old).count (recs_in (books fl)) fit_before) (books new) h.has.made.log
      (fitting_narrow (books old).count (recs_in (books new)) fit_now))

  holds_now : HoldsCommits b disks (view_in b.supply b.script.steps (disks.reading new.disk) cs' (books new) (es ++ e ∷ []) (marks ++ (books new).begun ∷ []) None) new.disk
  holds_now = record {
    working = h.has.made.working;
    looked = h.has.made.same_found ∙ (pages.only.same_found ∙ (hold q e entry).looked);
    books = k.true_books;
    small = small_now;
    epoch = epoch_now;
    owned = owned_now;
    records = records_now;
  }

  left_next : (image : Image) → StoresKeptOrCell disks c d old image → StoresNext b es e (books old).count image
  left_next image (inl s) = inl (stores_still q e entry image s)
  left_next image (inr s) = inr (stores_next q e entry s.flushed s.pages s.settled s.spelt (ord_at s.flushed s.pages) image s.more)

  -- THE KERNEL GOES ON
  pub made_snap : MadeSnap b disks (view_in b.supply b.script.steps (disks.reading old.disk) cs (books old) es marks None)
      (view_in b.supply b.script.steps (disks.reading new.disk) cs' (books new) (es ++ e ∷ []) (marks ++ (books new).begun ∷ []) None) old.disk new.disk e
  made_snap = record {
    was_going = refl;
    going = refl;
    history = refl;
    marks = refl;
    event = refl;
    right = record { legal = legal'; follows = follows b (es ++ e ∷ []) (disks.reading new.disk) cs' (numbered_after q) legal' follow' (books new) (marks ++ (books new).begun ∷ []) None };
    left = λ _. leaves_map disks old.disk new.disk (StoresKeptOrCell disks c d old) (StoresNext b es e (books old).count) left_next k.left.moments;
    stored = λ _. holds_now;
    count = h.has.made.same_count ∙ pages.only.same_count;
    counts = k.left.counts.counts;
    few = (let few = k.left.counts.few in omega (arith, few));
  }

  pub clean_on : AreClean b.supply (words_on (disks.reading new.disk)) cs'
  clean_on = clean_after q
