-- The kernel's record goes on over events, commits and stops.
use Rattle.std.proofs.Common.{◌≡◌, ℕ, ◌+◌, ◌*◌, ◌-◌, ◌^◌, ◌≤◌, ◌<◌, true, false, List, [], ◌∷◌, ◌++◌, count_by, length, slice_get, Option, Some, None, option_to_list, if◌then◌else◌, cond, refl, sym, ap, subst, ◌∙◌, arith, inl, inr, ◌⊎◌, length-append}
use Rattle.std.proofs.lemmas.Bool.{false≢true}
use Rattle.std.proofs.lemmas.List.{append-nil}
use Rattle.std.proofs.lemmas.List.Sums.{sum_by-append}
use Rattle.edge_disk.specs.declared.disk.Disk.{Ghosts}
use Rattle.edge_disk.specs.Image.{Image}
use Rattle.edge_disk.specs.Moments.{LeavesOnly}
use Rattle.base_types.specs.declared.histories.Entry.{Entry}
use Rattle.base_types.specs.declared.histories.Event.{Event}
use Rattle.base_types.specs.declared.histories.Event.TheVariants.{Birth, Step, Snap as SnapEvent, Stable, Tried}
use Rattle.image_state_laws.specs.model_kernel.Choices.{Commit}
use Rattle.image_state_laws.specs.model_kernel.Histories.{Run, goes_on, start_run, went_on}
use Rattle.image_state_laws.proofs.model_kernel_lemmas.StableCuts.{run_append}
use Rattle.kernel_invariant.specs.Marks.{completes, is_completing, is_step}
use Rattle.image_state_laws.specs.image_facts.Layout.{last_number}
use Rattle.image_state_laws.specs.image_blocks.Logs.{Place}
use Rattle.image_state_laws.specs.image_meaning.Stores.{Kept, Stores}
use Rattle.kernel_invariant.specs.store_books.Between.{OnlyPages, stores_left}
use Rattle.kernel_invariant.specs.store_books.Books.{kept_of}
use Rattle.kernel_invariant.specs.Beginnings.{Beginning, IsLegal, completed, run_of, with_tried}
use Rattle.kernel_invariant.specs.Left.{LeavesCuts, marks_with}
use Rattle.kernel_invariant.specs.Live.{HasMarks, HoldsCommits, IsLive, IsRunning, KernelView}
use Rattle.kernel_invariant.specs.declared.stopping.Stopped.{Stopped}
use Rattle.kernel_invariant.specs.Records.{AreKeptRecords, StoresCommits}
use Rattle.kernel_invariant.proofs.Apart.{kept_apart}
use Rattle.kernel_invariant.proofs.Leaving.{last_may}
use Rattle.kernel_invariant.proofs.Staying.{records_stay}
use Rattle.kernel_invariant.proofs.Stretches.{cuts_over_entry, cuts_over_event, cuts_over_pages, leaves_map}
use Rattle.kernel_laws.specs.Going.{MadeEvent, MadeSnap, OnlyReads, StoppedAtCommit, StoppedBetween}
use Rattle.kernel_laws.proofs.Marking.{Marked, get_more, marks_grow, marks_stay}

pub count_steps : (fs gs : List Entry) → count_by is_step (fs ++ gs) ≡ count_by is_step fs + count_by is_step gs
count_steps fs gs = sum_by-append (λ e. cond (is_step e) 1 0) fs gs

module _ (b : Beginning) (es : List Entry) (e : Entry) where
  run_next : run_of b (es ++ e ∷ []) ≡ goes_on b.supply b.script (run_of b es) e
  run_next = run_append b.supply b.policy b.script (start_run b.state) es (e ∷ [])

  -- an entry that completes no commit
  pub same_commits : completes e ≡ false → completed b (es ++ e ∷ []) ≡ completed b es
  same_commits out = ap (λ (r : Run). r.commits) run_next ∙ by_event e.event out
    where
      by_event : (ev : Event) → is_completing ev ≡ false → (went_on b.supply b.script (run_of b es) e ev).commits ≡ (run_of b es).commits
      by_event Birth _ = refl
      by_event Step _ = refl
      by_event SnapEvent out = cc
      by_event Stable out = cc
      by_event Tried _ = refl

  -- a Snap completes one
  pub snap_commits : e.event ≡ SnapEvent → length (completed b (es ++ e ∷ [])) ≡ length (completed b es) + 1
  snap_commits is =
      let next : completed b (es ++ e ∷ []) ≡ (went_on b.supply b.script (run_of b es) e SnapEvent).commits =
      ap (λ (r : Run). r.commits) run_next ∙ ap (λ ev. (went_on b.supply b.script (run_of b es) e ev).commits) is in
      ap length next ∙ length-append (completed b es) _

  -- and nothing is tried before it, or by it
  pub snap_sure : IsLegal b (es ++ e ∷ []) → e.event ≡ SnapEvent → with_tried b (es ++ e ∷ []) ≡ completed b (es ++ e ∷ [])
  snap_sure legal is =
      let before : (run_of b es).tried ≡ None = (last_may b (start_run b.state) es e legal).0 in
      let none : (run_of b (es ++ e ∷ [])).tried ≡ None = ap (λ (r : Run). r.tried) run_next ∙ (ap (λ ev. (went_on b.supply b.script (run_of b es) e ev).tried) is ∙ before) in
      ap (λ (o : Option Commit). completed b (es ++ e ∷ []) ++ option_to_list o) none ∙ append-nil (completed b (es ++ e ∷ []))

module _ {D : Type 0} (b : Beginning) (disks : Ghosts D)
    (counts_later : (disk : D) (s t : ℕ) (c : Image) → disks.tells → s ≤ t → disks.left_since disk t c → disks.left_since disk s c)
    (only_now : (disk : D) (c : Image) → disks.tells → disks.left_since disk (disks.clock disk) c → disks.may_leave disk c) where
  abbrev Holds : KernelView → D → Type 0
  Holds k disk = HoldsCommits b disks k disk

  abbrev Runs : KernelView → D → Type 0
  Runs k disk = IsRunning b disks k disk

  -- each image that a stop may leave stores the commits
  pub stores_now : (k : KernelView) (disk : D) → Holds k disk → (c : Image) → disks.may_leave disk c → StoresCommits b k.history k.books.count (completed b k.history) c
  stores_now k disk h c may = record {
    ks = kept_of (disks.reading disk) k.books;
    records = h.records;
    apart = kept_apart k.books k.tables (disks.reading disk) h.owned;
    stores = stores_left disks disk k.books h.books h.small h.working c may;
  }

  stored_as : (k : KernelView) (disk : D) → Holds k disk → (c : Image) → Stores k.books.count (kept_of (disks.reading disk) k.books) c → StoresCommits b k.history k.books.count (completed b k.history) c
  stored_as k disk h c st = record { ks = kept_of (disks.reading disk) k.books; records = h.records; apart = kept_apart k.books k.tables (disks.reading disk) h.owned; stores = st }

  module _ (old new : KernelView) (disk after : D) (r : Runs old disk) where
    -- over pages a stop leaves only what the commits store
    only_pages : disks.tells → old.stop ≡ None → (m n : ℕ) → OnlyPages disks disk after old.books new.books m n
        → LeavesOnly disks disk after (StoresCommits b old.history old.books.count (completed b old.history))
    only_pages told going m n p =
        let h = r.stored told going in
        leaves_map disks disk after (Stores old.books.count (kept_of (disks.reading disk) old.books)) (StoresCommits b old.history old.books.count (completed b old.history)) (stored_as old disk h)
        (p.moments told h.books h.small h.working)

    pages_cuts : disks.tells → old.stop ≡ None → (m n : ℕ) → OnlyPages disks disk after old.books new.books m n → LeavesCuts b disks old.history old.marks after
    pages_cuts told going m n p =
        cuts_over_pages disks (λ d s t c. counts_later d s t c told) (λ d c. only_now d c told) b r.begins old.history old.marks old.books.count disk after (r.moments told) r.legal
        (only_pages told going m n p)

    -- EVENTS

    module _ (e : Entry) (m : MadeEvent b disks old new disk after e) where
      legal_more : IsLegal b (old.history ++ e ∷ [])
      legal_more = subst (IsLegal b) m.history m.right.legal

      event_holds : disks.tells → Holds new after
      event_holds told =
          let p = m.pages.2 in
          let h = r.stored told m.was_going in
          let more : AreKeptRecords b (old.history ++ e ∷ []) (completed b old.history) (kept_of (disks.reading disk) old.books) = records_stay b old.history (e ∷ []) legal_more _ _ h.records in
          let at : AreKeptRecords b (old.history ++ e ∷ []) (completed b (old.history ++ e ∷ [])) (kept_of (disks.reading disk) old.books) = subst (λ (cs : List Commit). AreKeptRecords b (old.history ++ e ∷ []) cs (kept_of (disks.reading disk) old.books)) (sym (same_commits b old.history e m.event)) more in
          let kept : AreKeptRecords b (old.history ++ e ∷ []) (completed b (old.history ++ e ∷ [])) (kept_of (disks.reading after) new.books) = subst (λ (ks : List Kept). AreKeptRecords b (old.history ++ e ∷ []) (completed b (old.history ++ e ∷ [])) ks) (sym (p.same_kept told)) at in
          record {
            working = m.working;
            looked = p.same_found ∙ h.looked;
            books = p.true_books told h.books;
            small = record { recs = p.same_small ∙ h.small.recs; epoch = subst (λ q. q.epoch < last_number) (sym p.same_place) h.small.epoch };
            epoch = (
                let low = h.epoch in
                let place = ap (λ (q : Place). q.epoch) p.same_place in
                let commits : length (completed b new.history) ≡ length (completed b old.history) = ap (λ (es : List Entry). length (completed b es)) m.history ∙ ap length (same_commits b old.history e m.event) in
                omega (arith, low, place, commits));
            owned = m.owned;
            records = subst (λ (es : List Entry). AreKeptRecords b es (completed b es) (kept_of (disks.reading after) new.books)) (sym m.history) kept;
          }

      event_marks : HasMarks b new
      event_marks =
          let k = r.marks in
          let more : Marked b (old.history ++ e ∷ []) old.marks = marks_stay b old.history e old.marks m.event k.each in
          let at : Marked b new.history old.marks = subst (λ (es : List Entry). Marked b es old.marks) (sym m.history) more in
          record {
            each = subst (λ (ms : List ℕ). Marked b new.history ms) (sym m.marks) at;
            top = λ i a is. (let low = k.top i a (subst (λ (ms : List ℕ). slice_get ms i ≡ Some a) m.marks is) in let rise = m.pages.2.begun in omega (arith, low, rise));
            few = λ _. (
                let few = k.few m.was_going in
                let rise = m.few in
                let commits : length (completed b new.history) ≡ length (completed b old.history) = ap (λ (es : List Entry). length (completed b es)) m.history ∙ ap length (same_commits b old.history e m.event) in
                let steps : count_by is_step new.history ≡ count_by is_step old.history + count_by is_step (e ∷ []) = ap (count_by is_step) m.history ∙ count_steps old.history (e ∷ []) in
                omega (arith, few, rise, commits, steps));
          }

      pub event_runs : Runs new after
      event_runs =
          let p = m.pages.2 in
          record {
            begins = r.begins;
            legal = m.right.legal;
            follows = m.right.follows;
            marks = event_marks;
            stored = λ told _. event_holds told;
            time = λ short. p.counts.same b.since (r.time (let le = p.later in omega (arith, le, short))) short;
            later = (let low = r.later in let le = p.later in omega (arith, low, le));
            moments = λ told.
                let cuts = cuts_over_event disks (λ d s t c. counts_later d s t c told) (λ d c. only_now d c told) b old.history e old.marks after legal_more r.marks.each.each m.event (pages_cuts told m.was_going m.pages.0 m.pages.1 p) in
                subst (λ (es : List Entry). LeavesCuts b disks es new.marks after) (sym m.history) (subst (λ (ms : List ℕ). LeavesCuts b disks (old.history ++ e ∷ []) ms after) (sym m.marks) cuts);
          }

    -- COMMITS

    module _ (e : Entry) (m : MadeSnap b disks old new disk after e) where
      snap_done : completes e ≡ true
      snap_done = ap is_completing m.event

      legal_snap : IsLegal b (old.history ++ e ∷ [])
      legal_snap = subst (IsLegal b) m.history m.right.legal

      snap_rises : old.books.begun ≤ new.books.begun
      snap_rises = m.counts.begun_later

      snap_few : new.books.begun + 1600 * length (completed b []) ≤ 1600 * (length (completed b (old.history ++ e ∷ [])) + 1) + count_by is_step old.history
      snap_few =
          let few = r.marks.few m.was_going in
          let rise = m.few in
          let one = snap_commits b old.history e m.event in
          omega (arith, few, rise, one)

      snap_top : (i a : ℕ) → slice_get old.marks i ≡ Some a → a ≤ new.books.begun
      snap_top i a at = (let low = r.marks.top i a at in let rise = snap_rises in omega (arith, low, rise))

      snap_marks : HasMarks b new
      snap_marks =
          let more : Marked b (old.history ++ e ∷ []) (old.marks ++ new.books.begun ∷ []) = marks_grow b old.history e old.marks new.books.begun snap_done r.marks.each snap_top snap_few in
          let at : Marked b new.history (old.marks ++ new.books.begun ∷ []) = subst (λ (es : List Entry). Marked b es (old.marks ++ new.books.begun ∷ [])) (sym m.history) more in
          record {
            each = subst (λ (ms : List ℕ). Marked b new.history ms) (sym m.marks) at;
            top = λ i a is. by_place i a (get_more old.marks new.books.begun i a (subst (λ (ms : List ℕ). slice_get ms i ≡ Some a) m.marks is));
            few = λ _. (
                let few = snap_few in
                let commits : length (completed b new.history) ≡ length (completed b (old.history ++ e ∷ [])) = ap (λ (es : List Entry). length (completed b es)) m.history in
                let steps : count_by is_step new.history ≡ count_by is_step old.history + count_by is_step (e ∷ []) = ap (count_by is_step) m.history ∙ count_steps old.history (e ∷ []) in
                omega (arith, few, commits, steps));
          }
        where
          by_place : (i a : ℕ) → ((i < length old.marks) × (slice_get old.marks i ≡ Some a)) ⊎ ((i ≡ length old.marks) × (a ≡ new.books.begun)) → a ≤ new.books.begun
          by_place i a (inl before) = snap_top i a before.1
          by_place i a (inr last) = (let is = last.1 in omega (arith, is))

      snap_stored : disks.tells → (c : Image) → disks.may_leave after c → StoresCommits b (old.history ++ e ∷ []) old.books.count (with_tried b (old.history ++ e ∷ [])) c
      snap_stored told c may =
          let now = stores_now new after (m.stored told) c may in
          let here : StoresCommits b (old.history ++ e ∷ []) new.books.count (completed b (old.history ++ e ∷ [])) c = subst (λ (es : List Entry). StoresCommits b es new.books.count (completed b es) c) m.history now in
          let counted : StoresCommits b (old.history ++ e ∷ []) old.books.count (completed b (old.history ++ e ∷ [])) c = subst (λ n. StoresCommits b (old.history ++ e ∷ []) n (completed b (old.history ++ e ∷ [])) c) m.count here in
          subst (λ (cs : List Commit). StoresCommits b (old.history ++ e ∷ []) old.books.count cs c) (sym (snap_sure b old.history e legal_snap m.event)) counted

      snap_time : disks.clock after < 2 ^ 64 - 1 → disks.clock after ≡ b.since + new.books.begun
      snap_time short = m.counts.same b.since (r.time (let le = m.counts.clock_later in omega (arith, le, short))) short

      pub snap_runs : Runs new after
      snap_runs = record {
        begins = r.begins;
        legal = m.right.legal;
        follows = m.right.follows;
        marks = snap_marks;
        stored = λ told _. m.stored told;
        time = snap_time;
        later = (let low = r.later in let le = m.counts.clock_later in omega (arith, low, le));
        moments = λ told.
            let cuts : LeavesCuts b disks (old.history ++ e ∷ []) (marks_with old.marks e new.books.begun) after =
            cuts_over_entry disks (λ d s t c. counts_later d s t c told) (λ d c. only_now d c told) b r.begins old.history old.marks old.books.count disk after (r.moments told) e new.books.begun legal_snap r.marks.each.each (m.left told)
            (λ _. (snap_time, snap_stored told)) in
            let same : marks_with old.marks e new.books.begun ≡ new.marks = ap (λ done. if done then old.marks ++ new.books.begun ∷ [] else old.marks) snap_done ∙ sym m.marks in
            subst (λ (es : List Entry). LeavesCuts b disks es new.marks after) (sym m.history) (subst (λ (ms : List ℕ). LeavesCuts b disks (old.history ++ e ∷ []) ms after) same cuts);
      }

    -- STOPS

    stopped_not : {A : Type 0} (why : Stopped) → new.stop ≡ Some why → new.stop ≡ None → A
    stopped_not why stop none = absurd (some_none (sym stop ∙ none))
      where
        some_none : Some why ≡ None → ⊥
        some_none h = cc

    pub stop_lives : StoppedBetween b disks old new disk after → IsLive b disks new after
    stop_lives m =
        let p = m.pages.2 in
        record {
          running = record {
            begins = r.begins;
            legal = subst (IsLegal b) (sym m.history) r.legal;
            follows = m.follows;
            marks = record {
              each = subst (λ (es : List Entry). Marked b es new.marks) (sym m.history) (subst (λ (ms : List ℕ). Marked b old.history ms) (sym m.marks) r.marks.each);
              top = λ i a is. (let low = r.marks.top i a (subst (λ (ms : List ℕ). slice_get ms i ≡ Some a) m.marks is) in let rise = p.begun in omega (arith, low, rise));
              few = λ none. stopped_not m.why m.stop none;
            };
            stored = λ _ none. stopped_not m.why m.stop none;
            time = λ short. p.counts.same b.since (r.time (let le = p.later in omega (arith, le, short))) short;
            later = (let low = r.later in let le = p.later in omega (arith, low, le));
            moments = λ told. subst (λ (es : List Entry). LeavesCuts b disks es new.marks after) (sym m.history)
                (subst (λ (ms : List ℕ). LeavesCuts b disks old.history ms after) (sym m.marks) (pages_cuts told m.was_going m.pages.0 m.pages.1 p));
          };
          calm = λ none. stopped_not m.why m.stop none;
        }

    -- READS

    reads_hold : OnlyReads b disks old new disk after → disks.tells → Holds new after
    reads_hold m told =
        let p = m.pages.2 in
        let h = r.stored told m.was_going in
        record {
          working = m.working;
          looked = p.same_found ∙ h.looked;
          books = p.true_books told h.books;
          small = record { recs = p.same_small ∙ h.small.recs; epoch = subst (λ q. q.epoch < last_number) (sym p.same_place) h.small.epoch };
          epoch = (
              let low = h.epoch in
              let place = ap (λ (q : Place). q.epoch) p.same_place in
              let commits : length (completed b new.history) ≡ length (completed b old.history) = ap (λ (es : List Entry). length (completed b es)) m.history in
              omega (arith, low, place, commits));
          owned = m.owned;
          records = subst (λ (es : List Entry). AreKeptRecords b es (completed b es) (kept_of (disks.reading after) new.books)) (sym m.history)
              (subst (AreKeptRecords b old.history (completed b old.history)) (sym (p.same_kept told)) h.records);
        }

    pub reads_run : OnlyReads b disks old new disk after → Runs new after
    reads_run m =
        let p = m.pages.2 in
        record {
          begins = r.begins;
          legal = subst (IsLegal b) (sym m.history) r.legal;
          follows = m.follows;
          marks = record {
            each = subst (λ (es : List Entry). Marked b es new.marks) (sym m.history) (subst (λ (ms : List ℕ). Marked b old.history ms) (sym m.marks) r.marks.each);
            top = λ i a is. (let low = r.marks.top i a (subst (λ (ms : List ℕ). slice_get ms i ≡ Some a) m.marks is) in let rise = p.begun in omega (arith, low, rise));
            few = λ none. (
                let few = r.marks.few m.was_going in
                let same = m.none_written in
                let commits : length (completed b new.history) ≡ length (completed b old.history) = ap (λ (es : List Entry). length (completed b es)) m.history in
                let steps : count_by is_step new.history ≡ count_by is_step old.history = ap (count_by is_step) m.history in
                omega (arith, few, same, commits, steps));
          };
          stored = λ told _. reads_hold m told;
          time = λ short. p.counts.same b.since (r.time (let le = p.later in omega (arith, le, short))) short;
          later = (let low = r.later in let le = p.later in omega (arith, low, le));
          moments = λ told. subst (λ (es : List Entry). LeavesCuts b disks es new.marks after) (sym m.history)
              (subst (λ (ms : List ℕ). LeavesCuts b disks old.history ms after) (sym m.marks) (pages_cuts told m.was_going m.pages.0 m.pages.1 p));
        }

    module _ (e : Entry) (m : StoppedAtCommit b disks old new disk after e) where
      tried_out : completes e ≡ false
      tried_out = ap is_completing m.event

      pub tried_lives : IsLive b disks new after
      tried_lives =
          let legal_more : IsLegal b (old.history ++ e ∷ []) = subst (IsLegal b) m.history m.right.legal in
          record {
            running = record {
              begins = r.begins;
              legal = m.right.legal;
              follows = m.right.follows;
              marks = record {
                each = subst (λ (es : List Entry). Marked b es new.marks) (sym m.history) (subst (λ (ms : List ℕ). Marked b (old.history ++ e ∷ []) ms) (sym m.marks) (marks_stay b old.history e old.marks tried_out r.marks.each));
                top = λ i a is. (let low = r.marks.top i a (subst (λ (ms : List ℕ). slice_get ms i ≡ Some a) m.marks is) in let rise = m.counts.begun_later in omega (arith, low, rise));
                few = λ none. stopped_not m.why m.stop none;
              };
              stored = λ _ none. stopped_not m.why m.stop none;
              time = λ short. m.counts.same b.since (r.time (let le = m.counts.clock_later in omega (arith, le, short))) short;
              later = (let low = r.later in let le = m.counts.clock_later in omega (arith, low, le));
              moments = λ told.
                  let cuts : LeavesCuts b disks (old.history ++ e ∷ []) (marks_with old.marks e 0) after =
                  cuts_over_entry disks (λ d s t c. counts_later d s t c told) (λ d c. only_now d c told) b r.begins old.history old.marks old.books.count disk after (r.moments told) e 0 legal_more r.marks.each.each (m.left told)
                  (λ done. absurd (false≢true (sym tried_out ∙ done))) in
                  let same : marks_with old.marks e 0 ≡ new.marks = ap (λ done. if done then old.marks ++ 0 ∷ [] else old.marks) tried_out ∙ sym m.marks in
                  subst (λ (es : List Entry). LeavesCuts b disks es new.marks after) (sym m.history) (subst (λ (ms : List ℕ). LeavesCuts b disks (old.history ++ e ∷ []) ms after) same cuts);
            };
            calm = λ none. stopped_not m.why m.stop none;
          }
