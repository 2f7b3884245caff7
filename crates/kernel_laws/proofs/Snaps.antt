-- A Stable stands in the place of Snaps, one for each of its records.
use Rattle.std.proofs.Common.{◌≡◌, ℕ, zero, suc, ◌+◌, ◌*◌, ◌-◌, ◌^◌, ◌≤◌, ◌<◌, true, false, ◌&&◌, if◌then◌else◌, cond, List, [], ◌∷◌, ◌++◌, count_by, length, slice_get, take, Option, Some, None, option_to_list, refl, sym, ap, subst, ◌∙◌, arith, inl, inr, ◌⊎◌, append_assoc}
use Rattle.std.specs.List.{AllByRecursion}
use Rattle.std.proofs.lemmas.Bool.{cases_lt}
use Rattle.std.proofs.lemmas.List.{append-nil}
use Rattle.std.proofs.lemmas.List.Elements.{filter-append}
use Rattle.std.proofs.lemmas.List.Sums.{sum_by-cons}
use Rattle.edge_disk.specs.declared.disk.Disk.{Ghosts}
use Rattle.edge_disk.specs.Image.{Image}
use Rattle.base_types.specs.declared.histories.Entry.{Entry}
use Rattle.base_types.specs.declared.histories.Event.TheVariants.{Stable}
use Rattle.image_state_laws.specs.model_kernel.Choices.{Commit, IsGreatest}
use Rattle.image_state_laws.specs.model_kernel.Histories.{Run, event_of, goes_on, run_after, start_run, went_on}
use Rattle.image_state_laws.specs.model_kernel.Parts.{after, after_entry, is_event, next_of, part_of, within, writes_within}
use Rattle.image_state_laws.specs.model_kernel.State.{KernelState}
use Rattle.image_state_laws.proofs.model_kernel_lemmas.StableCuts.{run_append}
use Rattle.kernel_invariant.specs.Marks.{completes, is_completing, is_step}
use Rattle.kernel_invariant.proofs.Marking.{comparable, count_append}
use Rattle.image_state_laws.proofs.model_run_laws_lemmas.Places.{after_append, things_stay}
use Rattle.image_state_laws.specs.image_meaning.Stores.{Kept}
use Rattle.kernel_invariant.specs.store_books.Books.{AreSmall, AreTrue, Books, kept_of}
use Rattle.kernel_invariant.specs.store_books.Owning.{AreOwned}
use Rattle.kernel_invariant.specs.Beginnings.{Beginning, IsLegal, completed, entity_at, first_commits, run_of, state_after, with_tried}
use Rattle.kernel_invariant.specs.Left.{HoldAcknowledged, IsCutImage}
use Rattle.kernel_invariant.specs.Live.{HasMarks, HoldsCommits, IsRunning, KernelView}
use Rattle.kernel_invariant.specs.Records.{AreKeptRecords, IsKeptRecord}
use Rattle.kernel_invariant.proofs.store_told_lemmas.Telling.{told_same}
use Rattle.kernel_invariant.proofs.Leaving.{get_front, get_last, last_may, none_complete}
use Rattle.kernel_invariant.proofs.Staying.{longer, records_stay}
use Rattle.kernel_laws.specs.Going.{AreSnaps, MadeStable}
use Rattle.kernel_laws.proofs.Going.{count_steps}
use Rattle.kernel_laws.proofs.Marking.{Marked, get_more, marks_front, marks_grow}
use Rattle.image_state_laws.specs.model_run_laws.StepEntries.{is_step as is_step_event}

-- LISTS OF MARKS

get_within : (xs ys : List ℕ) (i a : ℕ) → i < length xs → slice_get (xs ++ ys) i ≡ Some a → slice_get xs i ≡ Some a
get_within [] ys i a lt at = absurd (omega (arith, lt))
get_within (x ∷ xs) ys zero a lt at = at
get_within (x ∷ xs) ys (suc i) a lt at = get_within xs ys i a (omega (arith, lt)) at

get_either : (xs ys : List ℕ) (i a : ℕ) → slice_get (xs ++ ys) i ≡ Some a → ((i < length xs) × (slice_get xs i ≡ Some a)) ⊎ ((j : ℕ) × (slice_get ys j ≡ Some a) × (i ≡ length xs + j))
get_either [] ys i a at = inr (i, at, omega arith)
get_either (x ∷ xs) ys zero a at = inl (omega arith, at)
get_either (x ∷ xs) ys (suc i) a at = elim (get_either xs ys i a at) as (λ _. ((suc i < suc (length xs)) × (slice_get (x ∷ xs) (suc i) ≡ Some a)) ⊎ ((j : ℕ) × (slice_get ys j ≡ Some a) × (suc i ≡ suc (length xs) + j))) [
  | inl h ↦ inl ((let lt = h.0 in omega (arith, lt)), h.1)
  | inr h ↦ inr (h.0, h.1, (let is = h.2 in omega (arith, is)))
]

-- QUIET ENTRIES change no state

abbrev pub AreQuiet : List Entry → Type 0
AreQuiet [] = Unit {0}
AreQuiet (e ∷ es) = (is_event e.event ≡ false) × AreQuiet es

snaps_quiet : (es : List Entry) → AreSnaps es → AreQuiet es
snaps_quiet [] are = tt
snaps_quiet (e ∷ es) (is, are) = (ap is_event is, snaps_quiet es are)

part_none : (q : ℕ → ℕ) (es : List Entry) → AreQuiet es → part_of q es ≡ []
part_none q [] are = refl
part_none q (e ∷ es) (is, are) =
    let out : within q e ≡ false = ap (λ t. t && writes_within q e.touched) is in
    ap (λ t. cond t (e ∷ part_of q es) (part_of q es)) out ∙ part_none q es are

part_quiet : (q : ℕ → ℕ) (es ds : List Entry) → AreQuiet ds → part_of q (es ++ ds) ≡ part_of q es
part_quiet q es ds are = filter-append (within q) es ds ∙ (ap (λ fs. part_of q es ++ fs) (part_none q ds are) ∙ append-nil (part_of q es))

module _ (b : Beginning) where
  after_quiet : (ds : List Entry) (w : KernelState) → AreQuiet ds → after (event_of b.supply b.script) w ds ≡ w
  after_quiet [] w are = refl
  after_quiet (d ∷ ds) w (is, are) =
      let act = event_of b.supply b.script in
      let same : after_entry act w d ≡ w = ap (λ t. if t then next_of act w (act d w) else w) is in
      after_quiet ds (after_entry act w d) are ∙ same

  state_quiet : (es ds : List Entry) → AreQuiet ds → state_after b (es ++ ds) ≡ state_after b es
  state_quiet es ds are = after_append (event_of b.supply b.script) es ds b.state ∙ after_quiet ds (state_after b es) are

  tried_snaps : (r : Run) (ds : List Entry) → AreSnaps ds → (run_after b.supply b.script r ds).tried ≡ r.tried
  tried_snaps r [] are = refl
  tried_snaps r (d ∷ ds) (is, are) = tried_snaps (goes_on b.supply b.script r d) ds are ∙ ap (λ ev. (went_on b.supply b.script r d ev).tried) is

  steps_snaps : (ds : List Entry) → AreSnaps ds → count_by is_step ds ≡ 0
  steps_snaps [] are = refl
  steps_snaps (d ∷ ds) (is, are) =
      let sum = sum_by-cons (λ e. cond (is_step e) 1 0) d ds in
      let one : cond {A = ℕ} (is_step d) 1 0 ≡ 0 = ap (λ ev. cond {A = ℕ} (is_step_event ev) 1 0) is in
      let rest = steps_snaps ds are in
      omega (arith, sum, one, rest)

  -- a record of a history that ends with quiet entries is one of the history before them
  record_back : (es ds : List Entry) → AreQuiet ds → IsLegal b (es ++ ds) → (k : Kept) → IsKeptRecord b (es ++ ds) k → IsKeptRecord b es k
  record_back es ds are legal k r =
      let x : ℕ = k.rec.entity in
      let n : ℕ = k.rec.version in
      let reached : n ≤ (state_after b es x).version = (let at = r.reached in let same = ap (λ (w : KernelState). (w x).version) (state_quiet es ds are) in omega (arith, at, same)) in
      let same : entity_at b (es ++ ds) x n ≡ entity_at b es x n = things_stay b.supply b.policy b.script b.state es ds x n legal r.from reached in
      record {
        told = told_same b.supply (entity_at b (es ++ ds)) (entity_at b es) k (sym same) r.told;
        from = r.from;
        reached = reached;
        few = r.few;
      }

  each_back : (es ds : List Entry) → AreQuiet ds → IsLegal b (es ++ ds) → (ks : List Kept) → AllByRecursion (IsKeptRecord b (es ++ ds)) ks → AllByRecursion (IsKeptRecord b es) ks
  each_back es ds are legal [] each = tt
  each_back es ds are legal (k ∷ ks) (one, each) = (record_back es ds are legal k one, each_back es ds are legal ks each)

module _ (b : Beginning) (front snaps : List Entry) (e : Entry) (are : AreSnaps snaps) (stable : e.event ≡ Stable) (legal : IsLegal b (front ++ snaps)) (legal_stable : IsLegal b (front ++ e ∷ []))
    (commits : completed b (front ++ e ∷ []) ≡ completed b (front ++ snaps)) where
  none_tried : (run_of b front).tried ≡ None
  none_tried = (last_may b (start_run b.state) front e legal_stable).0

  sure_snaps : with_tried b (front ++ snaps) ≡ completed b (front ++ snaps)
  sure_snaps =
      let none : (run_of b (front ++ snaps)).tried ≡ None = ap (λ (r : Run). r.tried) (run_append b.supply b.policy b.script (start_run b.state) front snaps) ∙ (tried_snaps b (run_of b front) snaps are ∙ none_tried) in
      ap (λ (o : Option Commit). completed b (front ++ snaps) ++ option_to_list o) none ∙ append-nil (completed b (front ++ snaps))

  sure_stable : with_tried b (front ++ e ∷ []) ≡ completed b (front ++ e ∷ [])
  sure_stable =
      let next : (run_of b (front ++ e ∷ [])).tried ≡ (went_on b.supply b.script (run_of b front) e Stable).tried =
      ap (λ (r : Run). r.tried) (run_append b.supply b.policy b.script (start_run b.state) front (e ∷ [])) ∙ ap (λ ev. (went_on b.supply b.script (run_of b front) e ev).tried) stable in
      let none : (run_of b (front ++ e ∷ [])).tried ≡ None = next ∙ none_tried in
      ap (λ (o : Option Commit). completed b (front ++ e ∷ []) ++ option_to_list o) none ∙ append-nil (completed b (front ++ e ∷ []))

  same_all : with_tried b (front ++ e ∷ []) ≡ with_tried b (front ++ snaps)
  same_all = sure_stable ∙ (commits ∙ sym sure_snaps)

  quiet_stable : AreQuiet (e ∷ [])
  quiet_stable = (ap is_event stable, tt)

  -- records of the one are records of the other
  pub stable_records : (cs : List Commit) (ks : List Kept) → AreKeptRecords b (front ++ snaps) cs ks → AreKeptRecords b (front ++ e ∷ []) cs ks
  stable_records cs ks a =
      records_stay b front (e ∷ []) legal_stable cs ks (record { agree = a.agree; each = each_back b front snaps (snaps_quiet snaps are) legal ks a.each })

  module _ (first rest : List ℕ) (m : ℕ) (each : length first ≡ count_by completes front) (low : (i a : ℕ) → slice_get rest i ≡ Some a → a ≤ m) where
    module _ (now t k : ℕ) (h : HoldAcknowledged b (front ++ snaps) (first ++ rest) now t k) where
      stable_acked : now < 2 ^ 64 - 1 → (fs gs : List Entry) → front ++ e ∷ [] ≡ fs ++ gs → ((i a : ℕ) → i < count_by completes fs → slice_get (first ++ m ∷ []) i ≡ Some a → b.since + a ≤ t) → length (completed b fs) ≤ k
      stable_acked told fs gs split acked = elim (comparable fs front gs (e ∷ []) (sym split)) as (λ _. length (completed b fs) ≤ k) [
        | inl d ↦ (
            let sum : count_by completes front ≡ count_by completes fs + count_by completes d.0 = ap (count_by completes) d.1 ∙ count_append fs d.0 in
            h.acknowledged told fs (d.0 ++ snaps) (ap (λ hs. hs ++ snaps) d.1 ∙ append_assoc fs d.0 snaps)
            (λ i a lt at. acked i a lt (get_front first (m ∷ []) i a (get_within first rest i a (omega (arith, lt, sum, each)) at))))
        | inr d ↦ (
            let sum : count_by completes fs ≡ count_by completes front + count_by completes d.0 = ap (count_by completes) d.1 ∙ count_append front d.0 in
            elim (cases_lt (count_by completes front) (count_by completes fs)) as (λ _. length (completed b fs) ≤ k) [
              | inl lt ↦ (
                  let early : b.since + m ≤ t = acked (length first) m (omega (arith, lt, each)) (get_last first m) in
                  let whole = h.acknowledged told (front ++ snaps) [] (sym (append-nil (front ++ snaps))) (λ i a _ at. elim (get_either first rest i a at) as (λ _. b.since + a ≤ t) [
                    | inl was ↦ acked i a (let within = was.0 in omega (arith, within, each, lt)) (get_front first (m ∷ []) i a was.1)
                    | inr new ↦ (let le = low new.0 a new.1 in omega (arith, early, le))
                  ]) in
                  let up = subst (λ (hs : List Entry). length (completed b fs) ≤ length (completed b hs)) (sym split) (longer b fs gs) in
                  let same = ap length commits in
                  omega (arith, whole, up, same))
              | inr ge ↦ (
                  let none : count_by completes d.0 ≡ 0 = omega (arith, ge, sum) in
                  let same : completed b fs ≡ completed b front =
                  ap (completed b) d.1 ∙ (ap (λ (r : Run). r.commits) (run_append b.supply b.policy b.script (start_run b.state) front d.0) ∙ none_complete b (run_of b front) d.0 none) in
                  let part = h.acknowledged told front snaps refl (λ i a lt at. acked i a (omega (arith, lt, sum)) (get_front first (m ∷ []) i a (get_within first rest i a (omega (arith, lt, each)) at))) in
                  let len = ap length same in
                  omega (arith, part, len))
            ])
      ]

    -- an image that was a cut of the one is a cut of the other
    pub stable_image : (now t : ℕ) (c : Image) → IsCutImage b (front ++ snaps) (first ++ rest) now t c → IsCutImage b (front ++ e ∷ []) (first ++ m ∷ []) now t c
    stable_image now t c i =
        let same : first_commits b (front ++ e ∷ []) i.k ≡ first_commits b (front ++ snaps) i.k = ap (take i.k) same_all in
        let part : part_of i.cut.cut (front ++ snaps) ≡ part_of i.cut.cut (front ++ e ∷ []) =
        part_quiet i.cut.cut front snaps (snaps_quiet snaps are) ∙ sym (part_quiet i.cut.cut front (e ∷ []) quiet_stable) in
        record {
          k = i.k;
          holds = record {
            opened = i.holds.opened;
            some = (let some = i.holds.some in let len = ap length same_all in omega (arith, some, len));
            acknowledged = stable_acked now t i.k i.holds;
          };
          state = i.state;
          cut = record {
            cut = i.cut.cut;
            greatest = subst (λ (cs : List Commit). IsGreatest (λ x. (b.state x).version) cs i.cut.cut) (sym same) i.cut.greatest;
            state = i.cut.state ∙ ap (after (event_of b.supply b.script) b.state) part;
          };
          means = i.means;
        }

-- THE KERNEL

module _ {D : Type 0} (b : Beginning) (disks : Ghosts D) (old new : KernelView) (disk : D) (e : Entry)
    (r : IsRunning b disks old disk) (m : MadeStable b old new e) where
  legal_old : IsLegal b (m.front ++ m.snaps)
  legal_old = subst (IsLegal b) m.was r.legal

  legal_new : IsLegal b (m.front ++ e ∷ [])
  legal_new = subst (IsLegal b) m.history m.right.legal

  stable_done : completes e ≡ true
  stable_done = ap is_completing m.event

  marked_old : Marked b (m.front ++ m.snaps) (m.first ++ m.rest)
  marked_old = subst (λ (es : List Entry). Marked b es (m.first ++ m.rest)) m.was (subst (λ (ms : List ℕ). Marked b old.history ms) m.were r.marks.each)

  old_top : (i a : ℕ) → slice_get (m.first ++ m.rest) i ≡ Some a → a ≤ old.books.begun
  old_top i a at = r.marks.top i a (subst (λ (ms : List ℕ). slice_get ms i ≡ Some a) (sym m.were) at)

  first_top : (i a : ℕ) → slice_get m.first i ≡ Some a → a ≤ old.books.begun
  first_top i a at = old_top i a (get_front m.first m.rest i a at)

  rest_top : (ys : List ℕ) (xs : List ℕ) → ((i a : ℕ) → slice_get (xs ++ ys) i ≡ Some a → a ≤ old.books.begun) → (i a : ℕ) → slice_get ys i ≡ Some a → a ≤ old.books.begun
  rest_top ys [] all i a at = all i a at
  rest_top ys (x ∷ xs) all i a at = rest_top ys xs (λ j c there. all (suc j) c there) i a at

  stable_few : old.books.begun + 1600 * length (completed b []) ≤ 1600 * (length (completed b (m.front ++ e ∷ [])) + 1) + count_by is_step m.front
  stable_few =
      let few = r.marks.few m.was_going in
      let commits : length (completed b old.history) ≡ length (completed b (m.front ++ e ∷ [])) = ap (λ (es : List Entry). length (completed b es)) m.was ∙ sym (ap length m.commits) in
      let steps : count_by is_step old.history ≡ count_by is_step m.front + count_by is_step m.snaps = ap (count_by is_step) m.was ∙ count_steps m.front m.snaps in
      let none = steps_snaps b m.snaps m.are in
      omega (arith, few, commits, steps, none)

  same_begun : new.books.begun ≡ old.books.begun
  same_begun = ap (λ (bk : Books). bk.begun) m.books

  stable_marks : HasMarks b new
  stable_marks =
      let fronts : Marked b m.front m.first = marks_front b m.front m.snaps m.first m.rest m.each marked_old in
      let more : Marked b (m.front ++ e ∷ []) (m.first ++ old.books.begun ∷ []) = marks_grow b m.front e m.first old.books.begun stable_done fronts first_top stable_few in
      let at : Marked b new.history (m.first ++ old.books.begun ∷ []) = subst (λ (es : List Entry). Marked b es (m.first ++ old.books.begun ∷ [])) (sym m.history) more in
      record {
        each = subst (λ (ms : List ℕ). Marked b new.history ms) (sym m.marks) at;
        top = λ i a is. (
            let le : a ≤ old.books.begun = elim (get_more m.first old.books.begun i a (subst (λ (ms : List ℕ). slice_get ms i ≡ Some a) m.marks is)) as (λ _. a ≤ old.books.begun) [
              | inl before ↦ first_top i a before.1
              | inr last ↦ (let at = last.1 in omega (arith, at))
            ] in
            let same = same_begun in
            omega (arith, le, same));
        few = λ _. (
            let few = stable_few in
            let same = same_begun in
            let commits : length (completed b new.history) ≡ length (completed b (m.front ++ e ∷ [])) = ap (λ (es : List Entry). length (completed b es)) m.history in
            let steps : count_by is_step new.history ≡ count_by is_step m.front + count_by is_step (e ∷ []) = ap (count_by is_step) m.history ∙ count_steps m.front (e ∷ []) in
            omega (arith, few, same, commits, steps));
      }

  stable_holds : HoldsCommits b disks old disk → HoldsCommits b disks new disk
  stable_holds h =
      let was : AreKeptRecords b (m.front ++ m.snaps) (completed b (m.front ++ m.snaps)) (kept_of (disks.reading disk) old.books) = subst (λ (es : List Entry). AreKeptRecords b es (completed b es) (kept_of (disks.reading disk) old.books)) m.was h.records in
      let moved : AreKeptRecords b (m.front ++ e ∷ []) (completed b (m.front ++ m.snaps)) (kept_of (disks.reading disk) old.books) = stable_records b m.front m.snaps e m.are m.event legal_old legal_new m.commits (completed b (m.front ++ m.snaps)) (kept_of (disks.reading disk) old.books) was in
      let at : AreKeptRecords b (m.front ++ e ∷ []) (completed b (m.front ++ e ∷ [])) (kept_of (disks.reading disk) old.books) = subst (λ (cs : List Commit). AreKeptRecords b (m.front ++ e ∷ []) cs (kept_of (disks.reading disk) old.books)) (sym m.commits) moved in
      let now : AreKeptRecords b new.history (completed b new.history) (kept_of (disks.reading disk) old.books) = subst (λ (es : List Entry). AreKeptRecords b es (completed b es) (kept_of (disks.reading disk) old.books)) (sym m.history) at in
      record {
        working = ap (λ (bk : Books). bk.shut) m.books ∙ h.working;
        looked = ap (λ (bk : Books). bk.found) m.books ∙ h.looked;
        books = subst (λ (bk : Books). AreTrue disks bk disk) (sym m.books) h.books;
        small = subst AreSmall (sym m.books) h.small;
        epoch = (
            let low = h.epoch in
            let place = ap (λ (bk : Books). bk.place.epoch) m.books in
            let was : length (completed b old.history) ≡ length (completed b (m.front ++ e ∷ [])) = ap (λ (es : List Entry). length (completed b es)) m.was ∙ sym (ap length m.commits) in
            let now : length (completed b new.history) ≡ length (completed b (m.front ++ e ∷ [])) = ap (λ (es : List Entry). length (completed b es)) m.history in
            omega (arith, low, place, was, now));
        owned = subst (λ (ts : ℕ → List ℕ). AreOwned new.books ts) (sym m.tables) (subst (λ (bk : Books). AreOwned bk old.tables) (sym m.books) h.owned);
        records = subst (λ (bk : Books). AreKeptRecords b new.history (completed b new.history) (kept_of (disks.reading disk) bk)) (sym m.books) now;
      }

  pub stable_runs : IsRunning b disks new disk
  stable_runs = record {
    begins = r.begins;
    legal = m.right.legal;
    follows = m.right.follows;
    marks = stable_marks;
    stored = λ told _. stable_holds (r.stored told m.was_going);
    time = λ short. r.time short ∙ ap (λ n. b.since + n) (sym same_begun);
    later = r.later;
    moments = λ told t c from left.
        let was : IsCutImage b (m.front ++ m.snaps) (m.first ++ m.rest) (disks.clock disk) t c = subst (λ (es : List Entry). IsCutImage b es (m.first ++ m.rest) (disks.clock disk) t c) m.was (subst (λ (ms : List ℕ). IsCutImage b old.history ms (disks.clock disk) t c) m.were (r.moments told t c from left)) in
        let is : IsCutImage b (m.front ++ e ∷ []) (m.first ++ old.books.begun ∷ []) (disks.clock disk) t c =
        stable_image b m.front m.snaps e m.are m.event legal_old legal_new m.commits m.first m.rest old.books.begun m.each (rest_top m.rest m.first old_top) (disks.clock disk) t c was in
        subst (λ (es : List Entry). IsCutImage b es new.marks (disks.clock disk) t c) (sym m.history) (subst (λ (ms : List ℕ). IsCutImage b (m.front ++ e ∷ []) ms (disks.clock disk) t c) (sym m.marks) is);
  }
