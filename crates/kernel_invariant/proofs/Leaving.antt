-- What a stop leaves, as entries are added to the history.
use Rattle.std.proofs.Common.{◌≡◌, ℕ, zero, suc, ◌+◌, ◌-◌, ◌≤◌, ◌<◌, ◌^◌, Bool, true, false, cond, if◌then◌else◌, List, [], ◌∷◌, ◌++◌, count_by, drop, length, slice_get, option_to_list, Option, Some, None, refl, sym, ap, subst, ◌∙◌, arith, inl, inr, ◌⊎◌, length-append}
use Rattle.std.proofs.Math.Seq.{take-append_seam, take-length}
use Rattle.std.proofs.lemmas.Bool.{cases_lt}
use Rattle.std.proofs.lemmas.List.{append-nil, take-append-drop}
use Rattle.edge_disk.specs.Image.{Image}
use Rattle.store_books.specs.base_types.declared.histories.Entry.{Entry}
use Rattle.store_books.specs.base_types.declared.histories.Event.TheVariants.{Birth, Step, Snap as SnapEvent, Stable, Tried}
use Rattle.model_sound_states.specs.model_kernel.Choices.{Commit, IsGreatest}
use Rattle.model_sound_states.specs.model_kernel.Fronts.{IsChoice}
use Rattle.model_sound_states.specs.model_kernel.Histories.{Run, IsLegalFrom, May, event_of, goes_on, run_after, start_run, went_on}
use Rattle.model_sound_states.specs.model_kernel.Parts.{after, part_of}
use Rattle.model_sound_states.proofs.model_kernel_lemmas.Among.{among_map}
use Rattle.model_sound_states.proofs.model_kernel_lemmas.StableCuts.{run_append}
use Rattle.model_sound_states.proofs.model_run_laws_lemmas.Places.{cuts_stay, first_stay}
use Rattle.kernel_invariant.specs.Beginnings.{Beginning, BeginsRight, IsLegal, completed, first_commits, run_of, with_tried}
use Rattle.kernel_invariant.specs.Left.{HoldAcknowledged, IsCutImage, marks_with}
use Rattle.kernel_invariant.specs.Marks.{completes, is_completing}
use Rattle.kernel_invariant.specs.Records.{StoresCommits}
use Rattle.kernel_invariant.proofs.Cutting.{cut_meant}
use Rattle.kernel_invariant.proofs.Marking.{comparable, count_append, count_cons, none_of_none}
use Rattle.kernel_invariant.proofs.Staying.{longer}
use Rattle.model_sound_states.proofs.model_kernel_lemmas.StableCuts.{legal_front}

-- LISTS OF MARKS

pub get_front : (xs ys : List ℕ) (i a : ℕ) → slice_get xs i ≡ Some a → slice_get (xs ++ ys) i ≡ Some a
get_front [] ys i a is = cc
get_front (x ∷ xs) ys zero a is = is
get_front (x ∷ xs) ys (suc i) a is = get_front xs ys i a is

pub get_last : (xs : List ℕ) (m : ℕ) → slice_get (xs ++ m ∷ []) (length xs) ≡ Some m
get_last [] m = refl
get_last (x ∷ xs) m = get_last xs m

-- AN IMAGE OF STORED COMMITS

module _ (b : Beginning) (es : List Entry) where
  pub sure_within : length (completed b es) ≤ length (with_tried b es)
  sure_within = (let sum = length-append (completed b es) (option_to_list (run_of b es).tried) in omega (arith, sum))

  pub first_sure : first_commits b es (length (completed b es)) ≡ completed b es
  first_sure = take-append_seam (completed b es) (option_to_list (run_of b es).tried)

  pub first_all : first_commits b es (length (with_tried b es)) ≡ with_tried b es
  first_all = take-length (with_tried b es)

  -- as many commits as the history completes hold all that are acknowledged
  pub all_held : (marks : List ℕ) (now t k : ℕ) → length (completed b es) ≤ k → k ≤ length (with_tried b es) → HoldAcknowledged b es marks now t k
  all_held marks now t k low high = record {
    opened = (let up = longer b [] es in omega (arith, up, low));
    some = high;
    acknowledged = λ told fs gs is acked. (let up = subst (λ (hs : List Entry). length (completed b fs) ≤ length (completed b hs)) (sym is) (longer b fs gs) in omega (arith, up, low));
  }

  module _ (right : BeginsRight b) (legal : IsLegal b es) (count : ℕ) (marks : List ℕ) (now t : ℕ) (c : Image) where
    -- the image stores first commits that hold all that are acknowledged
    pub image_of : (k : ℕ) → HoldAcknowledged b es marks now t k → StoresCommits b es count (first_commits b es k) c → IsCutImage b es marks now t c
    image_of k holds st =
        let m = cut_meant b es count k c right legal holds.opened st in
        record { k = k; holds = holds; state = m.0; cut = m.2; means = m.1 }

    -- all that the history completes
    pub image_sure : StoresCommits b es count (completed b es) c → IsCutImage b es marks now t c
    image_sure st =
        image_of (length (completed b es)) (all_held marks now t (length (completed b es)) (omega arith) sure_within)
        (subst (λ (cs : List Commit). StoresCommits b es count cs c) (sym first_sure) st)

    -- and the tried one
    pub image_tried : StoresCommits b es count (with_tried b es) c → IsCutImage b es marks now t c
    image_tried st =
        image_of (length (with_tried b es)) (all_held marks now t (length (with_tried b es)) sure_within (omega arith))
        (subst (λ (cs : List Commit). StoresCommits b es count cs c) (sym first_all) st)

-- at a later clock no more is acknowledged
pub image_counts : (b : Beginning) (es : List Entry) (marks : List ℕ) (now after t : ℕ) (c : Image) → now ≤ after → IsCutImage b es marks now t c → IsCutImage b es marks after t c
image_counts b es marks now after t c le i = record {
  k = i.k;
  holds = record { opened = i.holds.opened; some = i.holds.some; acknowledged = λ told. i.holds.acknowledged (omega (arith, told, le)) };
  state = i.state;
  cut = i.cut;
  means = i.means;
}

-- AN ENTRY MORE

module _ (b : Beginning) where
  pub last_may : (r : Run) (es : List Entry) (e : Entry) → IsLegalFrom b.supply b.policy b.script r (es ++ e ∷ []) → May b.supply b.policy b.script (run_after b.supply b.script r es) e
  last_may r [] e legal = legal.0
  last_may r (d ∷ es) e legal = last_may (goes_on b.supply b.script r d) es e legal.1

  -- entries that complete no commits add none (to move down)
  pub none_complete : (r : Run) (ds : List Entry) → count_by completes ds ≡ 0 → (run_after b.supply b.script r ds).commits ≡ r.commits
  none_complete r [] none = refl
  none_complete r (e ∷ ds) none =
      let split = none_of_none e ds none in
      none_complete (goes_on b.supply b.script r e) ds split.1 ∙ elim e.event as (λ ev. is_completing ev ≡ false → (went_on b.supply b.script r e ev).commits ≡ r.commits) [
        | Birth ↦ λ no. refl
        | Step ↦ λ no. refl
        | SnapEvent ↦ λ no. cc
        | Stable ↦ λ no. cc
        | Tried ↦ λ no. refl
      ] split.0

module _ (b : Beginning) (es : List Entry) (e : Entry) (legal : IsLegal b (es ++ e ∷ [])) where
  pub legal_before : IsLegal b es
  legal_before = legal_front b.supply b.policy b.script (start_run b.state) es (e ∷ []) legal

  -- nothing was tried before
  pub sure_before : with_tried b es ≡ completed b es
  sure_before =
      let none : (run_of b es).tried ≡ None = (last_may b (start_run b.state) es e legal).0 in
      ap (λ (o : Option Commit). completed b es ++ option_to_list o) none ∙ append-nil (completed b es)

  module _ (marks : List ℕ) (m : ℕ) (now t : ℕ) (each : length marks ≡ count_by completes es) (later : completes e ≡ true → now < 2 ^ 64 - 1 → t < b.since + m) where
    -- a mark of before is one of these
    kept_mark : (done : Bool) (i a : ℕ) → slice_get marks i ≡ Some a → slice_get (if done then marks ++ m ∷ [] else marks) i ≡ Some a
    kept_mark true i a at = get_front marks (m ∷ []) i a at
    kept_mark false i a at = at

    -- where the new entry's mark is acknowledged too, it is not later
    not_acked : (done : Bool) → completes e ≡ done → now < 2 ^ 64 - 1 → (fs gs : List Entry) → es ++ e ∷ [] ≡ fs ++ gs
        → ((i a : ℕ) → i < count_by completes fs → slice_get (if done then marks ++ m ∷ [] else marks) i ≡ Some a → b.since + a ≤ t) → count_by completes fs ≤ count_by completes es
    not_acked false is told fs gs split acked =
        let one : count_by completes (e ∷ []) ≡ 0 = count_cons e [] ∙ ap (λ d. cond d 1 0 + 0) is in
        let left = count_append es (e ∷ []) in
        let right = count_append fs gs in
        let same = ap (count_by completes) split in
        omega (arith, one, left, right, same)
    not_acked true is told fs gs split acked = elim (cases_lt (count_by completes es) (count_by completes fs)) as (λ _. count_by completes fs ≤ count_by completes es) [
      | inr le ↦ le
      | inl lt ↦ (
          let early : b.since + m ≤ t = acked (length marks) m (omega (arith, lt, each)) (get_last marks m) in
          let late : t < b.since + m = later is told in
          absurd (omega (arith, early, late)))
    ]

    acked_more : (k : ℕ) → HoldAcknowledged b es marks now t k → now < 2 ^ 64 - 1 → (fs gs : List Entry) → es ++ e ∷ [] ≡ fs ++ gs
        → ((i a : ℕ) → i < count_by completes fs → slice_get (marks_with marks e m) i ≡ Some a → b.since + a ≤ t) → length (completed b fs) ≤ k
    acked_more k holds told fs gs split acked = elim (comparable fs es gs (e ∷ []) (sym split)) as (λ _. length (completed b fs) ≤ k) [
      | inl d ↦ holds.acknowledged told fs d.0 d.1 (λ i a lt at. acked i a lt (kept_mark (completes e) i a at))
      | inr d ↦ (
          let few = not_acked (completes e) refl told fs gs split acked in
          let sum : count_by completes fs ≡ count_by completes es + count_by completes d.0 = ap (count_by completes) d.1 ∙ count_append es d.0 in
          let none : count_by completes d.0 ≡ 0 = omega (arith, few, sum) in
          let same : completed b fs ≡ completed b es =
          ap (completed b) d.1 ∙ (ap (λ (r : Run). r.commits) (run_append b.supply b.policy b.script (start_run b.state) es d.0) ∙ none_complete b (run_of b es) d.0 none) in
          let whole = holds.acknowledged told es [] (sym (append-nil es)) (λ i a lt at. acked i a (omega (arith, lt, sum)) (kept_mark (completes e) i a at)) in
          let len = ap length same in
          omega (arith, whole, len))
    ]

    -- an image that was a cut of the history is one of the longer one, where the new entry's mark is later
    pub image_stays : (c : Image) → IsCutImage b es marks now t c → IsCutImage b (es ++ e ∷ []) (marks_with marks e m) now t c
    image_stays c i =
        let start : ℕ → ℕ = λ x. (b.state x).version in
        let few : i.k ≤ length (completed b es) = (let some = i.holds.some in let same = ap length sure_before in omega (arith, some, same)) in
        let first : first_commits b (es ++ e ∷ []) i.k ≡ first_commits b es i.k = first_stay b.supply b.policy b.script b.state es (e ∷ []) i.k few in
        let choice : IsChoice start (first_commits b es i.k) i.cut.cut =
        λ x. elim (i.cut.greatest.closed x) as (λ _. (i.cut.cut x ≡ start x) ⊎ Rattle.model_sound_states.specs.model_kernel.Choices.Among (first_commits b es i.k) (λ d. (d.entity ≡ x) × (d.version ≡ i.cut.cut x))) [
          | inl same ↦ inl same
          | inr some ↦ inr (among_map (first_commits b es i.k) _ _ (λ d h. (h.0, h.1)) some)
        ] in
        let part : part_of i.cut.cut (es ++ e ∷ []) ≡ part_of i.cut.cut es =
        cuts_stay b.supply b.policy b.script b.state es (e ∷ []) (first_commits b es i.k) (drop i.k (with_tried b es)) i.cut.cut legal (sym (take-append-drop i.k (with_tried b es))) choice in
        record {
          k = i.k;
          holds = record {
            opened = i.holds.opened;
            some = (let up = longer b es (e ∷ []) in let within = sure_within b (es ++ e ∷ []) in omega (arith, few, up, within));
            acknowledged = acked_more i.k i.holds;
          };
          state = i.state;
          cut = record {
            cut = i.cut.cut;
            greatest = subst (λ (cs : List Commit). IsGreatest start cs i.cut.cut) (sym first) i.cut.greatest;
            state = i.cut.state ∙ ap (after (event_of b.supply b.script) b.state) (sym part);
          };
          means = i.means;
        }
