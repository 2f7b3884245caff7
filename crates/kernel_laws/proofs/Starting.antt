-- A kernel's record holds at the start of a run.
use Rattle.std.proofs.Common.{◌≡◌, ℕ, ◌≤◌, List, [], ◌∷◌, ◌++◌, length, slice_get, Some, None, refl, sym, ap, subst, ◌∙◌, arith}
use Rattle.std.specs.List.{AllByRecursion}
use Rattle.std.proofs.lemmas.List.Elements.{All-nil}
use Rattle.edge_disk.specs.declared.disk.Disk.{Ghosts}
use Rattle.edge_disk.specs.Image.{Image}
use Rattle.base_types.specs.declared.histories.Entry.{Entry}
use Rattle.image_state_laws.specs.model_kernel.Scripts.{ContainerTable, Script, locus_named}
use Rattle.image_state_laws.specs.model_kernel.State.{KernelState}
use Rattle.image_state_laws.specs.model_kernel.Steps.{atlas_in}
use Rattle.image_state_laws.specs.script_types.Rules.{IsScript}
use Rattle.image_state_laws.specs.model_sound_runs.Kinds.{NamesNoLocus}
use Rattle.image_state_laws.specs.image_meaning.Meaning.{Means}
use Rattle.image_state_laws.specs.image_meaning.Stores.{Kept}
use Rattle.kernel_invariant.specs.store_books.Books.{kept_of}
use Rattle.kernel_invariant.specs.Beginnings.{Beginning, BeginsRight, IsLegal, completed, run_of, state_after}
use Rattle.kernel_invariant.specs.Left.{IsCutImage}
use Rattle.kernel_invariant.specs.Live.{Follows, HasMarks, HoldsCommits, IsCalm, IsLive, IsRunning, KernelView}
use Rattle.kernel_invariant.specs.Records.{AreKeptRecords, IsKeptRecord}
use Rattle.kernel_invariant.proofs.Leaving.{all_held, sure_within}
use Rattle.kernel_invariant.proofs.Opened.{cut_at_start}
use Rattle.kernel_laws.specs.Opening.{HasNoBirths, StandsAtStart, empty_script, with_script}
use Rattle.kernel_laws.proofs.Marking.{Marked}

empty_clash : (fs gs : List Entry) (e : Entry) → [] ≡ fs ++ e ∷ gs → ⊥
empty_clash [] gs e h = cc
empty_clash (f ∷ fs) gs e h = cc

-- an image that means the opened state is a cut of no entries
pub opened_image : (b : Beginning) (marks : List ℕ) (now t : ℕ) (c : Image) → Means b.supply c b.state → IsCutImage b [] marks now t c
opened_image b marks now t c means = record {
  k = length (completed b []);
  holds = all_held b [] marks now t (length (completed b [])) (omega arith) (sure_within b []);
  state = b.state;
  cut = cut_at_start b;
  means = means;
}

none_marked : (b : Beginning) → Marked b [] []
none_marked b = record {
  each = refl;
  rising = λ i j a c le at there. cc;
  bound = λ fs gs e m split done at. absurd (empty_clash fs gs e split);
}

-- the script of nobody
pub empty_rules : (steps : ℕ) → 1 ≤ steps → steps ≤ 40000 → IsScript (empty_script steps)
empty_rules steps low high = record {
  steps = (low, high);
  few_containers = omega arith;
  few_loci = omega arith;
  containers = tt;
  loci = tt;
  different = tt;
  few_picks = omega arith;
  order = refl;
}

pub empty_names : (steps : ℕ) (w : KernelState) → NamesNoLocus (empty_script steps) w
empty_names steps w = All-nil (λ (t : ContainerTable). locus_named (atlas_in (w 0).cell) t.name ≡ None)

module _ {D : Type 0} (b : Beginning) (disks : Ghosts D) (k : KernelView) (disk : D) where
  -- THE START

  module _ (right : BeginsRight b) (none : HasNoBirths b) (st : StandsAtStart b disks k disk) where
    start_calm : IsCalm b []
    start_calm = record { births_made = none; nothing_owed = refl; not_tried = refl; nothing_due = λ x. refl }

    start_follows : Follows b k
    start_follows = record {
      state = st.state ∙ sym (ap (λ (es : List Entry). state_after b es) st.history);
      newest = (λ i x. st.newest x i) ∙ sym (ap (λ (es : List Entry). (run_of b es).newest) st.history);
      by_step = (λ i x. st.by_step x i) ∙ sym (ap (λ (es : List Entry). (run_of b es).by_step) st.history);
      asked = (λ i x. st.asked x i) ∙ sym (ap (λ (es : List Entry). (run_of b es).asked) st.history);
      left = λ x. (let left = st.left x in let none : (run_of b k.history).steps x ≡ 0 = ap (λ (es : List Entry). (run_of b es).steps x) st.history in omega (arith, left, none));
    }

    start_marks : HasMarks b k
    start_marks = record {
      each = subst (λ (es : List Entry). Marked b es k.marks) (sym st.history) (subst (λ (ms : List ℕ). Marked b [] ms) (sym st.marks) (none_marked b));
      top = λ i a at. absurd (no_mark i a (subst (λ (ms : List ℕ). slice_get ms i ≡ Some a) st.marks at));
      few = λ _. (
          let few = st.few in
          let same : length (completed b k.history) ≡ length (completed b []) = ap (λ (es : List Entry). length (completed b es)) st.history in
          omega (arith, few, same));
    }
      where
        no_mark : (i a : ℕ) → slice_get {X = ℕ} [] i ≡ Some a → ⊥
        no_mark i a at = cc

    pub start_lives : IsLive b disks k disk
    start_lives = record {
      running = record {
        begins = right;
        legal = subst (IsLegal b) (sym st.history) tt;
        follows = start_follows;
        marks = start_marks;
        stored = λ told _. st.stored told;
        time = st.time;
        later = st.later;
        moments = λ told t c from left. subst (λ (es : List Entry). IsCutImage b es k.marks (disks.clock disk) t c) (sym st.history) (opened_image b k.marks (disks.clock disk) t c (st.moments told t c from left));
      };
      calm = λ _. subst (IsCalm b) (sym st.history) start_calm;
    }

  -- ANOTHER SCRIPT, before any entry

  module _ (script : Script) where
    record_for : (n : Kept) → IsKeptRecord b [] n → IsKeptRecord (with_script b script) [] n
    record_for n r = record { told = r.told; from = r.from; reached = r.reached; few = r.few }

    each_for : (ks : List Kept) → AllByRecursion (IsKeptRecord b []) ks → AllByRecursion (IsKeptRecord (with_script b script) []) ks
    each_for [] all = tt
    each_for (n ∷ ks) (one, all) = (record_for n one, each_for ks all)

    image_for : (marks : List ℕ) (now t : ℕ) (c : Image) → IsCutImage b [] marks now t c → IsCutImage (with_script b script) [] marks now t c
    image_for marks now t c i = record {
      k = i.k;
      holds = record { opened = i.holds.opened; some = i.holds.some; acknowledged = λ told fs gs split acked. front_none fs gs split };
      state = i.state;
      cut = record { cut = i.cut.cut; greatest = i.cut.greatest; state = i.cut.state };
      means = i.means;
    }
      where
        front_none : (fs gs : List Entry) → [] ≡ fs ++ gs → length (completed (with_script b script) fs) ≤ i.k
        front_none [] gs split = i.holds.opened
        front_none (f ∷ fs) gs split = absurd (clash split)
          where
            clash : [] ≡ f ∷ fs ++ gs → ⊥
            clash h = cc

    module _ (right : BeginsRight (with_script b script)) (steps : script.steps ≡ b.script.steps) (history : k.history ≡ []) (r : IsRunning b disks k disk) where
      follows_for : Follows (with_script b script) k
      follows_for = record {
        state = r.follows.state ∙ (ap (λ (es : List Entry). state_after b es) history ∙ sym (ap (λ (es : List Entry). state_after (with_script b script) es) history));
        newest = r.follows.newest ∙ (ap (λ (es : List Entry). (run_of b es).newest) history ∙ sym (ap (λ (es : List Entry). (run_of (with_script b script) es).newest) history));
        by_step = r.follows.by_step ∙ (ap (λ (es : List Entry). (run_of b es).by_step) history ∙ sym (ap (λ (es : List Entry). (run_of (with_script b script) es).by_step) history));
        asked = r.follows.asked ∙ (ap (λ (es : List Entry). (run_of b es).asked) history ∙ sym (ap (λ (es : List Entry). (run_of (with_script b script) es).asked) history));
        left = λ x. (
            let left = r.follows.left x in
            let none : (run_of b k.history).steps x ≡ 0 = ap (λ (es : List Entry). (run_of b es).steps x) history in
            let too : (run_of (with_script b script) k.history).steps x ≡ 0 = ap (λ (es : List Entry). (run_of (with_script b script) es).steps x) history in
            omega (arith, left, none, too, steps));
      }

      marks_for : HasMarks (with_script b script) k
      marks_for = record {
        each = (
            let was : Marked b [] k.marks = subst (λ (es : List Entry). Marked b es k.marks) history r.marks.each in
            subst (λ (es : List Entry). Marked (with_script b script) es k.marks) (sym history)
            (record { each = was.each; rising = was.rising; bound = λ fs gs e m split done at. absurd (empty_clash fs gs e split) }));
        top = r.marks.top;
        few = λ none. (
            let few = r.marks.few none in
            let was : length (completed b k.history) ≡ length (completed b []) = ap (λ (es : List Entry). length (completed b es)) history in
            let now : length (completed (with_script b script) k.history) ≡ length (completed b []) = ap (λ (es : List Entry). length (completed (with_script b script) es)) history in
            omega (arith, few, was, now));
      }

      holds_for : HoldsCommits b disks k disk → HoldsCommits (with_script b script) disks k disk
      holds_for h =
          let was : AreKeptRecords b [] (completed b []) (kept_of (disks.reading disk) k.books) = subst (λ (es : List Entry). AreKeptRecords b es (completed b es) (kept_of (disks.reading disk) k.books)) history h.records in
          let now : AreKeptRecords (with_script b script) [] (completed (with_script b script) []) (kept_of (disks.reading disk) k.books) = record { agree = was.agree; each = each_for (kept_of (disks.reading disk) k.books) was.each } in
          record {
            working = h.working;
            looked = h.looked;
            books = h.books;
            small = h.small;
            epoch = (
                let low = h.epoch in
                let was : length (completed b k.history) ≡ length (completed b []) = ap (λ (es : List Entry). length (completed b es)) history in
                let now : length (completed (with_script b script) k.history) ≡ length (completed b []) = ap (λ (es : List Entry). length (completed (with_script b script) es)) history in
                omega (arith, low, was, now));
            owned = h.owned;
            records = subst (λ (es : List Entry). AreKeptRecords (with_script b script) es (completed (with_script b script) es) (kept_of (disks.reading disk) k.books)) (sym history) now;
          }

      pub script_runs : IsRunning (with_script b script) disks k disk
      script_runs = record {
        begins = right;
        legal = subst (IsLegal (with_script b script)) (sym history) tt;
        follows = follows_for;
        marks = marks_for;
        stored = λ told none. holds_for (r.stored told none);
        time = r.time;
        later = r.later;
        moments = λ told t c from left.
            let was : IsCutImage b [] k.marks (disks.clock disk) t c = subst (λ (es : List Entry). IsCutImage b es k.marks (disks.clock disk) t c) history (r.moments told t c from left) in
            subst (λ (es : List Entry). IsCutImage (with_script b script) es k.marks (disks.clock disk) t c) (sym history) (image_for k.marks (disks.clock disk) t c was);
      }
