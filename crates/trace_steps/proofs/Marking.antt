-- A record of one entity, done or tried: the entry may follow, and the checker stands behind it.
use Rattle.std.proofs.Common.{◌≡◌, ℕ, ◌+◌, ◌<◌, ◌≤◌, Bool, true, false, ◌||◌, List, [], ◌∷◌, ◌++◌, length, Option, Some, None, is_some, nat_le, slice_index, refl, sym, ap, subst, ◌∙◌, arith}
use Rattle.std.proofs.lemmas.Bool.{false≢true}
use Rattle.base_types.specs.declared.histories.Entry.{Entry}
use Rattle.base_types.specs.declared.histories.Event.TheVariants.{Snap as SnapEvent, Tried}
use Rattle.base_types.specs.declared.records.Rec.{Rec}
use Rattle.plain_states.specs.model_kernel.Choices.{Commit, IsGreatest}
use Rattle.plain_states.specs.model_kernel.Histories.{May, MayCommit, Policy, Run, after_snap, commit_of, goes_on, is_full, mark, may as may_be}
use Rattle.plain_states.specs.model_kernel.Scripts.{Script}
use Rattle.plain_states.specs.model_kernel.State.{KernelState, Supply}
use Rattle.plain_states.specs.model_kernel.Words.{put}
use Rattle.trace_step_facts.specs.data_cut_facts.Records.{IsAscending, choice}
use Rattle.model_run_rules.specs.model_cut_laws.Records.{commits_of, recs_from}
use Rattle.trace_state.specs.Clocks.{clock_at}
use Rattle.trace_state.specs.Cuts.{records_of}
use Rattle.trace_step_facts.specs.data_cut_facts.Searches.{mark_at}
use Rattle.trace_state.specs.declared.cuts.Cuts.{Cuts}
use Rattle.trace_state.specs.declared.wishes.Wishes.{Wishes}
use Rattle.trace_step_facts.specs.Keeping.{HasCuts}
use Rattle.trace_step_facts.specs.Recording.{IsRecordAt}
use Rattle.trace_steps.specs.Standing.{Keeps, Stands}
use Rattle.trace_step_facts.specs.Standing.{run_of}
use Rattle.trace_steps.specs.declared.checker.Checker.{Checker}
use Rattle.trace_step_facts.proofs.Recording.{record_same}
use Rattle.trace_step_facts.proofs.Running.{ascending_next, cuts_next, few_kept, full_of}
use Rattle.trace_steps.proofs.Running.{stands_on}
use Rattle.trace_step_facts.proofs.Wishing.{snap_wishes}

pub none_of : {A : Type 0} (o : Option A) → is_some o ≡ false → o ≡ None
none_of None e = refl
none_of (Some a) e = absurd (false≢true (sym e))

module _ (s : Supply) (policy : Policy) (script : Script) (w : KernelState) (es : List Entry) (old : Checker) (h : Stands s policy script w old es) (untried : old.tried ≡ false) (x : ℕ) (may : MayCommit policy (run_of s script w es) x) where
  abbrev snapped : Entry
  snapped = mark SnapEvent x (slice_index old.versions x)

  abbrev tried : Entry
  tried = mark Tried x (slice_index old.versions x)

  pub snap_may : May s policy script (run_of s script w es) snapped
  snap_may = (none_of (run_of s script w es).tried (h.keeps.marks.tried ∙ untried), (ap (mark SnapEvent x) (sym (h.keeps.has.numbers x)), may))

  pub try_may : May s policy script (run_of s script w es) tried
  try_may = (none_of (run_of s script w es).tried (h.keeps.marks.tried ∙ untried), (ap (mark Tried x) (sym (h.keeps.has.numbers x)), may))

  -- ONE COMMIT

  same_one : (rec : Rec) → x < 64 → IsRecordAt (slice_index old.versions) (clock_at old.clocks) x rec → commits_of (rec ∷ []) ≡ commit_of (run_of s script w es) x ∷ []
  same_one rec low is = ap (λ (c : Commit). c ∷ []) (record_same (run_of s script w es) old.versions old.clocks x rec low h.keeps.has.numbers h.keeps.clocks is)

  pub snap_few : length old.cuts.recs.items + 1 ≤ 640
  snap_few = (let n = few_kept s policy script w es h.run old.cuts h.keeps.cuts in omega (arith, n))

  pub snap_ascending : (rec : Rec) → x < 64 → IsRecordAt (slice_index old.versions) (clock_at old.clocks) x rec → IsAscending (old.cuts.recs.items ++ rec ∷ [])
  snap_ascending rec low is = ascending_next s policy script w es snapped h.run snap_may (commit_of (run_of s script w es) x ∷ []) old.cuts (rec ∷ []) h.keeps.cuts (same_one rec low is) refl

  cuts_on : (rec : Rec) (cuts : Cuts) → x < 64 → IsRecordAt (slice_index old.versions) (clock_at old.clocks) x rec → cuts.start ≡ old.cuts.start
      → IsGreatest (choice old.cuts.start) (commits_of (old.cuts.recs.items ++ rec ∷ [])) (choice cuts.cut) → cuts.recs.items ≡ recs_from (choice cuts.cut) (old.cuts.recs.items ++ rec ∷ [])
      → HasCuts (goes_on s script (run_of s script w es) snapped) cuts
  cuts_on rec cuts low is start greatest kept =
      cuts_next s policy script w es snapped h.run snap_may (commit_of (run_of s script w es) x ∷ []) old.cuts cuts (rec ∷ []) h.keeps.cuts (same_one rec low is) refl refl start greatest kept

  pub snap_stands : (rec : Rec) (cuts : Cuts) (wishes : Wishes) (full : List Bool) → x < 64 → IsRecordAt (slice_index old.versions) (clock_at old.clocks) x rec → cuts.start ≡ old.cuts.start
      → IsGreatest (choice old.cuts.start) (commits_of (old.cuts.recs.items ++ rec ∷ [])) (choice cuts.cut) → cuts.recs.items ≡ recs_from (choice cuts.cut) (old.cuts.recs.items ++ rec ∷ [])
      → ((y : ℕ) → y < 64 → mark_at full y ≡ nat_le 4 (records_of cuts.recs.items y))
      → ((y : ℕ) → slice_index wishes.newest y ≡ put (slice_index old.wishes.newest) x (slice_index old.versions x) y)
      → ((y : ℕ) → mark_at wishes.by_step y ≡ put (mark_at old.wishes.by_step) x false y)
      → ((y : ℕ) → mark_at wishes.asked y ≡ put (mark_at old.wishes.asked) x false y)
      → ((y : ℕ) → mark_at wishes.was_full y ≡ (mark_at old.wishes.was_full y || mark_at full y)) → wishes.full ≡ full
      → Stands s policy script w (record old { cuts = cuts; wishes = wishes; short = is_some old.owed; began = false }) (es ++ snapped ∷ [])
  snap_stands rec cuts wishes full low is start greatest kept fulls newest by_step asked was_full same =
      let r = run_of s script w es in
      let new : Checker = record old { cuts = cuts; wishes = wishes; short = is_some old.owed; began = false } in
      let has = cuts_on rec cuts low is start greatest kept in
      let marked : (y : ℕ) → y < 64 → is_full (after_snap r x) y ≡ mark_at wishes.full y = λ y lt. full_of (goes_on s script r snapped) cuts y has ∙ sym (fulls y lt) ∙ ap (λ bs. mark_at bs y) (sym same) in
      let keeps : Keeps s script (goes_on s script r snapped) new = record {
        has = record { cells = h.keeps.has.cells; numbers = h.keeps.has.numbers };
        sound = h.keeps.sound;
        edges = h.keeps.edges;
        clocks = record { clocks = h.keeps.clocks.clocks };
        wishes = snap_wishes r x old.wishes wishes h.keeps.wishes marked (λ y. newest y ∙ ap (λ v. put (slice_index old.wishes.newest) x v y) (sym (h.keeps.has.numbers x))) by_step asked
            (λ y. was_full y ∙ ap (λ bs. mark_at old.wishes.was_full y || mark_at bs y) (sym same));
        cuts = has;
        marks = record { began = refl; owed = h.keeps.marks.owed; short = ap is_some h.keeps.marks.owed; made = h.keeps.marks.made; births = h.keeps.marks.births; tried = h.keeps.marks.tried };
        kinds = λ b. absurd (false≢true b);
      } in
      stands_on s policy script w old new es snapped h snap_may keeps

  pub try_stands : Stands s policy script w (record old { tried = true }) (es ++ tried ∷ [])
  try_stands =
      let r = run_of s script w es in
      let new : Checker = record old { tried = true } in
      let keeps : Keeps s script (goes_on s script r tried) new = record {
        has = record { cells = h.keeps.has.cells; numbers = h.keeps.has.numbers };
        sound = h.keeps.sound;
        edges = h.keeps.edges;
        clocks = record { clocks = h.keeps.clocks.clocks };
        wishes = record { newest = h.keeps.wishes.newest; by_step = h.keeps.wishes.by_step; asked = h.keeps.wishes.asked; was_full = h.keeps.wishes.was_full; full = h.keeps.wishes.full };
        cuts = record { start = h.keeps.cuts.start; cut = h.keeps.cuts.cut; recs = h.keeps.cuts.recs };
        marks = record { began = h.keeps.marks.began; owed = h.keeps.marks.owed; short = h.keeps.marks.short; made = h.keeps.marks.made; births = h.keeps.marks.births; tried = refl };
        kinds = h.keeps.kinds;
      } in
      stands_on s policy script w old new es tried h try_may keeps

-- what may follow as a Snap or a Tried is a commit that may be next
pub snap_commits : (s : Supply) (policy : Policy) (script : Script) (r : Run) (e : Entry) (x : ℕ) → e.event ≡ SnapEvent → e.actor ≡ x → May s policy script r e → MayCommit policy r x
snap_commits s policy script r e x ev by m =
    let k = subst (may_be s policy script r e) ev m.1 in
    subst (MayCommit policy r) by k.1

pub try_commits : (s : Supply) (policy : Policy) (script : Script) (r : Run) (e : Entry) (x : ℕ) → e.event ≡ Tried → e.actor ≡ x → May s policy script r e → MayCommit policy r x
try_commits s policy script r e x ev by m =
    let k = subst (may_be s policy script r e) ev m.1 in
    subst (MayCommit policy r) by k.1
