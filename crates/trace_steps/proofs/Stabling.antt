-- A Stable: the entry may follow, and the checker stands behind it.
use Rattle.std.proofs.Common.{◌≡◌, ℕ, ◌<◌, ◌≤◌, Bool, false, ◌||◌, List, [], ◌∷◌, ◌++◌, length, filter, Some, None, nat_le, refl, sym, ap, subst, ◌∙◌, arith, length-append}
use Rattle.std.proofs.lemmas.Bool.{false≢true}
use Rattle.base_types.specs.Edges.{upto}
use Rattle.base_types.specs.declared.histories.Entry.{Entry}
use Rattle.base_types.specs.declared.histories.Event.TheVariants.{Stable}
use Rattle.base_types.specs.declared.records.Rec.{Rec}
use Rattle.plain_states.specs.model_kernel.Choices.{IsGreatest}
use Rattle.plain_states.specs.model_kernel.Histories.{May, Policy, after_stable, commits_of, goes_on, has_changed, is_full, mark}
use Rattle.plain_states.specs.model_kernel.Scripts.{Script}
use Rattle.plain_states.specs.model_kernel.State.{KernelState, Supply}
use Rattle.trace_step_facts.specs.data_cut_facts.Records.{IsAscending, choice}
use Rattle.model_run_rules.specs.model_cut_laws.Records.{commits_of as rec_commits, recs_from}
use Rattle.trace_state.specs.Clocks.{clock_at}
use Rattle.trace_state.specs.Cuts.{records_of}
use Rattle.trace_step_facts.specs.data_cut_facts.Searches.{mark_at}
use Rattle.trace_state.specs.declared.cuts.Cuts.{Cuts}
use Rattle.trace_state.specs.declared.wishes.Wishes.{Wishes}
use Rattle.trace_step_facts.specs.Recording.{Appends}
use Rattle.trace_steps.specs.Standing.{Keeps, Stands}
use Rattle.trace_step_facts.specs.Standing.{run_of}
use Rattle.trace_steps.specs.declared.checker.Checker.{Checker}
use Rattle.trace_steps.proofs.Marking.{none_of}
use Rattle.trace_step_facts.proofs.Recording.{changed_same, few_new}
use Rattle.trace_step_facts.proofs.Running.{ascending_next, cuts_next, few_kept, full_of}
use Rattle.trace_steps.proofs.Running.{stands_on}
use Rattle.trace_step_facts.proofs.Wishing.{stable_wishes}

module _ (s : Supply) (policy : Policy) (script : Script) (w : KernelState) (es : List Entry) (old : Checker) (h : Stands s policy script w old es) (untried : old.tried ≡ false) (actor : ℕ) (owed : old.owed ≡ Some actor) (whole : old.short ≡ false) where
  abbrev stabled : Entry
  stabled = mark Stable actor 0

  pub stable_may : May s policy script (run_of s script w es) stabled
  stable_may = (none_of (run_of s script w es).tried (h.keeps.marks.tried ∙ untried), (h.keeps.marks.owed ∙ owed, h.keeps.marks.short ∙ whole, refl))

  module _ (all : List Rec) (a : Appends old.wishes.newest old.versions (clock_at old.clocks) 64 old.cuts.recs.items all) where
    same_all : rec_commits a.news ≡ commits_of (run_of s script w es) (filter (has_changed (run_of s script w es)) (upto 64))
    same_all = changed_same (run_of s script w es) old.wishes.newest old.versions old.clocks old.cuts.recs.items all a h.keeps.has.numbers h.keeps.wishes.newest h.keeps.clocks

    pub stable_few : length all ≤ 640
    stable_few =
        let n = few_kept s policy script w es h.run old.cuts h.keeps.cuts in
        let m = few_new old.wishes.newest old.versions (clock_at old.clocks) old.cuts.recs.items all a in
        let l = ap length a.list in
        let k = length-append old.cuts.recs.items a.news in
        omega (arith, n, m, l, k)

    pub stable_ascending : IsAscending all
    stable_ascending =
        subst IsAscending (sym a.list)
        (ascending_next s policy script w es stabled h.run stable_may (commits_of (run_of s script w es) (filter (has_changed (run_of s script w es)) (upto 64))) old.cuts a.news h.keeps.cuts same_all refl)

    pub stable_stands : (cuts : Cuts) (wishes : Wishes) (full : List Bool) → cuts.start ≡ old.cuts.start → IsGreatest (choice old.cuts.start) (rec_commits all) (choice cuts.cut) → cuts.recs.items ≡ recs_from (choice cuts.cut) all
        → ((y : ℕ) → y < 64 → mark_at full y ≡ nat_le 4 (records_of cuts.recs.items y)) → wishes.newest ≡ old.versions
        → ((y : ℕ) → mark_at wishes.by_step y ≡ false) → ((y : ℕ) → mark_at wishes.asked y ≡ false)
        → ((y : ℕ) → mark_at wishes.was_full y ≡ (mark_at old.wishes.was_full y || mark_at full y)) → wishes.full ≡ full
        → Stands s policy script w (record old { cuts = cuts; wishes = wishes; began = false; owed = None }) (es ++ stabled ∷ [])
    stable_stands cuts wishes full start greatest kept fulls newest by_step asked was_full same =
        let r = run_of s script w es in
        let new : Checker = record old { cuts = cuts; wishes = wishes; began = false; owed = None } in
        let has =
        cuts_next s policy script w es stabled h.run stable_may (commits_of r (filter (has_changed r) (upto 64))) old.cuts cuts a.news h.keeps.cuts same_all refl refl start
        (subst (λ (recs : List Rec). IsGreatest (choice old.cuts.start) (rec_commits recs) (choice cuts.cut)) a.list greatest)
        (kept ∙ ap (recs_from (choice cuts.cut)) a.list) in
        let marked : (y : ℕ) → y < 64 → is_full (after_stable r) y ≡ mark_at wishes.full y = λ y lt. full_of (goes_on s script r stabled) cuts y has ∙ sym (fulls y lt) ∙ ap (λ bs. mark_at bs y) (sym same) in
        let keeps : Keeps s script (goes_on s script r stabled) new = record {
          has = record { cells = h.keeps.has.cells; numbers = h.keeps.has.numbers };
          sound = h.keeps.sound;
          edges = h.keeps.edges;
          clocks = record { clocks = h.keeps.clocks.clocks };
          wishes = stable_wishes r old.versions old.wishes wishes h.keeps.wishes h.keeps.has.numbers marked newest by_step asked (λ y. was_full y ∙ ap (λ bs. mark_at old.wishes.was_full y || mark_at bs y) (sym same));
          cuts = has;
          marks = record { began = refl; owed = refl; short = h.keeps.marks.short; made = h.keeps.marks.made; births = h.keeps.marks.births; tried = h.keeps.marks.tried };
          kinds = λ b. absurd (false≢true b);
        } in
        stands_on s policy script w old new es stabled h stable_may keeps
