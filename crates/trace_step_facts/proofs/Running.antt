-- A legal run goes on, and what the laws say of it.
use Rattle.std.proofs.Common.{◌≡◌, ℕ, ◌≤◌, List, [], ◌∷◌, ◌++◌, length, refl, sym, ap, subst, ◌∙◌, arith}
use Rattle.base_types.specs.declared.histories.Entry.{Entry}
use Rattle.base_types.specs.declared.records.Rec.{Rec}
use Rattle.plain_runs.specs.model_kernel.Choices.{Commit, IsGreatest}
use Rattle.plain_runs.specs.model_kernel.Histories.{AllBelow64, IsLegalFrom, May, Policy, Run, goes_on, is_full, run_after, start_run}
use Rattle.plain_runs.specs.model_kernel.Scripts.{Script}
use Rattle.plain_runs.specs.model_kernel.State.{KernelState, Supply}
use Rattle.data_cut_facts.specs.Records.{IsAscending, choice}
use Rattle.data_cut_facts.specs.model_cut_laws.Agreeing.{from_cut}
use Rattle.data_cut_facts.specs.model_cut_laws.Records.{commits_of, recs_from}
use Rattle.model_run_rules.proofs.model_run_laws_lemmas.Cuts.{cut_after, cut_greatest}
use Rattle.model_run_rules.specs.Records.{AreAbove, AreAscending}
use Rattle.model_run_rules.proofs.Ascending.{commits_ascend}
use Rattle.plain_runs.proofs.model_sound_runs_lemmas.Kept.{kept_few}
use Rattle.plain_runs.proofs.model_sound_runs_lemmas.Standing.{legal_below}
use Rattle.std.specs.Prelude.{nat_le}
use Rattle.trace_state.specs.Cuts.{records_of}
use Rattle.trace_state.specs.declared.cuts.Cuts.{Cuts}
use Rattle.trace_step_facts.specs.Keeping.{HasCuts}
use Rattle.trace_step_facts.specs.Standing.{IsRunFrom, run_of}
use Rattle.trace_step_facts.proofs.Cutting.{ascending_more, cut_raised, full_count, kept_count}

legal_push : (s : Supply) (policy : Policy) (script : Script) (r : Run) (es : List Entry) (e : Entry) → IsLegalFrom s policy script r es → May s policy script (run_after s script r es) e → IsLegalFrom s policy script r (es ++ e ∷ [])
legal_push s policy script r [] e legal may = (may, tt)
legal_push s policy script r (f ∷ es) e legal may = (legal.0, legal_push s policy script (goes_on s script r f) es e legal.1 may)

pub after_push : (s : Supply) (script : Script) (r : Run) (es : List Entry) (e : Entry) → run_after s script r (es ++ e ∷ []) ≡ goes_on s script (run_after s script r es) e
after_push s script r [] e = refl
after_push s script r (f ∷ es) e = after_push s script (goes_on s script r f) es e

ascending_front : (cs ds : List Commit) → AreAscending (cs ++ ds) → AreAscending cs
ascending_front [] ds h = tt
ascending_front (c ∷ cs) ds h = (above_front cs h.0, ascending_front cs ds h.1)
  where
    above_front : (bs : List Commit) → AreAbove c (bs ++ ds) → AreAbove c bs
    above_front [] k = tt
    above_front (b ∷ bs) k = (k.0, above_front bs k.1)

module _ (s : Supply) (policy : Policy) (script : Script) (w : KernelState) (es : List Entry) (h : IsRunFrom s policy script w es) where
  pub longer : (e : Entry) → May s policy script (run_of s script w es) e → IsRunFrom s policy script w (es ++ e ∷ [])
  longer e may = record { rules = h.rules; kinds = h.kinds; sound = h.sound; below = h.below; narrow = h.narrow; low = h.low; legal = legal_push s policy script (start_run w) es e h.legal may }

  pub all_below : AllBelow64 es
  all_below = legal_below s policy script h.rules w es h.kinds h.sound h.legal

  pub greatest_cut : IsGreatest (run_of s script w es).start (run_of s script w es).commits (run_of s script w es).cut
  greatest_cut = cut_greatest (λ x. (w x).version) (run_of s script w es) (cut_after s policy script w es h.below h.narrow all_below h.legal)

  pub few_kept : (c : Cuts) → HasCuts (run_of s script w es) c → length c.recs.items ≤ 320
  few_kept c has = (let n = kept_count (run_of s script w es).cut (run_of s script w es).commits c.recs.items has.recs in let f = kept_few s policy script w es h.rules h.kinds h.sound h.below h.narrow h.legal in omega (arith, n, f))

  pub ascending : AreAscending (run_of s script w es).commits
  ascending = ascending_front (run_of s script w es).commits _ (commits_ascend s policy script w es h.legal)

-- COMMITS

module _ (s : Supply) (policy : Policy) (script : Script) (w : KernelState) (es : List Entry) (e : Entry) (h : IsRunFrom s policy script w es) (may : May s policy script (run_of s script w es) e) (ds : List Commit) where
  -- what an entry commits ascends
  pub ascending_next : (c : Cuts) (news : List Rec) → HasCuts (run_of s script w es) c → commits_of news ≡ ds → (goes_on s script (run_of s script w es) e).commits ≡ (run_of s script w es).commits ++ ds → IsAscending (c.recs.items ++ news)
  ascending_next c news has same commits =
      let r = run_of s script w es in
      let all : AreAscending (goes_on s script r e).commits = subst (λ (q : Run). AreAscending q.commits) (after_push s script (start_run w) es e) (ascending s policy script w (es ++ e ∷ []) (longer s policy script w es h e may)) in
      ascending_more r.cut r.commits ds c.recs.items news (subst AreAscending commits all) has.recs same

  -- the cut is that of the run that goes on
  pub cuts_next : (old new : Cuts) (news : List Rec) → HasCuts (run_of s script w es) old → commits_of news ≡ ds → (goes_on s script (run_of s script w es) e).commits ≡ (run_of s script w es).commits ++ ds
      → (goes_on s script (run_of s script w es) e).start ≡ (run_of s script w es).start → new.start ≡ old.start
      → IsGreatest (choice old.start) (commits_of (old.recs.items ++ news)) (choice new.cut) → new.recs.items ≡ recs_from (choice new.cut) (old.recs.items ++ news) → HasCuts (goes_on s script (run_of s script w es) e) new
  cuts_next old new news has same commits starts start greatest kept =
      let r = run_of s script w es in
      let q = goes_on s script r e in
      let all : IsGreatest q.start q.commits q.cut = subst (λ (k : Run). IsGreatest k.start k.commits k.cut) (after_push s script (start_run w) es e) (greatest_cut s policy script w (es ++ e ∷ []) (longer s policy script w es h e may)) in
      let now : IsGreatest r.start (r.commits ++ ds) q.cut = subst (λ (f : ℕ → ℕ). IsGreatest f (r.commits ++ ds) q.cut) starts (subst (λ cs. IsGreatest q.start cs q.cut) commits all) in
      let raised = cut_raised r ds q.cut old new news (greatest_cut s policy script w es h) now has same greatest kept in
      record {
        start = λ x. ap (λ c. choice c x) start ∙ has.start x ∙ ap (λ (f : ℕ → ℕ). f x) (sym starts);
        cut = λ x. ap (λ (f : ℕ → ℕ). f x) raised.cut;
        recs = raised.recs ∙ ap (from_cut q.cut) (sym commits);
      }

-- who is full
pub full_of : (r : Run) (c : Cuts) (x : ℕ) → HasCuts r c → is_full r x ≡ nat_le 4 (records_of c.recs.items x)
full_of r c x has = ap (nat_le 4) (sym (full_count r.cut r.commits c.recs.items x has.recs))
