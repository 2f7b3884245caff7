-- The opened records are the first commits of a run, and none is below its entity's opened version.
use Rattle.std.proofs.Common.{◌≡◌, ℕ, ◌<◌, nat_lt, List, [], ◌∷◌, ◌++◌, filter, option_to_list, sym, ap, subst, ◌∙◌, arith, inl, inr, append_assoc}
use Rattle.std.proofs.lemmas.Bool.{lt-ltb, cases_lt}
use Rattle.model_cut_laws.specs.base_types.Edges.{upto}
use Rattle.model_cut_laws.specs.base_types.declared.histories.Entry.{Entry}
use Rattle.model_cut_laws.specs.model_kernel.State.{Supply, KernelState}
use Rattle.model_cut_laws.specs.model_kernel.Scripts.{Script}
use Rattle.model_cut_laws.specs.model_kernel.Vectors.{StampsBelow}
use Rattle.model_cut_laws.specs.model_kernel.Choices.{Commit, Among}
use Rattle.model_cut_laws.specs.model_kernel.Parts.{IsPlayed}
use Rattle.model_cut_laws.specs.model_kernel.Histories.{Policy, IsLegalRun, commits_in, event_of, run_after, start_run}
use Rattle.model_cut_laws.specs.model_kernel.Fronts.{tried_commits}
use Rattle.model_cut_laws.proofs.model_kernel_lemmas.Among.{among_map, among_more}
use Rattle.model_cut_laws.proofs.model_kernel_lemmas.CommitStamps.{AllCommits, IsMadeIn, all_made}
use Rattle.model_cut_laws.proofs.model_kernel_lemmas.LegalRuns.{event_of_local, event_of_stamped, legal_played}
use Rattle.model_cut_laws.proofs.model_kernel_lemmas.StableCuts.{Stands, commits_grow, in_upto, versions_rise_over}
use Rattle.model_cut_laws.specs.Agreeing.{AreFromStart, HoldsStart}
use Rattle.model_run_laws.specs.Versions.{OnlyBelow64}
use Rattle.model_run_laws.proofs.Cuts.{chosen_same}
use Rattle.model_run_laws.proofs.Places.{played_front}

module _ (s : Supply) (policy : Policy) (script : Script) where
  pub starts_first : (w : KernelState) (es : List Entry) → (later : List Commit) × (tried_commits s script w es ≡ commits_in s script w [] ++ later)
  starts_first w es =
      let g = commits_grow s policy script (start_run w) es in
      let tried = option_to_list (run_after s script (start_run w) es).tried in
      (g.0 ++ tried, ap (λ cs. cs ++ tried) g.1 ∙ append_assoc (start_run w).commits g.0 tried)

  from_made : (w : KernelState) (es : List Entry) (cs : List Commit) → IsPlayed (event_of s script) w es → AllCommits (IsMadeIn (event_of s script) w es) cs → AreFromStart (λ x. (w x).version) cs
  from_made w es [] played made = tt
  from_made w es (c ∷ cs) played made =
      let act = event_of s script in
      let local = event_of_local s policy script in
      let stamped = event_of_stamped s policy script in
      let m = made.0 in
      let rise = versions_rise_over act local stamped m.front w (played_front act m.front m.rest w (subst (IsPlayed act w) m.split played)) c.entity in
      let e = m.version in
      (omega (arith, rise, e), from_made w es cs played made.1)

  pub none_below_start : (w : KernelState) (es : List Entry) → IsLegalRun s policy w script es → AreFromStart (λ x. (w x).version) (tried_commits s script w es)
  none_below_start w es legal = from_made w es (tried_commits s script w es) (legal_played s policy script (start_run w) es legal) (all_made s policy script w es)

pub starts_held : (s : Supply) (script : Script) (w : KernelState) (later : List Commit) → StampsBelow w → OnlyBelow64 (λ x. (w x).version) → HoldsStart (λ x. (w x).version) (commits_in s script w [] ++ later)
starts_held s script w later below none x some =
    let f = λ (x : ℕ). nat_lt 0 (w x).version in
    let small : x < 64 = elim (cases_lt x 64) as (λ _. x < 64) [ inl h ↦ h | inr h ↦ (let e = none x h in absurd (omega (arith, e, some))) ] in
    let here : Among (start_run w).commits (Stands (start_run w) x) = subst (λ (cs : List Commit). Among cs (Stands (start_run w) x)) (sym (chosen_same w (filter f (upto 64)))) (in_upto x 64 small f (lt-ltb _ _ some) (start_run w)) in
    among_more (start_run w).commits later _ (among_map (start_run w).commits _ _ (λ c k. (k.0, k.1, λ y. (let e = ap (λ (t : ℕ → ℕ). t y) k.2 in let b = below x y in omega (arith, e, b)))) here)
