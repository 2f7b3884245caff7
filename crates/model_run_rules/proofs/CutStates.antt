-- The state of the greatest part has the cut's versions, and the vectors of their pasts as clocks.
use Rattle.std.proofs.Common.{◌≡◌, ℕ, ◌≤◌, true, ◌==◌, List, [], ◌∷◌, ◌++◌, Option, inl, inr, refl, sym, ap, subst, ◌∙◌, arith, eq-eqb}
use Rattle.base_types.specs.declared.histories.Entry.{Entry}
use Rattle.model_run_laws.specs.model_kernel.State.{Supply, EntityState, KernelState}
use Rattle.model_run_laws.specs.model_kernel.Scripts.{Script}
use Rattle.model_run_laws.specs.model_kernel.Choices.{Commit, IsGreatest}
use Rattle.model_run_laws.specs.model_kernel.Fronts.{tried_commits, version_vector}
use Rattle.model_run_laws.specs.model_kernel.Histories.{Policy, IsLegalRun, event_of, start_run}
use Rattle.model_run_laws.specs.model_kernel.Parts.{IsPlayed, after, after_entry, part_of, thing_at}
use Rattle.model_run_laws.specs.model_kernel.Vectors.{IsPart, StampsBelow}
use Rattle.model_run_laws.proofs.model_kernel_lemmas.Among.{among_some}
use Rattle.model_run_laws.proofs.model_kernel_lemmas.ChosenVectors.{same_vector}
use Rattle.model_run_laws.proofs.model_kernel_lemmas.CommitStamps.{AllCommits, IsMadeIn, all_front, all_made, among_both, legal_greatest}
use Rattle.model_run_laws.proofs.model_kernel_lemmas.LegalRuns.{event_of_local, event_of_stamped, legal_played, legal_vectors}
use Rattle.model_run_laws.proofs.model_kernel_lemmas.PartStates.{part_state}
use Rattle.model_run_laws.proofs.model_kernel_lemmas.StableCuts.{versions_rise_over}
use Rattle.model_run_laws.proofs.Places.{after_append}
use Rattle.model_run_rules.specs.Records.{IsRecordOf}
use Rattle.model_run_rules.proofs.Records.{record_of}

at_once : (act : Entry → KernelState → Option (Entry × KernelState)) (es : List Entry) (w : KernelState) (x n : ℕ) → (w x).version ≡ n → thing_at act (λ (b : EntityState). b.version) w es x n ≡ w x
at_once act [] w x n e = refl
at_once act (d ∷ es) w x n e = (let t : ((w x).version == n) ≡ true = eq-eqb _ _ e in rw t refl)

module _ (s : Supply) (policy : Policy) (script : Script) (w : KernelState) (es : List Entry) (legal : IsLegalRun s policy w script es) where
  -- a version that the entity had, with its clock there
  pub record WasThere (x n : ℕ) : Type 0 where
    pub low : (w x).version ≤ n
    pub high : n ≤ (after (event_of s script) w es x).version
    pub version : (thing_at (event_of s script) (λ (b : EntityState). b.version) w es x n).version ≡ n
    pub stamp : (y : ℕ) → (thing_at (event_of s script) (λ (b : EntityState). b.version) w es x n).stamp y ≡ version_vector (event_of s script) w es x n y

  played : IsPlayed (event_of s script) w es
  played = legal_played s policy script (start_run w) es legal

  rise : (fs : List Entry) (v : KernelState) → IsPlayed (event_of s script) v fs → (x : ℕ) → (v x).version ≤ (after (event_of s script) v fs x).version
  rise fs v played x = versions_rise_over (event_of s script) (event_of_local s policy script) (event_of_stamped s policy script) fs v played x

  at_start : (x : ℕ) → WasThere x (w x).version
  at_start x =
      let there = at_once (event_of s script) es w x (w x).version refl in
      record {
        low = omega arith;
        high = rise es w played x;
        version = ap (λ (b : EntityState). b.version) there;
        stamp = λ y.
            ap (λ (b : EntityState). b.stamp y) there
            ∙ ap (λ (f : ℕ → ℕ). f y) (sym (same_vector (event_of s script) (event_of_local s policy script) (event_of_stamped s policy script) es w x (w x).version refl))
            ∙ legal_vectors s policy script w es x (w x).version y legal;
      }

  front_played : (front rest : List Entry) (v : KernelState) → IsPlayed (event_of s script) v (front ++ rest) → IsPlayed (event_of s script) v front
  front_played [] rest v played = tt
  front_played (d ∷ front) rest v played = (played.0, front_played front rest (after_entry (event_of s script) v d) played.1)

  rest_played : (front rest : List Entry) (v : KernelState) → IsPlayed (event_of s script) v (front ++ rest) → IsPlayed (event_of s script) (after (event_of s script) v front) rest
  rest_played [] rest v played = played
  rest_played (d ∷ front) rest v played = rest_played front rest (after_entry (event_of s script) v d) played.1

  of_commit : (c : Commit) → IsMadeIn (event_of s script) w es c → WasThere c.entity c.version
  of_commit c m =
      let act = event_of s script in
      let k : IsRecordOf s script w es c = record_of s policy script w es legal c m in
      let split = subst (IsPlayed act w) m.split played in
      let up = rise m.front w (front_played m.front m.rest w split) c.entity in
      let more = rise m.rest (after act w m.front) (rest_played m.front m.rest w split) c.entity in
      let whole : (after act (after act w m.front) m.rest c.entity).version ≡ (after act w es c.entity).version = ap (λ (v : KernelState). (v c.entity).version) (sym (after_append act m.front m.rest w) ∙ ap (after act w) (sym m.split)) in
      let e = m.version in
      record {
        low = omega (arith, up, e);
        high = omega (arith, more, whole, e);
        version = k.version;
        stamp = λ y. ap (λ (f : ℕ → ℕ). f y) k.stamp ∙ k.vector y;
      }

  module _ (cs later : List Commit) (q : ℕ → ℕ) (first : tried_commits s script w es ≡ cs ++ later) (g : IsGreatest (λ x. (w x).version) cs q) where
    made : AllCommits (IsMadeIn (event_of s script) w es) cs
    made = all_front (IsMadeIn (event_of s script) w es) cs later (subst (AllCommits (IsMadeIn (event_of s script) w es)) first (all_made s policy script w es))

    was_there : (x : ℕ) → WasThere x (q x)
    was_there x = elim (g.closed x) as (λ _. WasThere x (q x)) [
      | inl e ↦ subst (WasThere x) (sym e) (at_start x)
      | inr a ↦ among_some _ (WasThere x (q x)) cs (λ c k. subst (WasThere x) k.1.1 (subst (λ z. WasThere z c.version) k.1.0 (of_commit c k.0))) (among_both _ _ cs made a)
    ]

    pub cut_part : IsPart (event_of s script) w es q
    cut_part x = ((was_there x).low, (was_there x).high)

    state_at : StampsBelow w → (x : ℕ) → after (event_of s script) w (part_of q es) x ≡ thing_at (event_of s script) (λ (b : EntityState). b.version) w es x (q x)
    state_at below = part_state (λ (b : EntityState). b.version) q (event_of s script) (event_of_local s policy script) es w played (legal_greatest s policy script w es cs later q legal below first g).0 (λ x. (was_there x).low)

    pub cut_version : StampsBelow w → (x : ℕ) → (after (event_of s script) w (part_of q es) x).version ≡ q x
    cut_version below x = ap (λ (b : EntityState). b.version) (state_at below x) ∙ (was_there x).version

    pub cut_stamp : StampsBelow w → (x y : ℕ) → (after (event_of s script) w (part_of q es) x).stamp y ≡ version_vector (event_of s script) w es x (q x) y
    cut_stamp below x y = ap (λ (b : EntityState). b.stamp y) (state_at below x) ∙ (was_there x).stamp y
