-- What a commit holds is what its entity was at that version.
use Rattle.std.proofs.Common.{◌≡◌, ℕ, true, false, ◌==◌, if◌then◌else◌, List, [], ◌∷◌, ◌++◌, Option, refl, sym, ap, subst, ◌∙◌, eq-eqb, eqb-true}
use Rattle.base_types.specs.declared.histories.Entry.{Entry}
use Rattle.model_run_laws.specs.model_kernel.State.{Supply, EntityState, KernelState}
use Rattle.model_run_laws.specs.model_kernel.Scripts.{Script}
use Rattle.model_run_laws.specs.model_kernel.Choices.{Commit}
use Rattle.model_run_laws.specs.model_kernel.Fronts.{tried_commits}
use Rattle.model_run_laws.specs.model_kernel.Histories.{Policy, IsLegalRun, event_of, start_run}
use Rattle.model_run_laws.specs.model_kernel.LocalEvents.{IsLocal}
use Rattle.model_run_laws.specs.model_kernel.Parts.{IsPlayed, after, after_entry, thing_at}
use Rattle.model_run_laws.specs.model_kernel.Vectors.{IsStamped}
use Rattle.model_run_laws.proofs.model_kernel_lemmas.CommitStamps.{AllCommits, IsMadeIn, all_made, same_between, vector_of_made}
use Rattle.model_run_laws.proofs.model_kernel_lemmas.LegalRuns.{event_of_local, event_of_stamped, legal_played, legal_vectors}
use Rattle.model_run_rules.specs.Records.{AreRecordsOf, IsRecordOf}

module _ (act : Entry → KernelState → Option (Entry × KernelState)) (local : (e : Entry) → IsLocal (λ (b : EntityState). b.version) (act e)) (stamped : (e : Entry) → IsStamped (act e)) where
  -- what an entity was at the version that it has behind a front
  thing_at_front : (front rest : List Entry) (w : KernelState) (x : ℕ) → IsPlayed act w (front ++ rest)
      → thing_at act (λ (b : EntityState). b.version) w (front ++ rest) x (after act w front x).version ≡ after act w front x
  thing_at_front [] [] w x played = refl
  thing_at_front [] (d ∷ rest) w x played =
      let same : ((w x).version == (w x).version) ≡ true = eq-eqb _ _ refl in
      ap (λ b. if b then w x else thing_at act (λ (b : EntityState). b.version) (after_entry act w d) rest x (w x).version) same
  thing_at_front (d ∷ front) rest w x played =
      let n = (after act (after_entry act w d) front x).version in
      elim ((w x).version == n) as (λ b. ((w x).version == n) ≡ b
      → (if◌then◌else◌ {A = EntityState} b (w x) (thing_at act (λ (b : EntityState). b.version) (after_entry act w d) (front ++ rest) x n)) ≡ after act (after_entry act w d) front x) [
        | true ↦ λ is. sym (same_between act local stamped (d ∷ front) w x (front_played (d ∷ front) rest w played) (eqb-true _ _ is))
        | false ↦ λ is. thing_at_front front rest (after_entry act w d) x played.1
      ] refl
    where
      front_played : (front rest : List Entry) (w : KernelState) → IsPlayed act w (front ++ rest) → IsPlayed act w front
      front_played [] rest w played = tt
      front_played (d ∷ front) rest w played = (played.0, front_played front rest (after_entry act w d) played.1)

  thing_of_made : (w : KernelState) (es : List Entry) (c : Commit) (m : IsMadeIn act w es c) → IsPlayed act w es → thing_at act (λ (b : EntityState). b.version) w es c.entity c.version ≡ after act w m.front c.entity
  thing_of_made w es c m played =
      ap (λ gs. thing_at act (λ (b : EntityState). b.version) w gs c.entity c.version) m.split
      ∙ ap (thing_at act (λ (b : EntityState). b.version) w (m.front ++ m.rest) c.entity) m.version
      ∙ thing_at_front m.front m.rest w c.entity (subst (IsPlayed act w) m.split played)

module _ (s : Supply) (policy : Policy) (script : Script) (w : KernelState) (es : List Entry) (legal : IsLegalRun s policy w script es) where
  pub record_of : (c : Commit) → IsMadeIn (event_of s script) w es c → IsRecordOf s script w es c
  record_of c m =
      let act = event_of s script in
      let local = event_of_local s policy script in
      let stamped = event_of_stamped s policy script in
      let played = legal_played s policy script (start_run w) es legal in
      let there = thing_of_made act local stamped w es c m played in
      record {
        version = ap (λ (b : EntityState). b.version) there ∙ sym m.version;
        stamp = ap (λ (b : EntityState). b.stamp) there ∙ sym m.stamp;
        vector = λ y. ap (λ (f : ℕ → ℕ). f y) (sym (vector_of_made act local stamped w es c played m)) ∙ legal_vectors s policy script w es c.entity c.version y legal;
      }

  records_of : (cs : List Commit) → AllCommits (IsMadeIn (event_of s script) w es) cs → AreRecordsOf s script w es cs
  records_of [] all = tt
  records_of (c ∷ cs) all = (record_of c all.0, records_of cs all.1)

  pub commits_recorded : AreRecordsOf s script w es (tried_commits s script w es)
  commits_recorded = records_of (tried_commits s script w es) (all_made s policy script w es)
