-- Entries that follow change nothing of what kept records say.
use Rattle.std.proofs.Common.{◌≡◌, ℕ, ◌≤◌, List, [], ◌∷◌, ◌++◌, length, sym, ap, subst, ◌∙◌, arith, length-append}
use Rattle.std.specs.List.{AllByRecursion}
use Rattle.edge_disk.specs.Image.{Image}
use Rattle.store_books.specs.base_types.declared.histories.Entry.{Entry}
use Rattle.model_sound_states.specs.model_kernel.Choices.{Commit}
use Rattle.model_sound_states.specs.model_kernel.Histories.{Run, event_of, start_run}
use Rattle.model_sound_states.specs.model_kernel.Parts.{after}
use Rattle.model_sound_states.specs.model_kernel.State.{KernelState}
use Rattle.model_sound_states.proofs.model_kernel_lemmas.LegalRuns.{event_of_local, event_of_stamped, legal_played}
use Rattle.model_sound_states.proofs.model_kernel_lemmas.StableCuts.{commits_grow, run_append, versions_rise_over}
use Rattle.model_sound_states.proofs.model_run_laws_lemmas.Places.{after_append, played_rest, things_stay}
use Rattle.store_books.specs.image_meaning.Stores.{Kept}
use Rattle.store_told.proofs.Telling.{told_same}
use Rattle.kernel_invariant.specs.Beginnings.{Beginning, IsLegal, completed, entity_at, run_of, state_after}
use Rattle.kernel_invariant.specs.Records.{AreKeptRecords, IsKeptRecord, StoresCommits}

module _ (b : Beginning) (es fs : List Entry) where
  -- the commits are those of before and more
  pub grown : (ds : List Commit) × (completed b (es ++ fs) ≡ completed b es ++ ds)
  grown =
      let g = commits_grow b.supply b.policy b.script (run_of b es) fs in
      (g.0, ap (λ (r : Run). r.commits) (run_append b.supply b.policy b.script (start_run b.state) es fs) ∙ g.1)

  pub longer : length (completed b es) ≤ length (completed b (es ++ fs))
  longer = (let g = grown in let sum = ap length g.1 ∙ length-append (completed b es) g.0 in omega (arith, sum))

  module _ (legal : IsLegal b (es ++ fs)) where
    pub version_rises : (x : ℕ) → (state_after b es x).version ≤ (state_after b (es ++ fs) x).version
    version_rises x =
        let act = event_of b.supply b.script in
        let played = legal_played b.supply b.policy b.script (start_run b.state) (es ++ fs) legal in
        let rise = versions_rise_over act (event_of_local b.supply b.policy b.script) (event_of_stamped b.supply b.policy b.script) fs (after act b.state es) (played_rest act es fs b.state played) x in
        subst (λ (v : KernelState). (state_after b es x).version ≤ (v x).version) (sym (after_append act es fs b.state)) rise

    record_stays : (k : Kept) → IsKeptRecord b es k → IsKeptRecord b (es ++ fs) k
    record_stays k r =
        let x : ℕ = k.rec.entity in
        let n : ℕ = k.rec.version in
        let same : entity_at b (es ++ fs) x n ≡ entity_at b es x n = things_stay b.supply b.policy b.script b.state es fs x n legal r.from r.reached in
        record {
          told = told_same b.supply (entity_at b es) (entity_at b (es ++ fs)) k same r.told;
          from = r.from;
          reached = (let at = r.reached in let rise = version_rises x in omega (arith, at, rise));
          few = r.few;
        }

    each_stays : (ks : List Kept) → AllByRecursion (IsKeptRecord b es) ks → AllByRecursion (IsKeptRecord b (es ++ fs)) ks
    each_stays [] each = tt
    each_stays (k ∷ ks) (one, each) = (record_stays k one, each_stays ks each)

    pub records_stay : (cs : List Commit) (ks : List Kept) → AreKeptRecords b es cs ks → AreKeptRecords b (es ++ fs) cs ks
    records_stay cs ks a = record { agree = a.agree; each = each_stays ks a.each }

    pub stores_stay : (count : ℕ) (cs : List Commit) (c : Image) → StoresCommits b es count cs c → StoresCommits b (es ++ fs) count cs c
    stores_stay count cs c st = record { ks = st.ks; records = records_stay cs st.ks st.records; apart = st.apart; stores = st.stores }
