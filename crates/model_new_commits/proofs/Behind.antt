-- The new commits behind a place of a run are found.
use Rattle.std.proofs.Common.{◌≡◌, ℕ, ◌<◌, List, [], ◌∷◌, ◌++◌, filter, nat_lt, refl, sym, ap, subst, ◌∙◌}
use Rattle.base_types.specs.Edges.{upto}
use Rattle.base_types.specs.declared.histories.Entry.{Entry}
use Rattle.model_run_rules.specs.model_kernel.Choices.{Commit}
use Rattle.model_run_rules.specs.model_kernel.Histories.{IsLegalRun, Policy, Run, chosen_commits, commits_in, commits_of, never, run_after, start_run}
use Rattle.model_run_rules.specs.model_kernel.Scripts.{Script}
use Rattle.model_run_rules.specs.model_kernel.Soundness.{IsSound}
use Rattle.model_run_rules.specs.model_kernel.State.{KernelState, Supply}
use Rattle.model_run_rules.proofs.model_kernel_lemmas.CommitStamps.{AllCommits}
use Rattle.model_run_rules.specs.Newest.{newest_in}
use Rattle.model_run_rules.specs.Records.{AreAbove, AreAscending}
use Rattle.model_run_rules.proofs.Ascending.{commits_ascend}
use Rattle.model_sound_runs.specs.Kinds.{NamesNoLocus}
use Rattle.model_sound_runs.specs.script_types.Rules.{IsScript}
use Rattle.model_sound_runs.proofs.Kept.{small_after}
use Rattle.model_serial_turns.proofs.Ascent.{look_rises, stable_rises}
use Rattle.model_serial_turns.proofs.model_serial_lemmas.Openings.{opening_legal}
use Rattle.model_run_rules.proofs.model_kernel_lemmas.StableCuts.{run_append}
use Rattle.model_serial_turns.specs.Rising.{MakesRising, Rises, entities_of}
use Rattle.model_serial_turns.specs.model_serial.Serial.{look, opening}
use Rattle.model_new_commits.specs.Found.{AreFound}
use Rattle.model_new_commits.proofs.Lists.{found}
use Rattle.model_new_commits.proofs.Opened.{opening_rises}
use Rattle.model_new_commits.proofs.Positive.{all_positive, start_positive}

above_front : (c : Commit) (ds es : List Commit) → AreAbove c (ds ++ es) → AreAbove c ds
above_front c [] es all = tt
above_front c (d ∷ ds) es all = (all.0, above_front c ds es all.1)

ascending_front : (cs ds : List Commit) → AreAscending (cs ++ ds) → AreAscending cs
ascending_front [] ds all = tt
ascending_front (c ∷ cs) ds all = (above_front c cs ds all.0, ascending_front cs ds all.1)

all_back : (P : Commit → Type 0) (cs ds : List Commit) → AllCommits P (cs ++ ds) → AllCommits P ds
all_back P [] ds all = all
all_back P (c ∷ cs) ds all = all_back P cs ds all.1

module _ (s : Supply) (policy : Policy) (script : Script) (w : KernelState) (rules : IsScript script) (names : NamesNoLocus script w) (sound : IsSound (λ x. (w x).cell)) where
  -- what comes behind a place of a legal run
  later : (known : ℕ → ℕ) (es part : List Entry) → IsLegalRun s policy w script (es ++ part) → MakesRising s script (run_after s script (start_run w) es) part
      → ((x : ℕ) → x < 64 → known x ≡ newest_in (commits_in s script w es) x) → AreFound known (commits_in s script w es) (commits_in s script w (es ++ part))
  later known es part legal makes knows =
      let old = commits_in s script w es in
      let all : commits_in s script w (es ++ part) ≡ old ++ makes.added = ap (λ (r : Run). r.commits) (run_append s policy script (start_run w) es part) ∙ makes.are in
      let ascending : AreAscending (commits_in s script w (es ++ part)) = ascending_front (commits_in s script w (es ++ part)) _ (commits_ascend s policy script w (es ++ part) legal) in
      found known old makes.added (commits_in s script w (es ++ part)) all makes.rise
      (all_back (λ c. c.entity < 64) old makes.added (subst (AllCommits (λ c. c.entity < 64)) all (small_after s policy script rules w (es ++ part) names sound legal)))
      (all_back (λ c. 0 < c.version) old makes.added (subst (AllCommits (λ c. 0 < c.version)) all (all_positive s policy script w (es ++ part) legal)))
      (subst AreAscending all ascending) knows

-- the commits of the start
module _ (w : KernelState) where
  chosen_is : (xs : List ℕ) → chosen_commits w xs ≡ commits_of (record (start_run w) { newest = λ _. 0 }) xs
  chosen_is [] = refl
  chosen_is (x ∷ xs) = ap (λ (cs : List Commit). record { entity = x; version = (w x).version; stamp = (w x).stamp } ∷ cs) (chosen_is xs)

  start_rises : Rises (entities_of (start_run w).commits)
  start_rises =
      let xs = filter (λ x. nat_lt 0 (w x).version) (upto 64) in
      subst (λ (cs : List Commit). Rises (entities_of cs)) (sym (chosen_is xs)) (stable_rises (record (start_run w) { newest = λ _. 0 }))

pub behind_nothing : (s : Supply) (script : Script) (w : KernelState) → IsScript script → NamesNoLocus script w → IsSound (λ x. (w x).cell) → (known : ℕ → ℕ) → ((x : ℕ) → x < 64 → known x ≡ 0)
    → AreFound known [] (commits_in s script w [])
behind_nothing s script w rules names sound known knows =
    found known [] (start_run w).commits (start_run w).commits refl (start_rises w)
    (small_after s never script rules w [] names sound tt) (start_positive w)
    (ascending_front (start_run w).commits _ (commits_ascend s never script w [] tt)) knows

pub behind_births : (s : Supply) (script : Script) (w : KernelState) → IsScript script → NamesNoLocus script w → IsSound (λ x. (w x).cell) → (known : ℕ → ℕ)
    → ((x : ℕ) → x < 64 → known x ≡ newest_in (commits_in s script w []) x) → AreFound known (commits_in s script w []) (commits_in s script w (opening s script w))
behind_births s script w rules names sound known knows =
    later s never script w rules names sound known [] (opening s script w) (opening_legal s never script w) (opening_rises s script w) knows

pub behind_look : (s : Supply) (policy : Policy) (script : Script) (w : KernelState) → IsScript script → NamesNoLocus script w → IsSound (λ x. (w x).cell) → (known : ℕ → ℕ) (es : List Entry) (l : ℕ)
    → IsLegalRun s policy w script (es ++ look s policy script (run_after s script (start_run w) es) l) → ((x : ℕ) → x < 64 → known x ≡ newest_in (commits_in s script w es) x)
    → AreFound known (commits_in s script w es) (commits_in s script w (es ++ look s policy script (run_after s script (start_run w) es) l))
behind_look s policy script w rules names sound known es l legal knows =
    later s policy script w rules names sound known es (look s policy script (run_after s script (start_run w) es) l) legal (look_rises s policy script (run_after s script (start_run w) es) l) knows
