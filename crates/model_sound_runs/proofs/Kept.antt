-- All commits at or above the cut, over all entities.
use Rattle.std.proofs.Common.{◌≡◌, ℕ, ◌+◌, ◌*◌, ◌-◌, ◌≤◌, ◌<◌, Bool, true, false, ◌&&◌, ◌==◌, cond, nat_le, nat_lt, List, [], ◌∷◌, filter, count_by, refl, sym, subst, ◌∙◌, arith, eq-eqb, inl, inr}
use Rattle.std.specs.List.{All}
use Rattle.std.proofs.lemmas.Bool.{cases_lt}
use Rattle.std.proofs.lemmas.List.Sums.{sum_by-cons}
use Rattle.script_types.specs.base_types.Edges.{upto}
use Rattle.script_types.specs.base_types.declared.histories.Entry.{Entry}
use Rattle.script_types.specs.base_types.declared.histories.Event.TheVariants.{Birth, Step, Snap as SnapEvent, Stable, Tried}
use Rattle.script_types.specs.model_kernel.State.{Supply, KernelState}
use Rattle.script_types.specs.model_kernel.Choices.{Commit}
use Rattle.script_types.specs.model_kernel.Scripts.{Script}
use Rattle.script_types.specs.model_kernel.Soundness.{IsSound}
use Rattle.script_types.specs.model_kernel.Steps.{atlas_in}
use Rattle.script_types.specs.model_kernel.Vectors.{StampsBelow}
use Rattle.script_types.specs.model_kernel.Histories.{Policy, Run, may, May, has_changed, every_of, version_of, commit_of, commits_of, commits_above, goes_on, went_on, IsLegalFrom, IsLegalRun, start_run, run_after}
use Rattle.script_types.proofs.model_kernel_lemmas.CommitStamps.{AllCommits, all_append}
use Rattle.script_types.specs.Rules.{IsScript}
use Rattle.model_run_laws.specs.Versions.{OnlyBelow64}
use Rattle.model_run_laws.proofs.Cuts.{chosen_same}
use Rattle.model_run_laws.proofs.Few.{above_cons, at_most_five}
use Rattle.model_sound_runs.proofs.Births.{NotLocus}
use Rattle.model_sound_runs.proofs.Counting.{AllLess, found_below, total, total_const, total_less, total_mono, upto_less}
use Rattle.model_sound_runs.proofs.Lengths.{IsBudgeted, entry_pays, open_wish, some_wish}
use Rattle.model_sound_runs.proofs.Standing.{IsStanding, legal_below, standing_next}

-- ENTITIES OF COMMITS

abbrev pub AreSmall : List Commit → Type 0
AreSmall cs = AllCommits (λ c. c.entity < 64) cs

less_kept : (f : ℕ → Bool) (xs : List ℕ) → AllLess 64 xs → AllLess 64 (filter f xs)
less_kept f [] all = tt
less_kept f (x ∷ xs) all = elim (f x) as (λ b. AllLess 64 (cond b (x ∷ filter f xs) (filter f xs))) [ true ↦ (all.0, less_kept f xs all.1) | false ↦ less_kept f xs all.1 ]

small_commits : (r : Run) (xs : List ℕ) → AllLess 64 xs → AreSmall (commits_of r xs)
small_commits r [] all = tt
small_commits r (x ∷ xs) all = (all.0, small_commits r xs all.1)

some_small : (r : Run) (f : ℕ → Bool) → AreSmall (commits_of r (filter f (upto 64)))
some_small r f = small_commits r (filter f (upto 64)) (less_kept f (upto 64) (upto_less 64 64 (omega arith)))

module _ (s : Supply) (policy : Policy) (script : Script) (rules : IsScript script) where
  small_next : (r : Run) (e : Entry) → May s policy script r e → IsBudgeted r → AreSmall r.commits → AreSmall (goes_on s script r e).commits
  small_next r e m f small =
      elim e.event as (λ ev. may s policy script r e ev → AreSmall (went_on s script r e ev).commits) [
        | Birth ↦ λ m. small
        | Step ↦ λ m. small
        | SnapEvent ↦ λ m. all_append (λ c. c.entity < 64) r.commits (commit_of r e.actor ∷ []) small (
          elim m.1 as (λ _. e.actor < 64) [
            | inl c ↦ elim (cases_lt e.actor 64) as (λ _. e.actor < 64) [
              | inl h ↦ h
              | inr h ↦ absurd (some_wish (r.by_step e.actor) (r.asked e.actor) (open_wish (r.by_step e.actor) (policy (every_of (r.state e.actor).cell) (version_of r e.actor - r.newest e.actor)) (r.asked e.actor) c.0) (f.high e.actor h).0 (f.high e.actor h).1)
            ]
            | inr c ↦ found_below (has_changed r) 64 e.actor c.1
          ],
          tt,
        )
        | Stable ↦ λ m. all_append (λ c. c.entity < 64) r.commits _ small (some_small r (has_changed r))
        | Tried ↦ λ m. small
      ] m.1

  small_over : (es : List Entry) (r : Run) → IsLegalFrom s policy script r es → IsStanding script r → IsBudgeted r → AreSmall r.commits → AreSmall (run_after s script r es).commits
  small_over [] r legal k f small = small
  small_over (e ∷ es) r legal k f small =
      small_over es (goes_on s script r e) legal.1 (standing_next s policy script rules r e legal.0 k) (entry_pays s policy script rules r e legal.0 k f).1 (small_next r e legal.0 f small)

  pub small_after : (w : KernelState) (es : List Entry) → All (NotLocus (atlas_in (w 0).cell)) script.containers → IsSound (λ x. (w x).cell) → IsLegalRun s policy w script es → AreSmall (run_after s script (start_run w) es).commits
  small_after w es kinds sound legal =
      small_over es (start_run w) legal (record { sound = sound; kinds = λ _. kinds }) (record { calm = inl refl; high = λ x h. (refl, refl) })
      (subst AreSmall (sym (chosen_same w (filter (λ x. nat_lt 0 (w x).version) (upto 64)))) (some_small (start_run w) (λ x. nat_lt 0 (w x).version)))

-- THE SUM

abbrev pub is_kept : (ℕ → ℕ) → Commit → Bool
is_kept cut c = nat_le (cut c.entity) c.version

module _ (cut : ℕ → ℕ) where
  above_more : (c : Commit) (cs : List Commit) (x : ℕ) → commits_above cs cut x ≤ commits_above (c ∷ cs) cut x
  above_more c cs x = (let e = above_cons c cs cut x in omega (arith, e))

  above_here : (c : Commit) (cs : List Commit) → is_kept cut c ≡ true → commits_above cs cut c.entity + 1 ≤ commits_above (c ∷ cs) cut c.entity
  above_here c cs is =
      let e = above_cons c cs cut c.entity in
      let t : (c.entity == c.entity) ≡ true = eq-eqb c.entity c.entity refl in
      let one : commits_above (c ∷ cs) cut c.entity ≡ 1 + commits_above cs cut c.entity = e ∙ (λ i. cond (t i && is i) 1 0 + commits_above cs cut c.entity) in
      omega (arith, one)

  kept_sum : (cs : List Commit) → AreSmall cs → count_by (is_kept cut) cs ≤ total (λ x. commits_above cs cut x) 64
  kept_sum [] small = (let z : count_by (is_kept cut) [] ≡ 0 = refl in omega (arith, z))
  kept_sum (c ∷ cs) small =
      let rest = kept_sum cs small.1 in
      let count : count_by (is_kept cut) (c ∷ cs) ≡ cond (is_kept cut c) 1 0 + count_by (is_kept cut) cs = sum_by-cons (λ (c : Commit). cond (is_kept cut c) 1 0) c cs in
      elim (is_kept cut c) as (λ b. is_kept cut c ≡ b → count_by (is_kept cut) (c ∷ cs) ≡ cond b 1 0 + count_by (is_kept cut) cs → count_by (is_kept cut) (c ∷ cs) ≤ total (λ x. commits_above (c ∷ cs) cut x) 64) [
        | true ↦ λ is count. (
            let more = total_less (λ x. commits_above cs cut x) (λ x. commits_above (c ∷ cs) cut x) (above_more c cs) c.entity 64 small.0 (above_here c cs is) in
            omega (arith, rest, count, more))
        | false ↦ λ _ count. (
            let more = total_mono (λ x. commits_above cs cut x) (λ x. commits_above (c ∷ cs) cut x) (above_more c cs) 64 in
            omega (arith, rest, count, more))
      ] refl count

-- where at most five of each are at or above it, 320 of all are
pub few_by_five : (cut : ℕ → ℕ) (cs : List Commit) → AreSmall cs → ((x : ℕ) → commits_above cs cut x ≤ 5) → count_by (is_kept cut) cs ≤ 320
few_by_five cut cs small five =
    let sum = kept_sum cut cs small in
    let most : total (λ x. commits_above cs cut x) 64 ≤ total (λ _. 5) 64 = total_mono (λ x. commits_above cs cut x) (λ _. 5) five 64 in
    let all : total (λ _. 5) 64 ≡ 64 * 5 = total_const 5 64 in
    omega (arith, sum, most, all)

pub kept_few : (s : Supply) (policy : Policy) (script : Script) (w : KernelState) (es : List Entry) → IsScript script → All (NotLocus (atlas_in (w 0).cell)) script.containers → IsSound (λ x. (w x).cell)
    → StampsBelow w → OnlyBelow64 (λ x. (w x).version) → IsLegalRun s policy w script es
    → count_by (is_kept (run_after s script (start_run w) es).cut) (run_after s script (start_run w) es).commits ≤ 320
kept_few s policy script w es rules kinds sound below none legal =
    few_by_five (run_after s script (start_run w) es).cut (run_after s script (start_run w) es).commits (small_after s policy script rules w es kinds sound legal)
    (λ x. at_most_five s policy script w es x below none (legal_below s policy script rules w es kinds sound legal) legal)
