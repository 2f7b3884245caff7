-- The greatest closed choice over a run's commits is the computed one, and the run keeps it.
use Rattle.std.proofs.Common.{◌≡◌, ℕ, zero, suc, true, false, ◌&&◌, ◌==◌, nat_le, nat_lt, if◌then◌else◌, max, List, [], ◌∷◌, ◌++◌, length, filter, option_to_list, refl, sym, ap, subst, ◌∙◌, arith, inl, inr, eqb-true}
use Rattle.model_cut_laws.specs.base_types.declared.histories.Entry.{Entry}
use Rattle.model_cut_laws.specs.base_types.declared.histories.Event.TheVariants.{Birth, Step, Snap as SnapEvent, Stable, Tried}
use Rattle.model_cut_laws.specs.base_types.Edges.{upto}
use Rattle.model_cut_laws.specs.model_kernel.State.{Supply, KernelState}
use Rattle.model_cut_laws.specs.model_kernel.Scripts.{Script}
use Rattle.model_cut_laws.specs.model_kernel.Vectors.{StampsBelow}
use Rattle.model_cut_laws.specs.model_kernel.Choices.{Commit, IsNarrow, IsGreatest, covered, greatest, lower, lowered, top}
use Rattle.model_cut_laws.specs.model_kernel.Histories.{Policy, Run, goes_on, went_on, commit_of, commits_of, chosen_commits, has_changed, IsLegalFrom, IsLegalRun, start_run, run_after, commits_in, AllBelow64}
use Rattle.model_cut_laws.specs.model_kernel.Fronts.{tried_commits}
use Rattle.model_cut_laws.proofs.model_kernel_lemmas.CommitStamps.{AllCommits}
use Rattle.model_cut_laws.proofs.model_kernel_lemmas.Lowering.{greatest_is}
use Rattle.model_cut_laws.proofs.model_kernel_lemmas.StableCuts.{IsKept, kept_goes_on}
use Rattle.model_run_laws.specs.Versions.{OnlyBelow64}

narrow_append : (cs ds : List Commit) → IsNarrow cs → IsNarrow ds → IsNarrow (cs ++ ds)
narrow_append [] ds a b = b
narrow_append (c ∷ cs) ds a b = (a.0, narrow_append cs ds a.1 b)

narrow_front : (cs ds : List Commit) → IsNarrow (cs ++ ds) → IsNarrow cs
narrow_front [] ds a = tt
narrow_front (c ∷ cs) ds a = (a.0, narrow_front cs ds a.1)

narrow_commits : (r : Run) (xs : List ℕ) → IsKept r → OnlyBelow64 r.start → IsNarrow (commits_of r xs)
narrow_commits r [] k none = tt
narrow_commits r (x ∷ xs) k none = (λ y h. (let a = k.stamps x y in let b = k.beyond y h in let c = none y h in omega arith), narrow_commits r xs k none)

-- what each run keeps beside IsKept
pub record HasCut (start : ℕ → ℕ) (r : Run) : Type 0 where
  pub from : r.start ≡ start
  pub narrow : IsNarrow r.commits
  pub tried : IsNarrow (option_to_list r.tried)
  pub cut : r.cut ≡ greatest r.start r.commits

-- so its cut is the greatest closed choice
pub cut_greatest : (start : ℕ → ℕ) (r : Run) → HasCut start r → IsGreatest r.start r.commits r.cut
cut_greatest start r h = subst (IsGreatest r.start r.commits) (sym h.cut) (greatest_is r.start r.commits h.narrow)

pub chosen_same : (w : KernelState) (xs : List ℕ) → chosen_commits w xs ≡ commits_of (start_run w) xs
chosen_same w [] = refl
chosen_same w (x ∷ xs) = ap (λ cs. commit_of (start_run w) x ∷ cs) (chosen_same w xs)

chosen_versions : (w : KernelState) (xs : List ℕ) → AllCommits (λ c. c.version ≡ (w c.entity).version) (chosen_commits w xs)
chosen_versions w [] = tt
chosen_versions w (x ∷ xs) = (refl, chosen_versions w xs)

-- where each commit has its entity's version at the start, no choice leaves the start
top_start : (start : ℕ → ℕ) (cs : List Commit) → AllCommits (λ c. c.version ≡ start c.entity) cs → (x : ℕ) → top start cs x ≡ start x
top_start start [] all x = refl
top_start start (c ∷ cs) all x =
    let rest = top_start start cs all.1 x in
    elim (c.entity == x) as (λ b. (c.entity == x) ≡ b → (if b then max c.version (top start cs x) else top start cs x) ≡ start x) [
      | true ↦ λ is. (let here : c.version ≡ start x = all.0 ∙ ap start (eqb-true _ _ is) in omega (arith, here, rest))
      | false ↦ λ _. rest
    ] refl

lowered_start : (start : ℕ → ℕ) (cs : List Commit) → AllCommits (λ c. c.version ≡ start c.entity) cs → (p : ℕ → ℕ) (x : ℕ) → lowered start cs p x ≡ start x
lowered_start start [] all p x = refl
lowered_start start (c ∷ cs) all p x =
    let rest = lowered_start start cs all.1 p x in
    elim (c.entity == x) as (λ b. (c.entity == x) ≡ b → (if b && nat_le c.version (p x) && covered c.stamp p then max c.version (lowered start cs p x) else lowered start cs p x) ≡ start x) [
      | true ↦ λ is.
          let here : c.version ≡ start x = all.0 ∙ ap start (eqb-true _ _ is) in
          elim (true && nat_le c.version (p x) && covered c.stamp p) as (λ b. (if b then max c.version (lowered start cs p x) else lowered start cs p x) ≡ start x) [
            | true ↦ omega (arith, here, rest)
            | false ↦ rest
          ]
      | false ↦ λ _. rest
    ] refl

lower_start : (n : ℕ) (start : ℕ → ℕ) (cs : List Commit) → AllCommits (λ c. c.version ≡ start c.entity) cs → (p : ℕ → ℕ) → ((x : ℕ) → p x ≡ start x) → (x : ℕ) → lower n start cs p x ≡ start x
lower_start zero start cs all p same x = same x
lower_start (suc n) start cs all p same x = lower_start n start cs all (lowered start cs p) (lowered_start start cs all p) x

greatest_start : (start : ℕ → ℕ) (cs : List Commit) → AllCommits (λ c. c.version ≡ start c.entity) cs → start ≡ greatest start cs
unfolding greatest
greatest_start start cs all = λ i x. sym (lower_start (length cs) start cs all (top start cs) (top_start start cs all) x) i

-- a run begins with the greatest closed choice over the chosen records
start_cut : (w : KernelState) → (start_run w).cut ≡ greatest (λ x. (w x).version) (start_run w).commits
start_cut w = greatest_start (λ x. (w x).version) (start_run w).commits (chosen_versions w (filter (λ x. nat_lt 0 (w x).version) (upto 64)))

pub start_kept : (w : KernelState) → StampsBelow w → IsKept (start_run w)
start_kept w below = record { stamps = below; newest_low = λ x. omega arith; record_of = λ x. inr (inl refl); beyond = λ x h. refl }

pub start_has : (w : KernelState) → StampsBelow w → OnlyBelow64 (λ x. (w x).version) → HasCut (λ x. (w x).version) (start_run w)
start_has w below none =
    let xs = filter (λ x. nat_lt 0 (w x).version) (upto 64) in
    let narrow : IsNarrow (start_run w).commits = subst IsNarrow (sym (chosen_same w xs)) (narrow_commits (start_run w) xs (start_kept w below) none) in
    record { from = refl; narrow = narrow; tried = tt; cut = start_cut w }

module _ (s : Supply) (policy : Policy) (script : Script) where
  pub cut_goes_on : (start : ℕ → ℕ) (r : Run) (e : Entry) → IsKept r → OnlyBelow64 start → HasCut start r → HasCut start (goes_on s script r e)
  cut_goes_on start r e k none h =
      let ends : OnlyBelow64 r.start = subst OnlyBelow64 (sym h.from) none in
      elim e.event as (λ ev. HasCut start (went_on s script r e ev)) [
        | Birth ↦ record { from = h.from; narrow = h.narrow; tried = h.tried; cut = h.cut }
        | Step ↦ record { from = h.from; narrow = h.narrow; tried = h.tried; cut = h.cut }
        | SnapEvent ↦ record { from = h.from; narrow = narrow_append r.commits (commits_of r (e.actor ∷ [])) h.narrow (narrow_commits r (e.actor ∷ []) k ends); tried = h.tried; cut = refl }
        | Stable ↦ (let xs = filter (has_changed r) (upto 64) in record { from = h.from; narrow = narrow_append r.commits (commits_of r xs) h.narrow (narrow_commits r xs k ends); tried = h.tried; cut = refl })
        | Tried ↦ record { from = h.from; narrow = h.narrow; tried = narrow_commits r (e.actor ∷ []) k ends; cut = h.cut }
      ]

  cut_over : (start : ℕ → ℕ) (es : List Entry) (r : Run) → IsKept r → OnlyBelow64 start → HasCut start r → IsLegalFrom s policy script r es → AllBelow64 es → HasCut start (run_after s script r es)
  cut_over start [] r k none h legal low = h
  cut_over start (e ∷ es) r k none h legal low = cut_over start es (goes_on s script r e) (kept_goes_on s policy script r e k legal.0 low.0) none (cut_goes_on start r e k none h) legal.1 low.1

  pub cut_after : (w : KernelState) (es : List Entry) → StampsBelow w → OnlyBelow64 (λ x. (w x).version) → AllBelow64 es → IsLegalRun s policy w script es → HasCut (λ x. (w x).version) (run_after s script (start_run w) es)
  cut_after w es below none low legal = cut_over (λ x. (w x).version) es (start_run w) (start_kept w below) none (start_has w below none) legal low

  pub cut_exists : (w : KernelState) (es : List Entry) (cs later : List Commit) → StampsBelow w → OnlyBelow64 (λ x. (w x).version) → AllBelow64 es → IsLegalRun s policy w script es → tried_commits s script w es ≡ cs ++ later
      → IsGreatest (λ x. (w x).version) cs (greatest (λ x. (w x).version) cs)
  cut_exists w es cs later below none low legal first =
      let h = cut_after w es below none low legal in
      greatest_is (λ x. (w x).version) cs (narrow_front cs later (subst IsNarrow first (narrow_append _ _ h.narrow h.tried)))

  computed_next : (r : Run) (e : Entry) → r.cut ≡ greatest r.start r.commits → (goes_on s script r e).cut ≡ greatest (goes_on s script r e).start (goes_on s script r e).commits
  computed_next r e h = elim e.event as (λ ev. (went_on s script r e ev).cut ≡ greatest (went_on s script r e ev).start (went_on s script r e ev).commits) [ Birth ↦ h | Step ↦ h | SnapEvent ↦ refl | Stable ↦ refl | Tried ↦ h ]

  start_next : (r : Run) (e : Entry) → (goes_on s script r e).start ≡ r.start
  start_next r e = elim e.event as (λ ev. (went_on s script r e ev).start ≡ r.start) [ Birth ↦ refl | Step ↦ refl | SnapEvent ↦ refl | Stable ↦ refl | Tried ↦ refl ]

  computed_over : (start : ℕ → ℕ) (es : List Entry) (r : Run) → r.start ≡ start → r.cut ≡ greatest r.start r.commits → (run_after s script r es).cut ≡ greatest start (run_after s script r es).commits
  computed_over start [] r from h = h ∙ ap (λ (p : ℕ → ℕ). greatest p r.commits) from
  computed_over start (e ∷ es) r from h = computed_over start es (goes_on s script r e) (start_next r e ∙ from) (computed_next r e h)

  -- whatever the entries, the cut that the rules look at is the computed choice
  pub cut_kept : (w : KernelState) (es : List Entry) → (run_after s script (start_run w) es).cut ≡ greatest (λ x. (w x).version) (commits_in s script w es)
  cut_kept w es = computed_over (λ x. (w x).version) es (start_run w) refl (start_cut w)
