-- The cut of a run from a sound state, and how it goes on.
use Rattle.std.proofs.Common.{◌≡◌, ℕ, ◌<◌, ◌≤◌, ◌++◌, ◌↔◌, false, IsTrue, nat_le, List, option_to_list, inl, inr, refl, sym, ap, subst, ◌∙◌, ◌⊎◌, arith}
use Rattle.std.proofs.lemmas.Bool.{cases_lt, false≢true}
use Rattle.std.proofs.lemmas.Bool.Decides.{nat_tests}
use Rattle.std.proofs.lemmas.List.{append_assoc}
use Rattle.base_types.specs.declared.histories.Entry.{Entry}
use Rattle.model_run_rules.specs.model_kernel.Choices.{Among, Commit, IsBelow, IsClosedChoice, IsGreatest, greatest}
use Rattle.model_run_rules.specs.model_kernel.Fronts.{IsChoice, tried_commits}
use Rattle.model_run_rules.specs.model_kernel.Histories.{Policy, Run, commits_above, commits_in, event_of, has_wish, is_due, is_full, run_after, start_run}
use Rattle.model_run_rules.specs.model_kernel.Parts.{after, part_of}
use Rattle.model_run_rules.specs.model_kernel.Scripts.{Script}
use Rattle.model_run_rules.specs.model_kernel.State.{KernelState, Supply}
use Rattle.model_run_rules.proofs.model_kernel_lemmas.Among.{among_map}
use Rattle.model_run_rules.proofs.model_kernel_lemmas.Lowering.{greatest_one, rising_cut}
use Rattle.model_run_rules.proofs.model_kernel_lemmas.StableCuts.{commits_grow, legal_front, run_append}
use Rattle.model_run_rules.proofs.model_run_laws_lemmas.Cuts.{cut_exists, cut_kept}
use Rattle.model_run_rules.proofs.model_run_laws_lemmas.Places.{cuts_stay}
use Rattle.model_sound_states.proofs.model_sound_runs_lemmas.Standing.{legal_below}
use Rattle.model_sound_states.proofs.Empty.{none_beyond}
use Rattle.model_run_rules.proofs.Fullness.{due_by, wish_writes}
use Rattle.model_run_rules.proofs.Wishes.{wish_told}
use Rattle.model_run_rules.specs.Wishes.{HasOpenWish, WasNeverFull}
use Rattle.model_sound_cuts.proofs.Beyond.{no_steps, no_wishes}
use Rattle.model_sound_cuts.specs.Runs.{IsSoundRun, WasFullNowhere, part_state}

module _ (s : Supply) (policy : Policy) (script : Script) (w : KernelState) where
  abbrev start : ℕ → ℕ
  start x = (w x).version

  module _ (es : List Entry) (k : IsSoundRun s policy script w es) where
    pub front_greatest : (cs later : List Commit) → tried_commits s script w es ≡ cs ++ later → IsGreatest start cs (greatest start cs)
    front_greatest cs later is = cut_exists s policy script w es cs later k.sound.below (none_beyond s w k.sound) (legal_below s policy script k.rules w es k.names k.sound.sound k.legal) k.legal is

    pub front_one : (cs later : List Commit) (q : ℕ → ℕ) → tried_commits s script w es ≡ cs ++ later → IsGreatest start cs q → q ≡ greatest start cs
    front_one cs later q is g = greatest_one start cs q (greatest start cs) g (front_greatest cs later is)

    pub run_greatest : IsGreatest start (commits_in s script w es) (run_after s script (start_run w) es).cut
    run_greatest =
        subst (IsGreatest start (commits_in s script w es)) (sym (cut_kept s policy script w es))
        (front_greatest (commits_in s script w es) (option_to_list (run_after s script (start_run w) es).tried) refl)

    pub front_rises : (cs more later : List Commit) → tried_commits s script w es ≡ (cs ++ more) ++ later → IsBelow (greatest start cs) (greatest start (cs ++ more))
    front_rises cs more later is =
        rising_cut start cs more (greatest start cs) (greatest start (cs ++ more)) (front_greatest cs (more ++ later) (is ∙ append_assoc cs more later)) (front_greatest (cs ++ more) later is)

    four_or_more : (n : ℕ) → IsTrue (nat_le 4 n) ↔ (4 ≤ n)
    four_or_more n = ((λ is. grind (arith, nat_tests)), (λ le. grind (arith, nat_tests)))

    pub full_told : (q : ℕ → ℕ) → IsGreatest start (commits_in s script w es) q → (x : ℕ) → IsTrue (is_full (run_after s script (start_run w) es) x) ↔ (4 ≤ commits_above (commits_in s script w es) q x)
    full_told q g x =
        let same : (run_after s script (start_run w) es).cut ≡ q = greatest_one start (commits_in s script w es) (run_after s script (start_run w) es).cut q run_greatest g in
        subst (λ (p : ℕ → ℕ). IsTrue (is_full (run_after s script (start_run w) es) x) ↔ (4 ≤ commits_above (commits_in s script w es) p x)) same
        (four_or_more (commits_above (commits_in s script w es) (run_after s script (start_run w) es).cut x))

  pub front_run : (es fs : List Entry) → IsSoundRun s policy script w (es ++ fs) → IsSoundRun s policy script w es
  front_run es fs k = record { rules = k.rules; names = k.names; sound = k.sound; legal = legal_front s policy script (start_run w) es fs k.legal }

  -- DUE, by the greatest choices

  fewer : (n : ℕ) → nat_le 4 n ≡ false → n < 4
  fewer n is = grind (arith, nat_tests)

  not_four : (n : ℕ) → n < 4 → nat_le 4 n ≡ false
  not_four n less = grind (arith, nat_tests)

  module _ (es : List Entry) (k : IsSoundRun s policy script w es) (x : ℕ) where
    at_front : (front rest : List Entry) → es ≡ front ++ rest → IsSoundRun s policy script w front
    at_front front rest is = front_run front rest (subst (IsSoundRun s policy script w) is k)

    by_greatest : WasNeverFull s script w es x → WasFullNowhere s script w es x
    by_greatest never front rest is some none q g =
        let same = front_one front (at_front front rest is) (commits_in s script w front) (option_to_list (run_after s script (start_run w) front).tried) q refl g in
        subst (λ (p : ℕ → ℕ). commits_above (commits_in s script w front) p x < 4) (sym same)
        (fewer (commits_above (commits_in s script w front) (greatest start (commits_in s script w front)) x) (never front rest is some none))

    by_computed : WasFullNowhere s script w es x → WasNeverFull s script w es x
    by_computed nowhere front rest is some none =
        not_four (commits_above (commits_in s script w front) (greatest start (commits_in s script w front)) x)
        (nowhere front rest is some none (greatest start (commits_in s script w front))
        (front_greatest front (at_front front rest is) (commits_in s script w front) (option_to_list (run_after s script (start_run w) front).tried) refl))

    pub wish_cases : IsTrue (has_wish policy (run_after s script (start_run w) es) x) ↔ HasOpenWish s script w es x policy
    wish_cases = elim (cases_lt x 64) as (λ _. IsTrue (has_wish policy (run_after s script (start_run w) es) x) ↔ HasOpenWish s script w es x policy) [
      | inl low ↦ wish_told s policy script x low w es k.legal
      | inr far ↦ (
        λ wish. absurd (false≢true (sym (no_wishes s policy script w es k x far) ∙ wish)),
        λ open_wish. absurd (false≢true (sym (no_steps s policy script w es k x far) ∙ wish_writes s policy script x w es k.legal open_wish)),
      )
    ]

    pub due_greatest : IsTrue (is_due policy (run_after s script (start_run w) es) x) ↔ (HasOpenWish s script w es x policy × WasFullNowhere s script w es x)
    due_greatest =
        let told = due_by s policy script x w es k.legal wish_cases in
        ((λ due. let both = told.0 due in (both.0, by_greatest both.1)), (λ both. told.1 (both.0, by_computed both.1)))

  pub run_rises : (es fs : List Entry) → IsSoundRun s policy script w (es ++ fs) → IsBelow (run_after s script (start_run w) es).cut (run_after s script (start_run w) (es ++ fs)).cut
  run_rises es fs k =
      let r : Run = run_after s script (start_run w) es in
      let q : Run = run_after s script (start_run w) (es ++ fs) in
      let more = commits_grow s policy script r fs in
      let is : q.commits ≡ r.commits ++ more.0 = ap (λ (k : Run). k.commits) (run_append s policy script (start_run w) es fs) ∙ more.1 in
      rising_cut start r.commits more.0 r.cut q.cut (run_greatest es (front_run es fs k)) (subst (λ cs. IsGreatest start cs q.cut) is (run_greatest (es ++ fs) k))

  -- a closed choice is a choice
  choice_of : (cs : List Commit) (q : ℕ → ℕ) → IsClosedChoice start cs q → IsChoice start cs q
  choice_of cs q closed x = elim (closed x) as (λ _. (q x ≡ start x) ⊎ Among cs (λ c. (c.entity ≡ x) × (c.version ≡ q x))) [
    | inl e ↦ inl e
    | inr a ↦ inr (among_map cs (λ c. (c.entity ≡ x) × (c.version ≡ q x) × IsBelow c.stamp q) (λ c. (c.entity ≡ x) × (c.version ≡ q x)) (λ c k. (k.0, k.1)) a)
  ]

  pub part_stays : (es fs : List Entry) (cs later : List Commit) (q : ℕ → ℕ) → IsSoundRun s policy script w (es ++ fs) → tried_commits s script w es ≡ cs ++ later → IsGreatest start cs q → part_of q (es ++ fs) ≡ part_of q es
  part_stays es fs cs later q k is g = cuts_stay s policy script w es fs cs later q k.legal is (choice_of cs q g.closed)

  pub state_stays : (es fs : List Entry) (cs later : List Commit) (q : ℕ → ℕ) → IsSoundRun s policy script w (es ++ fs) → tried_commits s script w es ≡ cs ++ later → IsGreatest start cs q → part_state s script w (es ++ fs) q ≡ part_state s script w es q
  state_stays es fs cs later q k is g = ap (after (event_of s script) w) (part_stays es fs cs later q k is g)
