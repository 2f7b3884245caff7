-- The records that a run begins with make the state that it begins from.
use Rattle.std.proofs.Common.{◌≡◌, ℕ, ◌≤◌, List, [], ◌∷◌, length, refl, sym, subst, arith, inl, inr}
use Rattle.model_sound_states.specs.model_kernel.Choices.{Among, Commit, IsBelow}
use Rattle.model_sound_states.specs.model_kernel.Histories.{chosen_commits}
use Rattle.model_sound_states.specs.model_kernel.State.{KernelState}
use Rattle.model_sound_states.proofs.model_kernel_lemmas.Among.{among_some}
use Rattle.model_sound_states.proofs.model_kernel_lemmas.CommitStamps.{AllCommits}
use Rattle.kernel_invariant.specs.Beginnings.{Beginning, completed, first_commits}
use Rattle.kernel_invariant.specs.Left.{IsCutState}
use Rattle.kernel_invariant.proofs.Leaving.{first_sure}

-- none is of a later version
low_chosen : (w : KernelState) (xs : List ℕ) → AllCommits (λ c. c.version ≤ (w c.entity).version) (chosen_commits w xs)
low_chosen w [] = tt
low_chosen w (x ∷ xs) = (omega arith, low_chosen w xs)

low_among : (P Q : Commit → Type 0) (cs : List Commit) → AllCommits P cs → Among cs Q → Among cs (λ c. P c × Q c)
low_among P Q [] a h = h
low_among P Q (c ∷ cs) a h = elim h as (λ _. Among (c ∷ cs) (λ c. P c × Q c)) [ inl k ↦ inl (a.0, k) | inr k ↦ inr (low_among P Q cs a.1 k) ]

module _ (b : Beginning) where
  w : KernelState
  w = b.state

  opened_cut : IsCutState b.supply b.script b.state [] (completed b []) b.state
  unfolding w
  opened_cut = record {
    cut = λ x. (w x).version;
    greatest = record {
      closed = λ x. inl refl;
      greatest = λ p c x. elim (c x) as (λ _. p x ≤ (w x).version) [
        | inl e ↦ omega arith
        | inr a ↦ among_some (λ c. (c.version ≤ (w c.entity).version) × ((c.entity ≡ x) × (c.version ≡ p x) × IsBelow c.stamp p)) (p x ≤ (w x).version) (completed b [])
            (λ c h. let k = h.1 in let at : c.version ≤ (w x).version = subst (λ y. c.version ≤ (w y).version) k.0 h.0 in let e : c.version ≡ p x = k.1 in omega arith)
            (low_among _ _ (completed b []) (low_chosen w _) a)
      ];
    };
    state = refl;
  }

  -- so the cut of as many records as are completed then is that state
  pub cut_at_start : IsCutState b.supply b.script b.state [] (first_commits b [] (length (completed b []))) b.state
  cut_at_start = subst (λ cs. IsCutState b.supply b.script b.state [] cs b.state) (sym (first_sure b [])) opened_cut
