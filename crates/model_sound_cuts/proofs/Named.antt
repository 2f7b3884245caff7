-- The atlas of a sound state names exactly what is born.
use Rattle.std.proofs.Common.{◌≡◌, ℕ, ◌<◌, true, false, ◌↔◌, IsTrue, inl, inr, refl, sym, ap, subst, ◌∙◌, arith}
use Rattle.std.proofs.lemmas.Bool.{cases_lt, false≢true}
use Rattle.model_run_rules.specs.model_kernel.Soundness.{is_born, is_born_container, is_born_locus}
use Rattle.model_run_rules.specs.model_kernel.State.{AtlasState, ContainerCell, ContainerState, KernelState, LocusCell, LocusState, NotBorn, Supply}
use Rattle.model_run_rules.specs.model_kernel.Steps.{atlas_in}
use Rattle.model_sound_states.proofs.model_sound_steps_lemmas.Cells.{Fits, fits_in}
use Rattle.model_sound_states.specs.States.{IsSoundState}

module _ (s : Supply) (v : KernelState) (k : IsSoundState s v) where
  a : AtlasState
  a = k.sound.0

  same : atlas_in (v 0).cell ≡ k.sound.0
  same = ap atlas_in k.sound.1.atlas

  -- by the atlas that soundness names
  in_atlas : (P : AtlasState → Type 0) → P k.sound.0 → P (atlas_in (v 0).cell)
  in_atlas P h = subst P (sym same) h

  born_cell : (x : ℕ) → IsTrue (is_born k.sound.0 x) → (v x).cell ≡ NotBorn → ⊥
  born_cell x born none = false≢true (sym (subst (Fits k.sound.0 x) none (fits_in k.sound.0 (λ x. (v x).cell) k.sound.1 x)) ∙ born)

  cell_born : (x : ℕ) → ((v x).cell ≡ NotBorn → ⊥) → IsTrue (is_born k.sound.0 x)
  cell_born x there = elim (is_born k.sound.0 x) as (λ b. is_born k.sound.0 x ≡ b → IsTrue (is_born k.sound.0 x)) [
    | true ↦ λ is. is
    | false ↦ λ is. absurd (there (k.sound.1.others x is))
  ] refl

  pub names_born : (x : ℕ) → IsTrue (is_born (atlas_in (v 0).cell) x) ↔ ((v x).cell ≡ NotBorn → ⊥)
  names_born x = in_atlas (λ b. IsTrue (is_born b x) ↔ ((v x).cell ≡ NotBorn → ⊥)) (born_cell x, cell_born x)

  pub names_containers : (x : ℕ) → IsTrue (is_born_container (atlas_in (v 0).cell) x) ↔ ((c : ContainerState) × ((v x).cell ≡ ContainerCell c))
  names_containers x = in_atlas (λ b. IsTrue (is_born_container b x) ↔ ((c : ContainerState) × ((v x).cell ≡ ContainerCell c))) (
    (λ born. let h = k.sound.1.containers x born in (h.0, h.1)),
    (λ c. (subst (Fits k.sound.0 x) c.1 (fits_in k.sound.0 (λ x. (v x).cell) k.sound.1 x)).0),
  )

  pub names_loci : (x : ℕ) → IsTrue (is_born_locus (atlas_in (v 0).cell) x) ↔ ((l : LocusState) × ((v x).cell ≡ LocusCell l))
  names_loci x = in_atlas (λ b. IsTrue (is_born_locus b x) ↔ ((l : LocusState) × ((v x).cell ≡ LocusCell l))) (
    (λ born. let h = k.sound.1.loci x born in (h.0, h.1)),
    (λ l. (subst (Fits k.sound.0 x) l.1 (fits_in k.sound.0 (λ x. (v x).cell) k.sound.1 x)).0),
  )

  some_version : (x : ℕ) → 0 < x → IsTrue (is_born k.sound.0 x) → 0 < (v x).version
  some_version x high born = elim (cases_lt 0 (v x).version) as (λ _. 0 < (v x).version) [
    | inl some ↦ some
    | inr none ↦ absurd (born_cell x born ((k.born x high).1 (omega (arith, none))))
  ]

  version_some : (x : ℕ) → 0 < x → 0 < (v x).version → IsTrue (is_born k.sound.0 x)
  version_some x high some = cell_born x (λ none. let zero = (k.born x high).0 none in omega (arith, zero, some))

  pub names_versions : (x : ℕ) → 0 < x → IsTrue (is_born (atlas_in (v 0).cell) x) ↔ (0 < (v x).version)
  names_versions x high = in_atlas (λ b. IsTrue (is_born b x) ↔ (0 < (v x).version)) (some_version x high, version_some x high)
