-- What it means that a locus isn't idle.
use Rattle.std.proofs.Common.{◌≡◌, ℕ, ◌<◌, Bool, true, false, ◌==◌, if◌then◌else◌, List, [], Option, Some, None, refl, arith}
use Rattle.std.proofs.lemmas.Bool.Decides.{nat_tests}
use Rattle.base_types.specs.declared.instructions.Condition.{Condition}
use Rattle.base_types.specs.declared.instructions.Condition.TheVariants.{Running, Stopped, Halted}
use Rattle.act_look.specs.model_kernel.State.{Supply}
use Rattle.act_look.specs.act_alone.declared.loci.Head.{Head}
use Rattle.act_look.specs.act_alone.declared.loci.Locus.{Locus}
use Rattle.cell_calls.specs.cell_states.declared.cells.Part.{Part}
use Rattle.cell_calls.specs.cell_states.declared.cells.Part.TheVariants as part
use Rattle.cell_calls.specs.cell_states.Cells.{container_cell, part_of}
use Rattle.cell_plans.specs.declared.idle.Idle.TheVariants as idle
use Rattle.cell_plans.specs.Plans.{idle_by, idle_of}

none_some : {A : Type 0} {x : A} → None ≡ Some x → ⊥
none_some e = cc

some_left : (n : ℕ) → None ≡ (if n == 0 then Some idle.Spent else None) → 0 < n
some_left n = by (n == 0) refl
  where
    by : (b : Bool) → (n == 0) ≡ b → None ≡ (if b then Some idle.Spent else None) → 0 < n
    by true is e = absurd (none_some e)
    by false is e = grind (arith, nat_tests)

goes_by : (left : ℕ) (c : Condition) → None ≡ idle_by left c → (c ≡ Running) × (0 < left)
goes_by left Running e = (refl, some_left left e)
goes_by left Stopped e = absurd (none_some e)
goes_by left Halted e = absurd (none_some e)

-- the locus, which runs and has a step left
pub record Goes (left : ℕ) (p : Part) : Type 0 where
  pub locus : Locus
  pub is : p ≡ part.Locus (Some locus)
  pub runs : locus.condition ≡ Running
  pub some : 0 < left

pub not_idle : (left : ℕ) (p : Part) → ((s : Supply) (words : ℕ → List ℕ) → None ≡ idle_of left (part_of s words p)) → Goes left p
not_idle left (part.Locus (Some l)) h = let g = goes_by left l.condition (h (λ _ _ _. 0) (λ _. [])) in record { locus = l; is = refl; runs = g.0; some = g.1 }
not_idle left (part.Locus None) h = absurd (none_some (h (λ _ _ _. 0) (λ _. [])))
not_idle left (part.Atlas a) h = absurd (none_some (h (λ _ _ _. 0) (λ _. [])))
not_idle left (part.Container b) h = absurd (by b.head (h (λ _ _ _. 0) (λ _. [])))
  where
    by : (o : Option Head) → None ≡ idle_of left (container_cell (λ _ _ _. 0) (λ _. []) b.memory o) → ⊥
    by (Some k) e = none_some e
    by None e = none_some e
