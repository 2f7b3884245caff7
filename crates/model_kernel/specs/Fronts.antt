-- The vectors of the versions in a history, and the choices over its commits.
use Rattle.std.specs.Prelude.{◌≡◌, ℕ, ◌==◌, if◌then◌else◌, ◌⊎◌, List, [], ◌∷◌, ◌++◌, Option, option_to_list}
use Rattle.base_types.specs.declared.histories.Entry.{Entry}
use Rattle.model_kernel.specs.State.{Supply, KernelState}
use Rattle.model_kernel.specs.Scripts.{Script}
use Rattle.model_kernel.specs.Parts.{after_entry}
use Rattle.model_kernel.specs.Pasts.{past_vector}
use Rattle.model_kernel.specs.Choices.{Commit, Among}
use Rattle.model_kernel.specs.Histories.{run_after, start_run}

-- the entries up to the first place where x has the version n, or all of them
abbrev pub front_to : (Entry → KernelState → Option (Entry × KernelState)) → KernelState → List Entry → ℕ → ℕ → List Entry
front_to act w [] x n = []
front_to act w (e ∷ es) x n = if (w x).version == n then [] else e ∷ front_to act (after_entry act w e) es x n

-- the vector of the past of x at the version n
abbrev pub version_vector : (Entry → KernelState → Option (Entry × KernelState)) → KernelState → List Entry → ℕ → ℕ → ℕ → ℕ
version_vector act w es x n = past_vector w (front_to act w es x n) x

-- for each entity its version at the start, or that of one of the commits
abbrev pub IsChoice : (ℕ → ℕ) → List Commit → (ℕ → ℕ) → Type 0
IsChoice start cs p = (x : ℕ) → (p x ≡ start x) ⊎ Among cs (λ c. (c.entity ≡ x) × (c.version ≡ p x))

-- the completed records of a history, and the one that was tried
abbrev pub tried_commits : Supply → Script → KernelState → List Entry → List Commit
tried_commits s script w es = (run_after s script (start_run w) es).commits ++ option_to_list (run_after s script (start_run w) es).tried
