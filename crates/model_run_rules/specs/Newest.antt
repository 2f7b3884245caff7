-- The commits of one entity in a list.
use Rattle.std.specs.Prelude.{◌==◌, ℕ, if◌then◌else◌, List, [], ◌∷◌, count_by}
use Rattle.model_run_laws.specs.model_kernel.Choices.{Commit}

-- how many commits the entity has
abbrev pub commit_count : List Commit → ℕ → ℕ
commit_count cs x = count_by (λ c. c.entity == x) cs

-- the version of the last commit of the entity, n for none
abbrev pub newest_from : ℕ → List Commit → ℕ → ℕ
newest_from n [] x = n
newest_from n (c ∷ cs) x = newest_from (if c.entity == x then c.version else n) cs x

-- the version of the last commit of the entity, 0 for none
abbrev pub newest_in : List Commit → ℕ → ℕ
newest_in cs x = newest_from 0 cs x
