-- Commits as they are found by asking each entity for its newest.
use Rattle.std.specs.Prelude.{◌≡◌, ◌==◌, ℕ, if◌then◌else◌, nat_lt, List, [], ◌∷◌, ◌++◌, filter, map, Option, None, Some}
use Rattle.base_types.specs.Edges.{upto}
use Rattle.model_run_rules.specs.Newest.{newest_in}
use Rattle.model_run_rules.specs.model_kernel.Choices.{Commit}
use Rattle.model_serial_turns.specs.Rising.{entities_of}

-- the last commit of the entity, o where it has none
abbrev pub last_from : Option Commit → List Commit → ℕ → Option Commit
last_from o [] x = o
last_from o (c ∷ cs) x = last_from (if c.entity == x then Some c else o) cs x

abbrev pub newest_commit : List Commit → ℕ → Option Commit
newest_commit cs x = last_from None cs x

-- the entities below 64, ascending, whose newest commit is above the version that is known
abbrev pub newer_than : (ℕ → ℕ) → List Commit → List ℕ
newer_than known cs = filter (λ x. nat_lt (known x) (newest_in cs x)) (upto 64)

-- THE COMMITS THAT CAME behind the old ones are found: exactly their entities are newer than is known, in their order, and each is the newest
-- of its entity
pub record AreFound (known : ℕ → ℕ) (old new : List Commit) : Type 0 where
  pub added : List Commit
  pub are : new ≡ old ++ added
  pub entities : newer_than known new ≡ entities_of added
  pub newest : map (newest_commit new) (entities_of added) ≡ map (λ (c : Commit). Some c) added
