-- Lists of commits that agree from a greatest closed choice on: what stands below it never matters again.
use Rattle.std.specs.Prelude.{◌≡◌, ℕ, ◌≤◌, ◌<◌, Bool, nat_le, List, [], ◌∷◌, filter}
use Rattle.model_kernel.specs.Choices.{Commit, Among, IsBelow, IsGreatest}

-- a commit at or above a choice
abbrev pub is_from : (ℕ → ℕ) → Commit → Bool
is_from cut c = nat_le (cut c.entity) c.version

-- those at or above it, in order
abbrev pub from_cut : (ℕ → ℕ) → List Commit → List Commit
from_cut cut cs = filter (is_from cut) cs

-- the two agree from the greatest closed choice of the first on
pub record AgreeFromCut (start : ℕ → ℕ) (cs ds : List Commit) : Type 0 where
  pub cut : ℕ → ℕ
  pub greatest : IsGreatest start cs cut
  pub same : from_cut cut cs ≡ from_cut cut ds

-- each commit's version is at least that of its entity at the start
abbrev pub AreFromStart : (ℕ → ℕ) → List Commit → Type 0
AreFromStart start [] = Unit {0}
AreFromStart start (c ∷ cs) = (start c.entity ≤ c.version) × AreFromStart start cs

-- each entity that has a version at the start has a commit of it, which rests on no more than the start
abbrev pub HoldsStart : (ℕ → ℕ) → List Commit → Type 0
HoldsStart start cs = (x : ℕ) → 0 < start x → Among cs (λ c. (c.entity ≡ x) × (c.version ≡ start x) × IsBelow c.stamp start)

-- the start as it stands on a disk, where an entity without a chosen record has version 0
abbrev pub nothing : ℕ → ℕ
nothing x = 0
