-- Commits as records of a history.
use Rattle.std.specs.Prelude.{◌≡◌, ◌<◌, [], ◌∷◌, ℕ, List}
use Rattle.base_types.specs.declared.histories.Entry.{Entry}
use Rattle.model_run_laws.specs.model_kernel.Choices.{Commit}
use Rattle.model_run_laws.specs.model_kernel.Fronts.{version_vector}
use Rattle.model_run_laws.specs.model_kernel.Histories.{event_of}
use Rattle.model_run_laws.specs.model_kernel.Parts.{thing_at}
use Rattle.model_run_laws.specs.model_kernel.Scripts.{Script}
use Rattle.model_run_laws.specs.model_kernel.State.{EntityState, KernelState, Supply}

-- the commit has the version and the clock that its entity had at that version, and the clock is the vector of its past there
pub record IsRecordOf (s : Supply) (script : Script) (w : KernelState) (es : List Entry) (c : Commit) : Type 0 where
  pub version : (thing_at (event_of s script) (λ (b : EntityState). b.version) w es c.entity c.version).version ≡ c.version
  pub stamp : (thing_at (event_of s script) (λ (b : EntityState). b.version) w es c.entity c.version).stamp ≡ c.stamp
  pub vector : (y : ℕ) → c.stamp y ≡ version_vector (event_of s script) w es c.entity c.version y

abbrev pub AreRecordsOf : Supply → Script → KernelState → List Entry → List Commit → Type 0
AreRecordsOf s script w es [] = Unit {0}
AreRecordsOf s script w es (c ∷ cs) = IsRecordOf s script w es c × AreRecordsOf s script w es cs

-- a commit of the same entity has a higher version
abbrev pub AreAbove : Commit → List Commit → Type 0
AreAbove c [] = Unit {0}
AreAbove c (d ∷ ds) = (c.entity ≡ d.entity → c.version < d.version) × AreAbove c ds

-- the versions of each entity's commits strictly ascend
abbrev pub AreAscending : List Commit → Type 0
AreAscending [] = Unit {0}
AreAscending (c ∷ cs) = AreAbove c cs × AreAscending cs
