-- What a copy leaves of versions and clocks, and two commits that need each other.
use Rattle.std.specs.Prelude.{◌≡◌, ◌≢◌, ℕ, ◌+◌, ◌<◌, ◌≤◌, List, [], ◌∷◌, Some}
use Rattle.model_sound_states.specs.model_kernel.Choices.{Commit, IsBelow}
use Rattle.model_sound_states.specs.model_kernel.Outcomes.{free_container}
use Rattle.model_sound_states.specs.model_kernel.Scripts.{container_named}
use Rattle.model_sound_states.specs.model_kernel.State.{AtlasCell, AtlasState, ContainerCell, ContainerState, KernelState, Text}
use Rattle.model_copies.specs.Copies.{copied_atlas, copied_container}

-- WHAT A COPY LEAVES: the container has the lowest free number, its version is 1, the atlas's one more, all others stay; atlas and copy have one
-- clock, and each has the other's version in it
pub record LeavesCopy (name fresh : Text) (v w : KernelState) : Type 0 where
  pub atlas : AtlasState
  pub was_atlas : (v 0).cell ≡ AtlasCell atlas
  pub source : ℕ
  pub named : container_named atlas name ≡ Some source
  pub container : ContainerState
  pub was_container : (v source).cell ≡ ContainerCell container
  pub number : ℕ
  pub free : free_container atlas ≡ Some number
  pub apart : 0 ≢ number
  pub new_atlas : (w 0).cell ≡ AtlasCell (copied_atlas atlas fresh number container.regions)
  pub atlas_version : (w 0).version ≡ (v 0).version + 1
  pub copy : (w number).cell ≡ ContainerCell (copied_container container)
  pub unborn : (v number).version ≡ 0
  pub copy_version : (w number).version ≡ 1
  pub others : (x : ℕ) → 0 ≢ x → number ≢ x → w x ≡ v x
  pub same_clock : (y : ℕ) → (w number).stamp y ≡ (w 0).stamp y
  pub atlas_needs : (w 0).stamp number ≡ 1
  pub copy_needs : (w number).stamp 0 ≡ (v 0).version + 1

-- the commit of an entity in a state
abbrev pub commit_in : KernelState → ℕ → Commit
commit_in w x = record { entity = x; version = (w x).version; stamp = (w x).stamp }

-- no commit is above the choice
abbrev pub AreAtMost : (ℕ → ℕ) → List Commit → Type 0
AreAtMost p [] = Unit {0}
AreAtMost p (c ∷ cs) = (c.version ≤ p c.entity) × AreAtMost p cs

-- TWO COMMITS THAT NEED EACH OTHER above a choice: each is above it, rests on the other, and on nothing else above it
pub record NeedEachOther (p q : ℕ → ℕ) (a b : Commit) : Type 0 where
  pub apart : a.entity ≢ b.entity
  pub first : p a.entity ≤ a.version
  pub second : p b.entity ≤ b.version
  pub first_needs : p b.entity < a.stamp b.entity
  pub second_needs : p a.entity < b.stamp a.entity
  pub at_first : q a.entity ≡ a.version
  pub at_second : q b.entity ≡ b.version
  pub others : (x : ℕ) → a.entity ≢ x → b.entity ≢ x → q x ≡ p x
  pub first_below : IsBelow a.stamp q
  pub second_below : IsBelow b.stamp q
