-- What a sound value keeps, over who may be named in it: a sound state names those who are born, and a spelling any number of an entity.
use Rattle.std.specs.Prelude.{◌≡◌, ℕ, ◌+◌, ◌<◌, ◌≤◌, ◌^◌, IsTrue, List, length, Option, Some, All, slice_get}
use Rattle.std.specs.Option.{ForSome}
use Rattle.model_kernel.specs.base_types.Instructions.{IsPlace}
use Rattle.model_kernel.specs.base_types.declared.capabilities.Cap.{Cap}
use Rattle.model_kernel.specs.base_types.declared.capabilities.Private.{Private}
use Rattle.model_kernel.specs.base_types.declared.capabilities.Region.{Region}
use Rattle.model_kernel.specs.base_types.declared.instructions.Call.{Call}
use Rattle.model_kernel.specs.base_types.declared.instructions.Walk.{Walk}
use Rattle.model_kernel.specs.State.{AtlasState, ContainerState, LocusState}
use Rattle.model_kernel.specs.Soundness.{AreApart, AreOrdered, IsSoundCode, is_born, is_born_container}

-- 32 slots, of which each used one names one of these
pub record AreCapsOver (Named : ℕ → Type 0) (caps : List (Option Cap)) : Type 0 where
  pub slots : length caps ≡ 32
  pub each : (slot : ℕ) (cap : Cap) → slice_get caps slot ≡ Some (Some cap) → Named cap.entity

-- pages of both sides are within the greatest size, the access is Read, Write or both, and the target is one of these
pub record IsRegionOver (Shown : ℕ → Type 0) (r : Region) : Type 0 where
  pub some : 1 ≤ r.count
  pub at : r.at + r.count ≤ 256
  pub from : r.from + r.count ≤ 256
  pub access : (1 ≤ r.rights.0) × (r.rights.0 < 4)
  pub target : Shown r.target

-- CONTAINERS: capabilities name the one, regions the other
pub record IsContainerOver (Named Shown : ℕ → Type 0) (c : ContainerState) : Type 0 where
  pub some : 1 ≤ c.pages
  pub size : c.pages ≤ 256
  pub entry : ForSome c.entry IsPlace
  pub code : IsSoundCode c.code
  pub few : length c.regions ≤ 16
  pub regions : All (IsRegionOver Shown) c.regions
  pub inside : All (λ (r : Region). r.at + r.count ≤ c.pages) c.regions
  pub apart : AreApart c.regions
  pub caps : AreCapsOver Named c.caps

-- LOCI

pub record IsPrivateOver (Shown : ℕ → Type 0) (p : Private) : Type 0 where
  pub made : Shown p.made
  pub region : IsRegionOver Shown p.region

pub record IsCallOver (Shown : ℕ → Type 0) (call : Call) : Type 0 where
  pub container : Shown call.container
  pub place : call.place ≤ 128

pub record IsWalkOver (Shown : ℕ → Type 0) (walk : Walk) : Type 0 where
  pub at : Shown walk.at
  pub some : 1 ≤ walk.hops
  pub hops : walk.hops ≤ 63

-- capabilities name the one; host, callers, private regions and walk the other
pub record IsLocusOver (Named Shown : ℕ → Type 0) (l : LocusState) : Type 0 where
  pub registers : length l.registers ≡ 8
  pub place : l.place ≤ 128
  pub code : IsSoundCode l.code
  pub host : Shown l.host
  pub deep : length l.chain ≤ 64
  pub chain : All (IsCallOver Shown) l.chain
  pub few : length l.privates ≤ 16
  pub privates : All (IsPrivateOver Shown) l.privates
  pub ordered : AreOrdered l.privates
  pub caps : AreCapsOver Named l.caps
  pub walk : ForSome l.walk (IsWalkOver Shown)
  pub printed : l.printed ≤ 2 ^ 62

-- WHO IS BORN in a sound state
abbrev pub Born : AtlasState → ℕ → Type 0
Born a x = IsTrue (is_born a x)

abbrev pub BornContainer : AtlasState → ℕ → Type 0
BornContainer a x = IsTrue (is_born_container a x)
