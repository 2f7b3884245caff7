-- Sound states: the limits, ranges and ties that each state of a run keeps. Numbers also keep the ranges of their types, which aren't repeated here.
use Rattle.std.specs.Prelude.{◌≡◌, ℕ, ◌+◌, ◌<◌, ◌≤◌, ◌^◌, Bool, true, false, ◌&&◌, ◌||◌, ◌==◌, nat_lt, nat_le, IsTrue, List, [], ◌∷◌, length, count_by, slice_get, Option, Some, All}
use Rattle.std.specs.Option.{ForSome}
use Rattle.std.specs.List.{list_all}
use Rattle.base_types.specs.Edges.{Edges, IsPath}
use Rattle.base_types.specs.Instructions.{IsInstruction, IsPlace}
use Rattle.base_types.specs.declared.capabilities.Cap.{Cap}
use Rattle.base_types.specs.declared.capabilities.Private.{Private}
use Rattle.base_types.specs.declared.capabilities.Region.{Region}
use Rattle.base_types.specs.declared.instructions.Call.{Call}
use Rattle.base_types.specs.declared.instructions.Instr.{Instr}
use Rattle.base_types.specs.declared.instructions.Instr.TheVariants.{Load, Store}
use Rattle.base_types.specs.declared.instructions.Walk.{Walk}
use Rattle.model_kernel.specs.State.{Text, AtlasState, ContainerState, LocusState, Cell, NotBorn, AtlasCell, ContainerCell, LocusCell}
use Rattle.model_kernel.specs.Refusals.{instr_at}
use Rattle.model_kernel.specs.Outcomes.{made_name}
use Rattle.model_kernel.specs.Scripts.{text_eq, atlas_name}

-- WHO IS BORN

abbrev pub is_born_container : AtlasState → ℕ → Bool
is_born_container a x = nat_lt 0 x && nat_le x (length a.containers)

abbrev pub is_born_locus : AtlasState → ℕ → Bool
is_born_locus a x = nat_lt 40 x && nat_le x (40 + length a.loci)

abbrev pub is_born : AtlasState → ℕ → Bool
is_born a x = x == 0 || is_born_container a x || is_born_locus a x

-- NAMES

abbrev pub is_letter : ℕ → Bool
is_letter b = nat_le 65 b && nat_le b 90 || nat_le 97 b && nat_le b 122

-- a letter, a digit, `_`, `-` or `.`
abbrev pub is_name_byte : ℕ → Bool
is_name_byte b = is_letter b || nat_le 48 b && nat_le b 57 || b == 95 || b == 45 || b == 46

abbrev pub begins_with_letter : Text → Bool
begins_with_letter [] = false
begins_with_letter (b ∷ bs) = is_letter b

-- 1 to 24 bytes, the first a letter, and not the atlas's own name
abbrev pub is_given_name : Text → Bool
is_given_name name = begins_with_letter name && list_all is_name_byte name && nat_le (length name) 24 && not_atlas (text_eq name atlas_name)
  where
    not_atlas : Bool → Bool
    not_atlas true = false
    not_atlas false = true

-- a name of an entity: a given one, or the one that is made for its number
abbrev pub is_name_of : ℕ → Text → Bool
is_name_of n name = is_given_name name || text_eq name (made_name n)

-- the names of entities from n on
abbrev pub are_names_from : ℕ → List Text → Bool
are_names_from n [] = true
are_names_from n (name ∷ names) = is_name_of n name && are_names_from (n + 1) names

-- each name once, also over both lists
pub record AreDifferentNames (a : AtlasState) : Type 0 where
  pub containers : (i j : ℕ) (name : Text) → slice_get a.containers i ≡ Some name → slice_get a.containers j ≡ Some name → i ≡ j
  pub loci : (i j : ℕ) (name : Text) → slice_get a.loci i ≡ Some name → slice_get a.loci j ≡ Some name → i ≡ j
  pub both : (i j : ℕ) (name : Text) → slice_get a.containers i ≡ Some name → slice_get a.loci j ≡ Some name → ⊥

-- CODE, CAPABILITIES AND REGIONS

pub record IsSoundCode (code : List Instr) : Type 0 where
  pub few : length code ≤ 128
  pub each : All IsInstruction code

-- each capability names a born entity
pub record AreSoundCaps (a : AtlasState) (caps : List (Option Cap)) : Type 0 where
  pub slots : length caps ≡ 32
  pub each : (slot : ℕ) (cap : Cap) → slice_get caps slot ≡ Some (Some cap) → IsTrue (is_born a cap.entity)

-- pages of both sides are within the greatest size, the access is Read, Write or both, and the target is a born container
pub record IsSoundRegion (a : AtlasState) (r : Region) : Type 0 where
  pub some : 1 ≤ r.count
  pub at : r.at + r.count ≤ 256
  pub from : r.from + r.count ≤ 256
  pub access : (1 ≤ r.rights.0) × (r.rights.0 < 4)
  pub target : IsTrue (is_born_container a r.target)

-- ascending and apart from each other
abbrev pub AreApart : List Region → Type 0
AreApart [] = Unit {0}
AreApart (r ∷ rs) = All (λ (s : Region). r.at + r.count ≤ s.at) rs × AreApart rs

-- a container's state
pub record IsSoundContainer (a : AtlasState) (c : ContainerState) : Type 0 where
  pub some : 1 ≤ c.pages
  pub size : c.pages ≤ 256
  pub entry : ForSome c.entry IsPlace
  pub code : IsSoundCode c.code
  pub few : length c.regions ≤ 16
  pub regions : All (IsSoundRegion a) c.regions
  pub inside : All (λ (r : Region). r.at + r.count ≤ c.pages) c.regions
  pub apart : AreApart c.regions
  pub caps : AreSoundCaps a c.caps

-- LOCI

-- a caller's container is born, and its place is one of the code or just past it
pub record IsSoundCall (a : AtlasState) (call : Call) : Type 0 where
  pub container : IsTrue (is_born_container a call.container)
  pub place : call.place ≤ 128

pub record IsSoundPrivate (a : AtlasState) (p : Private) : Type 0 where
  pub made : IsTrue (is_born_container a p.made)
  pub region : IsSoundRegion a p.region

-- ascending by the host where they were made, and within one host ascending and apart
abbrev pub IsBefore : Private → Private → Type 0
IsBefore p q = (p.made ≤ q.made) × (p.made ≡ q.made → p.region.at + p.region.count ≤ q.region.at)

abbrev pub AreOrdered : List Private → Type 0
AreOrdered [] = Unit {0}
AreOrdered (p ∷ ps) = All (IsBefore p) ps × AreOrdered ps

abbrev pub looks : Instr → Bool
looks (Load d a) = true
looks (Store a s) = true
looks i = false

-- a walk is at a born container, has made 1 to 63 hops, and the locus's instruction looks
pub record IsSoundWalk (a : AtlasState) (l : LocusState) (walk : Walk) : Type 0 where
  pub at : IsTrue (is_born_container a walk.at)
  pub some : 1 ≤ walk.hops
  pub hops : walk.hops ≤ 63
  pub looking : IsTrue (looks (instr_at l))

-- a locus's state
pub record IsSoundLocus (a : AtlasState) (l : LocusState) : Type 0 where
  pub registers : length l.registers ≡ 8
  pub place : l.place ≤ 128
  pub code : IsSoundCode l.code
  pub host : IsTrue (is_born_container a l.host)
  pub deep : length l.chain ≤ 64
  pub chain : All (IsSoundCall a) l.chain
  pub few : length l.privates ≤ 16
  pub privates : All (IsSoundPrivate a) l.privates
  pub ordered : AreOrdered l.privates
  pub caps : AreSoundCaps a l.caps
  pub walk : ForSome l.walk (IsSoundWalk a l)
  pub printed : l.printed ≤ 2 ^ 62

-- THE ATLAS

-- how many regions of y the container x shows
abbrev pub regions_onto : Cell → ℕ → ℕ
regions_onto (ContainerCell c) y = count_by (λ r. r.target == y) c.regions
regions_onto NotBorn y = 0
regions_onto (AtlasCell a) y = 0
regions_onto (LocusCell l) y = 0

-- no path of one edge or more leads from a container back to it
abbrev pub HasNoCircle : Edges → Type 0
HasNoCircle edges = (c x : ℕ) (path : List ℕ) → IsPath edges c (x ∷ path) c → ⊥

pub record IsSoundAtlas (a : AtlasState) : Type 0 where
  pub few_containers : length a.containers ≤ 40
  pub few_loci : length a.loci ≤ 23
  pub containers : IsTrue (are_names_from 1 a.containers)
  pub loci : IsTrue (are_names_from 41 a.loci)
  pub different : AreDifferentNames a
  pub no_circle : HasNoCircle a.edges

-- ALL ENTITIES

pub record AreSound (a : AtlasState) (cells : ℕ → Cell) : Type 0 where
  pub atlas : cells 0 ≡ AtlasCell a
  pub names : IsSoundAtlas a
  pub containers : (x : ℕ) → IsTrue (is_born_container a x) → (c : ContainerState) × (cells x ≡ ContainerCell c) × IsSoundContainer a c
  pub loci : (x : ℕ) → IsTrue (is_born_locus a x) → (l : LocusState) × (cells x ≡ LocusCell l) × IsSoundLocus a l
  pub others : (x : ℕ) → is_born a x ≡ false → cells x ≡ NotBorn
  pub edges : (x y : ℕ) → a.edges x y ≡ regions_onto (cells x) y

-- a sound state
abbrev pub IsSound : (ℕ → Cell) → Type 0
IsSound cells = (a : AtlasState) × AreSound a cells
