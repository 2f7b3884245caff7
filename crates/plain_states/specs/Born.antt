-- What births rest on, and the edges of a newborn container.
use Rattle.std.specs.Prelude.{◌≡◌, ℕ, zero, suc, ◌+◌, ◌≤◌, ◌⊎◌, ◌&&◌, ◌||◌, ◌==◌, nat_lt, if◌then◌else◌, Bool, true, IsTrue, List, [], ◌∷◌, ◌++◌, length, count_by, slice_index, slice_set, All, Option, Some, None}
use Rattle.base_types.specs.declared.capabilities.Region.{Region}
use Rattle.base_types.specs.declared.histories.Answer.TheVariants.{Quiet}
use Rattle.base_types.specs.declared.histories.Entry.{Entry}
use Rattle.base_types.specs.declared.histories.Event.TheVariants.{Birth}
use Rattle.base_types.specs.declared.histories.Touch.{Touch}
use Rattle.model_kernel.specs.Births.{birth, container_birth, knows_caps, knows_regions, locus_birth, number_or_0}
use Rattle.model_kernel.specs.Changes.{acts}
use Rattle.model_kernel.specs.Outcomes.{free_container, free_locus}
use Rattle.model_kernel.specs.Scripts.{ContainerTable, LocusTable, RegionTable, Script, container_named, container_table, locus_table, number_in, number_of}
use Rattle.model_kernel.specs.Soundness.{is_born_container}
use Rattle.model_kernel.specs.State.{Supply, Text, AtlasState, Cell}
use Rattle.script_types.specs.Rules.{IsContainerTable, IsLocusTable}
use Rattle.plain_states.specs.Events.{Makes, state_with}
use Rattle.plain_states.specs.declared.plain.Edge.{Edge}
use Rattle.plain_states.specs.declared.plain.PlainAtlas.{PlainAtlas}
pub use Rattle.model_sound_runs.specs.Kinds.{AreOfOneKind}

-- no more names than numbers
pub record HasFewNames (a : PlainAtlas) : Type 0 where
  pub containers : length a.containers.items ≤ 40
  pub loci : length a.loci.items ≤ 23

-- WHAT A BIRTH RESTS ON

-- each name to which the table refers is in the atlas or its own, whatever number it gets
abbrev pub KnowsContainer : AtlasState → Option ContainerTable → Type 0
KnowsContainer a None = Unit {0}
KnowsContainer a (Some t) = (n : ℕ) → IsTrue (knows_regions (number_in a t.name n) t.regions && knows_caps (number_in a t.name n) t.caps)

-- the host aside
abbrev pub KnowsLocus : AtlasState → Option LocusTable → Type 0
KnowsLocus a None = Unit {0}
KnowsLocus a (Some t) = (n : ℕ) → IsTrue (knows_caps (number_in a t.name n) t.caps)

-- the atlas knows the names to which the tables of this name refer
pub record KnowsNames (a : AtlasState) (script : Script) (name : Text) : Type 0 where
  pub container : KnowsContainer a (container_table script.containers name)
  pub locus : KnowsLocus a (locus_table script.loci name)

-- EDGES

abbrev pub is_before : Edge → Edge → Bool
is_before e f = nat_lt e.from f.from || e.from == f.from && nat_lt e.to f.to

abbrev pub AreAscending : List Edge → Type 0
AreAscending [] = Unit {0}
AreAscending (e ∷ es) = All (λ f. IsTrue (is_before e f)) es × AreAscending es

-- edges in a list ascend by both numbers, and none counts nothing
pub record AreEdges (edges : List Edge) : Type 0 where
  pub ascending : AreAscending edges
  pub counts : All (λ (e : Edge). 1 ≤ e.count) edges

-- how many of the regions show the container
abbrev pub shown : List Region → ℕ → ℕ
shown regions to = count_by (λ r. r.target == to) regions

abbrev pub edge_to : ℕ → ℕ → ℕ → List Edge
edge_to from to count = if count == 0 then [] else record { from = from; to = to; count = count } ∷ []

-- the edges for these regions to the containers below the number, ascending
abbrev pub edges_below : ℕ → List Region → ℕ → List Edge
edges_below from regions zero = []
edges_below from regions (suc to) = edges_below from regions to ++ edge_to from to (shown regions to)

-- THE PARTS OF A BIRTH

-- what the birth of a container rests on: the table's ranges, a name that is new, and known names; its regions show born containers
pub record IsReadyContainerTable (a : AtlasState) (t : ContainerTable) : Type 0 where
  pub earlier : List Text
  pub ranges : IsContainerTable earlier t
  pub fresh : number_of a t.name ≡ None
  pub knows : KnowsContainer a (Some t)
  pub targets : (n : ℕ) → All (λ (r : RegionTable). IsTrue (is_born_container a (number_or_0 (number_in a t.name n) r.target))) t.regions

pub record IsReadyLocusTable (a : AtlasState) (t : LocusTable) : Type 0 where
  pub containers : List Text
  pub earlier : List Text
  pub ranges : IsLocusTable containers earlier t
  pub fresh : number_of a t.name ≡ None
  pub knows : KnowsLocus a (Some t)

-- the birth of a container from its table gives this entry and leaves these cells and versions
abbrev pub BearsContainer : Supply → ContainerTable → AtlasState → (ℕ → Cell) → List ℕ → Entry → (ℕ → Cell) → List ℕ → Type 0
BearsContainer s t a old us e new vs = Makes (acts Birth (λ w. container_birth s a t (free_container a))) old us e new vs

-- the birth of a locus does
abbrev pub BearsLocus : LocusTable → AtlasState → (ℕ → Cell) → List ℕ → Entry → (ℕ → Cell) → List ℕ → Type 0
BearsLocus t a old us e new vs = Makes (acts Birth (λ w. locus_birth w a t (container_named a t.host))) old us e new vs

-- the host isn't born, or no number is free
abbrev pub BearsNoLocus : AtlasState → LocusTable → Type 0
BearsNoLocus a t = (container_named a t.host ≡ None) ⊎ (free_locus a ≡ None)

-- the birth of the name is not defined
abbrev pub IsUndefined : Supply → Script → Text → (ℕ → Cell) → List ℕ → Type 0
IsUndefined s script name old us = (stamps : ℕ → ℕ → ℕ) → birth s script name (state_with old us stamps) ≡ None

-- ENTRIES

-- the version of one entity rises
abbrev pub risen : List ℕ → ℕ → List ℕ
risen us x = slice_set us x (slice_index us x + 1)

abbrev pub written_touch : List ℕ → ℕ → Touch
written_touch us x = record { version = slice_index us x + 1; entity = x; wrote = true }

abbrev pub birth_entry : ℕ → List Touch → Entry
birth_entry newborn touched = record { event = Birth; actor = newborn; touched = touched; version = 0; answer = Quiet }

-- the birth of a container writes the atlas and the container
abbrev pub entry_of_container : List ℕ → ℕ → Entry
entry_of_container us n = birth_entry n (written_touch us 0 ∷ written_touch us n ∷ [])

-- the birth of a locus writes the atlas, the host and the locus
abbrev pub entry_of_locus : List ℕ → ℕ → ℕ → Entry
entry_of_locus us host n = birth_entry n (written_touch us 0 ∷ written_touch us host ∷ written_touch us n ∷ [])
