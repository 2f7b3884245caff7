-- What the chosen records have to keep among each other.
use Rattle.std.specs.Prelude.{◌≡◌, ◌≢◌, ℕ, ◌<◌, ◌≤◌, ◌==◌, IsTrue, List, count_by, All, Contains, Option, Some, None, slice_get}
use Rattle.std.specs.Option.{ForSome}
use Rattle.image_blocks.specs.base_types.declared.capabilities.Cap.{Cap}
use Rattle.image_blocks.specs.base_types.declared.capabilities.Private.{Private}
use Rattle.image_blocks.specs.base_types.declared.capabilities.Region.{Region}
use Rattle.image_blocks.specs.base_types.declared.instructions.Call.{Call}
use Rattle.image_blocks.specs.base_types.declared.instructions.Walk.{Walk}
use Rattle.image_blocks.specs.base_types.declared.records.Rec.{Rec}
use Rattle.blob_grammar.specs.model_kernel.State.{AtlasState, ContainerState, LocusState}
use Rattle.blob_grammar.specs.model_kernel.Refusals.{instr_at}
use Rattle.blob_grammar.specs.model_kernel.Soundness.{HasNoCircle, is_born, is_born_container, looks}
use Rattle.image_blocks.specs.image_facts.Bodies.{blob_blocks}
use Rattle.image_blocks.specs.image_facts.Layout.{pool_at}
use Rattle.image_meaning.specs.Parts.{Part, AtlasPart, ContainerPart, LocusPart, chosen, table_in}

-- WHO IS NAMED

abbrev pub NamesBorn : AtlasState → List (Option Cap) → Type 0
NamesBorn a caps = (slot : ℕ) (cap : Cap) → slice_get caps slot ≡ Some (Some cap) → IsTrue (is_born a cap.entity)

pub record IsTiedContainer (a : AtlasState) (c : ContainerState) : Type 0 where
  pub regions : All (λ (r : Region). IsTrue (is_born_container a r.target)) c.regions
  pub caps : NamesBorn a c.caps

pub record IsTiedLocus (a : AtlasState) (l : LocusState) : Type 0 where
  pub host : IsTrue (is_born_container a l.host)
  pub chain : All (λ (call : Call). IsTrue (is_born_container a call.container)) l.chain
  pub privates : All (λ (p : Private). IsTrue (is_born_container a p.made) × IsTrue (is_born_container a p.region.target)) l.privates
  pub caps : NamesBorn a l.caps
  pub walk : ForSome l.walk (λ (walk : Walk). IsTrue (is_born_container a walk.at))
  -- a locus with a walk has a load or store at its place
  pub looking : ForSome l.walk (λ walk. IsTrue (looks (instr_at l)))

-- how many regions of y a chosen part shows
abbrev pub shown_by : Option Part → ℕ → ℕ
shown_by (Some (ContainerPart c table)) y = count_by (λ (r : Region). r.target == y) c.regions
shown_by (Some (AtlasPart a)) y = 0
shown_by (Some (LocusPart l)) y = 0
shown_by None y = 0

pub record IsTiedAtlas (parts : ℕ → Option Part) (a : AtlasState) : Type 0 where
  pub all_chosen : (x : ℕ) → IsTrue (is_born a x) → (part : Part) × (parts x ≡ Some part)
  pub edges : (x y : ℕ) → a.edges x y ≡ shown_by (parts x) y
  pub no_circle : HasNoCircle a.edges

abbrev pub IsTied : (ℕ → Option Part) → AtlasState → Part → Type 0
IsTied parts a (AtlasPart b) = IsTiedAtlas parts b
IsTied parts a (ContainerPart c table) = IsTiedContainer a c
IsTied parts a (LocusPart l) = IsTiedLocus a l

-- PAGES' BLOCKS

-- the block isn't named by the chosen blob or page table of an entity
pub record IsUnnamed (recs : List Rec) (parts : ℕ → Option Part) (block x : ℕ) : Type 0 where
  pub by_blob : ForSome (chosen recs x) (λ r. Contains (blob_blocks r) block → ⊥)
  pub by_table : ForSome (parts x) (λ part. Contains (table_in part) block → ⊥)

-- A page's block is in the pool, and named once over all chosen page tables and blobs.
pub record IsNamedOnce (count : ℕ) (recs : List Rec) (parts : ℕ → Option Part) (x : ℕ) (table : List ℕ) (page block : ℕ) : Type 0 where
  pub pool : (pool_at ≤ block) × (block < count)
  pub once : (q : ℕ) → slice_get table q ≡ Some block → q ≡ page
  pub blob : ForSome (chosen recs x) (λ r. Contains (blob_blocks r) block → ⊥)
  pub others : (y : ℕ) → y ≢ x → IsUnnamed recs parts block y

abbrev pub AreNamedOnce : ℕ → List Rec → (ℕ → Option Part) → ℕ → List ℕ → Type 0
AreNamedOnce count recs parts x table = (page block : ℕ) → slice_get table page ≡ Some block → block ≢ 0 → IsNamedOnce count recs parts x table page block

-- WHAT A CHOSEN ENTITY KEEPS: the atlas is chosen and names it; what it names is born and of the right kind; and so on
pub record IsFit (count : ℕ) (recs : List Rec) (parts : ℕ → Option Part) (x : ℕ) (part : Part) : Type 0 where
  pub atlas : AtlasState
  pub chosen_atlas : parts 0 ≡ Some (AtlasPart atlas)
  pub named : IsTrue (is_born atlas x)
  pub tied : IsTied parts atlas part
  pub blocks : AreNamedOnce count recs parts x (table_in part)
