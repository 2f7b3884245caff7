-- What fits, and first bad places of blobs, worked out by hand.
use Rattle.std.specs.Prelude.{◌≡◌, ◌==◌, ◌&&◌, ◌||◌, if◌then◌else◌, ℕ, List, [], ◌∷◌, ◌++◌, replicate, Option, Some, None, codes}
use Rattle.edge_disk.specs.Image.{Image}
use Rattle.base_types.specs.declared.capabilities.Region.{Region}
use Rattle.base_types.specs.declared.instructions.Condition.TheVariants.{Running}
use Rattle.base_types.specs.declared.instructions.Instr.{Instr}
use Rattle.base_types.specs.declared.instructions.Instr.TheVariants.{Load, Set}
use Rattle.base_types.specs.declared.records.Rec.{Rec}
use Rattle.image_meaning.specs.model_kernel.State.{AtlasState, ContainerState, LocusState, no_atlas}
use Rattle.image_meaning.specs.image_facts.Bodies.{blob_room}
use Rattle.image_meaning.specs.image_blocks.Checks.{Bad}
use Rattle.image_meaning.specs.Fits.{AreNamedOnce, IsFit, IsTied}
use Rattle.image_meaning.specs.Foreign.{IsBadRest, IsBadSpelling, blob_bad}
use Rattle.image_meaning.specs.Parts.{AtlasPart, ContainerPart, LocusPart, Part}

-- WHAT IS CHOSEN

-- the atlas with container a alone
abbrev pub one_name : AtlasState
one_name = record { containers = codes "a" ∷ []; loci = []; edges = λ _ _. 0 }

-- the atlas with containers a and b, and so many regions from the first onto the second
abbrev pub two_names : ℕ → AtlasState
two_names count = record { containers = codes "a" ∷ codes "b" ∷ []; loci = []; edges = λ x y. if x == 1 && y == 2 then count else 0 }

-- the atlas with containers a and b, each of which shows the other once
abbrev pub two_circle : AtlasState
two_circle = record { containers = codes "a" ∷ codes "b" ∷ []; loci = []; edges = λ x y. if x == 1 && y == 2 || x == 2 && y == 1 then 1 else 0 }

-- a container of one page with these regions
abbrev pub box : List Region → ContainerState
box regions = record { pages = 1; tag = 0; every = 0; entry = None; code = []; regions = regions; caps = replicate 32 None; words = λ _. 0 }

-- page 0, shown from page 0 of this container, to be read
abbrev pub region_onto : ℕ → Region
region_onto target = record { at = 0; count = 1; target = target; from = 0; rights = record { 0 = 1 } }

-- a locus in this container, whose code is one `set`
abbrev pub guest : ℕ → LocusState
guest host = record {
  registers = replicate 8 0;
  place = 0;
  code = Set 0 5 ∷ [];
  host = host;
  chain = [];
  privates = [];
  caps = replicate 32 None;
  walk = None;
  condition = Running;
  every = 0;
  printed = 0;
}

-- the locus in container 1, with this instruction and a walk at this container
abbrev pub walker : Instr → ℕ → LocusState
walker instr at = record (guest 1) { code = instr ∷ []; walk = Some (record { at = at; address = 0; hops = 1 }) }

-- with a caller in this container, and with a private region onto it that was made in container 1
abbrev pub called_from : ℕ → LocusState
called_from container = record (guest 1) { chain = record { container = container; place = 0 } ∷ [] }

abbrev pub private_onto : ℕ → LocusState
private_onto target = record (guest 1) { privates = record { made = 1; region = region_onto target } ∷ [] }

-- with a capability for this entity
abbrev pub holding : ℕ → LocusState
holding entity = record (guest 1) { caps = Some (record { entity = entity; rights = record { 0 = 1 } }) ∷ replicate 31 None }

-- nothing but the atlas is chosen, nothing but container 1, or both
abbrev pub atlas_alone : AtlasState → ℕ → Option Part
atlas_alone a x = if x == 0 then Some (AtlasPart a) else None

abbrev pub box_alone : Part → ℕ → Option Part
box_alone part x = if x == 1 then Some part else None

abbrev pub both : AtlasState → Part → ℕ → Option Part
both a part x = if x == 0 then Some (AtlasPart a) else if x == 1 then Some part else None

-- an empty container without a block
abbrev pub plain_box : Part
plain_box = ContainerPart (box []) (0 ∷ [])

-- two empty containers whose pages have one block
abbrev pub two_boxes : ℕ → Option Part
two_boxes x = if x == 1 || x == 2 then Some (ContainerPart (box []) (3000 ∷ [])) else None

-- the atlas, container 1 whose page shows container 2, and container 2
abbrev pub showing : AtlasState → ℕ → Option Part
showing a x = if x == 0 then Some (AtlasPart a) else if x == 1 then Some (ContainerPart (box (region_onto 2 ∷ [])) (0 ∷ [])) else if x == 2 then Some plain_box else None

-- WHAT FITS
pub record WorkedFits : Type 0 where
  -- a container that the atlas names, and one that it doesn't
  pub named : (count : ℕ) (recs : List Rec) → IsFit count recs (both one_name plain_box) 1 plain_box
  pub not_named : (count : ℕ) (recs : List Rec) → IsFit count recs (both no_atlas plain_box) 1 plain_box → ⊥
  -- no atlas is chosen
  pub without_atlas : (count : ℕ) (recs : List Rec) → IsFit count recs (box_alone plain_box) 1 plain_box → ⊥
  -- container 1 is named and not chosen: the atlas is bad
  pub not_chosen : (count : ℕ) (recs : List Rec) → IsFit count recs (atlas_alone one_name) 0 (AtlasPart one_name) → ⊥
  -- the host is born; it is container 2, which isn't; it is a locus's number
  pub host_born : (parts : ℕ → Option Part) → IsTied parts one_name (LocusPart (guest 1))
  pub host_not_born : (parts : ℕ → Option Part) → IsTied parts one_name (LocusPart (guest 2)) → ⊥
  pub host_no_container : (parts : ℕ → Option Part) → IsTied parts one_name (LocusPart (guest 41)) → ⊥
  -- a walk of a `load`, and of a `set`
  pub walk_of_load : (parts : ℕ → Option Part) → IsTied parts one_name (LocusPart (walker (Load 0 1) 1))
  pub walk_of_set : (parts : ℕ → Option Part) → IsTied parts one_name (LocusPart (walker (Set 0 5) 1)) → ⊥
  -- a caller's container, a private region's target, a walk's container or a capability's entity isn't born
  pub caller_not_born : (parts : ℕ → Option Part) → IsTied parts one_name (LocusPart (called_from 2)) → ⊥
  pub private_not_born : (parts : ℕ → Option Part) → IsTied parts one_name (LocusPart (private_onto 2)) → ⊥
  pub walk_not_born : (parts : ℕ → Option Part) → IsTied parts one_name (LocusPart (walker (Load 0 1) 2)) → ⊥
  pub cap_not_born : (parts : ℕ → Option Part) → IsTied parts one_name (LocusPart (holding 41)) → ⊥
  -- a region of a container that isn't born
  pub target_not_born : (parts : ℕ → Option Part) → IsTied parts one_name (ContainerPart (box (region_onto 2 ∷ [])) (0 ∷ [])) → ⊥
  -- container 1 shows container 2 once; the atlas counts one, and counts two
  pub one_edge : IsTied (showing (two_names 1)) (two_names 1) (AtlasPart (two_names 1))
  pub edge_count : IsTied (showing (two_names 2)) (two_names 2) (AtlasPart (two_names 2)) → ⊥
  -- edges from container 1 to container 2 and back
  pub circle : (parts : ℕ → Option Part) → IsTied parts two_circle (AtlasPart two_circle) → ⊥

-- a record of the atlas at version 2 with a blob of so many bytes in block 3000
abbrev pub atlas_record : ℕ → Rec
atlas_record length = record { entity = 0; version = 2; stamp = 2 ∷ replicate 63 0; length = length; blocks = 3000 ∷ replicate 7 0 }

-- BLOCKS OF PAGES in an image of 2,600 blocks, and of 65,536
pub record WorkedBlocks : Type 0 where
  -- two pages in one block
  pub twice : (recs : List Rec) (parts : ℕ → Option Part) → AreNamedOnce 2600 recs parts 1 (2565 ∷ 2565 ∷ []) → ⊥
  -- the last block before the pool, and the first behind the image
  pub below_pool : (recs : List Rec) (parts : ℕ → Option Part) → AreNamedOnce 2600 recs parts 1 (2564 ∷ []) → ⊥
  pub past_end : (recs : List Rec) (parts : ℕ → Option Part) → AreNamedOnce 2600 recs parts 1 (2600 ∷ []) → ⊥
  -- a page in a block of the chosen atlas's blob, and in that of another container's page
  pub in_blob : (parts : ℕ → Option Part) → AreNamedOnce 65536 (atlas_record 9 ∷ []) parts 1 (3000 ∷ []) → ⊥
  pub in_other_table : (recs : List Rec) → AreNamedOnce 65536 recs two_boxes 1 (3000 ∷ []) → ⊥

-- BLOBS

-- a block with the 9 bytes that spell the atlas with container a and locus l, zeros, and a 5 at place 100
abbrev pub dirty_block : List ℕ
dirty_block = 0 ∷ 1 ∷ 1 ∷ 97 ∷ 1 ∷ 1 ∷ 108 ∷ 0 ∷ 0 ∷ (replicate 91 0 ++ 5 ∷ replicate 923 0)

-- a record of container 1 at version 1 with a blob of so many bytes in block 3000 and this one
abbrev pub box_record : ℕ → ℕ → Rec
box_record length second = record { entity = 1; version = 1; stamp = 0 ∷ 1 ∷ replicate 62 0; length = length; blocks = 3000 ∷ second ∷ replicate 6 0 }

-- the first 1,024 of the 1,043 bytes that spell an empty container of 256 pages
abbrev pub long_front : List ℕ
long_front = 1 ∷ 0 ∷ 1 ∷ (replicate 12 0 ++ 255 ∷ replicate 1008 0)

abbrev pub bad_at : ℕ → ℕ → Bad
bad_at block place = record { block = block; place = place }

-- FIRST BAD PLACES of blobs
pub record WorkedBlobs : Type 0 where
  -- bytes behind the blob that aren't 0: their first, in the blob's block
  pub rest : (image : Image) → blob_room image (atlas_record 9) ≡ dirty_block → IsBadRest 0 image (atlas_record 9) (bad_at 3000 100)
  -- a length of 10 where the value ends after 9 bytes: place 4 of the body
  pub past : (image : Image) (body : ℕ) → blob_room image (atlas_record 10) ≡ dirty_block → IsBadSpelling 0 image (atlas_record 10) body (bad_at body 4)
  -- a blob that is cut off at the end of its only block: place 1,024 of it
  pub cut_off : (image : Image) (body : ℕ) → blob_room image (box_record 1024 0) ≡ long_front → IsBadSpelling 1 image (box_record 1024 0) body (bad_at 3000 1024)
  -- where a blob of two blocks is cut off at the end of the second, and where it has a bad byte at the head of the second
  pub cut_off_two : blob_bad (box_record 2048 3001) 2048 ≡ bad_at 3001 1024
  pub second_block : blob_bad (box_record 2048 3001) 1024 ≡ bad_at 3001 0
