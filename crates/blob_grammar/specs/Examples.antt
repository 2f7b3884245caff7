-- Spellings and places worked out by hand.
use Rattle.std.specs.Prelude.{◌≡◌, ℕ, zero, suc, List, [], ◌∷◌, ◌++◌, length, replicate, Option, Some, None, codes}
use Rattle.model_kernel.specs.base_types.declared.instructions.Instr.TheVariants.{Set, Store}
use Rattle.model_kernel.specs.base_types.declared.instructions.Condition.TheVariants.{Running}
use Rattle.model_kernel.specs.base_types.declared.capabilities.Cap.{Cap}
use Rattle.model_kernel.specs.State.{AtlasState, ContainerState, LocusState}
use Rattle.model_kernel.specs.base_types.declared.entities.Kind.TheVariants.{Atlas, Container}
use Rattle.blob_grammar.specs.Forms.{IsSpelling}
use Rattle.blob_grammar.specs.Places.{IsBadPlace}
use Rattle.blob_grammar.specs.Spelling.{instr_bytes, atlas_blob, container_blob, locus_blob}

-- the atlas with container a and locus l
abbrev pub small_atlas : AtlasState
small_atlas = record { containers = codes "a" ∷ []; loci = codes "l" ∷ []; edges = λ _ _. 0 }

abbrev pub full_caps : List (Option Cap)
full_caps = replicate 32 (Some (record { entity = 1; rights = record { 0 = 1 } }))

-- a locus with everything at its most
abbrev pub full_locus : LocusState
full_locus = record {
  registers = replicate 8 0;
  place = 0;
  code = replicate 128 (Set 0 5);
  host = 1;
  chain = replicate 64 (record { container = 1; place = 0 });
  privates = replicate 16 (record { made = 1; region = record { at = 0; count = 1; target = 1; from = 0; rights = record { 0 = 1 } } });
  caps = full_caps;
  walk = Some (record { at = 1; address = 0; hops = 1 });
  condition = Running;
  every = 0;
  printed = 1;
}

abbrev pub full_container : ContainerState
full_container = record {
  pages = 256;
  tag = 0;
  every = 0;
  entry = None;
  code = replicate 128 (Set 0 5);
  regions = replicate 16 (record { at = 0; count = 1; target = 1; from = 0; rights = record { 0 = 1 } });
  caps = full_caps;
  words = λ _. 0;
}

abbrev pub full_edges : ℕ → ℕ → ℕ
full_edges zero y = 0
full_edges (suc x) zero = 0
full_edges (suc x) (suc y) = 1

-- each edge of 40 containers counted, more than any circle-free atlas has
abbrev pub full_atlas : AtlasState
full_atlas = record { containers = replicate 40 (replicate 24 97); loci = replicate 23 (replicate 24 97); edges = full_edges }

-- SPELLINGS worked out by hand, and the lengths of the longest
pub record WorkedSpellings : Type 0 where
  pub set_r0_5 : instr_bytes (Set 0 5) ≡ 0 ∷ 0 ∷ 0 ∷ 0 ∷ 0 ∷ 0 ∷ 0 ∷ 0 ∷ 5 ∷ 0 ∷ 0 ∷ 0 ∷ 0 ∷ 0 ∷ 0 ∷ 0 ∷ []
  pub store_r1_r0 : instr_bytes (Store 1 0) ≡ 7 ∷ 1 ∷ 0 ∷ 0 ∷ 0 ∷ 0 ∷ 0 ∷ 0 ∷ 0 ∷ 0 ∷ 0 ∷ 0 ∷ 0 ∷ 0 ∷ 0 ∷ 0 ∷ []
  pub two_names : atlas_blob small_atlas ≡ 0 ∷ 1 ∷ 1 ∷ 97 ∷ 1 ∷ 1 ∷ 108 ∷ 0 ∷ 0 ∷ []
  pub longest_locus : length (locus_blob full_locus) ≡ 2479
  pub longest_container : length (container_blob full_container (replicate 256 0)) ≡ 3283
  pub longest_atlas : length (atlas_blob full_atlas) ≡ 6380

-- 17 bytes of a container with so many pages and no code, up to the number of its regions
abbrev pub container_front : ℕ → List ℕ
container_front pages = 1 ∷ pages ∷ 0 ∷ replicate 12 0 ++ 255 ∷ 0 ∷ []

-- FIRST BAD PLACES worked out by hand. Each stands earlier than a reader would see who takes the bytes in their order and looks at what
-- he has read.
pub record WorkedPlaces : Type 0 where
  -- 41 containers
  pub many_containers : IsBadPlace (IsSpelling Atlas) (0 ∷ 41 ∷ []) 1
  -- cut off behind the kind
  pub cut_off : IsBadPlace (IsSpelling Atlas) (0 ∷ []) 1
  -- container 1 has the name made for container 2
  pub other_made_name : IsBadPlace (IsSpelling Atlas) (0 ∷ 1 ∷ 2 ∷ 35 ∷ 50 ∷ []) 4
  -- both containers have the name a
  pub name_again : IsBadPlace (IsSpelling Atlas) (0 ∷ 2 ∷ 1 ∷ 97 ∷ 1 ∷ 97 ∷ []) 5
  -- 257 pages are refused at the second byte
  pub past_pages : IsBadPlace (IsSpelling Container) (1 ∷ 1 ∷ 1 ∷ []) 2
  -- one page leaves no room for two regions
  pub many_regions : IsBadPlace (IsSpelling Container) (container_front 1 ++ 2 ∷ []) 17
  -- of two pages the first region leaves none for the second
  pub late_region : IsBadPlace (IsSpelling Container) (container_front 2 ++ 2 ∷ 1 ∷ []) 18
  -- the last slot leaves none for the second capability
  pub late_slot : IsBadPlace (IsSpelling Container) (container_front 1 ++ 0 ∷ 2 ∷ 31 ∷ []) 19
