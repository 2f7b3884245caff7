-- The parts of a container's blob as fields: which bytes spell which value of each.
use Rattle.std.specs.Prelude.{◌≡◌, ℕ, ◌+◌, ◌≤◌, ◌<◌, List, ◌∷◌, [], length, Option, All}
use Rattle.std.specs.List.{flat_map}
use Rattle.std.specs.Option.{ForSome}
use Rattle.byteorder.specs.Endian.{little_bytes}
use Rattle.act_atlas_laws.specs.base_types.Instructions.{IsInstruction, IsPlace}
use Rattle.act_atlas_laws.specs.base_types.declared.capabilities.Cap.{Cap}
use Rattle.act_atlas_laws.specs.base_types.declared.capabilities.Region.{Region}
use Rattle.act_atlas_laws.specs.base_types.declared.instructions.Instr.{Instr}
use Rattle.blob_grammar.specs.model_kernel.Soundness.{AreApart, IsSoundCode}
use Rattle.blob_grammar.specs.Forms.{HaveByteRights, IsNumber, IsTable}
use Rattle.blob_grammar.specs.Shapes.{AreCapsOver, IsRegionOver}
use Rattle.blob_grammar.specs.Spelling.{Slot, caps_bytes, entry_byte, instr_bytes, listed, region_bytes, slot_bytes}

-- INSTRUCTIONS
pub record IsInstrSpelled (instr : Instr) (bytes : List ℕ) : Type 0 where
  pub good : IsInstruction instr
  pub is : bytes ≡ instr_bytes instr

pub record IsCodeSpelled (code : List Instr) (bytes : List ℕ) : Type 0 where
  pub good : IsSoundCode code
  pub is : bytes ≡ listed instr_bytes code

-- REGIONS

-- a region that begins at the one page or behind it, and ends before the other
pub record IsRegionIn (least most : ℕ) (region : Region) (bytes : List ℕ) : Type 0 where
  pub good : IsRegionOver IsNumber region
  pub low : least ≤ region.at
  pub high : region.at + region.count ≤ most
  pub is : bytes ≡ region_bytes region

-- the regions of a container of so many pages
pub record AreRegionsOf (pages : ℕ) (regions : List Region) (bytes : List ℕ) : Type 0 where
  pub few : length regions ≤ 16
  pub good : All (IsRegionOver IsNumber) regions
  pub inside : All (λ (r : Region). r.at + r.count ≤ pages) regions
  pub apart : AreApart regions
  pub is : bytes ≡ listed region_bytes regions

-- CAPABILITIES

abbrev pub slot_with : ℕ → ℕ → ℕ → Slot
slot_with slot entity rights = record { slot = slot; cap = record { entity = entity; rights = record { 0 = rights } } }

-- a capability in a slot that is neither below the one nor above the other
pub record IsSlotIn (least most : ℕ) (s : Slot) (bytes : List ℕ) : Type 0 where
  pub low : least ≤ s.slot
  pub high : s.slot ≤ most
  pub entity : s.cap.entity < 64
  pub rights : s.cap.rights.0 < 256
  pub is : bytes ≡ slot_bytes s

pub record AreCapsSpelled (caps : List (Option Cap)) (bytes : List ℕ) : Type 0 where
  pub good : AreCapsOver IsNumber caps
  pub rights : HaveByteRights caps
  pub is : bytes ≡ caps_bytes caps

-- THE ENTRY
pub record IsEntrySpelled (entry : Option ℕ) (bytes : List ℕ) : Type 0 where
  pub good : ForSome entry IsPlace
  pub is : bytes ≡ entry_byte entry ∷ []

-- THE PAGE TABLE of a container of so many pages
pub record IsTableSpelled (pages : ℕ) (table : List ℕ) (bytes : List ℕ) : Type 0 where
  pub good : IsTable pages table
  pub is : bytes ≡ flat_map (little_bytes 4) table
