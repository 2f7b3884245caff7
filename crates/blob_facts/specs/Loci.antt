-- The parts of a locus's blob as fields.
use Rattle.std.specs.Prelude.{◌≡◌, ℕ, ◌+◌, ◌-◌, ◌<◌, ◌≤◌, ◌^◌, ◌==◌, nat_lt, if◌then◌else◌, List, [], ◌∷◌, length, Option, All}
use Rattle.std.specs.List.{flat_map}
use Rattle.std.specs.Option.{ForSome}
use Rattle.byteorder.specs.Endian.{little_bytes}
use Rattle.act_atlas_laws.specs.base_types.declared.capabilities.Private.{Private}
use Rattle.act_atlas_laws.specs.base_types.declared.instructions.Call.{Call}
use Rattle.act_atlas_laws.specs.base_types.declared.instructions.Condition.{Condition}
use Rattle.act_atlas_laws.specs.base_types.declared.instructions.Walk.{Walk}
use Rattle.blob_grammar.specs.model_kernel.Soundness.{AreOrdered}
use Rattle.blob_grammar.specs.Forms.{IsNumber, SpellsLocus}
use Rattle.blob_grammar.specs.Shapes.{IsCallOver, IsPrivateOver, IsWalkOver}
use Rattle.blob_grammar.specs.Spelling.{call_bytes, condition_number, listed, private_bytes, walk_bytes}
use Rattle.act_atlas_laws.specs.act_alone.Loci.{locus_of}
use Rattle.act_atlas_laws.specs.act_alone.declared.loci.Locus.{Locus}

-- LISTS of at most so many items that don't rest on each other, with their number before them
pub record AreListed {A : Type 0} (Good : A → Type 0) (spell : A → List ℕ) (most : ℕ) (items : List A) (bytes : List ℕ) : Type 0 where
  pub few : length items ≤ most
  pub good : All Good items
  pub is : bytes ≡ listed spell items

-- CONDITION AND REGISTERS

abbrev pub IsConditionSpelled : Condition → List ℕ → Type 0
IsConditionSpelled condition bytes = bytes ≡ condition_number condition ∷ []

pub record AreRegistersSpelled (registers : List ℕ) (bytes : List ℕ) : Type 0 where
  pub count : length registers ≡ 8
  pub numbers : All (λ v. v < 2 ^ 64) registers
  pub is : bytes ≡ flat_map (little_bytes 8) registers

-- CALLS

pub record IsCallSpelled (call : Call) (bytes : List ℕ) : Type 0 where
  pub good : IsCallOver IsNumber call
  pub is : bytes ≡ call_bytes call

-- at most so many
abbrev pub AreCallsSpelled : ℕ → List Call → List ℕ → Type 0
AreCallsSpelled = AreListed (IsCallOver IsNumber) call_bytes

-- PRIVATE REGIONS. Those before end in a host before a page, and so many follow.

-- the first page that is free in the host where the region is made
abbrev pub first_page : ℕ → ℕ → ℕ → ℕ
first_page host page made = if made == host then page else 0

-- the page before which a region ends, so that pages for the others are left: of the last host, since any other has hosts behind it
abbrev pub end_page : ℕ → ℕ → ℕ
end_page made left = if made == 63 then 256 - left else 256

-- the first host with a free page that leaves enough
abbrev pub least_host : ℕ → ℕ → ℕ → ℕ
least_host host page left = if nat_lt page (end_page host left) then host else host + 1

pub record IsPrivateIn (host page left : ℕ) (p : Private) (bytes : List ℕ) : Type 0 where
  pub behind : host ≤ p.made
  pub good : IsPrivateOver IsNumber p
  pub low : first_page host page p.made ≤ p.region.at
  pub high : p.region.at + p.region.count ≤ end_page p.made left
  pub is : bytes ≡ private_bytes p

-- no fewer than the one and no more than the other
pub record ArePrivatesIn (least most : ℕ) (privates : List Private) (bytes : List ℕ) : Type 0 where
  pub some : least ≤ length privates
  pub few : length privates ≤ most
  pub good : All (IsPrivateOver IsNumber) privates
  pub ordered : AreOrdered privates
  pub is : bytes ≡ listed private_bytes privates

-- THE WALK

pub record IsWalkSpelled (walk : Option Walk) (bytes : List ℕ) : Type 0 where
  pub good : ForSome walk (IsWalkOver IsNumber)
  pub address : ForSome walk (λ (w : Walk). w.address < 2 ^ 64)
  pub is : bytes ≡ walk_bytes walk

-- THE LOCUS

abbrev pub IsLocusSpelled : Locus → List ℕ → Type 0
IsLocusSpelled l bytes = SpellsLocus (locus_of l) bytes
