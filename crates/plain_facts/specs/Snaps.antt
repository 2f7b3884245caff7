-- Code in which no snap stands. A run without snapshots is legal as long as no snap asks for one.
use Rattle.std.specs.Prelude.{ℕ, Bool, true, false, IsTrue, List, [], All}
use Rattle.std.specs.List.{list_all}
use Rattle.base_types.specs.declared.instructions.Instr.{Instr}
use Rattle.base_types.specs.declared.instructions.Instr.TheVariants.{Snap}
use Rattle.model_kernel.specs.Scripts.{ContainerTable, Script}
use Rattle.model_kernel.specs.State.{Cell, NotBorn, AtlasCell, ContainerCell, LocusCell}

abbrev pub is_no_snap : Instr → Bool
is_no_snap (Snap c) = false
is_no_snap i = true

abbrev pub has_no_snap : List Instr → Bool
has_no_snap code = list_all is_no_snap code

-- the code of an entity
abbrev pub code_of : Cell → List Instr
code_of NotBorn = []
code_of (AtlasCell a) = []
code_of (ContainerCell c) = c.code
code_of (LocusCell l) = l.code

-- no entity has a snap in its code
abbrev pub HasNoSnaps : (ℕ → Cell) → Type 0
HasNoSnaps cells = (x : ℕ) → IsTrue (has_no_snap (code_of (cells x)))

-- nor has a container of the script
abbrev pub HasNoSnapTables : Script → Type 0
HasNoSnapTables script = All (λ (t : ContainerTable). IsTrue (has_no_snap t.code)) script.containers
