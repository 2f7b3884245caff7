-- The bytes of a packed instruction.
use Rattle.std.specs.Prelude.{ℕ, List, ◌∷◌, ◌++◌}
use Rattle.byteorder.specs.Endian.{little_bytes}
use Rattle.blob_writing.specs.declared.instructions.Packed.{Packed}

-- the fields of an instruction
abbrev pub packed_bytes : Packed → List ℕ
packed_bytes p = p.code ∷ p.registers ++ p.rights ∷ 0 ∷ little_bytes 8 p.number
