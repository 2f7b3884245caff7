-- Numbers that are those of their types.
use Rattle.std.specs.Prelude.{◌<◌, Option}
use Rattle.std.specs.Option.{ForSome}
use Rattle.base_types.specs.declared.capabilities.Cap.{Cap}

-- the rights of a capability, if there is one, are a byte
abbrev pub HasByteRights : Option Cap → Type 0
HasByteRights held = ForSome held (λ (cap : Cap). cap.rights.0 < 256)
