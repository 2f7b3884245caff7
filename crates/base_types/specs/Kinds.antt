-- What an entity is, by its number.
use Rattle.std.specs.Prelude.{ℕ, ◌==◌, nat_lt, if◌then◌else◌}
use Rattle.base_types.specs.declared.entities.Kind.{Kind}
use Rattle.base_types.specs.declared.entities.Kind.TheVariants.{Atlas, Container, Locus}

-- the atlas is 0, containers are 1 to 40, and loci 41 to 63
abbrev pub kind_of : ℕ → Kind
kind_of n = if n == 0 then Atlas else if nat_lt n 41 then Container else Locus
