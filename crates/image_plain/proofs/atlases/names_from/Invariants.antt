use Rattle.std.proofs.Common.{map}
use Rattle.std.specs.Prelude.{string_bytes}
use Rattle.image_plain.specs.Names.{AreNames}
use Rattle.image_plain.proofs.atlases.names_from.Given as goal

abbrev pub invariant-loop-place : goal.invariant-loop-place
invariant-loop-place l = AreNames l.atlas l.first l.place (map string_bytes l.names.items)
