use Rattle.std.specs.Prelude.{slice_index}
use Rattle.store_facts.proofs.Shelving.{KeepsSoFar}
use Rattle.store_snapshots.proofs.shelf.Shelf.keep_from.Given as goal

abbrev pub invariant-loop-i : goal.invariant-loop-i
invariant-loop-i l = KeepsSoFar (slice_index l.cut.0) l.initial.self-inside.recs.items l.initial.self-inside.tables.items l.i-end l.self-inside.recs.items l.self-inside.tables.items l.kept l.i
