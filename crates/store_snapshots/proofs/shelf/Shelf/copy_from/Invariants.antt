use Rattle.store_facts.proofs.Shelving.{CopiedSoFar}
use Rattle.store_snapshots.proofs.shelf.Shelf.copy_from.Given as goal

abbrev pub invariant-loop-i : goal.invariant-loop-i
invariant-loop-i l = CopiedSoFar l.other-inside.recs.items l.other-inside.tables.items l.self-inside.recs.items l.self-inside.tables.items l.i
