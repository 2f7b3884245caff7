use Rattle.std.specs.Prelude.{filter, slice_index, take}
use Rattle.store_facts.specs.Naming.{IsRaised, is_below, uses}
use Rattle.store_snapshots.proofs.naming.unname_below.Given as goal

abbrev pub invariant-loop-i : goal.invariant-loop-i
invariant-loop-i l = IsRaised (λ n. uses n (filter (is_below (slice_index l.cut.0)) (take l.i l.kept))) l.ledger l.fn.ledger
