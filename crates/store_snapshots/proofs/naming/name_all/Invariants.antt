use Rattle.std.specs.Prelude.{take}
use Rattle.store_facts.specs.Naming.{HasNamed}
use Rattle.store_snapshots.proofs.naming.name_all.Given as goal

abbrev pub invariant-loop-block : goal.invariant-loop-block
invariant-loop-block l = HasNamed (take l.block-index l.blocks) l.fn.ledger l.ledger
