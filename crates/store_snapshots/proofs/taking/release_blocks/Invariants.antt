use Rattle.store_facts.specs.Taking.{HasReleased}
use Rattle.store_snapshots.proofs.taking.release_blocks.Given as goal

abbrev pub invariant-loop-block : goal.invariant-loop-block
invariant-loop-block l = HasReleased l.block-index l.fn.ledger l.ledger l.blocks
