use Rattle.std.proofs.Common.{◌≡◌, ◌≤◌, ◌+◌, length}
use Rattle.data_blocks.specs.Ledger.{unused_blocks}
use Rattle.store_facts.specs.Taking.{HasTaken}
use Rattle.store_snapshots.proofs.taking.take_blocks.Given as goal

abbrev pub invariant-loop-i : goal.invariant-loop-i
invariant-loop-i l = record { size : length l.blocks ≡ 8; taken : HasTaken l.i l.fn.ledger l.ledger l.blocks; left : l.many ≤ l.i + length (unused_blocks l.ledger) }
