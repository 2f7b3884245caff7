use Rattle.std.specs.Prelude.{take}
use Rattle.std.specs.List.{list_any}
use Rattle.store_facts.specs.Holds.{HasHeld}
use Rattle.store_facts.specs.Naming.{is_use}
use Rattle.store_snapshots.proofs.page_holding.hold_all.Given as goal

abbrev pub invariant-loop-block : goal.invariant-loop-block
invariant-loop-block l = HasHeld (λ n. list_any (is_use n) (take l.block-index l.blocks)) l.fn.ledger l.ledger
