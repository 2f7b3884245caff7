use Rattle.std.specs.Prelude.{take}
use Rattle.std.specs.List.{list_any}
use Rattle.store_facts.specs.Holds.{HasHeld, names_page}
use Rattle.store_snapshots.proofs.page_holding.hold_pages.Given as goal

abbrev pub invariant-loop-i : goal.invariant-loop-i
invariant-loop-i l = HasHeld (λ n. list_any (names_page n) (take l.i l.kept)) l.fn.ledger l.ledger
