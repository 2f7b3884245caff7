use Rattle.std.proofs.Common.{◌≡◌, take}
use Rattle.store_facts.specs.Choosing.{with_tables}
use Rattle.store_facts.specs.Keeping.{AreListed, HasRecounted}
use Rattle.store_snapshots.proofs.choosing.list_all.Given as goal

abbrev pub invariant-loop-rec : goal.invariant-loop-rec
invariant-loop-rec l = record { kept : l.kept ≡ with_tables l.tables (take l.rec-index l.recs); listed : AreListed l.ledger l.kept; ledger : HasRecounted l.fn.ledger l.ledger }
