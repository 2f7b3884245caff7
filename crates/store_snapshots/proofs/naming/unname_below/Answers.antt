use Rattle.std.proofs.Common.{◌≤◌, ◌<◌, ℕ, refl, subst, length, arith}
use Rattle.std.specs.Prelude.{slice_index, slice_index_or}
use Rattle.store_facts.specs.Shelves.{nothing_logged}
use Rattle.store_facts.proofs.Counting.{above_more, below_more, below_named}
use Rattle.store_snapshots.proofs.naming.unname_below.Goals.{then-rec-cut, else-rec-cut}
use Rattle.store_snapshots.proofs.naming.unname_below.Goals as goal

pub unname_record-requires-clause-named : goal.unname_record-requires-clause-named
unname_record-requires-clause-named c =
    let within : c.loop-i.i < length c.args.kept.now = (let lt = c.loop-i-test.true in let len = c.len-i-end.ensures.len in omega (arith, lt, len)) in
    let below = subst (λ (x : ℕ). c.rec-rec.result.version < slice_index c.args.cut.now.0 x) c.number.ensures.number c.if-rec-cut.true in
    below_named (slice_index c.args.cut.now.0) c.args.kept.now c.loop-i.i within c.rec-rec.result c.table.result c.rec-rec.ensures c.table.ensures c.args.ledger.now c.loop-i.ledger c.requires.named c.loop-i.invariant below

pub loop-i-preserved : goal.loop-i-preserved
loop-i-preserved c =
    let within : c.loop-i.i < length c.args.kept.now = (let lt = c.loop-i-test.true in let len = c.len-i-end.ensures.len in omega (arith, lt, len)) in
    elim c.if-rec-cut.branch [
      | then-rec-cut w ↦
          let below = subst (λ (x : ℕ). c.rec-rec.result.version < slice_index c.args.cut.now.0 x) c.number.ensures.number w.if-rec-cut.true in
          rw w.ledger-is
          (below_more (slice_index c.args.cut.now.0) c.args.kept.now c.loop-i.i within c.rec-rec.result w.table.result c.rec-rec.ensures w.table.ensures c.args.ledger.now c.loop-i.ledger w.unname_record.new.ledger c.loop-i.invariant w.unname_record.ensures below)
      | else-rec-cut w ↦
          let above = subst (λ (x : ℕ). slice_index c.args.cut.now.0 x ≤ c.rec-rec.result.version) c.number.ensures.number w.if-rec-cut.false in
          rw w.ledger-is (above_more (slice_index c.args.cut.now.0) c.args.kept.now c.loop-i.i within c.rec-rec.result (record { 0 = (slice_index_or c.args.kept.now c.loop-i.i nothing_logged).table }) c.rec-rec.ensures refl c.args.ledger.now c.loop-i.ledger c.loop-i.invariant above)
    ]
