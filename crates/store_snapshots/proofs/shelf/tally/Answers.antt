use Rattle.std.proofs.Common.{◌+◌, ◌∙◌, arith}
use Rattle.std.specs.Prelude.{slice_index}
use Rattle.std.proofs.lemmas.List.{length-set}
use Rattle.store_facts.proofs.Tallies.{none_tallied, tally_next}
use Rattle.store_snapshots.proofs.shelf.tally.Goals as goal

pub loop-rec-init : goal.loop-rec-init
loop-rec-init c = record { many = omega arith; tallied = none_tallied }

pub loop-rec-preserved : goal.loop-rec-preserved
loop-rec-preserved c =
    let so_far = c.loop-rec.invariant in
    record {
      many = length-set c.loop-rec.counts c.number.result (slice_index c.loop-rec.counts c.number.result + 1) ∙ so_far.many;
      tallied = tally_next c.loop-rec.counts c.args.recs.now c.loop-rec.rec-index c.number.result c.rec-item.result so_far.many (omega arith) c.number.ensures.number c.loop-rec-test.true so_far.tallied c.rec-item.is;
    }
