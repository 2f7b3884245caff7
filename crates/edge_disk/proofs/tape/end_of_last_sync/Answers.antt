use Rattle.std.proofs.Common.{sym, subst}
use Rattle.edge_disk.specs.Kept.{EndsWithSync}
use Rattle.edge_disk.proofs.TornImages.{EndsWithSync-more_sync, EndsWithSync-more_other}
use Rattle.edge_disk.proofs.tape.end_of_last_sync.Goals as goal
use Rattle.edge_disk.proofs.tape.end_of_last_sync.Goals.{in-Sync, in_default}

pub loop-i-preserved : goal.loop-i-preserved
loop-i-preserved c = elim c.match-call.branch [
  | in-Sync w ↦ subst (EndsWithSync _) (sym w.end-is) (EndsWithSync-more_sync _ _ _ c.loop-i-test.true w.in-Sync.is)
  | in_default w ↦
      subst (EndsWithSync _) (sym w.end-is) (EndsWithSync-more_other _ _ _ _ c.loop-i-test.true w.in_default.not-Sync c.loop-i.invariant)
]
