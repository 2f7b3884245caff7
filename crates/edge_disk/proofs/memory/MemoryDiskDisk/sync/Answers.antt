use Rattle.std.proofs.Common.{◌<◌, length, rules, subst}
use Rattle.edge_disk.specs.Kept.{MayLeave, Standing}
use Rattle.edge_disk.proofs.TapeMoments.{Elapses-begins, Only-sync, now_of-failed_sync}
use Rattle.edge_disk.proofs.memory.MemoryDiskDisk.sync.Goals as goal

pub returns-then-count_call-clause-time : goal.returns-then-count_call-clause-time
returns-then-count_call-clause-time c = Elapses-begins _ _ _ c.begin.ensures.begins

pub returns-then-count_call-clause-stop : goal.returns-then-count_call-clause-stop
returns-then-count_call-clause-stop c image left = subst (λ (s : Standing). MayLeave s image) (now_of-failed_sync _ _ c.begin.ensures.begins) left

pub returns-clause-time : goal.returns-clause-time
returns-clause-time c = Elapses-begins _ _ _ c.begin-2.ensures.begins

pub returns-clause-stable : goal.returns-clause-stable
returns-clause-stable c image left =
    let has_room : length c.args.self.now.tape.calls.items < c.args.self.now.tape.room = search rules in
    Only-sync _ _ c.begin-2.ensures.begins has_room image left
