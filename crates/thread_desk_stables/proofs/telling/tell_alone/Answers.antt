use Rattle.std.proofs.Common.{arith}
use Rattle.thread_desk_looks.proofs.Told.{room}
use Rattle.thread_desk_stables.proofs.telling.tell_alone.Goals as goal

pub append_alone-requires-clause-room : goal.append_alone-requires-clause-room
append_alone-requires-clause-room g c =
    let lt = c.loop-i-test.true in
    let fits = c.entries-entries.type_inv.1 in
    room g.B.Run.kept c.loop-i.annals c.entries-entries.result.now c.loop-i.i (omega (arith, lt)) (omega (arith, fits)) c.loop-i.invariant.told
