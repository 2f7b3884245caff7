use Rattle.std.proofs.Common.{sym, ap, ◌∙◌, arith}
use Rattle.std.specs.Sync.Mutex.{mutex_guard_value}
use Rattle.thread_settling.proofs.Lent.{one_more}
use Rattle.thread_settling.proofs.rows.lend_row.Goals as goal

pub loop-number-preserved : goal.loop-number-preserved
loop-number-preserved g c =
    let so_far = c.loop-number.invariant.len in
    let room = c.loop-number.invariant.room in
    let more = c.push_reserved.ensures.len in
    let same = c.push_reserved.ensures.capacity in
    let length_is = c.loop-number.guards.ok.0 in
    let number = ap (λ it. (g.C.CellInLock.keeping it).number) (sym c.deref.ensures) ∙ (sym c.number.ensures ∙ c.if-number.false) in
    record {
      len = omega (arith, so_far, more);
      room = omega (arith, room, same);
      each = one_more (λ it. g.C.CellInLock.keeping (mutex_guard_value it)) c.lock-guard.result c.loop-number.guards.items c.push_reserved.new.self.items c.push_reserved.ensures.items c.loop-number.invariant.each (omega (arith, number, so_far, length_is));
    }
