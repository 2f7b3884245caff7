use Rattle.std.proofs.Common.{arith}
use Rattle.thread_settling.proofs.Locking.{all_beside}
use Rattle.thread_settling.proofs.rows.lock_all.Goals as goal

pub loop-n-init : goal.loop-n-init
loop-n-init g c =
    let len = c.requires.numbers.len in
    let length_is = c.args.cells.ok.0 in
    let none = c.in_ok-locks.ensures.len in
    let room = c.in_ok-locks.ensures.capacity in
    record {
      beside = all_beside c.fragments_law.ensures c.args.cells.items c.args.shares.items c.args.fragments.items c.requires.numbers c.requires.shares c.requires.fragments;
      left = omega (arith, len, length_is);
      len = none;
      room = omega (arith, room);
    }
