use Rattle.std.proofs.Common.{arith}
use Rattle.thread_items.proofs.thread_settling_lemmas.Locking.{all_beside}
use Rattle.thread_locks.proofs.sides.lock_cells.Goals as goal

pub loop-n-init : goal.loop-n-init
loop-n-init g c =
    let len = c.requires.numbers.len in
    let length_is = c.args.cells.ok.0 in
    record {
      beside = all_beside c.fragments_law.ensures c.args.cells.items c.args.shares.items c.args.fragments.items c.requires.numbers c.requires.shares c.requires.fragments;
      left = omega (arith, len, length_is);
      len = c.requires.room.0;
      room = c.requires.room.1;
    }
