use Rattle.std.proofs.Common.{◌≡◌, ◌≤◌, ◌++◌, take}
use Rattle.thread_desk_stables.proofs.telling.tell_alone.Given as goal

abbrev pub invariant-loop-i : goal.invariant-loop-i
invariant-loop-i g l = record {
  behind : l.place ≤ l.i;
  told : take l.i l.entries ≡ g.B.Run.kept ++ l.annals;
}
