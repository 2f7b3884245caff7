use Rattle.std.proofs.Common.{◌≡◌, ◌≤◌, ◌++◌, take}
use Rattle.thread_desk_looks.proofs.telling.tell_three.Given as goal

abbrev pub invariant-loop-i : goal.invariant-loop-i
invariant-loop-i g l = record {
  behind : l.place ≤ l.i;
  told : take l.i l.entries ≡ g.B.Run.kept ++ l.annals;
  one : l.one.number ≡ l.fn.one.number;
  two : l.two.number ≡ l.fn.two.number;
  three : l.three.number ≡ l.fn.three.number;
}
