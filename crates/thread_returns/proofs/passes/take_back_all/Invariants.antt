use Rattle.std.proofs.Common.{◌≡◌, ◌+◌, ◌++◌, List}
use Rattle.std.specs.Prelude.{vec_len}
use Rattle.thread_board.specs.Sides.{PassSeen}
use Rattle.thread_returns.proofs.Placed.{AreBack}
use Rattle.thread_returns.proofs.passes.take_back_all.Given as goal

-- the passes that were taken back, the last of them first
abbrev pub invariant-loop : goal.invariant-loop
invariant-loop g l = record {
  items : (l.slip.items ≡ l.fn.slip.items) × (l.slip.commits ≡ l.fn.slip.commits);
  left : vec_len l.left + l.counter ≡ l.end;
  back : (taken : List (PassSeen g.row.T.Denot)) × (l.fn.passes.items ≡ l.left.items ++ taken) × AreBack g.T.Placed.starts g.T.Placed.ends l.fn.slip.items l.slip.back taken;
}
