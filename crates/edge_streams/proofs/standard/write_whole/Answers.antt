-- A write of n bytes more.
use Rattle.std.proofs.Common.{length, arith, ap, length-drop}
use Rattle.std.proofs.lemmas.List.{take_rest}
use Rattle.edge_streams.proofs.Streams.{Appends-further}
use Rattle.edge_streams.proofs.standard.write_whole.Goals as goal

pub loop-at-preserved : goal.loop-at-preserved
loop-at-preserved g c =
    let shown = take_rest c.args.bytes.now c.loop-at.at in (
      omega (arith, c.in_ok-n.ensures.within, ap length shown, length-drop c.loop-at.at c.args.bytes.now),
      Appends-further _ _ _ _ _ _ _ shown c.loop-at.invariant.1 c.in_ok-n.ensures.ok,
    )
