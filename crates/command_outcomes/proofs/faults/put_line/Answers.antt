-- Both pieces were put, and a front of the end of the line.
use Rattle.std.proofs.Common.{rules}
use Rattle.std.proofs.KnownBytes.{Appends-trans}
use Rattle.edge_streams.proofs.Streams.{AppendsPart-after}
use Rattle.command_outcomes.proofs.faults.put_line.Goals as goal

pub returns-in_err-put-3-clause-bytes : goal.returns-in_err-put-3-clause-bytes
returns-in_err-put-3-clause-bytes g c =
    let part = AppendsPart-after _ _ _ _ _ (Appends-trans _ _ _ _ _ c.in_ok-put.ensures.bytes c.in_ok-put-2.ensures.bytes) c.in_err-put-3.ensures.bytes in
    search (rules, part)
