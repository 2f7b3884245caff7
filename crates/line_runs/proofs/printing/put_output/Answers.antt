-- The lines of the entries before were put, and a front of that of this one.
use Rattle.std.proofs.Common.{rules}
use Rattle.line_text.specs.model_kernel.Output.{line_of}
use Rattle.act_calls.specs.Calls.{atlas_state}
use Rattle.edge_streams.proofs.Streams.{AppendsPart-at}
use Rattle.line_runs.proofs.printing.put_output.Goals as goal

pub returns-in_err-put_entry-clause-bytes : goal.returns-in_err-put_entry-clause-bytes
returns-in_err-put_entry-clause-bytes g c =
    let part = AppendsPart-at (line_of (atlas_state c.args.atlas.now)) _ _ _ c.args.history.now c.loop-entry.entry-index c.entry-item.result
    c.loop-entry-test.true c.entry-item.is c.loop-entry.invariant.put c.in_err-put_entry.ensures.bytes in
    search (rules, part)
