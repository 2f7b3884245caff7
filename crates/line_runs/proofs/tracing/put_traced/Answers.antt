use Rattle.line_runs.proofs.Shorts.{directory_short}
use Rattle.line_runs.proofs.tracing.put_traced.Goals as goal

pub put_trace-requires : goal.put_trace-requires
put_trace-requires g c = record { short = directory_short c.args.atlas.now c.named.ensures.names }
