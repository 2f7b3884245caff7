use Rattle.std.proofs.Common.{subst, sym}
use Rattle.edge_streams.specs.Streams.{Puts}
use Rattle.command_outcomes.specs.Faults.{fault_line}
use Rattle.command_outcomes.specs.declared.faults.Fault.{Fault}
use Rattle.command_outcomes.proofs.faults.put_fault.Goals as goal

pub returns-in-DiskFault-clause-bytes : goal.returns-in-DiskFault-clause-bytes
returns-in-DiskFault-clause-bytes g c =
    subst (λ (fault : Fault). Puts (g.W.Sink.held c.args.sink.now) (g.W.Sink.held c.put-in-DiskFault.new.self) c.put-in-DiskFault.result (fault_line fault)) (sym c.in-DiskFault.is) c.put-in-DiskFault.ensures.bytes
