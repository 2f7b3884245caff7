use Rattle.std.proofs.Common.{subst, sym}
use Rattle.edge_streams.specs.Streams.{Puts}
use Rattle.command_mirror.specs.Lines.{second_line}
use Rattle.command_mirror.specs.declared.faults.SecondFault.{SecondFault}
use Rattle.command_mirror.proofs.faults.put_second.Goals as goal

pub returns-in-DiskFault-clause-bytes : goal.returns-in-DiskFault-clause-bytes
returns-in-DiskFault-clause-bytes g c =
    subst (λ (fault : SecondFault). Puts (g.W.Sink.held c.args.sink.now) (g.W.Sink.held c.put-in-DiskFault.new.self) c.put-in-DiskFault.result (second_line fault)) (sym c.in-DiskFault.is) c.put-in-DiskFault.ensures.bytes

pub returns-in-Memory-clause-bytes : goal.returns-in-Memory-clause-bytes
returns-in-Memory-clause-bytes g c =
    subst (λ (fault : SecondFault). Puts (g.W.Sink.held c.args.sink.now) (g.W.Sink.held c.put-in-Memory.new.self) c.put-in-Memory.result (second_line fault)) (sym c.in-Memory.is) c.put-in-Memory.ensures.bytes
