use Rattle.act_alone.specs.Loci.{locus_of}
use Rattle.act_managers.proofs.Running.{RunsOn}
use Rattle.act_managers.proofs.runs.run_manager.Given as goal

abbrev pub invariant-loop : goal.invariant-loop
invariant-loop l = RunsOn l.code l.fn.start (locus_of l.locus) l.counter
