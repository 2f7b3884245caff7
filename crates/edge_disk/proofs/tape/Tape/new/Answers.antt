use Rattle.edge_disk.proofs.tape.Tape.new.Goals as goal

pub invariant_of-result-clause-countable : goal.invariant_of-result-clause-countable
invariant_of-result-clause-countable c = c.requires.few
