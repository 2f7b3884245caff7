use Rattle.model_acts.specs.Views.{IsReadyLocus}
use Rattle.act_alone.specs.Loci.{locus_of}
use Rattle.test_acts.proofs.locus_machine_tests.answers.Given as goal

abbrev pub invariant-loop-answer : goal.invariant-loop-answer
invariant-loop-answer l = IsReadyLocus (locus_of l.locus)
