use Rattle.std.proofs.Common.{take}
use Rattle.model_cut_laws.specs.model_kernel.Choices.{IsGreatest}
use Rattle.model_cut_laws.specs.Agreeing.{nothing}
use Rattle.model_cut_laws.specs.Records.{commits_of}
use Rattle.data_cuts.specs.data_cut_facts.Records.{choice}
use Rattle.test_store.proofs.cut_finder_tests.raised.Given as goal

abbrev pub invariant-loop-i : goal.invariant-loop-i
invariant-loop-i l = IsGreatest nothing (commits_of (take l.i l.recs)) (choice l.cut)
