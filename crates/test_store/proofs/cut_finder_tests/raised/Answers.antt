use Rattle.std.proofs.Common.{◌+◌, arith}
use Rattle.data_cuts.proofs.data_cut_facts_lemmas.Fronts.{zeros, greatest_of_none, closed_with_next, ascending_front}
use Rattle.test_store.proofs.cut_finder_tests.raised.Goals as goal

pub loop-i-init : goal.loop-i-init
loop-i-init c = greatest_of_none _ zeros

pub raise-cut-requires-clause-ascending : goal.raise-cut-requires-clause-ascending
raise-cut-requires-clause-ascending c = ascending_front c.args.recs.now (c.loop-i.i + 1) (omega arith) c.requires.ascending

pub raise-cut-requires-clause-closed : goal.raise-cut-requires-clause-closed
raise-cut-requires-clause-closed c = closed_with_next c.args.recs.now c.loop-i.i _ (omega arith) c.loop-i.invariant
