use Rattle.std.proofs.Common.{subst}
use Rattle.base_types.specs.declared.records.Cut.{Cut}
use Rattle.model_cut_laws.specs.model_kernel.Choices.{IsGreatest}
use Rattle.model_cut_laws.specs.Records.{commits_of}
use Rattle.data_cut_facts.specs.Records.{choice}
use Rattle.data_cut_facts.proofs.Lowering.{ends}
use Rattle.data_cuts.proofs.greatest_from.Goals as goal

pub returns : goal.returns
returns c =
    subst (λ (start : Cut). IsGreatest (choice start) (commits_of c.args.recs.now) (choice record { 0 = c.loop-x.search.cut.0 })) c.of-chains.ensures.start
    (ends _ _ _ _ _ c.loop-x.invariant c.in_default.ensures)
