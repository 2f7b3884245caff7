use Rattle.std.proofs.Common.{rules}
use Rattle.std.proofs.lemmas.Fn.{filter_same}
use Rattle.data_cuts.specs.model_cut_laws.Records.{is_rec_from}
use Rattle.data_cuts.specs.data_cut_facts.Records.{choice}
use Rattle.trace_state.proofs.cuts.Cuts.raise.Goals as goal

pub returns-clause-kept : goal.returns-clause-kept
returns-clause-kept c = filter_same _ (is_rec_from (choice c.greatest_from-cut.result)) _ (λ x b q k. search rules) _ _ c.retain.ensures.filtered
