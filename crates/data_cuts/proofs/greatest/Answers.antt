use Rattle.std.proofs.Common.{ℕ, subst}
use Rattle.model_cut_laws.specs.model_kernel.Choices.{IsGreatest}
use Rattle.model_cut_laws.specs.Records.{commits_of}
use Rattle.data_cut_facts.specs.Records.{choice}
use Rattle.data_cut_facts.proofs.Fronts.{zeros}
use Rattle.data_cuts.proofs.greatest.Goals as goal

pub returns : goal.returns
returns c = subst (λ (low : ℕ → ℕ). IsGreatest low (commits_of c.args.recs.now) (choice c.greatest_from.result)) zeros c.greatest_from.ensures
