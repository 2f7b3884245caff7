use Rattle.std.proofs.Common.{rules, not, ◌==◌}
use Rattle.std.proofs.lemmas.Fn.{filter_same}
use Rattle.base_types.specs.declared.capabilities.Region.{Region}
use Rattle.plain_steps.proofs.atlas_acts.remove_region.Goals as goal

pub returns : goal.returns
returns c = filter_same _ (λ (r : Region). not (r.at == c.args.at)) _ (λ x b q k. search rules) _ _ c.retain.ensures.filtered
