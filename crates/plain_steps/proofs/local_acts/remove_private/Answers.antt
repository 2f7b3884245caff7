use Rattle.std.proofs.Common.{rules, not, ◌&&◌, ◌==◌}
use Rattle.std.proofs.lemmas.Fn.{filter_same}
use Rattle.base_types.specs.declared.capabilities.Private.{Private}
use Rattle.plain_steps.proofs.local_acts.remove_private.Goals as goal

pub returns : goal.returns
returns c = filter_same _ (λ (p : Private). not (p.made == c.args.host && p.region.at == c.args.page)) _ (λ x b q k. search rules) _ _ c.retain.ensures.filtered
