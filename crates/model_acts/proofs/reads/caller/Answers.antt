use Rattle.std.proofs.Common.{refl, sym, ap, ◌∙◌}
use Rattle.model_kernel.specs.Acts.{container_of_call}
use Rattle.model_acts.proofs.Calls.{last_get}
use Rattle.model_acts.proofs.reads.caller.Goals as goal

pub returns-in-Some : goal.returns-in-Some
returns-in-Some c = ap container_of_call (c.in-Some.ensures.value ∙ sym (last_get c.args.l.now.chain.now _ refl))
