use Rattle.std.proofs.Common.{ap, ◌∙◌, arith}
use Rattle.model_kernel.specs.Words.{last_call, but_last}
use Rattle.act_alone.proofs.ListLemmas.{last_popped, rest_popped}
use Rattle.act_alone.proofs.lists.Chain.pop.Goals as goal

pub returns-clause-call : goal.returns-clause-call
returns-clause-call c =
    last_popped c.self.inside.calls c.self.inside.len c.index-self-self.result (omega arith) (omega (arith, c.self.invariant)) ∙ ap last_call c.self.view_is

pub returns-clause-rest : goal.returns-clause-rest
returns-clause-rest c = rest_popped c.self.inside.calls c.self.inside.len (omega arith) (omega (arith, c.self.invariant)) ∙ ap but_last c.self.view_is
