use Rattle.std.proofs.Common.{not, ap, ◌∙◌}
use Rattle.plain_steps.specs.model_kernel.Scripts.{next_name as next_of}
use Rattle.plain_states.specs.Plains.{atlas_of}
use Rattle.script_types.specs.Scripts.{tables_of}
use Rattle.plain_runs.proofs.Answering.{ended_last, ended_more}
use Rattle.plain_runs.proofs.newborns.end_births.Goals as goal

pub returns-then-is_none : goal.returns-then-is_none
returns-then-is_none c = ended_last c.next_name.result (next_of (atlas_of c.args.run.now.state.atlas) (tables_of c.args.script.now)) c.args.run.now (c.is_none.ensures ∙ ap not c.if-is_none.true) c.next_name.ensures.none

pub returns-else-is_none : goal.returns-else-is_none
returns-else-is_none c = ended_more (λ n. n.now) c.next_name.result (next_of (atlas_of c.args.run.now.state.atlas) (tables_of c.args.script.now)) c.args.run.now (c.is_none.ensures ∙ ap not c.if-is_none.false) c.next_name.ensures.some
