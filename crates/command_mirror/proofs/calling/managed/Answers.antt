use Rattle.std.proofs.Common.{sym, ◌∙◌}
use Rattle.command_mirror.proofs.Bringing.{brings_none, for_policies, for_suppliers}
use Rattle.command_mirror.proofs.calling.managed.Goals as goal

pub returns-then-not-is_empty-clause-some : goal.returns-then-not-is_empty-clause-some
returns-then-not-is_empty-clause-some c = for_suppliers c.args.managers.now (sym c.is_empty.ensures ∙ c.if-not-is_empty.true) c.refused.result c.refused.ensures

pub returns-then-not-is_empty-2-clause-some : goal.returns-then-not-is_empty-2-clause-some
returns-then-not-is_empty-2-clause-some c =
    for_policies c.args.managers.now (sym c.is_empty.ensures ∙ c.if-not-is_empty.false) (sym c.is_empty-2.ensures ∙ c.if-not-is_empty-2.true)
    c.refused-then-not-is_empty-2.result c.refused-then-not-is_empty-2.ensures

pub returns-clause-none : goal.returns-clause-none
returns-clause-none c = brings_none c.args.managers.now (sym c.is_empty.ensures ∙ c.if-not-is_empty.false) (sym c.is_empty-2.ensures ∙ c.if-not-is_empty-2.false)
