use Rattle.std.proofs.Common.{◌∙◌, sym}
use Rattle.std.proofs.lemmas.Bool.{false≢true}
use Rattle.trace_facts.proofs.Lining.{no_end, no_text, some_line}
use Rattle.trace_checker.proofs.checks.behind_line.Goals as goal

pub returns-then-not-is_same-clause-none : goal.returns-then-not-is_same-clause-none
returns-then-not-is_same-clause-none c left is =
    false≢true (sym c.if-not-is_same.true ∙ c.is_same.ensures.1 (no_text c.args.rest.now c.args.text.now c.split_at.result.0.now left c.split_at.ensures.front is ∙ sym c.as_bytes.ensures.value))

pub returns-then-not-is_same-2-clause-none : goal.returns-then-not-is_same-2-clause-none
returns-then-not-is_same-2-clause-none c left is =
    false≢true (sym c.if-not-is_same-2.true
    ∙ c.is_same-2.ensures.1 (no_end c.args.rest.now c.args.text.now left c.split_at.result.1.now c.split_at-2.result.0.now c.split_at.ensures.back c.split_at-2.ensures.front is ∙ sym c.as_bytes-2.ensures.value))

pub returns-clause-some : goal.returns-clause-some
returns-clause-some c =
    some_line c.args.rest.now c.args.text.now c.split_at.result.0.now c.split_at.result.1.now c.split_at-2.result.0.now c.split_at-2.result.1.now c.split_at.ensures.front c.split_at.ensures.back c.split_at-2.ensures.front c.split_at-2.ensures.back
    (c.is_same.ensures.0 c.if-not-is_same.false ∙ c.as_bytes.ensures.value) (c.is_same-2.ensures.0 c.if-not-is_same-2.false ∙ c.as_bytes-2.ensures.value)
