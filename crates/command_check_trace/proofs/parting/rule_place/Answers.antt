use Rattle.std.proofs.Common.{◌≡◌, ◌&&◌, ◌<◌, ℕ, Bool, [], true, false, drop, length, ap, sym, ◌∙◌, arith}
use Rattle.std.proofs.lemmas.List.{drop_all}
use Rattle.plain_states.specs.model_kernel.State.{Text}
use Rattle.command_promises.specs.SourceParts.{is_rule}
use Rattle.command_check_trace.proofs.Ruling.{rest_whole, rule_end, rule_here, rule_later}
use Rattle.command_check_trace.proofs.parting.rule_place.Goals as goal

pub returns-then-is_rule-clause-place : goal.returns-then-is_rule-clause-place
returns-then-is_rule-clause-place c =
    let bytes : Text = c.args.bytes.now in
    let at : ℕ = c.loop-at.at in
    let begins : Bool = c.loop-at.begins in
    let lt : at < length bytes = omega arith in
    let is : (begins && is_rule (drop at bytes)) ≡ true = ap (λ (t : Text). begins && is_rule t) (sym (rest_whole bytes at)) ∙ sym c.is_rule.ensures ∙ c.if-is_rule.true in
    sym (sym c.loop-at.invariant ∙ rule_here begins bytes at lt is)

pub loop-at-preserved : goal.loop-at-preserved
loop-at-preserved c =
    let bytes : Text = c.args.bytes.now in
    let at : ℕ = c.loop-at.at in
    let begins : Bool = c.loop-at.begins in
    let lt : at < length bytes = omega arith in
    let is : (begins && is_rule (drop at bytes)) ≡ false = ap (λ (t : Text). begins && is_rule t) (sym (rest_whole bytes at)) ∙ sym c.is_rule.ensures ∙ c.if-is_rule.false in
    sym (rule_later begins bytes at lt is) ∙ c.loop-at.invariant

pub returns-clause-place : goal.returns-clause-place
returns-clause-place c =
    let bytes : Text = c.args.bytes.now in
    let at : ℕ = c.loop-at.at in
    let none : drop at bytes ≡ [] = drop_all at bytes (omega arith) in
    sym (sym c.loop-at.invariant ∙ rule_end c.loop-at.begins bytes at none)
