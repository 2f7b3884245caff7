use Rattle.std.proofs.Common.{◌≡◌, [], ◌∷◌, map, refl, subst, true, rules}
use Rattle.std.specs.Prelude.{codes, string_bytes}
use Rattle.command_words.specs.declared.Command.TheVariants.{Run}
use Rattle.command_outcomes.specs.model_kernel.State.{Text}
use Rattle.hopper_top.specs.command_promises.Manners.{serial}
use Rattle.hopper_clients.specs.Calls.{IsCalled}
use Rattle.hopper_clients.proofs.Accepting.{accepted_then, run_left, traced_then}
use Rattle.hopper_clients.proofs.tracing.trace_and_check.Goals as goal

pub returns-clause-traced : goal.returns-clause-traced
returns-clause-traced c =
    let formatted = c.in_ok-formatted.field-0.outcome in
    let ran = c.in_ok-ran.ran in
    let words : map string_bytes c.deref.result.now ≡ codes "run" ∷ codes "--trace" ∷ [] = search rules in
    let text : c.as_bytes.result.now ≡ c.args.script.now = search rules in
    let runs = subst (λ (t : Text). IsCalled (Run true) t formatted.disk ran) text (c.in_ok-ran.ensures (Run true) words) in
    traced_then serial (λ t. refl) c.args.script.now formatted.status formatted.disk ran runs.put (λ done. run_left serial (Run true) c.args.script.now formatted.disk ran runs done (λ left. left)) c.in_ok-formatted.ensures
    c.check_again.result c.check_again.ensures

pub returns-clause-accepted : goal.returns-clause-accepted
returns-clause-accepted c =
    let formatted = c.in_ok-formatted.field-0.outcome in
    let ran = c.in_ok-ran.ran in
    let words : map string_bytes c.deref.result.now ≡ codes "run" ∷ codes "--trace" ∷ [] = search rules in
    let text : c.as_bytes.result.now ≡ c.args.script.now = search rules in
    let runs = subst (λ (t : Text). IsCalled (Run true) t formatted.disk ran) text (c.in_ok-ran.ensures (Run true) words) in
    accepted_then serial (λ t. refl) c.args.script.now formatted.status formatted.disk ran runs.put (λ done. run_left serial (Run true) c.args.script.now formatted.disk ran runs done (λ left. left)) c.in_ok-formatted.ensures
    c.check_again.result c.check_again.ensures
