use Rattle.std.proofs.Common.{◌≡◌, [], ◌∷◌, map, refl, subst, true, rules}
use Rattle.std.specs.Prelude.{codes, string_bytes}
use Rattle.command_words.specs.declared.Command.TheVariants.{RunOnThreads}
use Rattle.command_outcomes.specs.model_kernel.State.{Text}
use Rattle.hopper_top.specs.command_promises.Manners.{on_threads}
use Rattle.hopper_clients.specs.Calls.{IsCalled}
use Rattle.hopper_clients.proofs.Carried.{traced_words_are}
use Rattle.hopper_clients.proofs.Accepting.{accepted_then, run_left, traced_then}
use Rattle.hopper_clients.proofs.tracing.trace_on_threads_and_check.Goals as goal

pub returns-clause-traced : goal.returns-clause-traced
returns-clause-traced g c =
    let formatted = c.in_ok-formatted.field-0.outcome in
    let ran = c.in_ok-ran.ran in
    let workers = c.requires.count in
    let words : map string_bytes c.deref.result.now ≡ codes "run" ∷ codes "--trace" ∷ codes "--workers" ∷ c.args.workers.now ∷ [] = search rules in
    let text : c.as_bytes.result.now ≡ c.args.script.now = search rules in
    let runs = subst (λ (t : Text). IsCalled (RunOnThreads workers.0 true) t formatted.disk ran) text (c.in_ok-ran.ensures (RunOnThreads workers.0 true) (traced_words_are _ c.args.workers.now workers words)) in
    traced_then on_threads (λ t. refl) c.args.script.now formatted.status formatted.disk ran runs.put (λ done. run_left on_threads (RunOnThreads workers.0 true) c.args.script.now formatted.disk ran runs done (λ left. left)) c.in_ok-formatted.ensures
    c.check_again.result c.check_again.ensures

pub returns-clause-accepted : goal.returns-clause-accepted
returns-clause-accepted g c =
    let formatted = c.in_ok-formatted.field-0.outcome in
    let ran = c.in_ok-ran.ran in
    let workers = c.requires.count in
    let words : map string_bytes c.deref.result.now ≡ codes "run" ∷ codes "--trace" ∷ codes "--workers" ∷ c.args.workers.now ∷ [] = search rules in
    let text : c.as_bytes.result.now ≡ c.args.script.now = search rules in
    let runs = subst (λ (t : Text). IsCalled (RunOnThreads workers.0 true) t formatted.disk ran) text (c.in_ok-ran.ensures (RunOnThreads workers.0 true) (traced_words_are _ c.args.workers.now workers words)) in
    accepted_then on_threads (λ t. refl) c.args.script.now formatted.status formatted.disk ran runs.put (λ done. run_left on_threads (RunOnThreads workers.0 true) c.args.script.now formatted.disk ran runs done (λ left. left)) c.in_ok-formatted.ensures
    c.check_again.result c.check_again.ensures
