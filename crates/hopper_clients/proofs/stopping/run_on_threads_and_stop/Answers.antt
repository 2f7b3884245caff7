use Rattle.std.proofs.Common.{◌≡◌, [], ◌∷◌, map, false, refl, subst, rules}
use Rattle.std.specs.Prelude.{IfOk, codes, string_bytes}
use Rattle.command_words.specs.declared.Command.TheVariants.{RunOnThreads}
use Rattle.command_outcomes.specs.model_kernel.State.{Text}
use Rattle.hopper_top.specs.command_promises.Manners.{on_threads}
use Rattle.hopper_clients.specs.Calls.{IsCalled}
use Rattle.hopper_clients.specs.StopPromise.{IsStopOf}
use Rattle.hopper_clients.proofs.Carried.{run_words_are}
use Rattle.hopper_clients.proofs.Keeping.{kept_then, stopped_then}
use Rattle.hopper_clients.proofs.stopping.run_on_threads_and_stop.Goals as goal

pub returns-clause-stopped : goal.returns-clause-stopped
returns-clause-stopped g c = stopped_then c.in_ok-formatted.field-0.outcome.status c.moments-since.result c.args.after c.args.torn c.in_ok-ran.ran c.stop_and_show.result c.stop_and_show.ensures

pub returns-clause-kept : goal.returns-clause-kept
returns-clause-kept g c =
    let formatted = c.in_ok-formatted.field-0.outcome in
    let ran = c.in_ok-ran.ran in
    let workers = c.requires.count in
    let words : map string_bytes c.deref.result.now ≡ codes "run" ∷ codes "--workers" ∷ c.args.workers.now ∷ [] = search rules in
    let text : c.as_bytes.result.now ≡ c.args.script.now = search rules in
    let runs = subst (λ (t : Text). IsCalled (RunOnThreads workers.0 false) t formatted.disk ran) text (c.in_ok-ran.ensures (RunOnThreads workers.0 false) (run_words_are _ c.args.workers.now workers words)) in
    let stop = subst (λ n. IfOk c.stop_and_show.result (IsStopOf formatted.status n ran c.args.after c.args.torn)) c.moments-since.ensures c.stop_and_show.ensures in
    kept_then on_threads (λ t. refl) c.args.script.now c.args.torn c.args.after formatted.status formatted.disk ran runs.leaves runs.put c.in_ok-formatted.ensures c.stop_and_show.result stop
