use Rattle.std.proofs.Common.{◌≡◌, [], ◌∷◌, map, refl, subst, rules}
use Rattle.std.specs.Prelude.{codes, string_bytes}
use Rattle.command_words.specs.declared.Command.TheVariants.{CheckTrace}
use Rattle.command_outcomes.specs.model_kernel.State.{Text}
use Rattle.hopper_clients.specs.Calls.{IsCalled}
use Rattle.hopper_clients.specs.TracePromise.{traced_source}
use Rattle.hopper_clients.proofs.tracing.check_again.Goals as goal

pub returns : goal.returns
returns c =
    let again = c.in_ok-formatted_again.field-0 in
    let checked = c.in_ok-checked.field-0 in
    let check_words : map string_bytes c.deref-2.result.now ≡ codes "check-trace" ∷ [] = search rules in
    let source : c.deref-3.result.now ≡ traced_source c.args.script.now c.args.ran.text.items = search rules in
    record {
      again = again;
      checked = checked;
      is = refl;
      fresh = c.in_ok-formatted_again.ensures;
      checks = subst (λ (t : Text). IsCalled CheckTrace t again.outcome.disk checked) source (c.in_ok-checked.ensures CheckTrace check_words);
    }
