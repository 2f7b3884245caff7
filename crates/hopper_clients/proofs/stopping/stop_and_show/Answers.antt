use Rattle.std.proofs.Common.{◌≡◌, ◌+◌, [], ◌∷◌, map, min, subst, refl, ◌∙◌, rules}
use Rattle.std.specs.Prelude.{codes, string_bytes}
use Rattle.command_words.specs.declared.Command.TheVariants.{Show}
use Rattle.command_outcomes.specs.model_kernel.State.{Text}
use Rattle.edge_disk.specs.MemoryDisk.{moments_of}
use Rattle.hopper_clients.specs.Calls.{IsCalled}
use Rattle.hopper_clients.proofs.stopping.stop_and_show.Goals as goal

pub returns : goal.returns
returns c =
    let showed = c.in_ok-showed.field-0 in
    let show_words : map string_bytes c.deref.result.now ≡ codes "show" ∷ [] = search rules in
    let no_text : c.as_bytes.result.now ≡ [] = search rules in
    let now : c.moments.result ≡ moments_of c.args.ran.outcome.disk = c.moments.ensures in
    let stops : c.stop_at-stopped.result ≡ min (c.args.since + c.args.after) (moments_of c.args.ran.outcome.disk) = c.stop_at-stopped.ensures ∙ (λ i. min (c.args.since + c.args.after) (now i)) in
    record {
      stopped = c.stop_at-stopped.result;
      showed = showed;
      image = c.in_ok-left.left;
      is = refl;
      stops = stops;
      tears = c.in_ok-left.ensures.torn;
      may = c.in_ok-left.ensures.may;
      shows = subst (λ (t : Text). IsCalled Show t c.in_ok-left.left showed) no_text (c.in_ok-showed.ensures Show show_words);
    }
