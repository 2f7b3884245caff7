-- A map hands out its keys in the order of their bytes.
use Rattle.std.proofs.Common.{map, sym, ap, ◌∙◌}
use Rattle.toml.specs.View.{members_view}
use Rattle.script_meaning.specs.Fields.{only_in}
use Rattle.script_reading.proofs.Orders.{sorted_in_order}
use Rattle.script_reading.proofs.fields.only.Goals as goal

pub loop-name-init : goal.loop-name-init
loop-name-init c =
    let names = map (λ known. known.now) c.args.names.now in
    let given = c.into_iter-name-iterator.ensures.into_iter_gives in
    record {
      can = tt;
      ends = tt;
      rest = ap (λ es. only_in names c.args.key.now (members_view es)) given.0
          ∙ sym (ap (only_in names c.args.key.now) (sorted_in_order c.args.table.now.entries given.5));
    }
