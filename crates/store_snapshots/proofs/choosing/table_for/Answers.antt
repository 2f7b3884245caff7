use Rattle.std.proofs.Common.{◌<◌, [], length, ap, sym, ◌∙◌, arith}
use Rattle.std.proofs.lemmas.List.{get_or-map}
use Rattle.data_blocks.specs.declared.ShadowTable.{ShadowTable}
use Rattle.store_facts.specs.Choosing.{table_of}
use Rattle.store_snapshots.proofs.choosing.table_for.Goals as goal

pub returns : goal.returns
returns c =
    let lt : c.number.result < length c.args.tables.now = (let low = c.number.ensures.small in let all = c.requires in omega (arith, low, all)) in
    sym (get_or-map (λ (s : ShadowTable). s.0) c.args.tables.now c.number.result _ [] lt) ∙ ap (λ n. table_of c.args.tables.now n) c.number.ensures.number
