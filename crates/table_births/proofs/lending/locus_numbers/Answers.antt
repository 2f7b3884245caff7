use Rattle.std.proofs.Common.{◌≡◌, ◌+◌, unwrap_or, sym, ap, subst, ◌∙◌}
use Rattle.data_atlas.specs.data_atlas_facts.Directory.{entity_named}
use Rattle.script_types.specs.Scripts.{locus_of}
use Rattle.cell_births.specs.Bearing.{MayBearLocus}
use Rattle.table_births.proofs.Nexts.{host_found}
use Rattle.table_births.proofs.lending.locus_numbers.Goals as goal

pub returns : goal.returns
returns c =
    let d = c.args.atlas.now in
    let t = locus_of c.args.table.now in
    let may = c.requires.2 in
    let host : c.number.result ≡ c.requires.0 =
    c.number.ensures.number ∙ c.unwrap_or-host.ensures ∙ ap (λ o. unwrap_or o 0) (c.find.ensures ∙ ap (entity_named d) c.deref.ensures) ∙ host_found d t c.requires.0 c.requires.1 c.named-born.ensures.names may in
    let newborn : c.named-born.result + 41 ≡ c.requires.1 = ap (λ n. n + 41) c.named-born.ensures.number ∙ sym may.number in
    subst (λ x. MayBearLocus d t x (c.named-born.result + 41)) (sym host) (subst (MayBearLocus d t c.requires.0) (sym newborn) may)
