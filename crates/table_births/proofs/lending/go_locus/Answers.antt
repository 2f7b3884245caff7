use Rattle.script_types.specs.Scripts.{locus_of}
use Rattle.table_births.proofs.Newborns.{faces_locus, locus_bears}
use Rattle.table_births.proofs.lending.go_locus.Goals as goal

pub bear_locus-requires : goal.bear_locus-requires
bear_locus-requires c =
    let parts = c.split_at_mut-front in
    let low = c.split_at_mut-first in
    let faces = faces_locus c.requires.order.held c.args.cells.now c.requires.order.orderly c.requires.few (locus_of c.args.table.now) c.args.host c.args.newborn c.requires.may.0 c.requires.may.1 c.requires.may.2
    parts.result.0.now parts.result.1.now low.result.0.now low.result.1.now c.index-first-0.result c.index-rest-0.result c.index-back-0.result
    parts.ensures.value parts.ensures.front_len low.ensures.value low.ensures.front_len in
    record { may = faces.may; atlas = faces.atlas; few = faces.few }

pub returns : goal.returns
returns c =
    let parts = c.split_at_mut-front in
    let low = c.split_at_mut-first in
    let mid = c.bear_locus.new in
    let made = c.bear_locus.ensures in
    locus_bears c.requires.order.held c.args.cells.now c.requires.order.orderly c.requires.few (locus_of c.args.table.now) c.args.host c.args.newborn c.requires.may.0 c.requires.may.1 c.requires.may.2
    parts.result.0.now parts.result.1.now low.result.0.now low.result.1.now c.index-first-0.result c.index-rest-0.result c.index-back-0.result
    parts.ensures.value parts.ensures.front_len low.ensures.value low.ensures.front_len mid.atlas mid.host mid.newborn c.bear_locus.result
    (record { birth = made.birth; entry = made.entry; host = made.host; wishes = made.wishes })
