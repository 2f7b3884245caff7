use Rattle.script_types.specs.Scripts.{container_of}
use Rattle.table_births.proofs.Newborns.{container_bears, faces_container}
use Rattle.table_births.proofs.lending.go_container.Goals as goal

pub bear_container-requires : goal.bear_container-requires
bear_container-requires c =
    let parts = c.split_at_mut-front in
    let faces = faces_container c.requires.order.held c.args.cells.now c.requires.order.orderly c.requires.few (container_of c.args.table.now) c.args.newborn c.requires.may.0 c.requires.may.1 c.requires.may.2
    parts.result.0.now parts.result.1.now c.index-front-0.result c.index-back-0.result parts.ensures.value parts.ensures.front_len in
    record { may = faces.may; unborn = faces.unborn; atlas = faces.atlas; few = faces.few }

pub returns : goal.returns
returns c =
    let parts = c.split_at_mut-front in
    let mid = c.bear_container.new in
    let made = c.bear_container.ensures in
    container_bears c.requires.order.held c.args.cells.now c.requires.order.orderly c.requires.few (container_of c.args.table.now) c.args.newborn c.requires.may.0 c.requires.may.1 c.requires.may.2
    parts.result.0.now parts.result.1.now c.index-front-0.result c.index-back-0.result parts.ensures.value parts.ensures.front_len mid.atlas mid.newborn c.bear_container.result
    (record { birth = made.birth; entry = made.entry; memory = made.memory; wishes = made.wishes })
