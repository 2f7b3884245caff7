use Rattle.std.proofs.Common.{◌∙◌, Some, sym, ap}
use Rattle.open_image.specs.table_laws.Tables.{tables_in}
use Rattle.copy_commits.proofs.Coming.{map_ok}
use Rattle.container_copy.proofs.Lent.{lent_before, lent_faces, lent_needs, source_number}
use Rattle.container_copy.proofs.lending.copy_at.Goals as goal

pub copy_over-requires-clause-faces : goal.copy_over-requires-clause-faces
copy_over-requires-clause-faces g c =
    let parts = c.split_at_mut-front in
    let low = c.split_at_mut-first in
    let may = c.requires.places in
    lent_faces c.args.store.now c.args.cells.now c.requires.table may.0 may.1 c.args.fresh.now c.args.source c.args.newborn may.2
    parts.result.0.now parts.result.1.now low.result.0.now low.result.1.now c.index-first-0.result c.index-rest-0.result c.index-back-0.result
    parts.ensures.value parts.ensures.front_len low.ensures.value low.ensures.front_len

pub returns-clause-any_moment : goal.returns-clause-any_moment
returns-clause-any_moment g c = λ t s name v st named.
    let parts = c.split_at_mut-front in
    let low = c.split_at_mut-first in
    let may = c.requires.places in
    let number = source_number c.args.store.now c.args.cells.now c.requires.table may.0 may.1 c.args.fresh.now c.args.source c.args.newborn may.2
    parts.result.0.now parts.result.1.now low.result.0.now low.result.1.now c.index-first-0.result c.index-rest-0.result c.index-back-0.result
    parts.ensures.value parts.ensures.front_len low.ensures.value low.ensures.front_len in
    c.copy_over.ensures.any_moment t s name v (tables_in c.args.cells.now) (named ∙ ap Some (sym number))
    (lent_before c.args.store.now c.args.cells.now c.requires.table may.0 may.1 c.args.fresh.now c.args.source c.args.newborn may.2
    parts.result.0.now parts.result.1.now low.result.0.now low.result.1.now c.index-first-0.result c.index-rest-0.result c.index-back-0.result
    parts.ensures.value parts.ensures.front_len low.ensures.value low.ensures.front_len s v (g.D.Disk.reading c.args.store.now.disk) st)

pub returns-clause-done : goal.returns-clause-done
returns-clause-done g c = λ t. map_ok c.copy_over.result (c.copy_over.ensures.done t) (λ done. λ s name v st named.
    let parts = c.split_at_mut-front in
    let low = c.split_at_mut-first in
    let may = c.requires.places in
    let number = source_number c.args.store.now c.args.cells.now c.requires.table may.0 may.1 c.args.fresh.now c.args.source c.args.newborn may.2
    parts.result.0.now parts.result.1.now low.result.0.now low.result.1.now c.index-first-0.result c.index-rest-0.result c.index-back-0.result
    parts.ensures.value parts.ensures.front_len low.ensures.value low.ensures.front_len in
    done s name v (tables_in c.args.cells.now) (named ∙ ap Some (sym number))
    (lent_before c.args.store.now c.args.cells.now c.requires.table may.0 may.1 c.args.fresh.now c.args.source c.args.newborn may.2
    parts.result.0.now parts.result.1.now low.result.0.now low.result.1.now c.index-first-0.result c.index-rest-0.result c.index-back-0.result
    parts.ensures.value parts.ensures.front_len low.ensures.value low.ensures.front_len s v (g.D.Disk.reading c.args.store.now.disk) st))

pub returns-clause-no_blocks : goal.returns-clause-no_blocks
returns-clause-no_blocks g c = λ m is.
    let parts = c.split_at_mut-front in
    let low = c.split_at_mut-first in
    let k = c.copy_over.ensures.no_blocks m is in (
      k.0,
      k.1,
      λ d name may. lent_needs c.args.store.now c.args.cells.now c.requires.table d name c.args.fresh.now c.args.source c.args.newborn may
          parts.result.0.now parts.result.1.now low.result.0.now low.result.1.now c.index-first-0.result c.index-rest-0.result c.index-back-0.result
          parts.ensures.value parts.ensures.front_len low.ensures.value low.ensures.front_len m.need k.2,
    )

pub returns-clause-room : goal.returns-clause-room
returns-clause-room g c =
    let parts = c.split_at_mut-front in
    let low = c.split_at_mut-first in
    map_ok c.copy_over.result c.copy_over.ensures.room (λ k. (
      k.0,
      k.1,
      λ d name may. lent_needs c.args.store.now c.args.cells.now c.requires.table d name c.args.fresh.now c.args.source c.args.newborn may
          parts.result.0.now parts.result.1.now low.result.0.now low.result.1.now c.index-first-0.result c.index-rest-0.result c.index-back-0.result
          parts.ensures.value parts.ensures.front_len low.ensures.value low.ensures.front_len k.0 k.2,
    ))
