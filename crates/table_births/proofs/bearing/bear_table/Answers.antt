use Rattle.std.proofs.Common.{◌+◌, length, sym, subst}
use Rattle.script_types.specs.Scripts.{container_of, locus_of}
use Rattle.cell_births.specs.script_fits.NextTables.{IsNextTable}
use Rattle.cell_births.specs.Bearing.{MayBearContainer}
use Rattle.table_births.specs.Births.{atlas_state_in}
use Rattle.table_births.proofs.Nexts.{next_container, next_locus}
use Rattle.table_births.proofs.bearing.bear_table.Goals as goal

pub go_container-requires-clause-may : goal.go_container-requires-clause-may
go_container-requires-clause-may c =
    let cs = c.args.cells.now in
    let t = container_of c.in-Container.table.now in
    let script = c.requires.next.0 in
    let d = c.atlas_of.result.now in
    let has = c.atlas_of.ensures in
    let next = subst (IsNextTable (atlas_state_in cs) script) c.in-Container.is c.requires.next.3 in (
      d,
      has,
      subst (MayBearContainer d t) (sym c.free_container-newborn.ensures)
          (next_container c.requires.order.held cs c.requires.order.orderly script c.requires.next.1 c.requires.next.2 d has t next),
    )

pub locus_numbers-host-requires : goal.locus_numbers-host-requires
locus_numbers-host-requires c =
    let cs = c.args.cells.now in
    let t = locus_of c.in-Locus.table.now in
    let script = c.requires.next.0 in
    let d = c.atlas_of-in-Locus.result.now in
    let next = subst (IsNextTable (atlas_state_in cs) script) c.in-Locus.is c.requires.next.3 in
    let may = next_locus c.requires.order.held cs c.requires.order.orderly script c.requires.next.1 c.requires.next.2 d c.atlas_of-in-Locus.ensures t next in
    (may.0, length d.loci + 41, may.1)
