use Rattle.std.proofs.Common.{Option, Some, None, IfNone, sym, ap, subst, ◌∙◌}
use Rattle.script_types.specs.model_kernel.Scripts.{next_name}
use Rattle.script_types.specs.Scripts.{tables_of}
use Rattle.cell_births.specs.script_fits.NextTables.{AreBornBefore}
use Rattle.table_births.proofs.AtlasStates.{has_atlas}
use Rattle.table_births.proofs.Nexts.{next_here, none_left, progress_after}
use Rattle.table_births.proofs.bearing.bear_next.Goals as goal

whatever : {A : Type 0} {P : Type 0} (o : Option A) → P → IfNone o P
whatever None p = p
whatever (Some x) p = tt

pub returns-in_err-next-clause-none : goal.returns-in_err-next-clause-none
returns-in_err-next-clause-none c =
    let tables = tables_of c.args.script.now in
    let cs = c.args.cells.now in
    let atlas = has_atlas cs c.atlas_of.result.now c.atlas_of.ensures in
    whatever c.from_residual.result (none_left tables cs (ap (λ a. next_name a tables) atlas ∙ c.in_err-next.ensures.none))

pub returns-clause-birth : goal.returns-clause-birth
returns-clause-birth c s words =
    let tables = tables_of c.args.script.now in
    let next = next_here tables c.args.cells.now c.atlas_of.result.now c.in_ok-next.next c.atlas_of.ensures c.in_ok-next.ensures.some in
    (c.bear_table.ensures tables c.requires.allowed c.requires.under_way.fits next).bears s words

pub returns-clause-orderly : goal.returns-clause-orderly
returns-clause-orderly c =
    let tables = tables_of c.args.script.now in
    let next = next_here tables c.args.cells.now c.atlas_of.result.now c.in_ok-next.next c.atlas_of.ensures c.in_ok-next.ensures.some in
    (c.bear_table.ensures tables c.requires.allowed c.requires.under_way.fits next).orderly

pub returns-clause-enters : goal.returns-clause-enters
returns-clause-enters c =
    let tables = tables_of c.args.script.now in
    let next = next_here tables c.args.cells.now c.atlas_of.result.now c.in_ok-next.next c.atlas_of.ensures c.in_ok-next.ensures.some in
    (c.bear_table.ensures tables c.requires.allowed c.requires.under_way.fits next).enters

pub returns-clause-more : goal.returns-clause-more
returns-clause-more c =
    let tables = tables_of c.args.script.now in
    let next = next_here tables c.args.cells.now c.atlas_of.result.now c.in_ok-next.next c.atlas_of.ensures c.in_ok-next.ensures.some in
    (c.bear_table.ensures tables c.requires.allowed c.requires.under_way.fits next).more

pub returns-clause-under_way : goal.returns-clause-under_way
returns-clause-under_way c =
    let tables = tables_of c.args.script.now in
    let cs = c.args.cells.now in
    let d = c.atlas_of.result.now in
    let bears = c.bear_table.ensures tables c.requires.allowed c.requires.under_way.fits (next_here tables cs d c.in_ok-next.next c.atlas_of.ensures c.in_ok-next.ensures.some) in
    record {
      fits = bears.fits;
      begun = progress_after tables cs c.bear_table.new.cells c.bear_table.result c.next_table.new.progress c.requires.allowed bears
          (subst (λ a. AreBornBefore a tables c.next_table.new.progress) (sym (has_atlas cs d c.atlas_of.ensures)) c.next_table.ensures.progress);
    }
