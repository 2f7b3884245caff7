use Rattle.std.proofs.Common.{◌≡◌, sym, ap, ◌∙◌, slice_get, get_or, Some, arith}
use Rattle.std.proofs.lemmas.Option.{slice_get-get_or}
use Rattle.kernel_commit_facts.proofs.Committing.{made, may_be, set_faults, unmade}
use Rattle.kernel_commits.proofs.recording.commit_among.Goals as goal

pub commit_cell-requires-clause-may : goal.commit_cell-requires-clause-may
commit_cell-requires-clause-may g c = λ changed.
    let cs = c.args.cells.now in
    let a = get_or cs c.number.result c.index-cells-number.result in
    let is : slice_get cs c.args.entity ≡ Some (get_or cs c.number.result c.index-cells-number.result) =
    ap (slice_get cs) (sym c.number.ensures.number) ∙ slice_get-get_or cs c.number.result c.index-cells-number.result (omega arith) in
    may_be g.D.Disk c.args.entity cs c.args.store.now c.requires.can a is

pub returns-clause-made : goal.returns-clause-made
returns-clause-made g c =
    let cs = c.args.cells.now in
    let a = get_or cs c.number.result c.index-cells-number.result in
    let is : slice_get cs c.args.entity ≡ Some (get_or cs c.number.result c.index-cells-number.result) =
    ap (slice_get cs) (sym c.number.ensures.number) ∙ slice_get-get_or cs c.number.result c.index-cells-number.result (omega arith) in
    made g.D.Disk c.args.entity c.number.result c.number.ensures.number cs c.args.store.now c.commit_cell.new.store c.requires.can a c.commit_cell.new.cell is
    c.commit_cell.ensures.any_moment c.commit_cell.result c.commit_cell.ensures.made c.commit_cell.ensures.true_books

pub returns-clause-unmade : goal.returns-clause-unmade
returns-clause-unmade g c =
    let cs = c.args.cells.now in
    let a = get_or cs c.number.result c.index-cells-number.result in
    let is : slice_get cs c.args.entity ≡ Some (get_or cs c.number.result c.index-cells-number.result) =
    ap (slice_get cs) (sym c.number.ensures.number) ∙ slice_get-get_or cs c.number.result c.index-cells-number.result (omega arith) in
    unmade g.D.Disk c.args.entity c.number.result c.number.ensures.number cs c.args.store.now c.commit_cell.new.store c.requires.can a c.commit_cell.new.cell is
    c.commit_cell.ensures.any_moment c.commit_cell.result c.commit_cell.ensures.unmade

pub returns-clause-faults : goal.returns-clause-faults
returns-clause-faults g c = λ a d at is.
    let cs = c.args.cells.now in
    let was : slice_get cs c.args.entity ≡ Some (get_or cs c.number.result c.index-cells-number.result) =
    ap (slice_get cs) (sym c.number.ensures.number) ∙ slice_get-get_or cs c.number.result c.index-cells-number.result (omega arith) in
    set_faults g.D.Disk.faults c.commit_cell.result c.args.entity c.number.result c.number.ensures.number cs c.args.store.now c.commit_cell.new.store (get_or cs c.number.result c.index-cells-number.result) c.commit_cell.new.cell a d was at is c.commit_cell.ensures.faults
