use Rattle.std.proofs.Common.{◌≡◌, get_or, slice_get, Some, sym, ap, ◌∙◌, arith}
use Rattle.std.proofs.lemmas.Option.{slice_get-get_or}
use Rattle.thread_step_clients.proofs.Named.{locus_done, locus_may}
use Rattle.thread_step_clients.proofs.lending.lend_locus.Goals as goal

pub step_cells-requires-clause-may : goal.step_cells-requires-clause-may
step_cells-requires-clause-may g c =
    let cs = c.args.cells.now in
    let a = get_or cs c.number.result c.index-cells-number.result in
    let count = c.requires.may.orderly.numbers.len in
    let is : slice_get cs c.args.me ≡ Some (get_or cs c.number.result c.index-cells-number.result) =
    ap (slice_get cs) (sym c.number.ensures.number) ∙ slice_get-get_or cs c.number.result c.index-cells-number.result (omega (arith, count, c.number.ensures.small)) in
    locus_may g.B.PageStore g.met.B.PageStore.stays (g.S.Supplier.word c.args.gate.now.supply) cs c.args.store.now c.requires.may c.args.me a is c.requires.touches

pub returns : goal.returns
returns g c =
    let cs = c.args.cells.now in
    let a = get_or cs c.number.result c.index-cells-number.result in
    let count = c.requires.may.orderly.numbers.len in
    let is : slice_get cs c.args.me ≡ Some (get_or cs c.number.result c.index-cells-number.result) =
    ap (slice_get cs) (sym c.number.ensures.number) ∙ slice_get-get_or cs c.number.result c.index-cells-number.result (omega (arith, count, c.number.ensures.small)) in
    locus_done g.B.PageStore g.met.B.PageStore.stays (g.S.Supplier.word c.args.gate.now.supply) cs c.args.store.now c.requires.may c.args.me a is c.requires.touches c.number.result c.number.ensures.number c.step_cells.new.locus c.step_cells.result
    (record { idle = c.step_cells.ensures.idle; still = c.step_cells.ensures.still; step = c.step_cells.ensures.step; faulted = c.step_cells.ensures.faulted; no_blocks = c.step_cells.ensures.no_blocks; numbers = c.step_cells.ensures.numbers })
