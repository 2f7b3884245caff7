use Rattle.std.proofs.Common.{◌≡◌, ◌<◌, ◌++◌, get_or, slice_get, slice_set, Some, sym, ap, ◌∙◌, arith}
use Rattle.thread_cell_steps.proofs.table_laws_lemmas.Places.{read_back, read_front}
use Rattle.thread_cell_steps.proofs.table_steps_lemmas.FacingLook.{look_below}
use Rattle.thread_step_clients.proofs.Back.{back_high}
use Rattle.thread_step_clients.proofs.Named.{look_done, look_may}
use Rattle.thread_step_clients.proofs.lending.lend_container.Goals as goal

pub bounds-front-number : goal.bounds-front-number
bounds-front-number g c =
    let below = look_below (g.B.PageStore.held c.args.store.now) c.args.cells.now c.requires.may.orderly c.args.me c.args.container c.requires.planned.0 c.requires.planned.1 in
    omega (arith, below.1, c.number.ensures.number, c.number-2.ensures.number, c.split_at_mut-front.ensures.front_len)

pub step_cells-requires-clause-may : goal.step_cells-requires-clause-may
step_cells-requires-clause-may g c =
    let cs = c.args.cells.now in
    let parts = c.split_at_mut-front in
    let front = parts.result.0.now in
    let back = parts.result.1.now in
    let i = c.requires.planned.0 in
    let planned = c.requires.planned.1 in
    let count = c.requires.may.orderly.numbers.len in
    let below = look_below (g.B.PageStore.held c.args.store.now) cs c.requires.may.orderly c.args.me c.args.container i planned in
    let lower : c.number-2.result < c.number.result = omega (arith, below.1, c.number.ensures.number, c.number-2.ensures.number) in
    let a = get_or back 0 c.index-back-0.result in
    let o = get_or front c.number-2.result c.index-front-number.result in
    let is_a : slice_get cs c.args.me ≡ Some (get_or c.split_at_mut-front.result.1.now 0 c.index-back-0.result) =
    ap (slice_get cs) (sym c.number.ensures.number) ∙ read_back cs front back c.number.result c.index-back-0.result parts.ensures.value parts.ensures.front_len (omega (arith, count, c.number.ensures.small)) in
    let is_o : slice_get cs c.args.container ≡ Some (get_or c.split_at_mut-front.result.0.now c.number-2.result c.index-front-number.result) =
    ap (slice_get cs) (sym c.number-2.ensures.number) ∙ read_front cs front back c.number.result c.number-2.result c.index-front-number.result parts.ensures.value parts.ensures.front_len lower in
    look_may g.B.PageStore g.met.B.PageStore.stays (g.S.Supplier.word c.args.gate.now.supply) cs c.args.store.now c.requires.may c.args.me a is_a c.args.container i o is_o planned

pub returns : goal.returns
returns g c =
    let cs = c.args.cells.now in
    let parts = c.split_at_mut-front in
    let front = parts.result.0.now in
    let back = parts.result.1.now in
    let i = c.requires.planned.0 in
    let planned = c.requires.planned.1 in
    let count = c.requires.may.orderly.numbers.len in
    let below = look_below (g.B.PageStore.held c.args.store.now) cs c.requires.may.orderly c.args.me c.args.container i planned in
    let lower : c.number-2.result < c.number.result = omega (arith, below.1, c.number.ensures.number, c.number-2.ensures.number) in
    let a = get_or back 0 c.index-back-0.result in
    let o = get_or front c.number-2.result c.index-front-number.result in
    let is_a : slice_get cs c.args.me ≡ Some (get_or c.split_at_mut-front.result.1.now 0 c.index-back-0.result) =
    ap (slice_get cs) (sym c.number.ensures.number) ∙ read_back cs front back c.number.result c.index-back-0.result parts.ensures.value parts.ensures.front_len (omega (arith, count, c.number.ensures.small)) in
    let is_o : slice_get cs c.args.container ≡ Some (get_or c.split_at_mut-front.result.0.now c.number-2.result c.index-front-number.result) =
    ap (slice_get cs) (sym c.number-2.ensures.number) ∙ read_front cs front back c.number.result c.number-2.result c.index-front-number.result parts.ensures.value parts.ensures.front_len lower in
    let numbers = c.requires.may.orderly.numbers in
    let a' = c.step_cells.new.locus in
    let o' = c.step_cells.new.other.0 in
    look_done g.B.PageStore g.met.B.PageStore.stays (g.S.Supplier.word c.args.gate.now.supply) cs c.args.store.now c.requires.may c.args.me a is_a c.args.container i o is_o planned a' o' c.step_cells.new.store.0 (slice_set front c.number-2.result o' ++ slice_set back 0 a')
    (back_high cs front back a a' o o' c.number.result c.number-2.result (numbers.each c.args.me a is_a ∙ sym c.number.ensures.number) (numbers.each c.args.container o is_o ∙ sym c.number-2.ensures.number) parts.ensures.value parts.ensures.front_len lower)
    c.step_cells.result (record { idle = c.step_cells.ensures.idle; still = c.step_cells.ensures.still; step = c.step_cells.ensures.step; faulted = c.step_cells.ensures.faulted; no_blocks = c.step_cells.ensures.no_blocks; numbers = c.step_cells.ensures.numbers })
