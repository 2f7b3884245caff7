use Rattle.std.proofs.Common.{◌≡◌, ◌++◌, get_or, slice_get, slice_set, Some, sym, ap, ◌∙◌, arith}
use Rattle.thread_cell_steps.proofs.table_laws_lemmas.Places.{read_back, read_front}
use Rattle.thread_step_clients.proofs.Back.{back_high}
use Rattle.thread_step_clients.proofs.Named.{atlas_done, atlas_may, locus_some}
use Rattle.thread_step_clients.proofs.lending.lend_atlas.Goals as goal

pub step_cells-requires-clause-may : goal.step_cells-requires-clause-may
step_cells-requires-clause-may g c =
    let cs = c.args.cells.now in
    let parts = c.split_at_mut-front in
    let front = parts.result.0.now in
    let back = parts.result.1.now in
    let t = c.requires.touches in
    let count = c.requires.may.orderly.numbers.len in
    let some = locus_some (g.B.PageStore.held c.args.store.now) cs c.requires.may.orderly c.args.me t.instr t.reach t.planned in
    let a = get_or back 0 c.index-back-0.result in
    let k = get_or front 0 c.index-front-0.result in
    let is_a : slice_get cs c.args.me ≡ Some (get_or c.split_at_mut-front.result.1.now 0 c.index-back-0.result) =
    ap (slice_get cs) (sym c.number.ensures.number) ∙ read_back cs front back c.number.result c.index-back-0.result parts.ensures.value parts.ensures.front_len (omega (arith, count, c.number.ensures.small)) in
    let is_k : slice_get cs 0 ≡ Some (get_or c.split_at_mut-front.result.0.now 0 c.index-front-0.result) =
    read_front cs front back c.number.result 0 c.index-front-0.result parts.ensures.value parts.ensures.front_len (omega (arith, some, c.number.ensures.number)) in
    atlas_may g.B.PageStore g.met.B.PageStore.stays (g.S.Supplier.word c.args.gate.now.supply) cs c.args.store.now c.requires.may c.args.me a is_a t k is_k

pub returns : goal.returns
returns g c =
    let cs = c.args.cells.now in
    let parts = c.split_at_mut-front in
    let front = parts.result.0.now in
    let back = parts.result.1.now in
    let t = c.requires.touches in
    let count = c.requires.may.orderly.numbers.len in
    let some = locus_some (g.B.PageStore.held c.args.store.now) cs c.requires.may.orderly c.args.me t.instr t.reach t.planned in
    let a = get_or back 0 c.index-back-0.result in
    let k = get_or front 0 c.index-front-0.result in
    let is_a : slice_get cs c.args.me ≡ Some (get_or c.split_at_mut-front.result.1.now 0 c.index-back-0.result) =
    ap (slice_get cs) (sym c.number.ensures.number) ∙ read_back cs front back c.number.result c.index-back-0.result parts.ensures.value parts.ensures.front_len (omega (arith, count, c.number.ensures.small)) in
    let is_k : slice_get cs 0 ≡ Some (get_or c.split_at_mut-front.result.0.now 0 c.index-front-0.result) =
    read_front cs front back c.number.result 0 c.index-front-0.result parts.ensures.value parts.ensures.front_len (omega (arith, some, c.number.ensures.number)) in
    let numbers = c.requires.may.orderly.numbers in
    let a' = c.step_cells.new.locus in
    let k' = c.step_cells.new.atlas.0 in
    atlas_done g.B.PageStore g.met.B.PageStore.stays (g.S.Supplier.word c.args.gate.now.supply) cs c.args.store.now c.requires.may c.args.me a is_a t k is_k a' k' (slice_set front 0 k' ++ slice_set back 0 a')
    (back_high cs front back a a' k k' c.number.result 0 (numbers.each c.args.me a is_a ∙ sym c.number.ensures.number) (numbers.each 0 k is_k) parts.ensures.value parts.ensures.front_len (omega (arith, some, c.number.ensures.number)))
    c.step_cells.result (record { idle = c.step_cells.ensures.idle; still = c.step_cells.ensures.still; step = c.step_cells.ensures.step; faulted = c.step_cells.ensures.faulted; no_blocks = c.step_cells.ensures.no_blocks; numbers = c.step_cells.ensures.numbers })
