use Rattle.std.proofs.Common.{◌≡◌, ◌<◌, ◌++◌, get_or, slice_get, slice_set, Some, sym, ap, ◌∙◌, arith}
use Rattle.thread_cell_steps.proofs.table_laws_lemmas.Places.{read_back, read_front}
use Rattle.thread_step_clients.proofs.Back.{above, back_high, back_low}
use Rattle.thread_step_clients.proofs.Named.{beside_apart, other_done, other_may}
use Rattle.thread_step_clients.proofs.lending.lend_other.Goals as goal

pub step_cells-requires-clause-may : goal.step_cells-requires-clause-may
step_cells-requires-clause-may g c =
    let cs = c.args.cells.now in
    let i = c.requires.planned.0 in
    let planned = c.requires.planned.1 in
    let count = c.requires.may.orderly.numbers.len in
    let parts = c.split_at_mut-front in
    let front = parts.result.0.now in
    let back = parts.result.1.now in
    let a = get_or back 0 c.index-back-0.result in
    let o = get_or front c.number-2.result c.index-front-named.result in
    let is_a : slice_get cs c.args.me ≡ Some (get_or c.split_at_mut-front.result.1.now 0 c.index-back-0.result) =
    ap (slice_get cs) (sym c.number.ensures.number) ∙ read_back cs front back c.number.result c.index-back-0.result parts.ensures.value parts.ensures.front_len (omega (arith, count, c.number.ensures.small)) in
    let is_o : slice_get cs c.args.other ≡ Some (get_or c.split_at_mut-front.result.0.now c.number-2.result c.index-front-named.result) =
    ap (slice_get cs) (sym c.number-2.ensures.number) ∙ read_front cs front back c.number.result c.number-2.result c.index-front-named.result parts.ensures.value parts.ensures.front_len c.if-named-own.true in
    other_may g.B.PageStore g.met.B.PageStore.stays (g.S.Supplier.word c.args.gate.now.supply) cs c.args.store.now c.requires.may c.args.me a is_a c.args.other i o is_o planned c.requires.apart

pub returns-then-named-own : goal.returns-then-named-own
returns-then-named-own g c =
    let cs = c.args.cells.now in
    let i = c.requires.planned.0 in
    let planned = c.requires.planned.1 in
    let count = c.requires.may.orderly.numbers.len in
    let parts = c.split_at_mut-front in
    let front = parts.result.0.now in
    let back = parts.result.1.now in
    let a = get_or back 0 c.index-back-0.result in
    let o = get_or front c.number-2.result c.index-front-named.result in
    let is_a : slice_get cs c.args.me ≡ Some (get_or c.split_at_mut-front.result.1.now 0 c.index-back-0.result) =
    ap (slice_get cs) (sym c.number.ensures.number) ∙ read_back cs front back c.number.result c.index-back-0.result parts.ensures.value parts.ensures.front_len (omega (arith, count, c.number.ensures.small)) in
    let is_o : slice_get cs c.args.other ≡ Some (get_or c.split_at_mut-front.result.0.now c.number-2.result c.index-front-named.result) =
    ap (slice_get cs) (sym c.number-2.ensures.number) ∙ read_front cs front back c.number.result c.number-2.result c.index-front-named.result parts.ensures.value parts.ensures.front_len c.if-named-own.true in
    let numbers = c.requires.may.orderly.numbers in
    let a' = c.step_cells.new.locus in
    let o' = c.step_cells.new.other.0 in
    other_done g.B.PageStore g.met.B.PageStore.stays (g.S.Supplier.word c.args.gate.now.supply) cs c.args.store.now c.requires.may c.args.me a is_a c.args.other i o is_o planned c.requires.apart a' o' (slice_set front c.number-2.result o' ++ slice_set back 0 a')
    (back_high cs front back a a' o o' c.number.result c.number-2.result (numbers.each c.args.me a is_a ∙ sym c.number.ensures.number) (numbers.each c.args.other o is_o ∙ sym c.number-2.ensures.number) parts.ensures.value parts.ensures.front_len c.if-named-own.true)
    c.step_cells.result (record { idle = c.step_cells.ensures.idle; still = c.step_cells.ensures.still; step = c.step_cells.ensures.step; faulted = c.step_cells.ensures.faulted; no_blocks = c.step_cells.ensures.no_blocks; numbers = c.step_cells.ensures.numbers })

pub bounds-front-own : goal.bounds-front-own
bounds-front-own g c =
    let apart = beside_apart (g.B.PageStore.held c.args.store.now) c.args.cells.now c.requires.may.orderly c.args.me c.requires.planned.0 c.args.other c.requires.planned.1 (omega (arith, c.number-2.ensures.number, c.number-2.ensures.small)) in
    let higher : c.number.result < c.number-2.result = above c.number.result c.number-2.result c.if-named-own.false (λ same. apart (sym c.number-2.ensures.number ∙ same ∙ c.number.ensures.number)) in
    omega (arith, higher, c.split_at_mut-front-2.ensures.front_len)

pub step_cells-requires-2-clause-may : goal.step_cells-requires-2-clause-may
step_cells-requires-2-clause-may g c =
    let cs = c.args.cells.now in
    let i = c.requires.planned.0 in
    let planned = c.requires.planned.1 in
    let count = c.requires.may.orderly.numbers.len in
    let parts = c.split_at_mut-front-2 in
    let front = parts.result.0.now in
    let back = parts.result.1.now in
    let apart = beside_apart (g.B.PageStore.held c.args.store.now) cs c.requires.may.orderly c.args.me i c.args.other planned (omega (arith, c.number-2.ensures.number, c.number-2.ensures.small)) in
    let higher : c.number.result < c.number-2.result = above c.number.result c.number-2.result c.if-named-own.false (λ same. apart (sym c.number-2.ensures.number ∙ same ∙ c.number.ensures.number)) in
    let a = get_or front c.number.result c.index-front-own.result in
    let o = get_or back 0 c.index-back-0-2.result in
    let is_a : slice_get cs c.args.me ≡ Some (get_or c.split_at_mut-front-2.result.0.now c.number.result c.index-front-own.result) =
    ap (slice_get cs) (sym c.number.ensures.number) ∙ read_front cs front back c.number-2.result c.number.result c.index-front-own.result parts.ensures.value parts.ensures.front_len higher in
    let is_o : slice_get cs c.args.other ≡ Some (get_or c.split_at_mut-front-2.result.1.now 0 c.index-back-0-2.result) =
    ap (slice_get cs) (sym c.number-2.ensures.number) ∙ read_back cs front back c.number-2.result c.index-back-0-2.result parts.ensures.value parts.ensures.front_len (omega (arith, count, c.number-2.ensures.small)) in
    other_may g.B.PageStore g.met.B.PageStore.stays (g.S.Supplier.word c.args.gate.now.supply) cs c.args.store.now c.requires.may c.args.me a is_a c.args.other i o is_o planned c.requires.apart

pub returns : goal.returns
returns g c =
    let cs = c.args.cells.now in
    let i = c.requires.planned.0 in
    let planned = c.requires.planned.1 in
    let count = c.requires.may.orderly.numbers.len in
    let parts = c.split_at_mut-front-2 in
    let front = parts.result.0.now in
    let back = parts.result.1.now in
    let apart = beside_apart (g.B.PageStore.held c.args.store.now) cs c.requires.may.orderly c.args.me i c.args.other planned (omega (arith, c.number-2.ensures.number, c.number-2.ensures.small)) in
    let higher : c.number.result < c.number-2.result = above c.number.result c.number-2.result c.if-named-own.false (λ same. apart (sym c.number-2.ensures.number ∙ same ∙ c.number.ensures.number)) in
    let a = get_or front c.number.result c.index-front-own.result in
    let o = get_or back 0 c.index-back-0-2.result in
    let is_a : slice_get cs c.args.me ≡ Some (get_or c.split_at_mut-front-2.result.0.now c.number.result c.index-front-own.result) =
    ap (slice_get cs) (sym c.number.ensures.number) ∙ read_front cs front back c.number-2.result c.number.result c.index-front-own.result parts.ensures.value parts.ensures.front_len higher in
    let is_o : slice_get cs c.args.other ≡ Some (get_or c.split_at_mut-front-2.result.1.now 0 c.index-back-0-2.result) =
    ap (slice_get cs) (sym c.number-2.ensures.number) ∙ read_back cs front back c.number-2.result c.index-back-0-2.result parts.ensures.value parts.ensures.front_len (omega (arith, count, c.number-2.ensures.small)) in
    let numbers = c.requires.may.orderly.numbers in
    let a' = c.step_cells-2.new.locus in
    let o' = c.step_cells-2.new.other.0 in
    other_done g.B.PageStore g.met.B.PageStore.stays (g.S.Supplier.word c.args.gate.now.supply) cs c.args.store.now c.requires.may c.args.me a is_a c.args.other i o is_o planned c.requires.apart a' o' (slice_set front c.number.result a' ++ slice_set back 0 o')
    (back_low cs front back a a' o o' c.number.result c.number-2.result (numbers.each c.args.me a is_a ∙ sym c.number.ensures.number) (numbers.each c.args.other o is_o ∙ sym c.number-2.ensures.number) parts.ensures.value parts.ensures.front_len higher)
    c.step_cells-2.result (record { idle = c.step_cells-2.ensures.idle; still = c.step_cells-2.ensures.still; step = c.step_cells-2.ensures.step; faulted = c.step_cells-2.ensures.faulted; no_blocks = c.step_cells-2.ensures.no_blocks; numbers = c.step_cells-2.ensures.numbers })
