use Rattle.std.proofs.Common.{◌≡◌, ◌<◌, ◌++◌, get_or, slice_get, slice_set, Some, sym, ap, ◌∙◌, arith}
use Rattle.thread_cell_steps.proofs.table_laws_lemmas.Places.{read_back, read_first, read_middle}
use Rattle.thread_step_clients.proofs.Back.{above, back_highest, back_middle}
use Rattle.thread_step_clients.proofs.Named.{both_apart, both_done, both_may}
use Rattle.thread_step_clients.proofs.lending.lend_both.Goals as goal

pub bounds-first-0 : goal.bounds-first-0
bounds-first-0 g c =
    let small : c.args.other < 64 = omega (arith, c.number-2.ensures.number, c.number-2.ensures.small) in
    let apart = both_apart (g.B.PageStore.held c.args.store.now) c.args.cells.now c.requires.may.orderly c.args.me c.args.other c.requires.touches small in
    omega (arith, apart.1, c.number-2.ensures.number, c.split_at_mut-first.ensures.front_len)

pub step_cells-requires-clause-may : goal.step_cells-requires-clause-may
step_cells-requires-clause-may g c =
    let cs = c.args.cells.now in
    let t = c.requires.touches in
    let count = c.requires.may.orderly.numbers.len in
    let small : c.args.other < 64 = omega (arith, c.number-2.ensures.number, c.number-2.ensures.small) in
    let apart = both_apart (g.B.PageStore.held c.args.store.now) cs c.requires.may.orderly c.args.me c.args.other t small in
    let parts = c.split_at_mut-front in
    let low = c.split_at_mut-first in
    let front = parts.result.0.now in
    let back = parts.result.1.now in
    let first = low.result.0.now in
    let rest = low.result.1.now in
    let some : 0 < c.number-2.result = omega (arith, apart.1, c.number-2.ensures.number) in
    let a = get_or back 0 c.index-back-0.result in
    let k = get_or first 0 c.index-first-0.result in
    let o = get_or rest 0 c.index-rest-0.result in
    let is_a : slice_get cs c.args.me ≡ Some (get_or c.split_at_mut-front.result.1.now 0 c.index-back-0.result) =
    ap (slice_get cs) (sym c.number.ensures.number) ∙ read_back cs front back c.number.result c.index-back-0.result parts.ensures.value parts.ensures.front_len (omega (arith, count, c.number.ensures.small)) in
    let is_k : slice_get cs 0 ≡ Some (get_or c.split_at_mut-first.result.0.now 0 c.index-first-0.result) =
    read_first cs front back first rest c.number.result c.number-2.result 0 c.index-first-0.result parts.ensures.value parts.ensures.front_len low.ensures.value low.ensures.front_len some c.if-named-own.true in
    let is_o : slice_get cs c.args.other ≡ Some (get_or c.split_at_mut-first.result.1.now 0 c.index-rest-0.result) =
    ap (slice_get cs) (sym c.number-2.ensures.number) ∙ read_middle cs front back first rest c.number.result c.number-2.result c.index-rest-0.result parts.ensures.value parts.ensures.front_len low.ensures.value low.ensures.front_len c.if-named-own.true in
    both_may g.B.PageStore g.met.B.PageStore.stays (g.S.Supplier.word c.args.gate.now.supply) cs c.args.store.now c.requires.may c.args.me a is_a c.args.other t k o is_k is_o

pub returns-then-named-own : goal.returns-then-named-own
returns-then-named-own g c =
    let cs = c.args.cells.now in
    let t = c.requires.touches in
    let count = c.requires.may.orderly.numbers.len in
    let small : c.args.other < 64 = omega (arith, c.number-2.ensures.number, c.number-2.ensures.small) in
    let apart = both_apart (g.B.PageStore.held c.args.store.now) cs c.requires.may.orderly c.args.me c.args.other t small in
    let parts = c.split_at_mut-front in
    let low = c.split_at_mut-first in
    let front = parts.result.0.now in
    let back = parts.result.1.now in
    let first = low.result.0.now in
    let rest = low.result.1.now in
    let some : 0 < c.number-2.result = omega (arith, apart.1, c.number-2.ensures.number) in
    let a = get_or back 0 c.index-back-0.result in
    let k = get_or first 0 c.index-first-0.result in
    let o = get_or rest 0 c.index-rest-0.result in
    let is_a : slice_get cs c.args.me ≡ Some (get_or c.split_at_mut-front.result.1.now 0 c.index-back-0.result) =
    ap (slice_get cs) (sym c.number.ensures.number) ∙ read_back cs front back c.number.result c.index-back-0.result parts.ensures.value parts.ensures.front_len (omega (arith, count, c.number.ensures.small)) in
    let is_k : slice_get cs 0 ≡ Some (get_or c.split_at_mut-first.result.0.now 0 c.index-first-0.result) =
    read_first cs front back first rest c.number.result c.number-2.result 0 c.index-first-0.result parts.ensures.value parts.ensures.front_len low.ensures.value low.ensures.front_len some c.if-named-own.true in
    let is_o : slice_get cs c.args.other ≡ Some (get_or c.split_at_mut-first.result.1.now 0 c.index-rest-0.result) =
    ap (slice_get cs) (sym c.number-2.ensures.number) ∙ read_middle cs front back first rest c.number.result c.number-2.result c.index-rest-0.result parts.ensures.value parts.ensures.front_len low.ensures.value low.ensures.front_len c.if-named-own.true in
    let numbers = c.requires.may.orderly.numbers in
    let a' = c.step_cells.new.locus in
    let k' = c.step_cells.new.atlas.0 in
    let o' = c.step_cells.new.other.0 in
    both_done g.B.PageStore g.met.B.PageStore.stays (g.S.Supplier.word c.args.gate.now.supply) cs c.args.store.now c.requires.may c.args.me a is_a c.args.other t k o is_k is_o a' k' o' ((slice_set first 0 k' ++ slice_set rest 0 o') ++ slice_set back 0 a')
    (back_highest cs front back first rest a a' k k' o o' c.number.result c.number-2.result (numbers.each c.args.me a is_a ∙ sym c.number.ensures.number) (numbers.each 0 k is_k) (numbers.each c.args.other o is_o ∙ sym c.number-2.ensures.number)
    parts.ensures.value low.ensures.value parts.ensures.front_len low.ensures.front_len some c.if-named-own.true)
    c.step_cells.result (record { idle = c.step_cells.ensures.idle; still = c.step_cells.ensures.still; step = c.step_cells.ensures.step; faulted = c.step_cells.ensures.faulted; no_blocks = c.step_cells.ensures.no_blocks; numbers = c.step_cells.ensures.numbers })

pub bounds-rest-0-2 : goal.bounds-rest-0-2
bounds-rest-0-2 g c =
    let small : c.args.other < 64 = omega (arith, c.number-2.ensures.number, c.number-2.ensures.small) in
    let apart = both_apart (g.B.PageStore.held c.args.store.now) c.args.cells.now c.requires.may.orderly c.args.me c.args.other c.requires.touches small in
    let higher : c.number.result < c.number-2.result = above c.number.result c.number-2.result c.if-named-own.false (λ same. apart.2 (sym c.number.ensures.number ∙ sym same ∙ c.number-2.ensures.number)) in
    omega (arith, higher, c.split_at_mut-front-2.ensures.front_len, c.split_at_mut-first-2.ensures.back_len)

pub step_cells-requires-2-clause-may : goal.step_cells-requires-2-clause-may
step_cells-requires-2-clause-may g c =
    let cs = c.args.cells.now in
    let t = c.requires.touches in
    let count = c.requires.may.orderly.numbers.len in
    let small : c.args.other < 64 = omega (arith, c.number-2.ensures.number, c.number-2.ensures.small) in
    let apart = both_apart (g.B.PageStore.held c.args.store.now) cs c.requires.may.orderly c.args.me c.args.other t small in
    let parts = c.split_at_mut-front-2 in
    let low = c.split_at_mut-first-2 in
    let front = parts.result.0.now in
    let back = parts.result.1.now in
    let first = low.result.0.now in
    let rest = low.result.1.now in
    let some : 0 < c.number.result = omega (arith, apart.0, c.number.ensures.number) in
    let higher : c.number.result < c.number-2.result = above c.number.result c.number-2.result c.if-named-own.false (λ same. apart.2 (sym c.number.ensures.number ∙ sym same ∙ c.number-2.ensures.number)) in
    let a = get_or rest 0 c.index-rest-0-2.result in
    let k = get_or first 0 c.index-first-0-2.result in
    let o = get_or back 0 c.index-back-0-2.result in
    let is_a : slice_get cs c.args.me ≡ Some (get_or c.split_at_mut-first-2.result.1.now 0 c.index-rest-0-2.result) =
    ap (slice_get cs) (sym c.number.ensures.number) ∙ read_middle cs front back first rest c.number-2.result c.number.result c.index-rest-0-2.result parts.ensures.value parts.ensures.front_len low.ensures.value low.ensures.front_len higher in
    let is_k : slice_get cs 0 ≡ Some (get_or c.split_at_mut-first-2.result.0.now 0 c.index-first-0-2.result) =
    read_first cs front back first rest c.number-2.result c.number.result 0 c.index-first-0-2.result parts.ensures.value parts.ensures.front_len low.ensures.value low.ensures.front_len some higher in
    let is_o : slice_get cs c.args.other ≡ Some (get_or c.split_at_mut-front-2.result.1.now 0 c.index-back-0-2.result) =
    ap (slice_get cs) (sym c.number-2.ensures.number) ∙ read_back cs front back c.number-2.result c.index-back-0-2.result parts.ensures.value parts.ensures.front_len (omega (arith, count, c.number-2.ensures.small)) in
    both_may g.B.PageStore g.met.B.PageStore.stays (g.S.Supplier.word c.args.gate.now.supply) cs c.args.store.now c.requires.may c.args.me a is_a c.args.other t k o is_k is_o

pub returns : goal.returns
returns g c =
    let cs = c.args.cells.now in
    let t = c.requires.touches in
    let count = c.requires.may.orderly.numbers.len in
    let small : c.args.other < 64 = omega (arith, c.number-2.ensures.number, c.number-2.ensures.small) in
    let apart = both_apart (g.B.PageStore.held c.args.store.now) cs c.requires.may.orderly c.args.me c.args.other t small in
    let parts = c.split_at_mut-front-2 in
    let low = c.split_at_mut-first-2 in
    let front = parts.result.0.now in
    let back = parts.result.1.now in
    let first = low.result.0.now in
    let rest = low.result.1.now in
    let some : 0 < c.number.result = omega (arith, apart.0, c.number.ensures.number) in
    let higher : c.number.result < c.number-2.result = above c.number.result c.number-2.result c.if-named-own.false (λ same. apart.2 (sym c.number.ensures.number ∙ sym same ∙ c.number-2.ensures.number)) in
    let a = get_or rest 0 c.index-rest-0-2.result in
    let k = get_or first 0 c.index-first-0-2.result in
    let o = get_or back 0 c.index-back-0-2.result in
    let is_a : slice_get cs c.args.me ≡ Some (get_or c.split_at_mut-first-2.result.1.now 0 c.index-rest-0-2.result) =
    ap (slice_get cs) (sym c.number.ensures.number) ∙ read_middle cs front back first rest c.number-2.result c.number.result c.index-rest-0-2.result parts.ensures.value parts.ensures.front_len low.ensures.value low.ensures.front_len higher in
    let is_k : slice_get cs 0 ≡ Some (get_or c.split_at_mut-first-2.result.0.now 0 c.index-first-0-2.result) =
    read_first cs front back first rest c.number-2.result c.number.result 0 c.index-first-0-2.result parts.ensures.value parts.ensures.front_len low.ensures.value low.ensures.front_len some higher in
    let is_o : slice_get cs c.args.other ≡ Some (get_or c.split_at_mut-front-2.result.1.now 0 c.index-back-0-2.result) =
    ap (slice_get cs) (sym c.number-2.ensures.number) ∙ read_back cs front back c.number-2.result c.index-back-0-2.result parts.ensures.value parts.ensures.front_len (omega (arith, count, c.number-2.ensures.small)) in
    let numbers = c.requires.may.orderly.numbers in
    let a' = c.step_cells-2.new.locus in
    let k' = c.step_cells-2.new.atlas.0 in
    let o' = c.step_cells-2.new.other.0 in
    both_done g.B.PageStore g.met.B.PageStore.stays (g.S.Supplier.word c.args.gate.now.supply) cs c.args.store.now c.requires.may c.args.me a is_a c.args.other t k o is_k is_o a' k' o' ((slice_set first 0 k' ++ slice_set rest 0 a') ++ slice_set back 0 o')
    (back_middle cs front back first rest a a' k k' o o' c.number.result c.number-2.result (numbers.each c.args.me a is_a ∙ sym c.number.ensures.number) (numbers.each 0 k is_k) (numbers.each c.args.other o is_o ∙ sym c.number-2.ensures.number)
    parts.ensures.value low.ensures.value parts.ensures.front_len low.ensures.front_len some higher)
    c.step_cells-2.result (record { idle = c.step_cells-2.ensures.idle; still = c.step_cells-2.ensures.still; step = c.step_cells-2.ensures.step; faulted = c.step_cells-2.ensures.faulted; no_blocks = c.step_cells-2.ensures.no_blocks; numbers = c.step_cells-2.ensures.numbers })
