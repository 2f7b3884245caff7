use Rattle.std.proofs.Common.{◌≡◌, ◌++◌, slice_get, slice_set, get_or, Some, sym, ap, ◌∙◌, arith}
use Rattle.table_laws.proofs.Facing.{faces_other}
use Rattle.table_laws.proofs.Pairs.{beside_quiet, lends_low}
use Rattle.table_laws.proofs.Places.{read_back, read_front, set_two, write_two}
use Rattle.table_steps.proofs.besides.go_beside_higher.Goals as goal

pub advance_beside-requires : goal.advance_beside-requires
advance_beside-requires c =
    let cs = c.args.cells.now in
    let parts = c.split_at_mut-front in
    let a = get_or c.split_at_mut-front.result.0.now c.number-2.result c.index-front-number.result in
    let b = get_or c.split_at_mut-front.result.1.now 0 c.index-back-0.result in
    let is_front : slice_get cs c.args.me ≡ Some (get_or c.split_at_mut-front.result.0.now c.number-2.result c.index-front-number.result) =
    ap (slice_get cs) (sym c.number-2.ensures.number) ∙ read_front cs parts.result.0.now parts.result.1.now c.number.result c.number-2.result c.index-front-number.result parts.ensures.value parts.ensures.front_len (omega arith) in
    let is_back : slice_get cs c.args.other ≡ Some (get_or c.split_at_mut-front.result.1.now 0 c.index-back-0.result) =
    ap (slice_get cs) (sym c.number.ensures.number) ∙ read_back cs parts.result.0.now parts.result.1.now c.number.result c.index-back-0.result parts.ensures.value parts.ensures.front_len (omega arith) in
    let faces = faces_other c.requires.order.held cs c.requires.order.orderly c.args.me c.args.other c.args.instr c.requires.few c.requires.planned a b is_front is_back in
    record { planned = faces.planned; fits = faces.fits; apart = faces.apart; few = faces.few }

pub returns : goal.returns
returns c =
    let cs = c.args.cells.now in
    let parts = c.split_at_mut-front in
    let a = get_or c.split_at_mut-front.result.0.now c.number-2.result c.index-front-number.result in
    let b = get_or c.split_at_mut-front.result.1.now 0 c.index-back-0.result in
    let is_front : slice_get cs c.args.me ≡ Some (get_or c.split_at_mut-front.result.0.now c.number-2.result c.index-front-number.result) =
    ap (slice_get cs) (sym c.number-2.ensures.number) ∙ read_front cs parts.result.0.now parts.result.1.now c.number.result c.number-2.result c.index-front-number.result parts.ensures.value parts.ensures.front_len (omega arith) in
    let is_back : slice_get cs c.args.other ≡ Some (get_or c.split_at_mut-front.result.1.now 0 c.index-back-0.result) =
    ap (slice_get cs) (sym c.number.ensures.number) ∙ read_back cs parts.result.0.now parts.result.1.now c.number.result c.index-back-0.result parts.ensures.value parts.ensures.front_len (omega arith) in
    let faces = faces_other c.requires.order.held cs c.requires.order.orderly c.args.me c.args.other c.args.instr c.requires.few c.requires.planned a b is_front is_back in
    let made = c.advance_beside.ensures in
    let numbers = c.requires.order.orderly.numbers in
    let mid = c.advance_beside.new in
    let cs' = slice_set parts.result.0.now c.number-2.result mid.locus ++ slice_set parts.result.1.now 0 mid.other in
    let sets = set_two cs cs' c.number-2.result c.number.result mid.locus mid.other
    (write_two cs parts.result.0.now parts.result.1.now c.number.result c.number-2.result mid.locus mid.other parts.ensures.value parts.ensures.front_len (omega arith)) (omega arith) (omega arith) in
    let lends = lends_low cs cs' a b mid.locus mid.other c.number-2.result c.number.result sets
    (ap (slice_get cs) c.number-2.ensures.number ∙ is_front) (ap (slice_get cs) c.number.ensures.number ∙ is_back)
    (numbers.each c.args.me a is_front ∙ sym c.number-2.ensures.number) (numbers.each c.args.other b is_back ∙ sym c.number.ensures.number) made.entities.0 made.entities.1 in
    beside_quiet c.requires.order.held cs c.requires.order.orderly c.args.me c.args.other c.args.instr c.requires.planned a b mid.locus mid.other cs' c.advance_beside.result is_front is_back faces.fits made.step lends made.memory
