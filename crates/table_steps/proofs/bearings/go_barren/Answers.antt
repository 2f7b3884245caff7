use Rattle.std.proofs.Common.{◌≡◌, ◌++◌, ◌<◌, slice_get, slice_set, get_or, Some, sym, ap, ◌∙◌, arith}
use Rattle.table_laws.proofs.Barren.{faces_barren, planned_barren}
use Rattle.table_laws.proofs.Facing.{high_at}
use Rattle.table_laws.proofs.Pairs.{lends_high}
use Rattle.table_laws.proofs.Places.{read_back, read_front, set_two, write_two}
use Rattle.table_laws.proofs.Triples.{two_quiet}
use Rattle.table_steps.proofs.bearings.go_barren.Goals as goal

pub advance_barren-requires : goal.advance_barren-requires
advance_barren-requires c =
    let cs = c.args.cells.now in
    let held = c.requires.order.held in
    let orderly = c.requires.order.orderly in
    let count = orderly.numbers.len in
    let plans = planned_barren cs c.args.me c.args.instr c.requires.wants in
    let p = plans.1.plan in
    let high : 40 < c.args.me = high_at held cs orderly c.args.me plans.1.cell p.locus plans.1.is p.runs.is in
    let parts = c.split_at_mut-front in
    let front = parts.result.0.now in
    let back = parts.result.1.now in
    let a = get_or back 0 c.index-back-0.result in
    let k = get_or front 0 c.index-front-0.result in
    let is_a : slice_get cs c.args.me ≡ Some (get_or c.split_at_mut-front.result.1.now 0 c.index-back-0.result) =
    ap (slice_get cs) (sym c.number.ensures.number) ∙ read_back cs front back c.number.result c.index-back-0.result parts.ensures.value parts.ensures.front_len (omega arith) in
    let is_k : slice_get cs 0 ≡ Some (get_or c.split_at_mut-front.result.0.now 0 c.index-front-0.result) =
    read_front cs front back c.number.result 0 c.index-front-0.result parts.ensures.value parts.ensures.front_len (omega (arith, high)) in
    let faces = faces_barren held cs orderly c.args.me c.args.instr a k c.requires.few is_a is_k c.requires.wants in
    record { wants = faces.wants; left = faces.left; atlas = faces.atlas; some = faces.some; few = faces.few }

pub returns : goal.returns
returns c =
    let cs = c.args.cells.now in
    let held = c.requires.order.held in
    let orderly = c.requires.order.orderly in
    let count = orderly.numbers.len in
    let plans = planned_barren cs c.args.me c.args.instr c.requires.wants in
    let p = plans.1.plan in
    let high : 40 < c.args.me = high_at held cs orderly c.args.me plans.1.cell p.locus plans.1.is p.runs.is in
    let parts = c.split_at_mut-front in
    let front = parts.result.0.now in
    let back = parts.result.1.now in
    let a = get_or back 0 c.index-back-0.result in
    let k = get_or front 0 c.index-front-0.result in
    let is_a : slice_get cs c.args.me ≡ Some (get_or c.split_at_mut-front.result.1.now 0 c.index-back-0.result) =
    ap (slice_get cs) (sym c.number.ensures.number) ∙ read_back cs front back c.number.result c.index-back-0.result parts.ensures.value parts.ensures.front_len (omega arith) in
    let is_k : slice_get cs 0 ≡ Some (get_or c.split_at_mut-front.result.0.now 0 c.index-front-0.result) =
    read_front cs front back c.number.result 0 c.index-front-0.result parts.ensures.value parts.ensures.front_len (omega (arith, high)) in
    let mid = c.advance_barren.new in
    let made = c.advance_barren.ensures in
    let cs' = slice_set front 0 mid.atlas ++ slice_set back 0 mid.locus in
    let sets = set_two cs cs' 0 c.number.result mid.atlas mid.locus
    (write_two cs front back c.number.result 0 mid.atlas mid.locus parts.ensures.value parts.ensures.front_len (omega (arith, high))) (omega (arith, high)) (omega arith) in
    let at_a = orderly.numbers.each c.args.me a is_a in
    let at_k = orderly.numbers.each 0 k is_k in
    let lends = lends_high cs cs' a k mid.locus mid.atlas 0 c.number.result sets (ap (slice_get cs) c.number.ensures.number ∙ is_a) is_k (at_a ∙ sym c.number.ensures.number) at_k made.entities.0 made.entities.1 in
    two_quiet held cs orderly c.args.me c.args.instr plans.0 plans.1 cs' c.advance_barren.result a k mid.locus mid.atlas is_a is_k (ap (slice_get cs') (sym c.number.ensures.number) ∙ sets.second) sets.first lends made.step
