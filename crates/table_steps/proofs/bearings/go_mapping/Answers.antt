use Rattle.std.proofs.Common.{◌≡◌, [], ◌∷◌, ◌++◌, slice_get, slice_set, get_or, Some, sym, ap, ◌∙◌, arith}
use Rattle.std.proofs.lemmas.Option.{slice_get-get_or}
use Rattle.table_laws.specs.cell_plans.declared.plans.Reach.TheVariants as reach
use Rattle.table_laws.proofs.Facing.{cells}
use Rattle.table_laws.proofs.FacingAtlas.{faces_mapping, mapping_between}
use Rattle.table_laws.proofs.Pairs.{kept_goes}
use Rattle.table_laws.proofs.Places.{read_back, read_first, read_middle, set_three, write_three}
use Rattle.table_laws.proofs.Triples.{StandAt, lends_three, three_quiet}
use Rattle.table_steps.proofs.bearings.go_mapping.Goals as goal

pub split_at_mut-first-requires : goal.split_at_mut-first-requires
split_at_mut-first-requires c =
    let cs = c.args.cells.now in
    let held = c.requires.order.held in
    let orderly = c.requires.order.orderly in
    let count = orderly.numbers.len in
    let between = mapping_between held cs orderly c.args.me c.args.other c.args.instr (get_or cs c.args.me c.requires.planned.cell) (get_or cs 0 c.requires.planned.cell) (get_or cs c.args.other c.requires.planned.cell) c.requires.planned
    (slice_get-get_or cs c.args.me c.requires.planned.cell (omega (arith, c.number.ensures.number, c.number.ensures.small)))
    (slice_get-get_or cs 0 c.requires.planned.cell (omega arith))
    (slice_get-get_or cs c.args.other c.requires.planned.cell (omega (arith, c.number-2.ensures.number, c.number-2.ensures.small))) in
    omega (arith, between.1)

pub bounds-first-0 : goal.bounds-first-0
bounds-first-0 c =
    let cs = c.args.cells.now in
    let held = c.requires.order.held in
    let orderly = c.requires.order.orderly in
    let count = orderly.numbers.len in
    let between = mapping_between held cs orderly c.args.me c.args.other c.args.instr (get_or cs c.args.me c.requires.planned.cell) (get_or cs 0 c.requires.planned.cell) (get_or cs c.args.other c.requires.planned.cell) c.requires.planned
    (slice_get-get_or cs c.args.me c.requires.planned.cell (omega (arith, c.number.ensures.number, c.number.ensures.small)))
    (slice_get-get_or cs 0 c.requires.planned.cell (omega arith))
    (slice_get-get_or cs c.args.other c.requires.planned.cell (omega (arith, c.number-2.ensures.number, c.number-2.ensures.small))) in
    omega (arith, between.0)

pub bounds-rest-0 : goal.bounds-rest-0
bounds-rest-0 c =
    let cs = c.args.cells.now in
    let held = c.requires.order.held in
    let orderly = c.requires.order.orderly in
    let count = orderly.numbers.len in
    let between = mapping_between held cs orderly c.args.me c.args.other c.args.instr (get_or cs c.args.me c.requires.planned.cell) (get_or cs 0 c.requires.planned.cell) (get_or cs c.args.other c.requires.planned.cell) c.requires.planned
    (slice_get-get_or cs c.args.me c.requires.planned.cell (omega (arith, c.number.ensures.number, c.number.ensures.small)))
    (slice_get-get_or cs 0 c.requires.planned.cell (omega arith))
    (slice_get-get_or cs c.args.other c.requires.planned.cell (omega (arith, c.number-2.ensures.number, c.number-2.ensures.small))) in
    omega (arith, between.1)

pub advance_mapping-requires : goal.advance_mapping-requires
advance_mapping-requires c =
    let cs = c.args.cells.now in
    let held = c.requires.order.held in
    let orderly = c.requires.order.orderly in
    let count = orderly.numbers.len in
    let between = mapping_between held cs orderly c.args.me c.args.other c.args.instr (get_or cs c.args.me c.requires.planned.cell) (get_or cs 0 c.requires.planned.cell) (get_or cs c.args.other c.requires.planned.cell) c.requires.planned
    (slice_get-get_or cs c.args.me c.requires.planned.cell (omega (arith, c.number.ensures.number, c.number.ensures.small)))
    (slice_get-get_or cs 0 c.requires.planned.cell (omega arith))
    (slice_get-get_or cs c.args.other c.requires.planned.cell (omega (arith, c.number-2.ensures.number, c.number-2.ensures.small))) in
    let parts = c.split_at_mut-front in
    let low = c.split_at_mut-first in
    let front = parts.result.0.now in
    let back = parts.result.1.now in
    let first = low.result.0.now in
    let rest = low.result.1.now in
    let a = get_or back 0 c.index-back-0.result in
    let k = get_or first 0 c.index-first-0.result in
    let b = get_or rest 0 c.index-rest-0.result in
    let is_a : slice_get cs c.args.me ≡ Some (get_or c.split_at_mut-front.result.1.now 0 c.index-back-0.result) =
    ap (slice_get cs) (sym c.number.ensures.number) ∙ read_back cs front back c.number.result c.index-back-0.result parts.ensures.value parts.ensures.front_len (omega arith) in
    let is_k : slice_get cs 0 ≡ Some (get_or c.split_at_mut-first.result.0.now 0 c.index-first-0.result) =
    read_first cs front back first rest c.number.result c.number-2.result 0 c.index-first-0.result parts.ensures.value parts.ensures.front_len low.ensures.value low.ensures.front_len (omega (arith, between.0)) (omega (arith, between.1)) in
    let is_b : slice_get cs c.args.other ≡ Some (get_or c.split_at_mut-first.result.1.now 0 c.index-rest-0.result) =
    ap (slice_get cs) (sym c.number-2.ensures.number) ∙ read_middle cs front back first rest c.number.result c.number-2.result c.index-rest-0.result parts.ensures.value parts.ensures.front_len low.ensures.value low.ensures.front_len (omega (arith, between.1)) in
    let faces = faces_mapping held cs orderly c.args.me c.args.other c.args.instr a k b c.requires.few c.requires.planned is_a is_k is_b in
    record { planned = faces.planned; may = faces.may; atlas = faces.atlas; some = faces.some; lower = faces.lower; few = faces.few }

pub returns : goal.returns
returns c =
    let cs = c.args.cells.now in
    let held = c.requires.order.held in
    let orderly = c.requires.order.orderly in
    let count = orderly.numbers.len in
    let between = mapping_between held cs orderly c.args.me c.args.other c.args.instr (get_or cs c.args.me c.requires.planned.cell) (get_or cs 0 c.requires.planned.cell) (get_or cs c.args.other c.requires.planned.cell) c.requires.planned
    (slice_get-get_or cs c.args.me c.requires.planned.cell (omega (arith, c.number.ensures.number, c.number.ensures.small)))
    (slice_get-get_or cs 0 c.requires.planned.cell (omega arith))
    (slice_get-get_or cs c.args.other c.requires.planned.cell (omega (arith, c.number-2.ensures.number, c.number-2.ensures.small))) in
    let parts = c.split_at_mut-front in
    let low = c.split_at_mut-first in
    let front = parts.result.0.now in
    let back = parts.result.1.now in
    let first = low.result.0.now in
    let rest = low.result.1.now in
    let a = get_or back 0 c.index-back-0.result in
    let k = get_or first 0 c.index-first-0.result in
    let b = get_or rest 0 c.index-rest-0.result in
    let is_a : slice_get cs c.args.me ≡ Some (get_or c.split_at_mut-front.result.1.now 0 c.index-back-0.result) =
    ap (slice_get cs) (sym c.number.ensures.number) ∙ read_back cs front back c.number.result c.index-back-0.result parts.ensures.value parts.ensures.front_len (omega arith) in
    let is_k : slice_get cs 0 ≡ Some (get_or c.split_at_mut-first.result.0.now 0 c.index-first-0.result) =
    read_first cs front back first rest c.number.result c.number-2.result 0 c.index-first-0.result parts.ensures.value parts.ensures.front_len low.ensures.value low.ensures.front_len (omega (arith, between.0)) (omega (arith, between.1)) in
    let is_b : slice_get cs c.args.other ≡ Some (get_or c.split_at_mut-first.result.1.now 0 c.index-rest-0.result) =
    ap (slice_get cs) (sym c.number-2.ensures.number) ∙ read_middle cs front back first rest c.number.result c.number-2.result c.index-rest-0.result parts.ensures.value parts.ensures.front_len low.ensures.value low.ensures.front_len (omega (arith, between.1)) in
    let faces = faces_mapping held cs orderly c.args.me c.args.other c.args.instr a k b c.requires.few c.requires.planned is_a is_k is_b in
    let mid = c.advance_mapping.new in
    let made = c.advance_mapping.ensures in
    let cs' = (slice_set first 0 mid.atlas ++ slice_set rest 0 mid.other) ++ slice_set back 0 mid.locus in
    let sets = set_three cs cs' 0 c.number-2.result c.number.result mid.atlas mid.other mid.locus
    (write_three cs front back first rest c.number.result c.number-2.result 0 mid.atlas mid.other mid.locus parts.ensures.value parts.ensures.front_len low.ensures.value low.ensures.front_len (omega (arith, between.0)) (omega (arith, between.1)))
    (omega (arith, between.0)) (omega (arith, between.1)) (omega arith) in
    let at : StandAt cs cs' a k b mid.locus mid.atlas mid.other c.args.me 0 c.args.other = record {
      len = sets.len;
      was_a = is_a;
      was_k = is_k;
      was_b = is_b;
      is_a = ap (slice_get cs') (sym c.number.ensures.number) ∙ sets.third;
      is_k = sets.first;
      is_b = ap (slice_get cs') (sym c.number-2.ensures.number) ∙ sets.second;
      others = λ n x z y. sets.others n z (λ e. y (e ∙ c.number-2.ensures.number)) (λ e. x (e ∙ c.number.ensures.number));
    } in
    let lends = lends_three held cs cs' a k b mid.locus mid.atlas mid.other c.args.me 0 c.args.other orderly at made.entities.0 made.entities.1 made.entities.2 in
    let at_a = orderly.numbers.each c.args.me a is_a in
    let at_b = orderly.numbers.each c.args.other b is_b in
    three_quiet held cs orderly c.args.me c.args.instr (reach.Mapping c.args.other) c.requires.planned cs' c.advance_mapping.result a k b mid.locus mid.atlas mid.other c.args.other at lends made.step
    (kept_goes held cs orderly a.clock.entity cs' (a ∷ k ∷ b ∷ []) (mid.locus ∷ mid.atlas ∷ mid.other ∷ []) c.advance_mapping.result made.step lends c.args.other b mid.other at.is_b (made.entities.2 ∙ at_b)
    (λ none. faces.born (ap (cells held cs orderly) at_b ∙ none)) made.memory)
