use Rattle.std.proofs.Common.{◌≡◌, ◌++◌, ◌<◌, slice_get, slice_set, get_or, Some, sym, ap, ◌∙◌, arith}
use Rattle.table_laws.specs.cell_plans.declared.plans.Reach.TheVariants as reach
use Rattle.table_laws.proofs.Facing.{high_at, plan_of}
use Rattle.table_laws.proofs.FacingAtlas.{directory_is, spawning_above}
use Rattle.table_laws.proofs.Places.{read_back, read_first, read_middle, set_three, write_three}
use Rattle.table_laws.proofs.Triples.{StandAt, lends_three, spawned_goes, three_quiet}
use Rattle.table_steps.proofs.bearings.go_spawning_at.Goals as goal

pub split_at_mut-first-requires : goal.split_at_mut-first-requires
split_at_mut-first-requires c =
    let cs = c.args.cells.now in
    let held = c.requires.order.held in
    let orderly = c.requires.order.orderly in
    let count = orderly.numbers.len in
    let d = c.requires.free.0 in
    let has = c.requires.free.1 in
    let room = c.requires.free.2 in
    let number = c.requires.free.3 in
    let above = spawning_above held cs orderly c.args.me d c.requires.planned.cell c.args.instr reach.Spawn has c.requires.planned c.requires.planned.is in
    let p = c.requires.planned.plan in
    let high : 40 < c.args.me = high_at held cs orderly c.args.me c.requires.planned.cell p.locus c.requires.planned.is p.runs.is in
    omega (arith, number, above)

pub bounds-rest-0 : goal.bounds-rest-0
bounds-rest-0 c =
    let cs = c.args.cells.now in
    let held = c.requires.order.held in
    let orderly = c.requires.order.orderly in
    let count = orderly.numbers.len in
    let d = c.requires.free.0 in
    let has = c.requires.free.1 in
    let room = c.requires.free.2 in
    let number = c.requires.free.3 in
    let above = spawning_above held cs orderly c.args.me d c.requires.planned.cell c.args.instr reach.Spawn has c.requires.planned c.requires.planned.is in
    let p = c.requires.planned.plan in
    let high : 40 < c.args.me = high_at held cs orderly c.args.me c.requires.planned.cell p.locus c.requires.planned.is p.runs.is in
    omega (arith, number, above)

pub bounds-first-0 : goal.bounds-first-0
bounds-first-0 c =
    let cs = c.args.cells.now in
    let held = c.requires.order.held in
    let orderly = c.requires.order.orderly in
    let count = orderly.numbers.len in
    let d = c.requires.free.0 in
    let has = c.requires.free.1 in
    let room = c.requires.free.2 in
    let number = c.requires.free.3 in
    let above = spawning_above held cs orderly c.args.me d c.requires.planned.cell c.args.instr reach.Spawn has c.requires.planned c.requires.planned.is in
    let p = c.requires.planned.plan in
    let high : 40 < c.args.me = high_at held cs orderly c.args.me c.requires.planned.cell p.locus c.requires.planned.is p.runs.is in
    omega (arith, high)

pub advance_spawning-requires : goal.advance_spawning-requires
advance_spawning-requires c =
    let cs = c.args.cells.now in
    let held = c.requires.order.held in
    let orderly = c.requires.order.orderly in
    let count = orderly.numbers.len in
    let d = c.requires.free.0 in
    let has = c.requires.free.1 in
    let room = c.requires.free.2 in
    let number = c.requires.free.3 in
    let above = spawning_above held cs orderly c.args.me d c.requires.planned.cell c.args.instr reach.Spawn has c.requires.planned c.requires.planned.is in
    let p = c.requires.planned.plan in
    let high : 40 < c.args.me = high_at held cs orderly c.args.me c.requires.planned.cell p.locus c.requires.planned.is p.runs.is in
    let parts = c.split_at_mut-front in
    let low = c.split_at_mut-first in
    let front = parts.result.0.now in
    let back = parts.result.1.now in
    let first = low.result.0.now in
    let rest = low.result.1.now in
    let a = get_or rest 0 c.index-rest-0.result in
    let k = get_or first 0 c.index-first-0.result in
    let b = get_or back 0 c.index-back-0.result in
    let is_a : slice_get cs c.args.me ≡ Some (get_or c.split_at_mut-first.result.1.now 0 c.index-rest-0.result) =
    ap (slice_get cs) (sym c.number.ensures.number) ∙ read_middle cs front back first rest c.args.newborn c.number.result c.index-rest-0.result parts.ensures.value parts.ensures.front_len low.ensures.value low.ensures.front_len (omega (arith, number, above)) in
    let is_k : slice_get cs 0 ≡ Some (get_or c.split_at_mut-first.result.0.now 0 c.index-first-0.result) =
    read_first cs front back first rest c.args.newborn c.number.result 0 c.index-first-0.result parts.ensures.value parts.ensures.front_len low.ensures.value low.ensures.front_len (omega (arith, high)) (omega (arith, number, above)) in
    let is_b : slice_get cs c.args.newborn ≡ Some (get_or c.split_at_mut-front.result.1.now 0 c.index-back-0.result) =
    read_back cs front back c.args.newborn c.index-back-0.result parts.ensures.value parts.ensures.front_len (omega (arith, number, room)) in
    let at_a = orderly.numbers.each c.args.me a is_a in
    let at_b = orderly.numbers.each c.args.newborn b is_b in
    record {
      planned = plan_of held cs orderly c.args.me c.args.instr reach.Spawn c.requires.planned a is_a;
      free = (d, directory_is held cs orderly d has k is_k, room, at_b ∙ number);
      atlas = orderly.numbers.each 0 k is_k;
      some = omega (arith, at_a, high);
      higher = omega (arith, at_a, at_b, number, above);
      few = (c.requires.few c.args.me a is_a, c.requires.few 0 k is_k, c.requires.few c.args.newborn b is_b);
    }

pub returns : goal.returns
returns c =
    let cs = c.args.cells.now in
    let held = c.requires.order.held in
    let orderly = c.requires.order.orderly in
    let count = orderly.numbers.len in
    let d = c.requires.free.0 in
    let has = c.requires.free.1 in
    let room = c.requires.free.2 in
    let number = c.requires.free.3 in
    let above = spawning_above held cs orderly c.args.me d c.requires.planned.cell c.args.instr reach.Spawn has c.requires.planned c.requires.planned.is in
    let p = c.requires.planned.plan in
    let high : 40 < c.args.me = high_at held cs orderly c.args.me c.requires.planned.cell p.locus c.requires.planned.is p.runs.is in
    let parts = c.split_at_mut-front in
    let low = c.split_at_mut-first in
    let front = parts.result.0.now in
    let back = parts.result.1.now in
    let first = low.result.0.now in
    let rest = low.result.1.now in
    let a = get_or rest 0 c.index-rest-0.result in
    let k = get_or first 0 c.index-first-0.result in
    let b = get_or back 0 c.index-back-0.result in
    let is_a : slice_get cs c.args.me ≡ Some (get_or c.split_at_mut-first.result.1.now 0 c.index-rest-0.result) =
    ap (slice_get cs) (sym c.number.ensures.number) ∙ read_middle cs front back first rest c.args.newborn c.number.result c.index-rest-0.result parts.ensures.value parts.ensures.front_len low.ensures.value low.ensures.front_len (omega (arith, number, above)) in
    let is_k : slice_get cs 0 ≡ Some (get_or c.split_at_mut-first.result.0.now 0 c.index-first-0.result) =
    read_first cs front back first rest c.args.newborn c.number.result 0 c.index-first-0.result parts.ensures.value parts.ensures.front_len low.ensures.value low.ensures.front_len (omega (arith, high)) (omega (arith, number, above)) in
    let is_b : slice_get cs c.args.newborn ≡ Some (get_or c.split_at_mut-front.result.1.now 0 c.index-back-0.result) =
    read_back cs front back c.args.newborn c.index-back-0.result parts.ensures.value parts.ensures.front_len (omega (arith, number, room)) in
    let mid = c.advance_spawning.new in
    let made = c.advance_spawning.ensures in
    let cs' = (slice_set first 0 mid.atlas ++ slice_set rest 0 mid.locus) ++ slice_set back 0 mid.newborn in
    let sets = set_three cs cs' 0 c.number.result c.args.newborn mid.atlas mid.locus mid.newborn
    (write_three cs front back first rest c.args.newborn c.number.result 0 mid.atlas mid.locus mid.newborn parts.ensures.value parts.ensures.front_len low.ensures.value low.ensures.front_len (omega (arith, high)) (omega (arith, number, above)))
    (omega (arith, high)) (omega (arith, number, above)) (omega (arith, number, room)) in
    let at : StandAt cs cs' a k b mid.locus mid.atlas mid.newborn c.args.me 0 c.args.newborn = record {
      len = sets.len;
      was_a = is_a;
      was_k = is_k;
      was_b = is_b;
      is_a = ap (slice_get cs') (sym c.number.ensures.number) ∙ sets.second;
      is_k = sets.first;
      is_b = sets.third;
      others = λ n x z y. sets.others n z (λ e. x (e ∙ c.number.ensures.number)) y;
    } in
    let lends = lends_three held cs cs' a k b mid.locus mid.atlas mid.newborn c.args.me 0 c.args.newborn orderly at made.entities.0 made.entities.1 made.entities.2 in
    three_quiet held cs orderly c.args.me c.args.instr reach.Spawn c.requires.planned cs' c.advance_spawning.result a k b mid.locus mid.atlas mid.newborn c.args.newborn at lends made.step
    (spawned_goes held cs orderly c.args.me c.args.instr reach.Spawn c.requires.planned cs' c.advance_spawning.result a k b mid.locus mid.atlas mid.newborn c.args.newborn at lends made.step d has c.requires.planned room number)
