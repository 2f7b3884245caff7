use Rattle.std.proofs.Common.{◌≡◌, ◌≢◌, ◌<◌, List, Some, length, slice_get, sym, ap, ◌∙◌, arith}
use Rattle.thread_ties.specs.Sides.{Ending}
use Rattle.thread_returns.proofs.Returned.{all_seen, next_back, put_else, value_here, value_is}
use Rattle.thread_returns.proofs.values.Returning.into_values.Goals as goal

pub loop-number-init : goal.loop-number-init
loop-number-init g c =
    let view = c.self.view_is in
    let places : length c.self.inside.places.items ≡ length c.self.inside.closing.values = (let len = c.self.inside.places.ok.0 in let all = c.self.invariant.0 in omega (arith, len, all)) in
    let same : length c.self.inside.closing.values ≡ length c.args.self.values = ap (λ (e : Ending g.row.V.Denot). length e.values) view in
    let of_places = c.self.inside.places.ok.0 in
    let last = c.len-number-end.ensures in
    let none : length c.args.room.items ≡ 0 = ap (λ (l : List g.row.V.Denot). length l) c.requires.room.0 in
    let of_room = c.args.room.ok.0 in
    record {
      stand = λ k low high. all_seen c.self.inside.closing c.args.self c.self.inside.places.items view c.self.invariant.1 c.requires.all k high;
      values = c.requires.room.0;
      last = omega (arith, last, places, same, of_places);
      places = omega (arith, places, same, of_places);
      len = omega (arith, none, of_room);
      room = c.requires.room.1;
    }

pub unreachable-requires : goal.unreachable-requires
unreachable-requires g c =
    let was = c.loop-number.invariant in
    let n = c.loop-number.number in
    let low = c.loop-number-test.true in
    let last = was.last in
    let high : n < length c.args.self.values = omega (arith, low, last) in
    value_here c.loop-number.places.items c.args.self.values n c.index_mut.result.now (was.stand n (omega arith) high) c.index_mut.ensures.value high (sym c.take.ensures.value ∙ c.in_default.is)

pub loop-number-preserved : goal.loop-number-preserved
loop-number-preserved g c =
    let was = c.loop-number.invariant in
    let n = c.loop-number.number in
    let vs = c.args.self.values in
    let low = c.loop-number-test.true in
    let last = was.last in
    let high : n < length vs = omega (arith, low, last) in
    let here : slice_get vs n ≡ Some c.in-Some.value = sym (value_is c.loop-number.places.items vs n c.index_mut.result.now (was.stand n (omega arith) high) c.index_mut.ensures.value) ∙ sym c.take.ensures.value ∙ c.in-Some.is in
    let more = c.push_reserved.ensures.len in
    let so_far = was.len in
    let room = was.room in
    let kept = c.push_reserved.ensures.capacity in
    record {
      stand = λ k above below. put_else c.loop-number.places.items n c.take.new.self k (slice_get vs k) (let other : k ≢ n = omega (arith, above) in other) (was.stand k (omega (arith, above)) below);
      values = c.push_reserved.ensures.items ∙ next_back vs c.loop-number.values.items n c.in-Some.value here was.values;
      last = was.last;
      places = was.places;
      len = omega (arith, so_far, more);
      room = omega (arith, room, kept);
    }
