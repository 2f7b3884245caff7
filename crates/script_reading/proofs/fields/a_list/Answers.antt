-- The items are those of the array.
use Rattle.std.proofs.Common.{◌≡◌, ◌<◌, ◌≤◌, Ok, length, map, sym, ap, ◌∙◌, arith}
use Rattle.std.proofs.lemmas.List.{length-map}
use Rattle.toml.specs.View.{view}
use Rattle.script_meaning.specs.Fields.{a_list, at_most}
use Rattle.script_meaning.specs.Reading.{dotted}
use Rattle.script_types.specs.declared.refusals.Why.TheVariants.{TooMany}
use Rattle.script_meaning.proofs.Lists.{list_of-items, at_most-few, at_most-many, blamed}
use Rattle.script_reading.proofs.fields.a_list.Goals as goal

pub returns-then-len-most : goal.returns-then-len-most
returns-then-len-most c =
    let key = dotted c.args.key.now c.args.name.now in
    let ds = map view c.in-Some.array.now.items in
    let size : length ds ≡ length c.in-Some.array.now.items = rw length-map in
    let many : c.args.most < length ds = omega (arith, size, c.len.ensures, c.if-len-most.true) in
    let read : a_list c.args.most key (view c.args.value.now) ≡ at_most c.args.most key ds = rw (sym c.in-Some.ensures, list_of-items c.in-Some.array.now.items) in
    blamed _ TooMany key _ c.refuse-then-len-most.ensures (read ∙ at_most-many _ _ _ many)

pub returns : goal.returns
returns c =
    let key = dotted c.args.key.now c.args.name.now in
    let ds = map view c.in-Some.array.now.items in
    let size : length ds ≡ length c.in-Some.array.now.items = rw length-map in
    let few : length ds ≤ c.args.most = omega (arith, size, c.len.ensures, c.if-len-most.false) in
    let read : a_list c.args.most key (view c.args.value.now) ≡ at_most c.args.most key ds = rw (sym c.in-Some.ensures, list_of-items c.in-Some.array.now.items) in
    read ∙ at_most-few _ _ _ few ∙ ap (λ vs. Ok (map view vs)) (sym c.as_slice.ensures.value)
