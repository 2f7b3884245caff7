use Rattle.std.proofs.Common.{◌≡◌, ◌-◌, OnOk, string_bytes, map, drop, ap, subst, ◌∙◌, arith}
use Rattle.std.proofs.lemmas.List.{length-map}
use Rattle.base_types.specs.declared.capabilities.Region.{Region}
use Rattle.script_types.specs.model_kernel.Births.{number_or_0, region_from, regions_from}
use Rattle.script_types.specs.model_kernel.Scripts.{number_in}
use Rattle.script_types.specs.Scripts.{region_of}
use Rattle.data_regions.specs.Regions.{add_answer, insert_region}
use Rattle.script_fits.specs.act_calls.Calls.{atlas_state}
use Rattle.cell_births.proofs.TableLists.{AreRegionTables, in_range, range_at, regions_more}
use Rattle.cell_births.proofs.tables.regions_from.Goals as goal

pub add-requires : goal.add-requires
add-requires c =
    let number = number_in (atlas_state c.args.atlas.now) c.args.own.now c.args.newborn in
    let known = c.requires.ranges.0 in
    let pages = c.requires.ranges.1 in
    let x = c.index-tables-i.result in
    (omega arith, in_range number known pages (region_of x) c.requires.ranges.2 (range_at known pages region_of c.args.tables.now (c.loop-i.i - 1) x c.requires.ranges.3 (omega arith) c.index-tables-i.is))

pub loop-i-preserved : goal.loop-i-preserved
loop-i-preserved c =
    let number = number_in (atlas_state c.args.atlas.now) c.args.own.now c.args.newborn in
    let known = c.requires.ranges.0 in
    let pages = c.requires.ranges.1 in
    let x = c.index-tables-i.result in
    let ts = map region_of c.args.tables.now in
    let rest = regions_from number (drop c.loop-i.i ts) in
    let entity : c.known_number-target.result ≡ number_or_0 number (string_bytes x.target) = c.known_number-target.ensures ∙ ap (number_or_0 number) c.deref.ensures in
    let here : Region = record { at = x.at; count = x.count; target = c.known_number-target.result; from = x.from; rights = x.rights } in
    let same : here ≡ region_from number (region_of x) = ap (λ t. record { at = x.at; count = x.count; target = t; from = x.from; rights = x.rights }) entity in
    let tables : AreRegionTables known pages ts =
    record { few = omega (arith, length-map c.args.tables.now region_of, c.requires.few); small = c.requires.ranges.2; ranges = c.requires.ranges.3; apart = c.requires.apart } in
    let answer : c.add.result ≡ add_answer 16 (region_from number (region_of x)) rest = c.add.ensures.answer ∙ ap (add_answer 16 here) c.loop-i.invariant ∙ ap (λ r. add_answer 16 r rest) same in
    let done : OnOk c.add.result (c.add.new.self ≡ insert_region (region_from number (region_of x)) rest) =
    subst (λ r. OnOk c.add.result (c.add.new.self ≡ insert_region r rest)) same (subst (λ rs. OnOk c.add.result (c.add.new.self ≡ insert_region here rs)) c.loop-i.invariant c.add.ensures.ok) in
    regions_more number known pages region_of c.args.tables.now c.loop-i.i (c.loop-i.i - 1) x c.add.result c.add.new.self (omega arith) (omega arith) c.index-tables-i.is tables answer done
