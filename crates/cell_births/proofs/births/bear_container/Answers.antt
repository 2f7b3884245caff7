use Rattle.std.proofs.Common.{◌≡◌, ◌<◌, ◌∷◌, [], true, not, ◌&&◌, refl, sym, ap, ◌∙◌, arith}
use Rattle.script_types.specs.model_kernel.Histories.{writes}
use Rattle.script_types.specs.model_kernel.State.{AtlasCell}
use Rattle.script_types.specs.Scripts.{container_of}
use Rattle.script_fits.specs.act_calls.Calls.{atlas_state}
use Rattle.cell_wish_laws.specs.cell_states.Cells.{part_of}
use Rattle.cell_births.specs.Bearing.{IsBirthEntry}
use Rattle.cell_births.proofs.Bearing.{born_container, entry_two, last_two}
use Rattle.cell_births.proofs.births.bear_container.Goals as goal

pub returns-clause-birth : goal.returns-clause-birth
returns-clause-birth c s words script w found hasa hasb =
    let d = c.requires.may.0 in
    let isa : part_of s words c.args.atlas.now.part ≡ AtlasCell (atlas_state d) = ap (part_of s words) c.requires.may.1 in
    born_container s words script w d (container_of c.args.table.now) c.args.atlas.now c.args.newborn.now _ _ c.write_two.result c.requires.may.2 found hasa hasb isa c.requires.atlas
    (c.bear_in_parts.ensures.atlas s words (atlas_state d) isa) (c.bear_in_parts.ensures.cell s words (atlas_state d) isa) c.write_two.ensures.entity_a c.write_two.ensures.entity_b
    (λ i k. c.write_two.ensures.carries w hasa.clock hasb.clock i k)

pub returns-clause-entry : goal.returns-clause-entry
returns-clause-entry c =
    let number = c.requires.may.2.number in
    let above : c.args.atlas.now.clock.entity < c.args.newborn.now.clock.entity = omega (arith, c.requires.atlas, number) in
    entry_two c.args.newborn.now.clock.entity c.args.atlas.now.clock c.args.newborn.now.clock c.write_two.new.a c.write_two.new.b c.write_two.result c.requires.atlas refl above
    (λ w hasa hasb i k. c.write_two.ensures.carries w hasa hasb i k)

pub returns-clause-wishes : goal.returns-clause-wishes
returns-clause-wishes c =
    let n = c.args.newborn.now.clock.entity in
    let e = c.write_two.result in
    let number = c.requires.may.2.number in
    let above : c.args.atlas.now.clock.entity < n = omega (arith, c.requires.atlas, number) in
    let entry : IsBirthEntry e n (0 ∷ n ∷ []) =
    entry_two n c.args.atlas.now.clock c.args.newborn.now.clock c.write_two.new.a c.write_two.new.b e c.requires.atlas refl above (λ w hasa hasb i k. c.write_two.ensures.carries w hasa hasb i k) in
    let first : writes e c.args.atlas.now.clock.entity ≡ true = ap (writes e) c.requires.atlas ∙ entry.writes 0 in
    let last : writes e n ≡ true = entry.writes n ∙ last_two n in (
      record {
        same_entity = c.write_two.ensures.entity_a;
        same_left = refl;
        wish = c.born-atlas.ensures ∙ ap (λ b. record c.args.atlas.now.wish { by_step = not b && c.args.atlas.now.wish.by_step }) (sym first);
      },
      record {
        same_entity = c.write_two.ensures.entity_b;
        same_left = refl;
        wish = c.born-newborn.ensures ∙ ap (λ b. record c.args.newborn.now.wish { by_step = not b && c.args.newborn.now.wish.by_step }) (sym last);
      },
    )
