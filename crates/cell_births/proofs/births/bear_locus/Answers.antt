use Rattle.std.proofs.Common.{◌≡◌, ◌<◌, ◌∷◌, [], true, not, ◌&&◌, refl, sym, ap, ◌∙◌, arith}
use Rattle.script_types.specs.model_kernel.Histories.{writes}
use Rattle.script_types.specs.model_kernel.State.{AtlasCell}
use Rattle.script_types.specs.Scripts.{locus_of}
use Rattle.script_fits.specs.act_calls.Calls.{atlas_state}
use Rattle.cell_wish_laws.specs.cell_states.Cells.{part_of}
use Rattle.cell_births.specs.Bearing.{IsBirthEntry}
use Rattle.cell_births.proofs.Bearing.{born_locus, entry_three, last_three, middle_three}
use Rattle.cell_births.proofs.births.bear_locus.Goals as goal

pub returns-clause-birth : goal.returns-clause-birth
returns-clause-birth c s words script w none found hasa hash hasb =
    let d = c.requires.may.0 in
    let isa : part_of s words c.args.atlas.now.part ≡ AtlasCell (atlas_state d) = ap (part_of s words) c.requires.may.1 in
    born_locus s words script w d (locus_of c.args.table.now) c.args.atlas.now c.args.host.now c.args.newborn.now _ _ _ c.write_three.result c.requires.may.2 none found hasa hash hasb isa c.requires.atlas
    (c.bear_in_parts.ensures.atlas s words (atlas_state d) isa) refl (c.bear_in_parts.ensures.cell s words (atlas_state d) isa) c.write_three.ensures.entity_a c.write_three.ensures.entity_b c.write_three.ensures.entity_c
    (λ i j k. c.write_three.ensures.carries w hasa.clock hash.clock hasb.clock i j k)

pub returns-clause-entry : goal.returns-clause-entry
returns-clause-entry c =
    let may = c.requires.may.2 in
    let low : c.args.atlas.now.clock.entity < c.args.host.now.clock.entity = omega (arith, c.requires.atlas, may.above) in
    entry_three c.args.host.now.clock.entity c.args.newborn.now.clock.entity c.args.atlas.now.clock c.args.host.now.clock c.args.newborn.now.clock c.write_three.new.a c.write_three.new.b c.write_three.new.c c.write_three.result
    c.requires.atlas refl refl low may.below (λ w hasa hash hasb i j k. c.write_three.ensures.carries w hasa hash hasb i j k)

pub returns-clause-wishes : goal.returns-clause-wishes
returns-clause-wishes c =
    let h = c.args.host.now.clock.entity in
    let n = c.args.newborn.now.clock.entity in
    let e = c.write_three.result in
    let may = c.requires.may.2 in
    let low : c.args.atlas.now.clock.entity < h = omega (arith, c.requires.atlas, may.above) in
    let entry : IsBirthEntry e n (0 ∷ h ∷ n ∷ []) =
    entry_three h n c.args.atlas.now.clock c.args.host.now.clock c.args.newborn.now.clock c.write_three.new.a c.write_three.new.b c.write_three.new.c e c.requires.atlas refl refl low may.below
    (λ w hasa hash hasb i j k. c.write_three.ensures.carries w hasa hash hasb i j k) in
    let first : writes e c.args.atlas.now.clock.entity ≡ true = ap (writes e) c.requires.atlas ∙ entry.writes 0 in
    let middle : writes e h ≡ true = entry.writes h ∙ middle_three h n in
    let last : writes e n ≡ true = entry.writes n ∙ last_three h n in (
      record {
        same_entity = c.write_three.ensures.entity_a;
        same_left = refl;
        wish = c.born-atlas.ensures ∙ ap (λ b. record c.args.atlas.now.wish { by_step = not b && c.args.atlas.now.wish.by_step }) (sym first);
      },
      record {
        same_entity = c.write_three.ensures.entity_b;
        same_left = refl;
        wish = c.born-host.ensures ∙ ap (λ b. record c.args.host.now.wish { by_step = not b && c.args.host.now.wish.by_step }) (sym middle);
      },
      record {
        same_entity = c.write_three.ensures.entity_c;
        same_left = refl;
        wish = c.born-newborn.ensures ∙ ap (λ b. record c.args.newborn.now.wish { by_step = not b && c.args.newborn.now.wish.by_step }) (sym last);
      },
    )
