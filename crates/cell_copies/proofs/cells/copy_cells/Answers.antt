use Rattle.std.proofs.Common.{◌≡◌, sym, ap, subst, ◌∙◌, arith}
use Rattle.cell_births.specs.act_alone.declared.loci.Head.{Head}
use Rattle.cell_copies.specs.Copying.{MayCopyCells, MayCopyPart}
use Rattle.cell_copies.proofs.Copies.{copied_cells, head_in}
use Rattle.cell_copies.proofs.cells.copy_cells.Goals as goal

pub copy_parts-requires-clause-may : goal.copy_parts-requires-clause-may
copy_parts-requires-clause-may c = (c.requires.may.0, c.requires.may.1, c.requires.may.2, c.requires.may.3, c.requires.may.4.source_is, c.requires.may.4.may)

pub copy_clocks-requires-clause-first_apart : goal.copy_clocks-requires-clause-first_apart
copy_clocks-requires-clause-first_apart c = (let zero_at = c.requires.atlas in let some = c.requires.may.4.some in omega (arith, zero_at, some))

pub copy_clocks-requires-clause-second_apart : goal.copy_clocks-requires-clause-second_apart
copy_clocks-requires-clause-second_apart c = (let low = c.requires.may.4.born in let is = c.requires.may.4.may.number_is in omega (arith, low, is))

pub returns-clause-copied : goal.returns-clause-copied
unfolding head_in
returns-clause-copied c s words v name named hasa hass hasn h from source =
    let d = c.requires.may.0 in
    let isa = c.requires.may.3 in
    let m = c.requires.may.4 in
    let same : c.requires.may.1 ≡ h = ap (head_in h) (sym m.source_is.is ∙ source.is) in
    let may : MayCopyCells d h from c.args.source.now c.args.newborn.now.clock.entity c.args.fresh.now = record {
      source_is = source;
      some = m.some;
      born = m.born;
      may = subst (λ (x : Head). MayCopyPart d x c.args.newborn.now.clock.entity c.args.fresh.now) same m.may;
    } in
    copied_cells s words v name c.args.fresh.now d h from c.args.atlas.now c.args.source.now c.args.newborn.now may isa c.requires.atlas hasa hass named _ _
    (c.copy_parts.ensures.atlas d h from isa source s words) (c.copy_parts.ensures.blank h from source) c.copy_clocks.ensures.entity_atlas c.copy_clocks.ensures.entity_newborn
    (λ j l. c.copy_clocks.ensures.carries v hasa.clock hass.clock hasn.clock j l)
