use Rattle.std.proofs.Common.{◌≡◌, ◌∙◌, Some, refl, sym, ap}
use Rattle.cell_births.specs.act_alone.declared.loci.Head.{Head}
use Rattle.cell_births.specs.cell_states.declared.cells.Part.TheVariants as part
use Rattle.cell_copies.proofs.Words.{same_head}
use Rattle.cell_copies.proofs.cells.place_pages.Goals as goal

pub returns : goal.returns
returns c =
    let m = c.requires.begun in
    let p = c.place_part.ensures.head m.head m.memory m.is in
    let same : m.head ≡ c.place_part.ensures.begun.head = same_head m.head c.place_part.ensures.begun.head p.0 c.place_part.ensures.begun.memory (sym p.1 ∙ c.place_part.ensures.begun.is) in
    record {
      only_part = refl;
      begun = c.place_part.ensures.begun;
      was = m.memory;
      same_head = m.is ∙ ap (λ (h : Head). part.Container (record { head = Some h; memory = m.memory })) same;
    }
