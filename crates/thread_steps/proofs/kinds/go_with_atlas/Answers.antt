use Rattle.std.proofs.Common.{refl, subst, [], ◌∷◌}
use Rattle.table_laws.specs.cell_plans.Plans.{IsPlanned}
use Rattle.thread_steps.proofs.Facing.{faces_atlas, faces_barren}
use Rattle.thread_steps.proofs.kinds.go_with_atlas.Goals as goal

pub advance_beside-requires : goal.advance_beside-requires
advance_beside-requires c =
    let f = faces_atlas c.args.locus.now c.args.atlas.now c.requires.lent c.requires.few c.args.instr c.in-Beside.field-0 (subst (IsPlanned c.args.locus.now c.args.instr) c.in-Beside.is c.requires.planned) in
    record { planned = f.planned; fits = f.fits; apart = f.apart; few = f.few }

pub advance_barren-requires : goal.advance_barren-requires
advance_barren-requires c =
    let f = faces_barren c.args.locus.now c.args.atlas.now c.requires.lent c.requires.few c.args.instr c.args.reach c.requires.planned c.in_default.not-Beside in
    record { wants = f.wants; left = f.left; atlas = c.requires.lent.first c.args.atlas.now refl; some = f.some; few = (c.requires.few 0 c.args.locus.now refl, c.requires.few 1 c.args.atlas.now refl) }

pub returns-in-Beside : goal.returns-in-Beside
returns-in-Beside c = record {
  step = λ s words. c.advance_beside.ensures.step s words;
  memory = λ _. tt;
  numbers = λ t. c.advance_beside.ensures.entities.0 t ∷ c.advance_beside.ensures.entities.1 t ∷ [];
}

pub returns-in_default : goal.returns-in_default
returns-in_default c = record {
  step = λ s words. c.advance_barren.ensures.step s words;
  memory = λ _. tt;
  numbers = λ t. c.advance_barren.ensures.entities.0 t ∷ c.advance_barren.ensures.entities.1 t ∷ [];
}
