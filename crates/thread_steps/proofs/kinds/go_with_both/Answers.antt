use Rattle.std.proofs.Common.{refl, subst, [], ◌∷◌, inl, inr}
use Rattle.table_laws.specs.cell_plans.Plans.{IsPlanned}
use Rattle.thread_steps.proofs.Facing.{both_reach, faces_making, faces_mapping, faces_spawning, spawns}
use Rattle.thread_steps.proofs.kinds.go_with_both.Goals as goal

pub advance_mapping-requires : goal.advance_mapping-requires
advance_mapping-requires c =
    let f = faces_mapping c.args.locus.now c.args.atlas.now c.args.other.now c.requires.lent c.args.instr c.in-Mapping.field-0 (subst (IsPlanned c.args.locus.now c.args.instr) c.in-Mapping.is c.requires.planned) in
    record {
      planned = f.planned;
      may = f.may;
      atlas = c.requires.lent.first c.args.atlas.now refl;
      some = f.some;
      lower = f.lower;
      few = (c.requires.few 0 c.args.locus.now refl, c.requires.few 1 c.args.atlas.now refl, c.requires.few 2 c.args.other.now refl);
    }

pub advance_making-requires : goal.advance_making-requires
advance_making-requires c =
    let planned = subst (IsPlanned c.args.locus.now c.args.instr) c.in-Make.is c.requires.planned in
    let f = faces_making c.args.locus.now c.args.atlas.now c.args.other.now c.requires.lent c.args.instr planned in
    record {
      planned = planned;
      free = f.free;
      unborn = f.unborn;
      atlas = c.requires.lent.first c.args.atlas.now refl;
      lower = f.lower;
      few = (c.requires.few 0 c.args.locus.now refl, c.requires.few 1 c.args.atlas.now refl, c.requires.few 2 c.args.other.now refl);
    }

pub advance_spawning-requires : goal.advance_spawning-requires
advance_spawning-requires c =
    let planned = subst (IsPlanned c.args.locus.now c.args.instr) c.in-Spawn.is c.requires.planned in
    let f = faces_spawning c.args.locus.now c.args.atlas.now c.args.other.now c.requires.lent c.args.instr planned in
    record {
      planned = planned;
      free = f.free;
      atlas = c.requires.lent.first c.args.atlas.now refl;
      some = f.some;
      higher = f.higher;
      few = (c.requires.few 0 c.args.locus.now refl, c.requires.few 1 c.args.atlas.now refl, c.requires.few 2 c.args.other.now refl);
    }

pub unreachable-requires : goal.unreachable-requires
unreachable-requires c =
    both_reach c.args.locus.now c.args.atlas.now c.args.other.now c.requires.lent c.args.instr c.args.reach c.requires.planned c.in_default.not-Mapping c.in_default.not-Make c.in_default.not-Spawn

pub returns-in-Mapping : goal.returns-in-Mapping
returns-in-Mapping c = record {
  step = λ s words. c.advance_mapping.ensures.step s words;
  memory = λ _. (inl c.advance_mapping.ensures.memory, tt);
  numbers = λ t. c.advance_mapping.ensures.entities.0 t ∷ c.advance_mapping.ensures.entities.1 t ∷ c.advance_mapping.ensures.entities.2 t ∷ [];
}

pub returns-in-Make : goal.returns-in-Make
returns-in-Make c =
    let planned = subst (IsPlanned c.args.locus.now c.args.instr) c.in-Make.is c.requires.planned in
    let f = faces_making c.args.locus.now c.args.atlas.now c.args.other.now c.requires.lent c.args.instr planned in
    record {
      step = λ s words. c.advance_making.ensures.step s words;
      memory = λ _. (inr (f.unborn, c.advance_making.ensures.memory), tt);
      numbers = λ t. c.advance_making.ensures.entities.0 t ∷ c.advance_making.ensures.entities.1 t ∷ c.advance_making.ensures.entities.2 t ∷ [];
    }

pub returns-in-Spawn : goal.returns-in-Spawn
returns-in-Spawn c =
    let planned = subst (IsPlanned c.args.locus.now c.args.instr) c.in-Spawn.is c.requires.planned in
    record {
      step = λ s words. c.advance_spawning.ensures.step s words;
      memory = λ none. absurd (spawns c.args.locus.now c.args.instr planned none);
      numbers = λ t. c.advance_spawning.ensures.entities.0 t ∷ c.advance_spawning.ensures.entities.1 t ∷ c.advance_spawning.ensures.entities.2 t ∷ [];
    }
