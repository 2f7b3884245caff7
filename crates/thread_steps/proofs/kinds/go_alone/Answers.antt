use Rattle.std.proofs.Common.{refl, subst, [], ◌∷◌}
use Rattle.table_laws.specs.cell_plans.Plans.{IsPlanned}
use Rattle.thread_steps.proofs.Facing.{alone_reach, own_planned}
use Rattle.thread_steps.proofs.kinds.go_alone.Goals as goal

pub advance_alone-requires : goal.advance_alone-requires
advance_alone-requires c = record {
  planned = own_planned c.args.locus.now c.args.instr c.in-Alone.act (subst (IsPlanned c.args.locus.now c.args.instr) c.in-Alone.is c.requires.planned);
  few = c.requires.few 0 c.args.locus.now refl;
}

pub unreachable-requires : goal.unreachable-requires
unreachable-requires c =
    let f = alone_reach c.args.locus.now c.requires.lent c.args.instr c.args.reach c.requires.planned in
    c.in_default.not-Alone f.0 f.1

pub returns : goal.returns
returns c = record {
  step = λ s words. c.advance_alone.ensures.step s words;
  memory = λ _. tt;
  numbers = λ t. c.advance_alone.ensures.entity t ∷ [];
}
