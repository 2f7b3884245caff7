use Rattle.std.proofs.Common.{map, sym, subst}
use Rattle.atomic_table.specs.Table.{Me}
use Rattle.thread_ties.specs.declared.views.View.{View}
use Rattle.thread_history.specs.Rules.{AllDiffer}
use Rattle.thread_ties.specs.Rules.{shown}
use Rattle.thread_ties.specs.Sides.{AllAgree, AllWithin, numbers_of}
use Rattle.thread_ties.proofs.Sharing.{all_agree, all_differ, all_within}
use Rattle.thread_ties.proofs.closing.Closing.take_back.Goals as goal

pub returns-clause-once : goal.returns-clause-once
returns-clause-once g c = subst (λ (m : Me (Unit {0}) (View g.row.V.Denot)). AllDiffer (numbers_of (map shown m.0.pieces))) (sym c.tell.ensures.seat.1) (all_differ _ _ c.tell.ensures.held)

pub returns-clause-agreed : goal.returns-clause-agreed
returns-clause-agreed g c = subst (λ (m : Me (Unit {0}) (View g.row.V.Denot)). AllAgree m.0.values (map shown m.0.pieces)) (sym c.tell.ensures.seat.1) (all_agree _ _ c.tell.ensures.held)

pub returns-clause-within : goal.returns-clause-within
returns-clause-within g c = subst (λ (m : Me (Unit {0}) (View g.row.V.Denot)). AllWithin m.0.values (map shown m.0.pieces)) (sym c.tell.ensures.seat.1) (all_within _ _ c.tell.ensures.held)
