use Rattle.std.proofs.Common.{subst}
use Rattle.thread_items.specs.Items.{AreTrueItems, Itemized}
use Rattle.thread_items.proofs.Truths.{items_within}
use Rattle.thread_items.proofs.desks.ItemDesk.take_back.Goals as goal

pub returns-clause-are_true : goal.returns-clause-are_true
returns-clause-are_true g c =
    subst (λ (d : Itemized g.row.D.Denot g.row.C.Denot). AreTrueItems g.B.Board.terms.told g.B.Board.begin d.desk.noted.entries d.desk.stop c.args.pass.items) c.self.view_is
    (items_within g.B.Board.terms.told g.B.Board.begin c.self.inside.desk.noted.entries c.self.inside.desk.stop c.args.pass.items c.self.inside.slip.items c.take_back.ensures.within c.self.invariant)
