use Rattle.std.proofs.Common.{◌+◌, refl, subst, sym}
use Rattle.thread_board.specs.Items.{IsRising}
use Rattle.thread_board.specs.Sides.{Noting, PassSeen}
use Rattle.thread_items.specs.declared.items.LookItem.{LookItem}
use Rattle.thread_items.specs.Items.{AreTrueItems}
use Rattle.thread_items.specs.Places.{steps_in}
use Rattle.thread_locks.specs.declared.lines.Unwritten.{Unwritten}
use Rattle.thread_locks.proofs.Ending.{items_back, rest_back}
use Rattle.thread_locks.proofs.closing.desk_of.Goals as goal

pub returns-clause-items : goal.returns-clause-items
returns-clause-items g c =
    let d = c.args.desk in
    let noted = c.close-desk.result.1 in
    let are_true = subst (λ (n : Noting Unwritten LookItem). AreTrueItems g.B.Board.terms.told g.B.Board.begin d.desk.noted.entries d.desk.stop n.items) (sym c.close-desk.ensures.parts.1) c.close-desk.ensures.are_true in
    items_back g.B.Board.terms.told g.B.Board.begin d.desk.noted.entries d.desk.noted.entries d.desk.stop d.desk.stop noted.items
    (λ (p : PassSeen LookItem). IsRising (λ (i : LookItem). i.place) (λ (i : LookItem). i.place + steps_in i.came) p.items) refl refl are_true c.args.passes.items c.take_back_all.ensures.each

pub returns-clause-rising : goal.returns-clause-rising
returns-clause-rising g c =
    let d = c.args.desk in
    rest_back g.B.Board.terms.told g.B.Board.begin d.desk.noted.entries d.desk.noted.entries d.desk.stop d.desk.stop c.close-desk.result.1.items
    (λ (p : PassSeen LookItem). IsRising (λ (i : LookItem). i.place) (λ (i : LookItem). i.place + steps_in i.came) p.items) c.args.passes.items c.take_back_all.ensures.each
