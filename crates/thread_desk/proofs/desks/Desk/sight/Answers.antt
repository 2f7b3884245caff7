use Rattle.thread_desk.proofs.Hearing.{known_cells, same_desk, with_store}
use Rattle.thread_desk.proofs.desks.Desk.sight.Goals as goal

pub hear_lent-seen-requires : goal.hear_lent-seen-requires
hear_lent-seen-requires g c =
    let k = with_store g.D.Disk g.B.Board.begin g.B.Board.terms g.B.Run.kept c.self.inside.stores c.self.inside.cells c.self.inside.notes c.self.inside.annals c.self.inside.stopped c.till.inside.fragment.number c.till.inside.fragment.value c.till.inside.store
    c.till.invariant.0 c.till.invariant.1 c.agree.ensures.agreed c.self.invariant in
    record { known = known_cells g.D.Disk g.B.Board.begin g.B.Board.terms g.B.Run.kept c.self.inside.stores c.self.inside.cells c.self.inside.notes c.self.inside.annals c.self.inside.stopped c.till.inside.store k }

pub invariant_of-self : goal.invariant_of-self
invariant_of-self g c =
    same_desk g.D.Disk g.B.Board.begin g.B.Board.terms g.B.Run.kept c.self.inside.stores c.agree.new.self c.self.inside.cells c.hear_lent-seen.new.all c.self.inside.notes c.self.inside.annals c.hear_lent-seen.new.annals c.self.inside.stopped
    c.agree.ensures.authority c.hear_lent-seen.ensures.same.0 c.hear_lent-seen.ensures.same.1 c.self.invariant
