use Rattle.thread_items.proofs.thread_settling_lemmas.Locking.{last_beside, rest_beside}
use Rattle.thread_locks.proofs.sides.last_sighted.Goals as goal

pub invariant_of-locked : goal.invariant_of-locked
invariant_of-locked g c =
    let own = last_beside c.args.cells.now.items c.pop.new.self.items c.args.shares.now.items c.pop-in-Some.new.self.items c.args.fragments.now.items c.pop-in-Some-pop.new.self.items
    c.in-Some.cell c.in-Some-pop.share c.in-Some-pop-2.fragment c.in-Some.ensures.items c.in-Some-pop.ensures.items c.in-Some-pop-2.ensures.items c.requires.beside in
    (own.fragment, own.share, own.value)

pub returns-in-Some-pop-2-clause-beside : goal.returns-in-Some-pop-2-clause-beside
returns-in-Some-pop-2-clause-beside g c =
    rest_beside c.args.cells.now.items c.pop.new.self.items c.args.shares.now.items c.pop-in-Some.new.self.items c.args.fragments.now.items c.pop-in-Some-pop.new.self.items
    c.in-Some.cell c.in-Some-pop.share c.in-Some-pop-2.fragment c.in-Some.ensures.items c.in-Some-pop.ensures.items c.in-Some-pop-2.ensures.items c.requires.beside
