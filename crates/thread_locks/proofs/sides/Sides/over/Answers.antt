use Rattle.std.proofs.Common.{List, ap}
use Rattle.thread_items.specs.kernel_core.Parts.{held_of}
use Rattle.kernel_run_facts.specs.kernel_core_facts.cell_states.declared.cells.Cell.{Cell}
use Rattle.thread_ties.specs.Rules.{Shown}
use Rattle.kernel_run_facts.specs.kernel_core_facts.store_facts.State.{State}
use Rattle.thread_locks.proofs.Beginning.{opened}
use Rattle.thread_locks.proofs.sides.Sides.over.Goals as goal

pub invariant_of-till : goal.invariant_of-till
invariant_of-till g c = (ap (λ (f : Shown (State g.row.D.Denot)). f.number) c.requires.stores.1, ap (λ (f : Shown (State g.row.D.Denot)). f.value) c.requires.stores.1)

pub open-desk-requires : goal.open-desk-requires
open-desk-requires g c =
    let p = c.args.parts in
    let s = c.args.self in
    record {
      kernel = opened g.D.Disk g.B.Board.begin g.B.Board.terms g.B.Run.kept s.stores s.all p.notes s.annals p.stopped p.store (held_of p.store p.cells.items p.notes p.stopped)
          (ap (λ (l : List Cell). held_of p.store l p.notes p.stopped) c.requires.cells.0) c.requires.stores.0 c.requires.history.2 c.requires.history.0 c.requires.lawful c.requires.counted c.requires.clean c.requires.tells c.requires.run c.requires.along;
    }
