use Rattle.std.proofs.Common.{◌≡◌, ◌∷◌, List, [], length, sym, ap, subst, ◌∙◌}
use Rattle.thread_items.specs.kernel_core.Parts.{held_of}
use Rattle.kernel_run_facts.specs.kernel_core_facts.Kernels.{Held, Lives, StaysClean}
use Rattle.kernel_run_facts.specs.kernel_core_facts.cell_states.declared.cells.Cell.{Cell}
use Rattle.kernel_run_facts.specs.kernel_core_facts.store_facts.State.{State}
use Rattle.kernel_run_facts.specs.Alongs.{IsAlong}
use Rattle.thread_items.specs.thread_desk.Desks.{IsCountedFrom}
use Rattle.thread_ties.specs.Sides.{fragments_of}
use Rattle.thread_locks.specs.Openings.{Opened}
use Rattle.thread_locks.proofs.opening.Opening.named.Goals as goal

pub named_sides-requires : goal.named_sides-requires
named_sides-requires g c =
    let p = c.apart-parts.result in
    let view = c.self.view_is in
    let parts : held_of p.store p.cells.items p.notes p.stopped ≡ c.args.self.kernel = c.apart-parts.ensures.parts ∙ ap (λ (o : Opened g.row.D.Denot). o.kernel) view in
    let first = c.requires.cells.1 ∙ sym (ap (λ (h : Held g.row.D.Denot). h.parts.cells) parts) in
    record {
      cells = (ap (λ (o : Opened g.row.D.Denot). o.cells) view ∙ c.requires.cells.0, ap (λ (l : List Cell). length l) first ∙ c.apart-parts.ensures.lawful.orderly.numbers.len);
      stores = (ap (λ (o : Opened g.row.D.Denot). o.stores) view ∙ c.requires.stores.0, ap (λ (l : List (State g.row.D.Denot)). length l) c.requires.stores.1);
      history = (
        ap (λ (o : Opened g.row.D.Denot). o.history) view ∙ c.requires.history.0,
        c.self.invariant ∙ (ap (λ (o : Opened g.row.D.Denot). o.kernel.parts.noted.entries) view ∙ sym c.requires.history.1),
      );
      bench = (ap (λ (o : Opened g.row.D.Denot). o.slate) view ∙ c.requires.bench.0, ap (λ (o : Opened g.row.D.Denot). o.ledger) view ∙ c.requires.bench.1, c.requires.bench.2, c.requires.bench.3);
    }

pub over-requires : goal.over-requires
over-requires g c =
    let p = c.apart-parts.result in
    let view = c.self.view_is in
    let parts : held_of p.store p.cells.items p.notes p.stopped ≡ c.args.self.kernel = c.apart-parts.ensures.parts ∙ ap (λ (o : Opened g.row.D.Denot). o.kernel) view in
    let first = c.requires.cells.1 ∙ sym (ap (λ (h : Held g.row.D.Denot). h.parts.cells) parts) in
    let store = c.requires.stores.1 ∙ sym (ap (λ (h : Held g.row.D.Denot). h.parts.store ∷ []) parts) in
    let s = c.in-Some.ensures in
    record {
      lawful = c.apart-parts.ensures.lawful;
      cells = (s.cells.0 ∙ first, s.cells.1 ∙ ap (λ (l : List Cell). fragments_of l) first);
      stores = s.stores p.store store;
      history = (s.history.0, s.history.1, c.requires.history.1 ∙ sym (ap (λ (h : Held g.row.D.Denot). h.parts.noted.entries) parts));
      bench = s.bench;
      room = s.room;
      managers = (c.requires.keeps, c.requires.managers);
      counted = subst (IsCountedFrom g.D.Disk g.B.Board.terms.counts) (sym parts) c.requires.counted;
      clean = subst (StaysClean g.D.Disk g.B.Board.begin.supply) (sym parts) c.requires.clean;
      tells = c.requires.tells;
      run = λ t. subst (Lives g.D.Disk g.B.Board.begin) (sym parts) (c.requires.run t);
      along = λ t. subst (IsAlong g.D.Disk g.B.Board.begin) (sym parts) (c.requires.along t);
    }
