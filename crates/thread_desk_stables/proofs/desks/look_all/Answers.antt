use Rattle.std.proofs.Common.{[], ◌∷◌, map, ap, sym, subst, ◌∙◌, length, slice_get, arith}
use Rattle.std.specs.Prelude.{IfSome}
use Rattle.std.specs.Sync.Mutex.{mutex_guard_value}
use Rattle.thread_desk_looks.specs.thread_desk.Desks.{Knowing}
use Rattle.thread_desk_looks.specs.Items.{IsTrueOf}
use Rattle.thread_stables.specs.thread_looks.Looking.{NotesLook, stop_in}
use Rattle.thread_desk_looks.proofs.Looked.{desk_after, desk_behind, desk_still, going, item_after, known_after}
use Rattle.thread_desk_stables.specs.Rows.{AllHeard, keeping_of}
use Rattle.thread_desk_stables.proofs.Owing.{some_at, without_stores}
use Rattle.thread_desk_stables.proofs.desks.look_all.Goals as goal

pub told_all-came-requires : goal.told_all-came-requires
told_all-came-requires g c =
    let kernel = going g.D.Disk g.B.Board.begin g.B.Board.terms g.B.Run.kept c.desk.inside.stores c.desk.inside.cells c.desk.inside.notes c.desk.inside.annals c.desk.inside.stopped c.till.inside.fragment.number c.till.inside.fragment.value c.till.inside.store c.till.invariant.0 c.till.invariant.1 c.agree.ensures.agreed c.in_default.is c.desk.invariant in
    record {
      keeps = c.requires.keeps;
      wishes = c.requires.wishes;
      managers = c.requires.managers;
      row = c.requires.row;
      kernel = without_stores g.D.Disk g.B.Board.begin g.B.Board.terms g.B.Run.kept c.desk.inside.stores c.desk.inside.cells c.desk.inside.notes c.desk.inside.annals c.till.inside.store kernel;
    }

pub hear_all-requires : goal.hear_all-requires
hear_all-requires g c =
    let kernel = going g.D.Disk g.B.Board.begin g.B.Board.terms g.B.Run.kept c.desk.inside.stores c.desk.inside.cells c.desk.inside.notes c.desk.inside.annals c.desk.inside.stopped c.till.inside.fragment.number c.till.inside.fragment.value c.till.inside.store c.till.invariant.0 c.till.invariant.1 c.agree.ensures.agreed c.in_default.is c.desk.invariant in
    record { row = c.told_all-came.ensures.row; known = known_after g.D.Disk g.B.Board.begin g.B.Board.terms g.B.Run.kept (g.S.Supplier.word c.args.gate.now.supply) (g.P.Policy.wish c.args.gate.now.policy) c.requires.managers.0 c.requires.managers.1 c.args.me c.desk.inside.stores c.desk.inside.cells c.desk.inside.notes c.desk.inside.annals c.till.inside.store kernel c.told_all-came.new.store c.told_all-came.new.all c.told_all-came.new.notes c.tell_store.new.stores c.told_all-came.new.annals c.told_all-came.ensures.told c.told_all-came.result c.told_all-came.ensures.looks c.told_all-came.ensures.undone }

pub invariant_of-desk : goal.invariant_of-desk
invariant_of-desk g c =
    let kernel = going g.D.Disk g.B.Board.begin g.B.Board.terms g.B.Run.kept c.desk.inside.stores c.desk.inside.cells c.desk.inside.notes c.desk.inside.annals c.desk.inside.stopped c.till.inside.fragment.number c.till.inside.fragment.value c.till.inside.store c.till.invariant.0 c.till.invariant.1 c.agree.ensures.agreed c.in_default.is c.desk.invariant in
    desk_behind g.D.Disk g.B.Board.begin g.B.Board.terms g.B.Run.kept c.desk.inside.stores c.agree.new.self c.tell_store.new.stores c.agree.new.fragment.number c.till.inside.store c.told_all-came.new.store c.told_all-came.new.all c.hear_all.new.all c.told_all-came.new.notes c.told_all-came.new.annals c.hear_all.new.annals (stop_in c.told_all-came.result) c.stop_of-desk-inside.result
    c.tell_store.ensures.stores c.agree.ensures.authority (ap (λ f. f.number) c.agree.ensures.fragment ∙ c.till.invariant.0)
    (ap (slice_get c.desk.inside.stores) (sym c.till.invariant.0) ∙ (c.agree.ensures.agreed ∙ c.till.invariant.1))
    c.hear_all.ensures.same.0 c.hear_all.ensures.same.1 c.stop_of-desk-inside.ensures
    (desk_after g.D.Disk g.B.Board.begin g.B.Board.terms g.B.Run.kept (g.S.Supplier.word c.args.gate.now.supply) (g.P.Policy.wish c.args.gate.now.policy) c.requires.managers.0 c.requires.managers.1 c.args.me c.desk.inside.stores c.desk.inside.cells c.desk.inside.notes c.desk.inside.annals c.till.inside.store kernel c.told_all-came.new.store c.told_all-came.new.all c.told_all-came.new.notes c.tell_store.new.stores c.told_all-came.new.annals c.told_all-came.ensures.told c.told_all-came.result c.told_all-came.ensures.looks c.told_all-came.ensures.undone)

pub returns-clause-item : goal.returns-clause-item
returns-clause-item g c =
    let kernel = going g.D.Disk g.B.Board.begin g.B.Board.terms g.B.Run.kept c.desk.inside.stores c.desk.inside.cells c.desk.inside.notes c.desk.inside.annals c.desk.inside.stopped c.till.inside.fragment.number c.till.inside.fragment.value c.till.inside.store c.till.invariant.0 c.till.invariant.1 c.agree.ensures.agreed c.in_default.is c.desk.invariant in
    let r = c.told_all-came.result in
    let es = c.told_all-came.new.notes.entries in
    let after = desk_after g.D.Disk g.B.Board.begin g.B.Board.terms g.B.Run.kept (g.S.Supplier.word c.args.gate.now.supply) (g.P.Policy.wish c.args.gate.now.policy) c.requires.managers.0 c.requires.managers.1 c.args.me c.desk.inside.stores c.desk.inside.cells c.desk.inside.notes c.desk.inside.annals c.till.inside.store kernel c.told_all-came.new.store c.told_all-came.new.all c.told_all-came.new.notes c.tell_store.new.stores c.told_all-came.new.annals c.told_all-came.ensures.told r c.told_all-came.ensures.looks c.told_all-came.ensures.undone in
    let here = some_at c.told_all-came.new.all c.args.me (let len = after.is_kept.orderly.numbers.len in let low = c.told_all-came.ensures.small in omega (arith, len, low)) in
    subst (λ (k : Knowing g.row.D.Denot). IfSome r (IsTrueOf g.B.Board.terms.told g.B.Board.begin c.args.me (length k.noted.entries) es)) c.desk.view_is
    (item_after g.D.Disk g.B.Board.begin g.B.Board.terms g.B.Run.kept (g.S.Supplier.word c.args.gate.now.supply) (g.P.Policy.wish c.args.gate.now.policy) c.requires.managers.0 c.requires.managers.1 c.args.me c.desk.inside.stores c.desk.inside.cells c.desk.inside.notes c.desk.inside.annals c.till.inside.store kernel c.told_all-came.new.store c.told_all-came.new.all c.told_all-came.new.notes here.0 here.1 r c.told_all-came.ensures.looks)

pub returns-clause-notes : goal.returns-clause-notes
returns-clause-notes g c =
    let es = c.told_all-came.new.notes.entries in
    subst (λ (k : Knowing g.row.D.Denot). NotesLook c.args.me (c.args.me ∷ []) k.noted.entries es) c.desk.view_is c.told_all-came.ensures.notes

pub returns-clause-heard : goal.returns-clause-heard
returns-clause-heard g c = λ none.
    subst (λ es. AllHeard es (map (λ it. keeping_of (mutex_guard_value it)) c.hear_all.new.cells)) (sym c.hear_all.ensures.same.1) c.hear_all.ensures.heard

pub returns-clause-undone : goal.returns-clause-undone
returns-clause-undone g c = λ none.
    let still = c.told_all-came.ensures.undone none in
    let same =
    desk_still c.desk.inside.stores c.agree.new.self c.tell_store.new.stores c.agree.new.fragment.number c.till.inside.store c.told_all-came.new.store c.desk.inside.cells c.told_all-came.new.all c.hear_all.new.all c.desk.inside.notes c.told_all-came.new.notes
    c.desk.inside.annals c.told_all-came.new.annals c.hear_all.new.annals c.desk.inside.stopped c.stop_of-desk-inside.result
    c.tell_store.ensures.stores c.agree.ensures.authority (ap (λ f. f.number) c.agree.ensures.fragment ∙ c.till.invariant.0)
    (ap (slice_get c.desk.inside.stores) (sym c.till.invariant.0) ∙ (c.agree.ensures.agreed ∙ c.till.invariant.1))
    c.hear_all.ensures.same.0 c.hear_all.ensures.same.1 (c.stop_of-desk-inside.ensures ∙ (ap stop_in none ∙ sym c.in_default.is)) still.0 still.1 in
    (same.0 ∙ c.desk.view_is, same.1 ∙ c.till.view_is)
