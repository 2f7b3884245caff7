use Rattle.std.proofs.Common.{[], ◌∷◌, ap, sym, subst, ◌∙◌, length, slice_get}
use Rattle.std.specs.Prelude.{IfSome}
use Rattle.thread_desk.specs.Desks.{Knowing}
use Rattle.thread_desk.specs.Sights.{AreKnown, Sighted}
use Rattle.thread_desk_looks.specs.Items.{IsTrueOf}
use Rattle.thread_history.specs.Rules.{AllDiffer}
use Rattle.thread_looks.specs.Looking.{NotesLook, stop_in}
use Rattle.thread_desk_looks.proofs.Looked.{desk_after, desk_behind, desk_still, goes_clean, goes_steady, going, item_after, known_after}
use Rattle.thread_desk_looks.proofs.desks.look_three.Goals as goal

pub told_three-came-requires : goal.told_three-came-requires
told_three-came-requires g c =
    let kernel = going g.D.Disk g.B.Board.begin g.B.Board.terms g.B.Run.kept c.desk.inside.stores c.desk.inside.cells c.desk.inside.notes c.desk.inside.annals c.desk.inside.stopped c.till.inside.fragment.number c.till.inside.fragment.value c.till.inside.store c.till.invariant.0 c.till.invariant.1 c.agree.ensures.agreed c.in_default.is c.desk.invariant in
    record {
      keeps = c.requires.keeps;
      wishes = c.requires.wishes;
      steady = goes_steady g.D.Disk g.B.Board.begin g.B.Board.terms g.B.Run.kept (g.S.Supplier.word c.args.gate.now.supply) (g.P.Policy.wish c.args.gate.now.policy) c.requires.managers.0 c.requires.managers.1 c.locus.inside.locked.number c.desk.inside.stores c.desk.inside.cells c.desk.inside.notes c.desk.inside.annals c.till.inside.store kernel;
      clean = goes_clean g.D.Disk g.B.Board.begin g.B.Board.terms g.B.Run.kept (g.S.Supplier.word c.args.gate.now.supply) (g.P.Policy.wish c.args.gate.now.policy) c.requires.managers.0 c.requires.managers.1 c.locus.inside.locked.number c.desk.inside.stores c.desk.inside.cells c.desk.inside.notes c.desk.inside.annals c.till.inside.store kernel;
      told = kernel.entries;
      apart = subst (λ (z : Sighted g.row.D.Denot). AllDiffer (c.locus.inside.locked.number ∷ c.atlas.inside.locked.number ∷ z.number ∷ [])) (sym c.other.view_is) (subst (λ (z : Sighted g.row.D.Denot). AllDiffer (c.locus.inside.locked.number ∷ z.number ∷ c.args.other.now.number ∷ [])) (sym c.atlas.view_is) (subst (λ (z : Sighted g.row.D.Denot). AllDiffer (z.number ∷ c.args.atlas.now.number ∷ c.args.other.now.number ∷ [])) (sym c.locus.view_is) c.requires.apart));
    }

pub hear_lent-requires : goal.hear_lent-requires
hear_lent-requires g c =
    let kernel = going g.D.Disk g.B.Board.begin g.B.Board.terms g.B.Run.kept c.desk.inside.stores c.desk.inside.cells c.desk.inside.notes c.desk.inside.annals c.desk.inside.stopped c.till.inside.fragment.number c.till.inside.fragment.value c.till.inside.store c.till.invariant.0 c.till.invariant.1 c.agree.ensures.agreed c.in_default.is c.desk.invariant in
    record { known = known_after g.D.Disk g.B.Board.begin g.B.Board.terms g.B.Run.kept (g.S.Supplier.word c.args.gate.now.supply) (g.P.Policy.wish c.args.gate.now.policy) c.requires.managers.0 c.requires.managers.1 c.locus.inside.locked.number c.desk.inside.stores c.desk.inside.cells c.desk.inside.notes c.desk.inside.annals c.till.inside.store kernel c.told_three-came.new.store c.told_three-came.new.all c.told_three-came.new.notes c.tell_store.new.stores c.told_three-came.new.annals c.told_three-came.ensures.told c.told_three-came.result c.told_three-came.ensures.looks c.told_three-came.ensures.undone }

pub hear_lent-requires-2 : goal.hear_lent-requires-2
hear_lent-requires-2 g c =
    let kernel = going g.D.Disk g.B.Board.begin g.B.Board.terms g.B.Run.kept c.desk.inside.stores c.desk.inside.cells c.desk.inside.notes c.desk.inside.annals c.desk.inside.stopped c.till.inside.fragment.number c.till.inside.fragment.value c.till.inside.store c.till.invariant.0 c.till.invariant.1 c.agree.ensures.agreed c.in_default.is c.desk.invariant in
    let known = known_after g.D.Disk g.B.Board.begin g.B.Board.terms g.B.Run.kept (g.S.Supplier.word c.args.gate.now.supply) (g.P.Policy.wish c.args.gate.now.policy) c.requires.managers.0 c.requires.managers.1 c.locus.inside.locked.number c.desk.inside.stores c.desk.inside.cells c.desk.inside.notes c.desk.inside.annals c.till.inside.store kernel c.told_three-came.new.store c.told_three-came.new.all c.told_three-came.new.notes c.tell_store.new.stores c.told_three-came.new.annals c.told_three-came.ensures.told c.told_three-came.result c.told_three-came.ensures.looks c.told_three-came.ensures.undone in
    record { known = subst (λ cs. AreKnown g.D.Disk g.B.Board.terms.told g.B.Board.begin g.B.Run.kept c.told_three-came.new.store cs c.hear_lent.new.annals) (sym (c.hear_lent.ensures.same.0)) (subst (AreKnown g.D.Disk g.B.Board.terms.told g.B.Board.begin g.B.Run.kept c.told_three-came.new.store c.told_three-came.new.all) (sym (c.hear_lent.ensures.same.1)) known) }

pub hear_lent-requires-3 : goal.hear_lent-requires-3
hear_lent-requires-3 g c =
    let kernel = going g.D.Disk g.B.Board.begin g.B.Board.terms g.B.Run.kept c.desk.inside.stores c.desk.inside.cells c.desk.inside.notes c.desk.inside.annals c.desk.inside.stopped c.till.inside.fragment.number c.till.inside.fragment.value c.till.inside.store c.till.invariant.0 c.till.invariant.1 c.agree.ensures.agreed c.in_default.is c.desk.invariant in
    let known = known_after g.D.Disk g.B.Board.begin g.B.Board.terms g.B.Run.kept (g.S.Supplier.word c.args.gate.now.supply) (g.P.Policy.wish c.args.gate.now.policy) c.requires.managers.0 c.requires.managers.1 c.locus.inside.locked.number c.desk.inside.stores c.desk.inside.cells c.desk.inside.notes c.desk.inside.annals c.till.inside.store kernel c.told_three-came.new.store c.told_three-came.new.all c.told_three-came.new.notes c.tell_store.new.stores c.told_three-came.new.annals c.told_three-came.ensures.told c.told_three-came.result c.told_three-came.ensures.looks c.told_three-came.ensures.undone in
    record { known = subst (λ cs. AreKnown g.D.Disk g.B.Board.terms.told g.B.Board.begin g.B.Run.kept c.told_three-came.new.store cs c.hear_lent-2.new.annals) (sym (c.hear_lent-2.ensures.same.0 ∙ c.hear_lent.ensures.same.0)) (subst (AreKnown g.D.Disk g.B.Board.terms.told g.B.Board.begin g.B.Run.kept c.told_three-came.new.store c.told_three-came.new.all) (sym (c.hear_lent-2.ensures.same.1 ∙ c.hear_lent.ensures.same.1)) known) }

pub invariant_of-desk : goal.invariant_of-desk
invariant_of-desk g c =
    let kernel = going g.D.Disk g.B.Board.begin g.B.Board.terms g.B.Run.kept c.desk.inside.stores c.desk.inside.cells c.desk.inside.notes c.desk.inside.annals c.desk.inside.stopped c.till.inside.fragment.number c.till.inside.fragment.value c.till.inside.store c.till.invariant.0 c.till.invariant.1 c.agree.ensures.agreed c.in_default.is c.desk.invariant in
    desk_behind g.D.Disk g.B.Board.begin g.B.Board.terms g.B.Run.kept c.desk.inside.stores c.agree.new.self c.tell_store.new.stores c.agree.new.fragment.number c.till.inside.store c.told_three-came.new.store c.told_three-came.new.all c.hear_lent-3.new.all c.told_three-came.new.notes c.told_three-came.new.annals c.hear_lent-3.new.annals (stop_in c.told_three-came.result) c.stop_of-desk-inside.result
    c.tell_store.ensures.stores c.agree.ensures.authority (ap (λ f. f.number) c.agree.ensures.fragment ∙ c.till.invariant.0)
    (ap (slice_get c.desk.inside.stores) (sym c.till.invariant.0) ∙ (c.agree.ensures.agreed ∙ c.till.invariant.1))
    (c.hear_lent-3.ensures.same.0 ∙ (c.hear_lent-2.ensures.same.0 ∙ c.hear_lent.ensures.same.0)) (c.hear_lent-3.ensures.same.1 ∙ (c.hear_lent-2.ensures.same.1 ∙ c.hear_lent.ensures.same.1)) c.stop_of-desk-inside.ensures
    (desk_after g.D.Disk g.B.Board.begin g.B.Board.terms g.B.Run.kept (g.S.Supplier.word c.args.gate.now.supply) (g.P.Policy.wish c.args.gate.now.policy) c.requires.managers.0 c.requires.managers.1 c.locus.inside.locked.number c.desk.inside.stores c.desk.inside.cells c.desk.inside.notes c.desk.inside.annals c.till.inside.store kernel c.told_three-came.new.store c.told_three-came.new.all c.told_three-came.new.notes c.tell_store.new.stores c.told_three-came.new.annals c.told_three-came.ensures.told c.told_three-came.result c.told_three-came.ensures.looks c.told_three-came.ensures.undone)

pub returns-clause-item : goal.returns-clause-item
returns-clause-item g c =
    let kernel = going g.D.Disk g.B.Board.begin g.B.Board.terms g.B.Run.kept c.desk.inside.stores c.desk.inside.cells c.desk.inside.notes c.desk.inside.annals c.desk.inside.stopped c.till.inside.fragment.number c.till.inside.fragment.value c.till.inside.store c.till.invariant.0 c.till.invariant.1 c.agree.ensures.agreed c.in_default.is c.desk.invariant in
    let r = c.told_three-came.result in
    let es = c.told_three-came.new.notes.entries in
    let at = ap (slice_get c.told_three-came.new.all) (sym c.told_three-came.ensures.numbers.0) ∙ c.hear_lent.ensures.stands in
    subst (λ (k : Knowing g.row.D.Denot). IfSome r (IsTrueOf g.B.Board.terms.told g.B.Board.begin c.args.locus.now.number (length k.noted.entries) es)) c.desk.view_is
    (subst (λ (z : Sighted g.row.D.Denot). IfSome r (IsTrueOf g.B.Board.terms.told g.B.Board.begin z.number (length c.desk.inside.notes.entries) es)) c.locus.view_is
    (item_after g.D.Disk g.B.Board.begin g.B.Board.terms g.B.Run.kept (g.S.Supplier.word c.args.gate.now.supply) (g.P.Policy.wish c.args.gate.now.policy) c.requires.managers.0 c.requires.managers.1 c.locus.inside.locked.number c.desk.inside.stores c.desk.inside.cells c.desk.inside.notes c.desk.inside.annals c.till.inside.store kernel c.told_three-came.new.store c.told_three-came.new.all c.told_three-came.new.notes c.told_three-came.new.locus.cell at r c.told_three-came.ensures.looks))

pub returns-clause-notes : goal.returns-clause-notes
returns-clause-notes g c =
    let es = c.told_three-came.new.notes.entries in
    subst (λ (k : Knowing g.row.D.Denot). NotesLook c.args.locus.now.number (c.args.locus.now.number ∷ c.args.atlas.now.number ∷ c.args.other.now.number ∷ []) k.noted.entries es) c.desk.view_is
    (subst (λ (z : Sighted g.row.D.Denot). NotesLook z.number (z.number ∷ c.args.atlas.now.number ∷ c.args.other.now.number ∷ []) c.desk.inside.notes.entries es) c.locus.view_is
    (subst (λ (z : Sighted g.row.D.Denot). NotesLook c.locus.inside.locked.number (c.locus.inside.locked.number ∷ z.number ∷ c.args.other.now.number ∷ []) c.desk.inside.notes.entries es) c.atlas.view_is
    (subst (λ (z : Sighted g.row.D.Denot). NotesLook c.locus.inside.locked.number (c.locus.inside.locked.number ∷ c.atlas.inside.locked.number ∷ z.number ∷ []) c.desk.inside.notes.entries es) c.other.view_is
    c.told_three-came.ensures.notes)))

pub returns-clause-undone : goal.returns-clause-undone
returns-clause-undone g c = λ none.
    let still = c.told_three-came.ensures.undone none in
    let same =
    desk_still c.desk.inside.stores c.agree.new.self c.tell_store.new.stores c.agree.new.fragment.number c.till.inside.store c.told_three-came.new.store c.desk.inside.cells c.told_three-came.new.all c.hear_lent-3.new.all c.desk.inside.notes c.told_three-came.new.notes
    c.desk.inside.annals c.told_three-came.new.annals c.hear_lent-3.new.annals c.desk.inside.stopped c.stop_of-desk-inside.result
    c.tell_store.ensures.stores c.agree.ensures.authority (ap (λ f. f.number) c.agree.ensures.fragment ∙ c.till.invariant.0)
    (ap (slice_get c.desk.inside.stores) (sym c.till.invariant.0) ∙ (c.agree.ensures.agreed ∙ c.till.invariant.1))
    (c.hear_lent-3.ensures.same.0 ∙ (c.hear_lent-2.ensures.same.0 ∙ c.hear_lent.ensures.same.0)) (c.hear_lent-3.ensures.same.1 ∙ (c.hear_lent-2.ensures.same.1 ∙ c.hear_lent.ensures.same.1)) (c.stop_of-desk-inside.ensures ∙ (ap stop_in none ∙ sym c.in_default.is)) still.0 still.1 in
    (same.0 ∙ c.desk.view_is, same.1 ∙ c.till.view_is)
