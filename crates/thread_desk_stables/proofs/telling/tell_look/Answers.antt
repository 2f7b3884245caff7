use Rattle.std.proofs.Common.{◌++◌, ◌∷◌, [], sym, subst, arith, append_assoc}
use Rattle.thread_stables.specs.thread_commits.Snapping.{AddsAmong}
use Rattle.thread_desk_stables.proofs.Noted.{first_is}
use Rattle.thread_stables.specs.thread_looks.Looking.{NotesLook}
use Rattle.thread_desk_stables.proofs.telling.tell_look.Goals as goal

pub tell_alone-requires-clause-among : goal.tell_alone-requires-clause-among
tell_alone-requires-clause-among g c =
    let es = c.entries-entries.result.now in
    let f = c.index-entries-place.result in
    let me = c.args.locus.now.number in
    let notes = subst (λ ys. NotesLook me (me ∷ []) (g.B.Run.kept ++ c.args.annals.now) ys) (sym c.entries-entries.ensures) c.requires.notes in
    let lt = c.if-place-entries.true in
    let first = first_is me (me ∷ []) (g.B.Run.kept ++ c.args.annals.now) es c.args.place f notes c.requires.place (omega (arith, lt)) c.index-entries-place.is in
    subst (λ ys. AddsAmong [] (g.B.Run.kept ++ ys) c.args.notes.now.entries) (sym c.append_with_one.ensures.authority)
    (subst (λ ys. AddsAmong [] (g.B.Run.kept ++ (c.args.annals.now ++ f ∷ [])) ys) c.entries-entries.ensures
    (subst (λ ys. AddsAmong [] ys es) (append_assoc g.B.Run.kept c.args.annals.now (f ∷ [])) first.1))
