use Rattle.std.proofs.Common.{arith}
use Rattle.std.proofs.lemmas.Result.{err_from_is_err_and}
use Rattle.cell_looks.proofs.Short.{short_err, short_ok, turned_err}
use Rattle.cell_steps.proofs.Taking.{takes_somehow, takes_two}
use Rattle.cell_steps.proofs.lookings.advance_looking.Goals as goal

pub note-requires-2 : goal.note-requires-2
note-requires-2 g c acts =
    let made = c.in_ok-entry.ensures in
    absurd (omega (arith, c.requires.lower, made.entities.1, made.actor, acts))

pub returns-clause-step : goal.returns-clause-step
returns-clause-step g c tells =
    let s = g.S.Supplier.word c.args.gate.now.supply in
    let words = g.B.PageStore.words c.args.store.now in
    let made = c.in_ok-entry.ensures in
    let mid = c.step_look.new in
    takes_two s words (g.B.PageStore.words c.step_look.new.store) c.args.locus.now c.args.other.now mid.locus mid.other c.note.new.cell c.note-2.new.cell c.in_ok-entry.entry c.named_by_snap-named.result (made.step tells)
    c.note.ensures c.note-2.ensures (record { entity = made.entities.0; wish = made.rest.0; left = made.rest.1 }) (record { entity = made.entities.1; wish = made.rest.2; left = made.rest.3 })
    (c.named_by_snap-named.ensures s words)

pub returns-clause-somehow : goal.returns-clause-somehow
returns-clause-somehow g c =
    let made = c.in_ok-entry.ensures in
    let mid = c.step_look.new in
    takes_somehow c.args.locus.now c.args.other.now mid.locus mid.other c.note.new.cell c.note-2.new.cell c.in_ok-entry.entry c.named_by_snap-named.result made.somehow c.note.ensures c.note-2.ensures
    (record { entity = made.entities.0; wish = made.rest.0; left = made.rest.1 }) (record { entity = made.entities.1; wish = made.rest.2; left = made.rest.3 }) c.named_by_snap-named.ensures

pub returns-in_err-entry-clause-no_blocks : goal.returns-in_err-entry-clause-no_blocks
returns-in_err-entry-clause-no_blocks g c =
    let p = err_from_is_err_and c.from_residual.result c.from_residual.ensures.1 in
    rw (p.1, p.2) (short_err _ c.in_err-entry.ensures.no_blocks)

pub returns-in_err-entry-clause-turned : goal.returns-in_err-entry-clause-turned
returns-in_err-entry-clause-turned g c =
    let p = err_from_is_err_and c.from_residual.result c.from_residual.ensures.1 in
    rw (p.1, p.2) (turned_err _ c.in_err-entry.ensures.turned)

pub returns-clause-no_blocks : goal.returns-clause-no_blocks
returns-clause-no_blocks g c = short_ok _ _ c.in_ok-entry.ensures.no_blocks
