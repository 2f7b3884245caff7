use Rattle.std.proofs.Common.{◌≡◌, [], None, map, refl, sym, subst, ◌∙◌}
use Rattle.std.specs.Prelude.{◌↔◌, IfOk, IfSome}
use Rattle.std.specs.Sync.Mutex.{mutex_guard_value}
use Rattle.kernel_core_facts.specs.Looked.{IfMade, StepsOnce}
use Rattle.kernel_core_facts.specs.kernel_commit_facts.Parts.{parts_of}
use Rattle.thread_looks.specs.thread_cell_steps.Advancing.{TouchesThese, WantsOthers}
use Rattle.thread_settling.proofs.Lent.{row_back, seats_back}
use Rattle.thread_stables.proofs.Seats.{lent_at, same_seats}
use Rattle.thread_stables.proofs.looking.make_at.Goals as goal

pub returns-clause-row : goal.returns-clause-row
returns-clause-row g c =
    let k = c.deref_mut-locus.result.now in
    let at = lent_at mutex_guard_value c.args.cells.now c.number-i.result c.args.me c.index-cells-i.result k c.index-cells-i.is c.deref_mut-locus.ensures.value c.requires.row c.number-i.ensures.number c.number-i.ensures.small in
    row_back mutex_guard_value c.args.cells.now c.number-i.result _ c.make_one.new.locus refl c.requires.row (c.make_one.ensures.locus.0 ∙ (at.1 ∙ sym c.number-i.ensures.number))

pub returns-clause-seats : goal.returns-clause-seats
returns-clause-seats g c =
    let k = c.deref_mut-locus.result.now in
    let at = lent_at mutex_guard_value c.args.cells.now c.number-i.result c.args.me c.index-cells-i.result k c.index-cells-i.is c.deref_mut-locus.ensures.value c.requires.row c.number-i.ensures.number c.number-i.ensures.small in
    seats_back mutex_guard_value c.args.cells.now c.args.cells.now c.number-i.result _ c.make_one.new.locus k refl at.0 c.make_one.ensures.locus.0 c.make_one.ensures.locus.1 (same_seats (map mutex_guard_value c.args.cells.now))

pub returns-clause-unfit : goal.returns-clause-unfit
returns-clause-unfit g c =
    let k = c.deref_mut-locus.result.now in
    let at = lent_at mutex_guard_value c.args.cells.now c.number-i.result c.args.me c.index-cells-i.result k c.index-cells-i.is c.deref_mut-locus.ensures.value c.requires.row c.number-i.ensures.number c.number-i.ensures.small in
    subst (λ n. (c.make_one.result ≡ None) ↔ WantsOthers c.args.all.now n []) at.1 c.make_one.ensures.unfit

pub returns-clause-makes : goal.returns-clause-makes
returns-clause-makes g c =
    let k = c.deref_mut-locus.result.now in
    let at = lent_at mutex_guard_value c.args.cells.now c.number-i.result c.args.me c.index-cells-i.result k c.index-cells-i.is c.deref_mut-locus.ensures.value c.requires.row c.number-i.ensures.number c.number-i.ensures.small in
    let old = parts_of c.args.store.now c.args.all.now c.args.notes.now in
    let new = parts_of c.make_one.new.store c.make_one.new.all c.make_one.new.notes in
    subst (λ n. IfSome c.make_one.result (StepsOnce g.D.Disk (g.S.Supplier.word c.args.gate.now.supply) n old new)) at.1 c.make_one.ensures.makes

pub returns-clause-touches : goal.returns-clause-touches
returns-clause-touches g c =
    let k = c.deref_mut-locus.result.now in
    let at = lent_at mutex_guard_value c.args.cells.now c.number-i.result c.args.me c.index-cells-i.result k c.index-cells-i.is c.deref_mut-locus.ensures.value c.requires.row c.number-i.ensures.number c.number-i.ensures.small in
    subst (λ n. IfSome c.make_one.result (λ came. IfOk came (λ o. IfMade o (TouchesThese c.args.all.now n [])))) at.1 c.make_one.ensures.touches
