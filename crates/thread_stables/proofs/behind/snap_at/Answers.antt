use Rattle.std.proofs.Common.{[], ◌∷◌, map, refl, sym, subst}
use Rattle.std.specs.Sync.Mutex.{mutex_guard_value}
use Rattle.thread_settling.specs.thread_commits.Snapping.{WritesAmong}
use Rattle.thread_settling.proofs.Lent.{seats_back}
use Rattle.thread_stables.proofs.Seats.{lent_at, same_seats}
use Rattle.thread_stables.proofs.behind.snap_at.Goals as goal

pub snap_touched_one-requires-clause-among : goal.snap_touched_one-requires-clause-among
snap_touched_one-requires-clause-among g c =
    let k = c.deref_mut-locus.result.now in
    let at = lent_at mutex_guard_value c.args.cells.now c.number-i.result c.args.me c.index-cells-i.result k c.index-cells-i.is c.deref_mut-locus.ensures.value c.requires.row c.number-i.ensures.number c.number-i.ensures.small in
    subst (λ n. WritesAmong c.args.entry.now (n ∷ [])) (sym at.1) c.requires.among

pub returns-clause-seats : goal.returns-clause-seats
returns-clause-seats g c =
    let k = c.deref_mut-locus.result.now in
    let at = lent_at mutex_guard_value c.args.cells.now c.number-i.result c.args.me c.index-cells-i.result k c.index-cells-i.is c.deref_mut-locus.ensures.value c.requires.row c.number-i.ensures.number c.number-i.ensures.small in
    seats_back mutex_guard_value c.args.cells.now c.args.cells.now c.number-i.result _ c.snap_touched_one.new.one k refl at.0 c.snap_touched_one.ensures.one.0 c.snap_touched_one.ensures.one.1 (same_seats (map mutex_guard_value c.args.cells.now))
