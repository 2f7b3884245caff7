use Rattle.std.proofs.Common.{map, sym, ap, subst, ◌∙◌, List}
use Rattle.std.proofs.lemmas.List.{map-append}
use Rattle.std.specs.Sync.Mutex.{mutex_guard_value}
use Rattle.thread_items.specs.thread_desk.Sights.{Sighted}
use Rattle.thread_locks.specs.Rows.{AreFrom}
use Rattle.thread_locks.proofs.Rows.{both_from, if_some}
use Rattle.thread_locks.proofs.locks.Locks.all_cells.Goals as goal

pub returns : goal.returns
returns g c =
    let others = c.in_ok-others.others.items in
    let loci = c.in_ok-loci.loci.items in
    if_some _ _ c.joined.result
    (λ v is. subst (λ (ss : List (Sighted g.row.D.Denot)). AreFrom 0 64 ss) (sym (ap (map mutex_guard_value) is ∙ map-append mutex_guard_value others loci))
    (both_from 0 41 23 (map mutex_guard_value others) (map mutex_guard_value loci) c.in_ok-others.ensures.row c.in_ok-loci.ensures))
    c.joined.ensures
