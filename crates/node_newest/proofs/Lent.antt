-- A kernel behind the reads of a record: why it stops, and that its parts are lawful then.
use Rattle.std.proofs.Common.{◌≡◌, Bool, true, false, List, Option, None, Result, Ok, Err, refl, sym, subst}
use Rattle.std.specs.Prelude.{IsErrOf}
use Rattle.edge_disk.specs.declared.disk.Disk.{Ghosts}
use Rattle.node_lending.specs.kernel_commit_facts.Parts.{Noted}
use Rattle.node_lending.specs.kernel_core.Parts.{held_of}
use Rattle.node_lending.specs.kernel_core_facts.Kernels.{IsKept}
use Rattle.kernel_invariant.specs.declared.stopping.Stopped.{Stopped}
use Rattle.kernel_records.specs.cell_states.declared.cells.Cell.{Cell}
use Rattle.node_lending.specs.Lending.{KeptLaw, StopsForReads}
use Rattle.node_newest.specs.Newest.{stop_behind}
use Rattle.node_pages.specs.Reading.{AnswersReads}
use Rattle.node_pages.specs.declared.faults.ShipFault.{ShipFault}
use Rattle.node_pages.specs.declared.faults.ShipFault.TheVariants as ship
use Rattle.store_snapshots.specs.store_facts.State.{State, books}

module _ {D T : Type 0} (disks : Ghosts D) (old new : State D) where
  -- it goes on behind them only if it went on before, and its store works
  going_then : (r : Result T ShipFault) (stop : Option Stopped) → AnswersReads disks old new r → stop_behind r stop ≡ None → (stop ≡ None) × ((books new).shut ≡ false)
  going_then (Ok x) stop answers none = (none, answers.ok)
  going_then (Err ship.ReadFault) stop answers none = cc none
  going_then (Err ship.Shut) stop answers none = absurd (answers.not_shut refl)
  going_then (Err ship.Memory) stop answers none = (none, answers.memory refl)

  pub behind : (r : Result T ShipFault) → AnswersReads disks old new r → StopsForReads disks old new (stop_behind r None)
  behind (Ok x) answers = answers.ok
  behind (Err ship.ReadFault) answers = (refl, (answers.failed refl).0)
  behind (Err ship.Shut) answers = absurd (answers.not_shut refl)
  behind (Err ship.Memory) answers = answers.memory refl

  -- its parts are lawful, also where its store had failed before
  module _ (law : KeptLaw disks) (cs : List Cell) (noted : Noted) (stop : Option Stopped) (k : IsKept disks (held_of old cs noted stop)) (r : Result T ShipFault) where
    kept_shut : IsErrOf r ship.Shut → new ≡ old → IsKept disks (held_of new cs noted (stop_behind r stop))
    kept_shut is same =
        subst (λ (q : Result T ShipFault). IsKept disks (held_of new cs noted (stop_behind q stop))) (sym is)
        (subst (λ (st : State D). IsKept disks (held_of st cs noted stop)) (sym same) k)

    pub kept_all : ((books old).shut ≡ true → IsErrOf r ship.Shut) → (IsErrOf r ship.Shut → new ≡ old) → ((books old).shut ≡ false → AnswersReads disks old new r)
        → IsKept disks (held_of new cs noted (stop_behind r stop))
    kept_all shut untouched answers = by_shut (books old).shut refl
      where
        by_shut : (t : Bool) → (books old).shut ≡ t → IsKept disks (held_of new cs noted (stop_behind r stop))
        by_shut true e = (let is = shut e in kept_shut is (untouched is))
        by_shut false e = law cs noted old new stop (stop_behind r stop) (answers e).goes k (going_then r stop (answers e))
