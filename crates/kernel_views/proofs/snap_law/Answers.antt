use Rattle.kernel_records.specs.store_facts.State.{State, books}
use Rattle.kernel_records.specs.Committing.{HasPages}
use Rattle.table_laws.specs.Tables.{IsOrderly}
use Rattle.kernel_views.proofs.Leaving.{LeftCell}
use Rattle.kernel_views.proofs.Behind.{pages_order, recorded_founded}
use Rattle.kernel_views.proofs.Snapping.{clean_on, made_snap}
use Rattle.kernel_views.proofs.snap_law.Goals as goal

pub returns : goal.returns
returns g c b cs cs' a d old new es marks told st sure may k =
    let left : LeftCell g.D.Disk b cs cs' a d old new es marks = record { told = told; stands = st; lends = k.left.lends; spellable = k.left.spellable; leaves = k.committed.leaves } in
    let ord : (fl : State g.row.D.Denot) → HasPages g.D.Disk a.part d.part old fl → IsOrderly (books fl).held cs' =
    λ fl pages. pages_order g.D.Disk cs cs' a d old fl k.committed.leaves.same_clock k.left.lends (recorded_founded a d k.committed.recorded) pages st.orderly in
    (made_snap left sure may k ord, clean_on left sure may k ord)
