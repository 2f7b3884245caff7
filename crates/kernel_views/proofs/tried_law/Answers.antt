use Rattle.std.proofs.Common.{sym, subst}
use Rattle.kernel_records.specs.store_facts.State.{State}
use Rattle.kernel_records.specs.cell_wish_laws.Founded.{IsFoundedCell}
use Rattle.kernel_views.proofs.Leaving.{LeftCell}
use Rattle.kernel_views.proofs.Behind.{pages_order}
use Rattle.kernel_views.proofs.Trying.{stopped}
use Rattle.kernel_views.proofs.tried_law.Goals as goal

pub returns : goal.returns
returns g c b cs cs' a d old new es marks told st sure may k h =
    let left : LeftCell g.D.Disk b cs cs' a d old new es marks = record { told = told; stands = st; lends = k.lends; spellable = k.spellable; leaves = h.leaves } in
    let founded : IsFoundedCell d = subst IsFoundedCell (sym h.only_part) (st.orderly.founded a.clock.entity a k.lends.stood.0) in
    stopped left sure may k h (λ (fl : State g.row.D.Denot) pages. pages_order g.D.Disk cs cs' a d old fl h.leaves.same_clock k.lends founded pages st.orderly)
