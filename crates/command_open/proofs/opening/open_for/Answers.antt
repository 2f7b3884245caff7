use Rattle.std.proofs.Common.{◌≡◌, ◌⊎◌, inr, sym, subst}
use Rattle.edge_disk.specs.Counts.{Rose}
use Rattle.command_outcomes.specs.Seen.{seen_disk}
use Rattle.script_fits.specs.model_births.Fitting.{Fits}
use Rattle.command_promises.specs.kernel_core_facts.Kernels.{StaysClean}
use Rattle.script_types.specs.Scripts.{tables_of}
use Rattle.command_promises.specs.table_births.Births.{atlas_state_in}
use Rattle.command_promises.specs.Ready.{IsFitFault, IsReady, StopsOpening}
use Rattle.command_outcomes.specs.declared.faults.Fault.TheVariants as fault
use Rattle.command_open.proofs.Fitted.{on_fault, on_kernel}
use Rattle.command_promises.proofs.Readied.{is_ready}
use Rattle.command_promises.proofs.Unmade.{misfits, misfits_complete, unopened, unopened_complete}
use Rattle.command_open.proofs.opening.open_for.Goals as goal

pub returns-in-Ok-clause-ready : goal.returns-in-Ok-clause-ready
returns-in-Ok-clause-ready g c told =
    let d = g.D.Disk in
    let k = c.in-Ok.kernel in
    let script = tables_of c.args.script.now in
    on_kernel c.fit.result k (λ j. Fits (atlas_state_in j.parts.cells) script) (λ j. IsReady d script c.args.disk j) c.fit.ensures.same c.fit.ensures.fits
    (λ fits. is_ready d script c.args.disk k c.requires.allowed fits (c.in-Ok.ensures.opened told))

pub returns-in-Ok-clause-clean : goal.returns-in-Ok-clause-clean
returns-in-Ok-clause-clean g c s =
    let k = c.in-Ok.kernel in
    on_kernel c.fit.result k (λ j. j ≡ k) (StaysClean g.D.Disk s) c.fit.ensures.same c.fit.ensures.same (λ same. c.in-Ok.ensures.clean s)

pub returns-in-Ok-clause-stops : goal.returns-in-Ok-clause-stops
returns-in-Ok-clause-stops g c =
    let d = g.D.Disk in
    let k = c.in-Ok.kernel in
    let old = c.args.disk in
    let script = tables_of c.args.script.now in
    on_fault (λ e. e.fault) (λ e. e.disk) c.fit.result k.parts.store.disk (IsFitFault (atlas_state_in k.parts.cells) script)
    (λ f disk. StopsOpening script (seen_disk d old disk) f)
    c.fit.ensures.refused c.fit.ensures.disk
    (λ f is. misfits d g.met.D.Disk.counts_now script old k.parts.store.disk k.parts.cells (λ told s. (c.in-Ok.ensures.opened told).image.means s) f is c.in-Ok.ensures.since c.in-Ok.ensures.any_moment)

pub returns-in-Ok-clause-complete : goal.returns-in-Ok-clause-complete
returns-in-Ok-clause-complete g c told s w means fits =
    let d = g.D.Disk in
    let k = c.in-Ok.kernel in
    let old = c.args.disk in
    let script = tables_of c.args.script.now in
    on_fault (λ e. e.fault) (λ e. e.disk) c.fit.result k.parts.store.disk (IsFitFault (atlas_state_in k.parts.cells) script)
    (λ f disk. Rose (d.faults old) (d.faults disk) ⊎ (f ≡ fault.Memory))
    c.fit.ensures.refused c.fit.ensures.disk
    (λ f is. inr (misfits_complete d g.met.D.Disk.counts_now script old k.parts.store.disk k.parts.cells (λ told s. (c.in-Ok.ensures.opened told).image.means s) told s w means fits f is))

pub returns-in-Err-clause-stops : goal.returns-in-Err-clause-stops
returns-in-Err-clause-stops g c =
    let d = g.D.Disk in
    let f = c.in-Err.field-0 in
    let old = c.args.disk in
    let script = tables_of c.args.script.now in
    subst (StopsOpening script (seen_disk d old f.disk)) (sym c.fault_of_opening.ensures)
    (unopened d g.met.D.Disk.counts_now script old f.disk g.met.D.Disk.only_now g.met.D.Disk.counts_later c.in-Err.ensures.any_moment f.why c.in-Err.ensures.cause c.in-Err.ensures.refused c.in-Err.ensures.since)

pub returns-in-Err-clause-complete : goal.returns-in-Err-clause-complete
returns-in-Err-clause-complete g c told s w means fits =
    let d = g.D.Disk in
    let f = c.in-Err.field-0 in
    subst (λ h. Rose (d.faults c.args.disk) (d.faults f.disk) ⊎ (h ≡ fault.Memory)) (sym c.fault_of_opening.ensures)
    (unopened_complete d g.met.D.Disk.counts_now (tables_of c.args.script.now) c.args.disk f.disk f.why means.accepted c.in-Err.ensures.cause (c.in-Err.ensures.not_foreign told))
