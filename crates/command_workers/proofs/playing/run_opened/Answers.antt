use denote.Param.Send.{given_sync, sendable}
use Rattle.std.proofs.Common.{◌≡◌, List, Option, Some, sym, ap, subst, ◌∙◌}
use Rattle.edge_disk.specs.Counts.{Rose}
use Rattle.base_types.specs.declared.histories.Entry.{Entry}
use Rattle.command_open.specs.table_births.cell_states.declared.cells.Cell.{Cell}
use Rattle.command_open.specs.kernel_invariant.Beginnings.{Beginning}
use Rattle.command_open.specs.kernel_invariant.declared.stopping.Stopped.{Stopped}
use Rattle.command_open.specs.store_facts.State.{books}
use Rattle.command_open.specs.table_births.Births.{atlas_state_in}
use Rattle.command_outcomes.specs.Seen.{seen_sink}
use Rattle.command_outcomes.specs.declared.faults.Fault.{Fault}
use Rattle.command_run.specs.Tellings.{lines_of}
use Rattle.command_open.specs.command_promises.Manners.{on_threads}
use Rattle.command_open.specs.command_promises.Playing.{EndsAs, IsPutBy, fault_met}
use Rattle.command_open.proofs.command_promises_lemmas.Played.{IsCauseBy, play_leaves}
use Rattle.command_workers.specs.Starting.{StartsOne}
use Rattle.command_workers.proofs.Ordered.{ends_in_order}
use Rattle.command_workers.proofs.Single.{cause_counted}
use Rattle.command_workers.proofs.playing.run_opened.Goals as goal

pub returns-clause-leaves : goal.returns-clause-leaves
returns-clause-leaves g c =
    let d = g.D.Disk in
    let old = c.args.kernel in
    let ran = c.run_on_threads-kernel in
    let new = ran.result.kernel in
    let lacked = ran.result.lacked in
    let end = c.into_ended-disk in
    let status = c.put_run-status.result in
    let sink = seen_sink g.W.Sink.held g.W.Sink.faults c.args.sink.now c.put_run-status.new.sink in
    let telling = lines_of c.args.lines in
    let manner = on_threads telling in
    let rose = Rose (d.faults old.parts.store.disk) (d.faults end.result.disk) in
    let cause : (why : Stopped) → new.stop ≡ Some why → IsCauseBy rose why =
    λ why is. subst (λ (disk : g.row.D.Denot). IsCauseBy (Rose (d.faults old.parts.store.disk) (d.faults disk)) why) (sym end.ensures.disk) (cause_counted d old new ran.ensures.counted why is) in
    let met : c.met_by-met.result ≡ fault_met new.stop lacked = c.met_by-met.ensures ∙ ap (λ (o : Option Stopped). fault_met o lacked) c.stopped.ensures in
    let put = subst (λ (es : List Entry). IsPutBy (fault_met new.stop lacked) sink (telling (atlas_state_in new.parts.cells) es) status) c.history.ensures.entries
    (subst (λ (cs : List Cell). IsPutBy (fault_met new.stop lacked) sink (telling (atlas_state_in cs) c.history.result.now) status) c.cells.ensures (subst (λ (o : Option Fault). IsPutBy o sink (telling (atlas_state_in c.cells.result.now) c.history.result.now) status) met c.put_run-status.ensures.put)) in
    play_leaves d manner lacked new sink (record { status = status; history = end.result.history.items; marks = end.result.marks.items }) end.result.disk
    end.ensures.history end.ensures.marks end.ensures.disk
    (StartsOne d old g.b) rose (books old.parts.store).count ran.ensures.counted.same_count (λ yes. tt)
    (λ told b start. subst (λ (x : Beginning). EndsAs d manner x lacked new) (sym start.0) (ends_in_order d telling g.b lacked new (ran.ensures.run told start.1)))
    cause put

pub run_on_threads-kernel-requires : goal.run_on_threads-kernel-requires
run_on_threads-kernel-requires g c κs within =
    let runtime_shared = λ (u : Unit {0}). given_sync 4 g.row.R c.requires.1.1.1.1.1.1.1.1.1.1.1.0 in
    let steps_shared = λ (u : Unit {0}). given_sync 5 g.row.G c.requires.1.1.1.1.1.1.1.1.1.1.1.1.0 in
    (within.0, (within.1.0, (within.1.1.0, (within.1.1.1.0, (within.1.1.1.1, (search sendable depth 20, (search sendable depth 20, (search sendable depth 20, (search sendable depth 20, (search sendable depth 20, (search (sendable, runtime_shared) depth 20, (search (sendable, steps_shared) depth 20, (c.requires.1.1.1.1.1.1.1.1.1.1.1.1.1.0, (c.requires.1.1.1.1.1.1.1.1.1.1.1.1.1.1.0, (c.requires.1.1.1.1.1.1.1.1.1.1.1.1.1.1.1.0, (c.requires.1.1.1.1.1.1.1.1.1.1.1.1.1.1.1.1.1.0, (c.requires.1.1.1.1.1.1.1.1.1.1.1.1.1.1.1.1.1.1.0, (c.requires.1.1.1.1.1.1.1.1.1.1.1.1.1.1.1.1.1.1.1.0, (c.requires.1.1.1.1.1.1.1.1.1.1.1.1.1.1.1.1.1.1.1.1.0, (c.requires.1.1.1.1.1.1.1.1.1.1.1.1.1.1.1.1.1.1.1.1.1, c.requires.1.1.1.1.1.1.1.1.1.1.1.1.1.1.1.1.0))))))))))))))))))))
