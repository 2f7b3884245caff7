use Rattle.std.proofs.Common.{◌≡◌, false, List, Option, Some, ap, subst, ◌∙◌}
use Rattle.edge_disk.specs.Counts.{Rose}
use Rattle.base_types.specs.declared.histories.Entry.{Entry}
use Rattle.cell_states.specs.declared.cells.Cell.{Cell}
use Rattle.command_open.specs.kernel_invariant.declared.stopping.Stopped.{Stopped}
use Rattle.script_types.specs.Scripts.{tables_of}
use Rattle.command_open.specs.store_facts.State.{books}
use Rattle.command_open.specs.table_births.Births.{atlas_state_in}
use Rattle.command_outcomes.specs.Seen.{seen_sink}
use Rattle.command_outcomes.specs.declared.faults.Fault.{Fault}
use Rattle.command_run.specs.Tellings.{lines_of}
use Rattle.command_open.specs.command_promises.Manners.{serial}
use Rattle.command_open.specs.command_promises.Playing.{IsPutBy, StartsRun, fault_met}
use Rattle.command_open.proofs.command_promises_lemmas.Played.{IsCauseBy, by_answer, ends_serial, play_leaves}
use Rattle.command_run.proofs.playing.run_opened.Goals as goal

pub returns-clause-leaves : goal.returns-clause-leaves
returns-clause-leaves g c =
    let d = g.D.Disk in
    let old = c.args.kernel in
    let new = c.run.new.kernel in
    let end = c.into_ended-disk in
    let status = c.put_run-status.result in
    let sink = seen_sink g.W.Sink.held g.W.Sink.faults c.args.sink.now c.put_run-status.new.sink in
    let rose = Rose (d.faults old.parts.store.disk) (d.faults end.result.disk) in
    let cause : (why : Stopped) → new.stop ≡ Some why → IsCauseBy rose why =
    by_answer d (g.P.Policy.wish c.args.gate.now.policy) old.parts new.parts end.result.disk end.ensures.disk c.run.result new.stop (c.run.ensures.ends c.requires.going) (c.run.ensures.caused c.requires.going) in
    let telling = lines_of c.args.lines in
    let met : c.met_by-met.result ≡ fault_met new.stop false = c.met_by-met.ensures ∙ ap (λ (o : Option Stopped). fault_met o false) c.stopped.ensures in
    let put = subst (λ (es : List Entry). IsPutBy (fault_met new.stop false) sink (telling (atlas_state_in new.parts.cells) es) status) c.history.ensures.entries
    (subst (λ (cs : List Cell). IsPutBy (fault_met new.stop false) sink (telling (atlas_state_in cs) c.history.result.now) status) c.cells.ensures (subst (λ (o : Option Fault). IsPutBy o sink (telling (atlas_state_in c.cells.result.now) c.history.result.now) status) met c.put_run-status.ensures.put)) in
    play_leaves d (serial telling) false new sink (record { status = status; history = end.result.history.items; marks = end.result.marks.items }) end.result.disk
    end.ensures.history end.ensures.marks end.ensures.disk
    (StartsRun d (g.S.Supplier.word c.args.gate.now.supply) (g.P.Policy.wish c.args.gate.now.policy) (tables_of c.args.script.now) old)
    rose (books old.parts.store).count c.run.ensures.counts.same_count (λ yes. absurd (cc))
    (λ told b start. ends_serial d telling b new (c.run.ensures.run told c.requires.going b start.same_supply start.same_policy start.same_script start.lives))
    cause put
