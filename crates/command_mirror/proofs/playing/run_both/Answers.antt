use Rattle.std.proofs.Common.{◌≤◌, List, Option, ap, length, refl, sym, subst, ◌∙◌}
use Rattle.edge_disk.specs.Counts.{Rose}
use Rattle.base_types.specs.declared.histories.Entry.{Entry}
use Rattle.cell_states.specs.declared.cells.Cell.{Cell}
use Rattle.command_open.specs.command_promises.Playing.{StartsRun}
use Rattle.command_open.specs.kernel_invariant.Beginnings.{Beginning, BeginsRight, IsLegal, completed}
use Rattle.command_open.specs.store_facts.State.{books}
use Rattle.command_open.specs.table_births.Births.{atlas_state_in}
use Rattle.command_outcomes.specs.Seen.{Gave, seen_sink}
use Rattle.command_outcomes.specs.declared.statuses.Status.TheVariants.{Done}
use Rattle.node_mirror.specs.Leaving.{BeginsHere}
use Rattle.script_types.specs.Scripts.{tables_of}
use Rattle.script_types.specs.model_kernel.Output.{output_of}
use Rattle.kernel_run_facts.specs.kernel_laws.Opening.{empty_script, with_script}
use Rattle.command_mirror.proofs.Halting.{begins_right, leaves_followed, legal_behind}
use Rattle.command_mirror.proofs.Plays.{mirror_plays}
use Rattle.command_mirror.specs.Halts.{halted_by}
use Rattle.command_mirror.specs.Lines.{counts_line}
use Rattle.command_mirror.specs.Playing.{IsPutMirrored, IsRunCause, LeavesFollowed, MirrorPlays}
use Rattle.command_mirror.specs.declared.faults.MirrorFault.{MirrorFault}
use Rattle.command_mirror.proofs.playing.run_both.Goals as goal

pub returns-clause-leaves : goal.returns-clause-leaves
returns-clause-leaves g c =
    let d = g.D.Disk in
    let e = g.E.Disk in
    let old = c.args.kernel in
    let new = c.run_mirrored-mirrored.new.kernel in
    let m = c.run_mirrored-mirrored.result in
    let st = c.args.standby in
    let end = c.into_ended-disk in
    let script = tables_of c.args.script.now in
    let supply = g.S.Supplier.word c.args.gate.now.supply in
    let policy = g.P.Policy.wish c.args.gate.now.policy in
    let ran = c.run_mirrored-mirrored.ensures in
    let status = c.put_mirrored-status.result in
    let sink = seen_sink g.W.Sink.held g.W.Sink.faults c.args.sink.now c.put_mirrored-status.new.sink in
    let gave : Gave = record { status = Done; history = end.result.history.items; marks = end.result.marks.items } in
    let starts : Beginning → Type 0 = λ b. StartsRun d supply policy script old b in
    let here : (b : Beginning) → starts b → BeginsHere d supply policy script old b = λ b s. record { same_supply = s.same_supply; same_policy = s.same_policy; same_script = s.same_script; lives = s.lives } in
    let right : (b : Beginning) → starts b → BeginsRight b = λ b s. begins_right d b script old s.same_script c.requires.allowed c.requires.nothing c.requires.fits s.lives in
    let follows : d.tells → (b : Beginning) → starts b → LeavesFollowed e st c.into_disk.result b gave c.count-kept.result c.commits_made-made.result =
    λ told b s.
    let leaves = ran.run told b (here b s) in
    let legal = legal_behind d b new m.went leaves in
    let opened = c.commits_opened-opened.ensures (with_script b (empty_script b.script.steps)) s.lives c.requires.nothing in
    let many = c.commits_made-made.ensures b (right b s) (subst (IsLegal b) (sym c.history.ensures.entries) legal) opened in
    leaves_followed e st m.standby (e.faults st.store.disk) ran.second.shut b new.parts.noted.entries (λ began. ran.follows told b (here b s) began) (λ image t f may. c.image_law.ensures b new.parts.noted.entries m.standby image t f may)
    gave c.count-kept.result c.commits_made-made.result c.into_disk.result end.ensures.history c.count-kept.ensures (many ∙ ap (λ (es : List Entry). length (completed b es)) c.history.ensures.entries) c.into_disk.ensures refl in
    let put = subst (λ (es : List Entry). IsPutMirrored (halted_by m.went) sink (output_of (atlas_state_in new.parts.cells) es) (counts_line c.count-kept.result c.commits_made-made.result) status) c.history-2.ensures.entries
    (subst (λ (cs : List Cell). IsPutMirrored (halted_by m.went) sink (output_of (atlas_state_in cs) c.history-2.result.now) (counts_line c.count-kept.result c.commits_made-made.result) status) c.cells.ensures
    (subst (λ (o : Option MirrorFault). IsPutMirrored o sink (output_of (atlas_state_in c.cells.result.now) c.history-2.result.now) (counts_line c.count-kept.result c.commits_made-made.result) status) c.halted_by-stopped.ensures c.put_mirrored-status.ensures.put)) in
    subst (λ (x : g.row.E.Denot). MirrorPlays d starts (λ b. LeavesFollowed e st c.into_disk.result b gave c.count-kept.result c.commits_made-made.result) (IsRunCause (Rose (e.faults st.store.disk) (e.faults x))) (λ many. ⊥) ⊥
    (Rose (d.faults old.parts.store.disk) (d.faults end.result.disk)) (books old.parts.store).count c.args.losing sink gave c.count-kept.result c.commits_made-made.result end.result.disk status) (sym c.into_disk.ensures)
    (mirror_plays d e policy old new sink gave end.result.disk end.ensures.history end.ensures.marks end.ensures.disk c.args.losing m.standby (e.faults st.store.disk) m.offered c.count-kept.result c.commits_made-made.result
    (books old.parts.store).count ran.kernel.counts.same_count c.count-kept.ensures starts (λ b. LeavesFollowed e st c.into_disk.result b gave c.count-kept.result c.commits_made-made.result)
    (λ b f. f.made_is) (λ told b s. right b s) follows m.went status (λ told b s. ran.run told b (here b s)) (λ told b s. ran.course told b (here b s)) ran.lossless ran.kernel.ends ran.kernel.caused ran.second.caused put)

pub returns-clause-later : goal.returns-clause-later
returns-clause-later g c =
    let d = g.D.Disk in
    subst (λ (disk : g.row.D.Denot). d.faults c.args.kernel.parts.store.disk ≤ d.faults disk) (sym c.into_ended-disk.ensures.disk) c.run_mirrored-mirrored.ensures.kernel.counts.later

pub returns-clause-second_later : goal.returns-clause-second_later
returns-clause-second_later g c =
    let e = g.E.Disk in
    subst (λ (disk : g.row.E.Denot). e.faults c.args.standby.store.disk ≤ e.faults disk) (sym c.into_disk.ensures) c.run_mirrored-mirrored.ensures.second.later
