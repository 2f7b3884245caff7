use Rattle.std.proofs.Common.{◌≡◌, ◌≤◌, [], sym, ap, subst, ◌∙◌, arith}
use Rattle.edge_disk.specs.Counts.{Rose}
use Rattle.command_open.specs.command_promises.Playing.{StartsRun}
use Rattle.command_open.specs.kernel_invariant.Beginnings.{Beginning}
use Rattle.command_open.specs.store_facts.State.{books}
use Rattle.command_outcomes.specs.Seen.{seen_disk, seen_sink}
use Rattle.script_types.specs.Scripts.{tables_of}
use Rattle.command_mirror.proofs.Halting.{begins_right}
use Rattle.command_mirror.proofs.Opening.{followed_seen, opening_plays, run_causes}
use Rattle.command_mirror.proofs.Plays.{plays_turn}
use Rattle.command_outcomes.specs.Ends.{Gains}
use Rattle.node_standby.specs.Causes.{HasStandbyCauseIn}
use Rattle.command_mirror.specs.Gave.{gave_by}
use Rattle.command_mirror.specs.Lines.{mirror_fault_line}
use Rattle.command_mirror.specs.Statuses.{mirror_status}
use Rattle.command_mirror.specs.declared.faults.MirrorFault.{MirrorFault}
use Rattle.command_mirror.specs.Playing.{IsFollowed, IsRunCause, IsSecondCause, IsUsedCause, LeavesFollowed, WasUnopened}
use Rattle.command_mirror.proofs.playing.mirror_opened.Goals as goal

pub returns-in-Ok-clause-leaves : goal.returns-in-Ok-clause-leaves
returns-in-Ok-clause-leaves g c =
    let d = g.D.Disk in
    let e = g.E.Disk in
    let k = c.args.kernel in
    let o = c.run_both.result in
    let st = c.in-Ok.standby in
    let second = seen_disk e c.args.second o.second in
    let sink = seen_sink g.W.Sink.held g.W.Sink.faults c.args.sink.now c.run_both.new.sink in
    let starts : Beginning → Type 0 = λ b. StartsRun d (g.S.Supplier.word c.args.gate.now.supply) (g.P.Policy.wish c.args.gate.now.policy) (tables_of c.args.script.now) k b in
    let opened = c.in-Ok.ensures in
    plays_turn d starts (λ b. LeavesFollowed e st o.second b (gave_by o) o.kept o.made) (λ b. IsFollowed second b (gave_by o) o.kept o.made)
    (IsRunCause (Rose (e.faults st.store.disk) (e.faults o.second))) (IsSecondCause second) (λ many. ⊥) (IsUsedCause second) ⊥ (WasUnopened second (gave_by o) o.kept o.made)
    (Rose (d.faults k.parts.store.disk) (d.faults o.first)) (books k.parts.store).count c.args.losing sink (gave_by o) o.kept o.made o.first
    (followed_seen e c.args.second st o.second opened.syncs.later c.run_both.ensures.second_later (gave_by o) o.kept o.made opened.place (λ b right. opened.follows b [] right tt))
    (run_causes e c.args.second st o.second opened.syncs.later c.run_both.ensures.second_later) (λ n none. absurd none) (λ none. absurd none)
    o.status c.run_both.ensures.leaves

pub returns-in-Err-clause-leaves : goal.returns-in-Err-clause-leaves
returns-in-Err-clause-leaves g c =
    let d = g.D.Disk in
    let e = g.E.Disk in
    let k = c.args.kernel in
    let o = c.end_unrun.result in
    let why = c.in-Err.field-0.why in
    let f = c.fault_of_opening.ensures in
    let sink = seen_sink g.W.Sink.held g.W.Sink.faults c.args.sink.now c.end_unrun.new.sink in
    let starts : Beginning → Type 0 = λ b. StartsRun d (g.S.Supplier.word c.args.gate.now.supply) (g.P.Policy.wish c.args.gate.now.policy) (tables_of c.args.script.now) k b in
    let empty = c.end_unrun.ensures.empty in
    let first : o.first ≡ k.parts.store.disk = c.end_unrun.ensures.disks.0 ∙ c.into_ended-first.ensures.disk in
    let beside : o.second ≡ c.in-Err.field-0.disk = c.end_unrun.ensures.disks.1 in
    opening_plays d e c.args.second o.second k sink (gave_by o) o.first (empty.0 ∙ sym c.requires.nothing.0) (empty.1 ∙ sym c.requires.nothing.1) first c.requires.nothing.0
    o.kept o.made empty.2 empty.3 (λ told. subst (λ (x : g.row.E.Denot). e.reading x ≡ e.reading c.args.second) (sym beside) (c.in-Err.ensures.syncs.same_reading told)) starts (λ b. IsFollowed (seen_disk e c.args.second o.second) b (gave_by o) o.kept o.made)
    (Rose (d.faults k.parts.store.disk) (d.faults o.first)) (books k.parts.store).count c.args.losing
    (λ b s. begins_right d b (tables_of c.args.script.now) k s.same_script c.requires.allowed c.requires.nothing.0 c.requires.fits s.lives) (λ b s. s.lives)
    why o.status (c.end_unrun.ensures.status ∙ ap mirror_status f)
    (subst (λ (x : g.row.E.Denot). HasStandbyCauseIn e c.args.second x why) (sym beside) c.in-Err.ensures.cause)
    (subst (λ (m : MirrorFault). Gains sink (mirror_fault_line m)) f c.end_unrun.ensures.output)

pub returns-in-Err-clause-later : goal.returns-in-Err-clause-later
returns-in-Err-clause-later g c =
    let d = g.D.Disk in
    let k = c.args.kernel in
    subst (λ (disk : g.row.D.Denot). d.faults k.parts.store.disk ≤ d.faults disk) (sym (c.end_unrun.ensures.disks.0 ∙ c.into_ended-first.ensures.disk)) (omega arith)
