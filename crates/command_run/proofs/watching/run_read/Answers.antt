use Rattle.std.proofs.Common.{◌≡◌, ◌≤◌, List, map, sym, subst, rules}
use Rattle.edge_disk.specs.Counts.{Rose}
use Rattle.command_open.specs.kernel_invariant.Beginnings.{Beginning}
use Rattle.act_managers.specs.Answering.{book_wish, book_word}
use Rattle.base_managers.specs.Managing.{manager_of, managers_of}
use Rattle.base_managers.specs.declared.ScriptManager.{ScriptManager}
use Rattle.script_types.specs.Scripts.{tables_of}
use Rattle.command_open.specs.store_facts.State.{books}
use Rattle.command_outcomes.specs.Seen.{Gave, gave, seen_disk, seen_sink}
use Rattle.command_outcomes.specs.Statuses.{ending}
use Rattle.command_open.specs.command_promises.Ready.{IsReady, StopsOpening}
use Rattle.command_open.specs.command_promises.Booked.{over}
use Rattle.command_run.specs.Tellings.{lines_of}
use Rattle.command_open.specs.command_promises.Manners.{serial}
use Rattle.command_open.specs.command_promises.OfScript.{ScriptLeaves}
use Rattle.command_open.specs.command_promises.Playing.{PlayLeaves, StartsRun}
use Rattle.edge_disk.proofs.Ticks.{Rose-before}
use Rattle.command_open.proofs.command_promises_lemmas.Leavings.{goes_on, opening_stops, run_leaves, script_ended_by}
use Rattle.command_run.proofs.watching.run_read.Goals as goal

pub run_opened-requires-clause-clean : goal.run_opened-requires-clause-clean
run_opened-requires-clause-clean g c = c.in-Ok.ensures.clean _

pub returns-in-Ok-clause-leaves : goal.returns-in-Ok-clause-leaves
returns-in-Ok-clause-leaves g c =
    let d = g.D.Disk in
    let manner = serial (lines_of c.args.lines) in
    let m = over (managers_of c.args.read.now.managers) (record { supply = g.N.Answers.word; policy = g.N.Answers.wish }) in
    let script = tables_of c.args.read.now.script in
    let sink = seen_sink g.W.Sink.held g.W.Sink.faults c.args.sink.now c.run_opened.new.sink in
    let old = c.args.disk in
    let k = c.in-Ok.kernel in
    let new = c.unwatched.result.disk in
    let made = gave c.run_opened.result in
    let suppliers : c.new-gate.result.supply.now.managers.now.supply.items ≡ c.args.read.now.managers.supply.items = first_of (cc, search rules) in
    let policies : c.new-gate.result.policy.now.managers.now.policy.items ≡ c.args.read.now.managers.policy.items = first_of (cc, search rules) in
    let starts : List ScriptManager → List ScriptManager → Beginning → Type 0 =
    λ supply policy. StartsRun d (book_word (map manager_of supply) g.N.Answers.word) (book_wish (map manager_of policy) g.N.Answers.wish) script k in
    let leaves : List ScriptManager → List ScriptManager → g.row.D.Denot → Type 0 =
    λ supply policy disk. PlayLeaves d manner (starts supply policy) (Rose (d.faults k.parts.store.disk) (d.faults disk)) (books k.parts.store).count sink made disk (ending made.status) in
    let by_book = subst (λ (ms : List ScriptManager). leaves c.args.read.now.managers.supply.items ms c.run_opened.result.disk) policies
    (subst (λ (ms : List ScriptManager). leaves ms c.new-gate.result.policy.now.managers.now.policy.items c.run_opened.result.disk) suppliers c.run_opened.ensures.leaves) in
    let play = subst (leaves c.args.read.now.managers.supply.items c.args.read.now.managers.policy.items) (sym c.unwatched.ensures.disk) by_book in
    let later = subst (λ (disk : g.row.D.Denot). d.faults k.parts.store.disk ≤ d.faults disk) (sym c.unwatched.ensures.disk) c.run_opened.ensures.later in
    let ready = λ (told : d.tells). subst (λ (disk : g.row.D.Denot). IsReady d script disk k) c.new-watched.ensures (c.in-Ok.ensures.ready told) in
    let began = subst (λ (disk : g.row.D.Denot). d.faults disk ≤ d.faults k.parts.store.disk) c.new-watched.ensures c.in-Ok.ensures.begins.later in
    subst (λ (o : Gave). ScriptLeaves manner m script sink (seen_disk d old new) o (ending o.status)) (sym c.unwatched.ensures.gave)
    (run_leaves d g.met.D.Disk.counts_now old new
    (goes_on d g.met.D.Disk.counts_now old g.N.Handed.start new c.requires.start c.unwatched.ensures.gone_on)
    manner m sink script made k ready (Rose (d.faults k.parts.store.disk) (d.faults new))
    (Rose-before (d.faults old) (d.faults k.parts.store.disk) (d.faults new) began later)
    (StartsRun d m.supply m.policy script k) (λ told b is start. start) (ending made.status) play)

pub returns-in-Err-clause-leaves : goal.returns-in-Err-clause-leaves
returns-in-Err-clause-leaves g c =
    let d = g.D.Disk in
    let manner = serial (lines_of c.args.lines) in
    let m = over (managers_of c.args.read.now.managers) (record { supply = g.N.Answers.word; policy = g.N.Answers.wish }) in
    let script = tables_of c.args.read.now.script in
    let sink = seen_sink g.W.Sink.held g.W.Sink.faults c.args.sink.now c.end_with.new.sink in
    let old = c.args.disk in
    let new = c.into_disk.result in
    let made = gave c.end_with.result in
    let f = c.in-Err.field-0.fault in
    let stops = subst (λ (disk : g.row.D.Denot). StopsOpening script (seen_disk d old disk) f) (sym c.into_disk.ensures.same)
    (subst (λ (disk : g.row.D.Denot). StopsOpening script (seen_disk d disk c.in-Err.field-0.disk) f) c.new-watched.ensures c.in-Err.ensures.stops) in
    subst (λ (disk : g.row.D.Denot). ScriptLeaves manner m script sink (seen_disk d old disk) made (ending made.status)) (sym c.end_with.ensures.disk)
    (script_ended_by manner m script sink (seen_disk d old new) made made.status f c.end_with.ensures.status
    (opening_stops d g.met.D.Disk.counts_now old new
    (goes_on d g.met.D.Disk.counts_now old g.N.Handed.start new c.requires.start c.into_disk.ensures.gone_on)
    manner m sink script made g.met.D.Disk.only_now f stops c.end_with.ensures.unrun))
