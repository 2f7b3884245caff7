use Rattle.std.proofs.Crossing.{crosses}
use contract.BorrowLft.{⊑_meet, ⊑_static}
use denote.Param.Send.{sendable}
use Rattle.act_managers.proofs.book.Book.TheSendSync.{the_sync as book_sync}
use Rattle.base_managers.proofs.ScriptManagers.TheSendSync.{the_sync as managers_sync}
use Rattle.edge_managers.proofs.asked.AskedPolicy.TheSendSync.{the_sync as policy_sync}
use Rattle.edge_managers.proofs.asked.AskedSupplier.TheSendSync.{the_sync as supplier_sync}
use Rattle.std.proofs.Common.{refl, ◌≡◌, ◌≤◌, List, map, sym, ap, subst, rules, ◌∙◌}
use Rattle.edge_disk.specs.Counts.{Rose}
use Rattle.act_managers.specs.Answering.{book_wish, book_word}
use Rattle.base_managers.specs.Managing.{manager_of, managers_of}
use Rattle.base_managers.specs.declared.ScriptManager.{ScriptManager}
use Rattle.script_types.specs.Scripts.{tables_of}
use Rattle.command_open.specs.kernel_invariant.Beginnings.{Beginning}
use Rattle.command_open.specs.store_facts.State.{books}
use Rattle.command_outcomes.specs.Seen.{Gave, gave, seen_disk, seen_sink}
use Rattle.command_outcomes.specs.Statuses.{ending}
use Rattle.command_open.specs.command_promises.Ready.{IsReady, StopsOpening}
use Rattle.command_open.specs.command_promises.Booked.{over}
use Rattle.command_run.specs.Tellings.{lines_of}
use Rattle.command_open.specs.command_promises.Manners.{on_threads}
use Rattle.command_open.specs.command_promises.OfScript.{ScriptLeaves}
use Rattle.command_open.specs.command_promises.Playing.{PlayLeaves}
use Rattle.command_open.specs.command_promises.Openings.{run_from}
use Rattle.command_workers.specs.Starting.{StartsOne, run_of_cells}
use Rattle.command_workers.proofs.Single.{starts_one}
use Rattle.edge_disk.proofs.Ticks.{Rose-before}
use Rattle.command_open.proofs.command_promises_lemmas.Leavings.{goes_on, opening_stops, run_leaves, script_ended_by}
use Rattle.command_workers.proofs.watching.run_read.Goals as goal

pub returns-in-Ok-clause-leaves : goal.returns-in-Ok-clause-leaves
returns-in-Ok-clause-leaves g c =
    let d = g.D.Disk in
    let laws = g.met.D.Disk g.world.𝓛 g.world.𝓜 g.world.𝓡 (λ s x. x, λ x. x, λ x. x, λ x. x) in
    let manner = on_threads (lines_of c.args.lines) in
    let m = over (managers_of c.args.read.now.managers) (record { supply = g.N.Answers.word; policy = g.N.Answers.wish }) in
    let script = tables_of c.args.read.now.script in
    let clock = g.N.Handed.start.clock in
    let sink = seen_sink g.W.Sink.held g.W.Sink.faults c.args.sink.now c.run_opened.new.sink in
    let old = c.args.disk in
    let k = c.in-Ok.kernel in
    let new = c.unwatched.result.disk in
    let made = gave c.run_opened.result in
    let suppliers : c.new-gate.result.supply.now.managers.now.supply.items ≡ c.args.read.now.managers.supply.items = first_of (cc, search rules) in
    let policies : c.new-gate.result.policy.now.managers.now.policy.items ≡ c.args.read.now.managers.policy.items = first_of (cc, search rules) in
    let one : List ScriptManager → List ScriptManager → Beginning =
    λ supply policy. run_of_cells d (record { supply = book_word (map manager_of supply) g.N.Answers.word; policy = book_wish (map manager_of policy) g.N.Answers.wish }) script clock k in
    let leaves : List ScriptManager → List ScriptManager → g.row.D.Denot → Type 0 =
    λ supply policy disk. PlayLeaves d manner (StartsOne d k (one supply policy)) (Rose (d.faults k.parts.store.disk) (d.faults disk)) (books k.parts.store).count sink made disk (ending made.status) in
    let by_book = subst (λ (ms : List ScriptManager). leaves c.args.read.now.managers.supply.items ms c.run_opened.result.disk) policies
    (subst (λ (ms : List ScriptManager). leaves ms c.new-gate.result.policy.now.managers.now.policy.items c.run_opened.result.disk) suppliers c.run_opened.ensures.leaves) in
    let play = subst (leaves c.args.read.now.managers.supply.items c.args.read.now.managers.policy.items) (sym c.unwatched.ensures.disk) by_book in
    let later = subst (λ (disk : g.row.D.Denot). d.faults k.parts.store.disk ≤ d.faults disk) (sym c.unwatched.ensures.disk) c.run_opened.ensures.later in
    let ready = λ (told : d.tells). subst (λ (disk : g.row.D.Denot). IsReady d script disk k) c.new-watched.ensures (c.in-Ok.ensures.ready told) in
    let began = subst (λ (disk : g.row.D.Denot). d.faults disk ≤ d.faults k.parts.store.disk) c.new-watched.ensures c.in-Ok.ensures.begins.later in
    subst (λ (o : Gave). ScriptLeaves manner m script sink (seen_disk d old new) o (ending o.status)) (sym c.unwatched.ensures.gave)
    (run_leaves d laws.counts_now old new
    (goes_on d laws.counts_now old g.N.Handed.start new c.requires.start c.unwatched.ensures.gone_on)
    manner m sink script made k ready (Rose (d.faults k.parts.store.disk) (d.faults new))
    (Rose-before (d.faults old) (d.faults k.parts.store.disk) (d.faults new) began later)
    (StartsOne d k (run_of_cells d m script clock k)) (λ told b is start. starts_one d k m script clock c.in-Ok.ensures.nothing.0 b (is ∙ ap (run_from m script b.state) c.requires.start.is.moment) start) (ending made.status) play)

pub returns-in-Err-clause-leaves : goal.returns-in-Err-clause-leaves
returns-in-Err-clause-leaves g c =
    let d = g.D.Disk in
    let laws = g.met.D.Disk g.world.𝓛 g.world.𝓜 g.world.𝓡 (λ s x. x, λ x. x, λ x. x, λ x. x) in
    let manner = on_threads (lines_of c.args.lines) in
    let m = over (managers_of c.args.read.now.managers) (record { supply = g.N.Answers.word; policy = g.N.Answers.wish }) in
    let script = tables_of c.args.read.now.script in
    let sink = seen_sink g.W.Sink.held g.W.Sink.faults c.args.sink.now c.end_with.new.sink in
    let old = c.args.disk in
    let new = c.into_disk.result in
    let made = gave c.end_with.result in
    let f = c.in-Err.field-0.fault in
    let stops = subst (λ (disk : g.row.D.Denot). StopsOpening script (seen_disk d old disk) f) (sym c.into_disk.ensures.same)
    (subst (λ (disk : g.row.D.Denot). StopsOpening script (seen_disk d disk c.in-Err.field-0.disk) f) c.new-watched.ensures c.in-Err.ensures.stops) in
    subst (λ (disk : g.row.D.Denot). ScriptLeaves manner m script sink (seen_disk d old disk) made (ending made.status)) (sym c.end_with.ensures.disk)
    (script_ended_by manner m script sink (seen_disk d old new) made made.status f c.end_with.ensures.status
    (opening_stops d laws.counts_now old new
    (goes_on d laws.counts_now old g.N.Handed.start new c.requires.start c.into_disk.ensures.gone_on)
    manner m sink script made laws.only_now f stops c.end_with.ensures.unrun))

pub run_opened-requires : goal.run_opened-requires
run_opened-requires g c κs within =
    let may = c.type_bounds in
    let disk_goes = λ (u : Unit {0}). may.send-D in
    let name_goes = λ (u : Unit {0}). may.send-N in
    let name_shared = λ (u : Unit {0}). may.sync-N in
    let supply_shared = λ (u : Unit {0}). may.sync-S in
    let policy_shared = λ (u : Unit {0}). may.sync-P in
    let runtime_shared = λ (u : Unit {0}). may.sync-R in
    let steps_shared = λ (u : Unit {0}). may.sync-G in
    let managers_shared = λ (u : Unit {0}). managers_sync in
    (within.1.0, (search (⊑_meet, ⊑_static, within.1.1.0, within.1.1.1.0) depth 400 fits 2000000, (search (⊑_meet, ⊑_static, within.0.0, within.0.1.0, within.0.1.1.0, within.0.1.1.1.0, within.1.1.1.1.0, within.1.1.1.1.1.0, within.1.1.1.1.1.1.0) depth 400 fits 2000000, (search (⊑_meet, ⊑_static, within.0.1.1.1.1.0, within.0.1.1.1.1.1.0, within.0.1.1.1.1.1.1.0, within.0.1.1.1.1.1.1.1.0, within.1.1.1.1.1.1.1.0, within.1.1.1.1.1.1.1.1.0, within.1.1.1.1.1.1.1.1.1.0) depth 400 fits 2000000, (within.1.1.1.1.1.1.1.1.1.1.0, (within.1.1.1.1.1.1.1.1.1.1.1.0, (search (sendable, crosses, disk_goes, name_goes) depth 60, (search (sendable, crosses, book_sync, supplier_sync, policy_sync, managers_shared, supply_shared, policy_shared, name_shared) depth 100 fits 2000000, (search (sendable, crosses, book_sync, supplier_sync, policy_sync, managers_shared, supply_shared, policy_shared, name_shared) depth 100 fits 2000000, (search (sendable, crosses, book_sync, supplier_sync, policy_sync, managers_shared, supply_shared, policy_shared, name_shared) depth 100 fits 2000000, (search (sendable, crosses, book_sync, supplier_sync, policy_sync, managers_shared, supply_shared, policy_shared, name_shared) depth 100 fits 2000000, (search (sendable, runtime_shared) depth 60, (search (sendable, steps_shared) depth 60, (search rules, ((refl, refl), (refl, (c.in-Ok.ensures.clean _, (c.requires.allowed, (c.in-Ok.ensures.fits, (c.in-Ok.ensures.nothing.0, (c.in-Ok.ensures.nothing.2, c.requires.workers)))))))))))))))))))))
