use Rattle.std.proofs.Common.{◌≡◌, ◌≤◌, ℕ, List, map, sym, subst, rules}
use Rattle.edge_disk.specs.Counts.{Rose}
use Rattle.edge_disk.proofs.Ticks.{Rose-before}
use Rattle.command_open.specs.kernel_invariant.Beginnings.{Beginning}
use Rattle.act_managers.specs.Answering.{book_wish, book_word}
use Rattle.base_managers.specs.Managing.{manager_of, managers_of}
use Rattle.base_managers.specs.declared.ScriptManager.{ScriptManager}
use Rattle.script_types.specs.Scripts.{tables_of}
use Rattle.command_open.specs.store_facts.State.{books}
use Rattle.command_outcomes.specs.Seen.{Gave, seen_disk, seen_sink}
use Rattle.command_open.specs.command_promises.Ready.{IsReady, StopsOpening}
use Rattle.command_open.specs.command_promises.Booked.{over}
use Rattle.command_open.specs.command_promises.Playing.{StartsRun}
use Rattle.command_open.proofs.command_promises_lemmas.Leavings.{goes_on}
use Rattle.command_mirror.proofs.Leaving.{opening_seen, plays_seen}
use Rattle.command_mirror.specs.Gave.{gave_by}
use Rattle.command_mirror.specs.Leaving.{ScriptMirrors}
use Rattle.command_mirror.specs.Playing.{IsFollowed, IsSecondCause, IsUsedCause, MirrorPlays, WasUnopened}
use Rattle.command_mirror.specs.declared.statuses.MirrorStatus.{MirrorStatus}
use Rattle.command_mirror.proofs.calling.mirror_read.Goals as goal

pub mirror_opened-requires-clause-clean : goal.mirror_opened-requires-clause-clean
mirror_opened-requires-clause-clean g c = c.in-Ok.ensures.clean _

pub returns-in-Ok-clause-leaves : goal.returns-in-Ok-clause-leaves
returns-in-Ok-clause-leaves g c =
    let d = g.D.Disk in
    let e = g.E.Disk in
    let m = over (managers_of c.args.read.now.managers) (record { supply = g.N.Answers.word; policy = g.N.Answers.wish }) in
    let script = tables_of c.args.read.now.script in
    let sink = seen_sink g.W.Sink.held g.W.Sink.faults c.args.sink.now c.mirror_opened.new.sink in
    let old = c.args.first in
    let k = c.in-Ok.kernel in
    let o = c.mirror_opened.result in
    let u = c.unwatched.result in
    let same = c.unwatched.ensures in
    let suppliers : c.new-gate.result.supply.now.managers.now.supply.items ≡ c.args.read.now.managers.supply.items = first_of (cc, search rules) in
    let policies : c.new-gate.result.policy.now.managers.now.policy.items ≡ c.args.read.now.managers.policy.items = first_of (cc, search rules) in
    let starts : List ScriptManager → List ScriptManager → Beginning → Type 0 =
    λ supply policy. StartsRun d (book_word (map manager_of supply) g.N.Answers.word) (book_wish (map manager_of policy) g.N.Answers.wish) script k in
    let plays : List ScriptManager → List ScriptManager → Gave → g.row.D.Denot → g.row.E.Denot → ℕ → ℕ → MirrorStatus → Type 0 =
    λ supply policy gave first second kept made status. MirrorPlays d (starts supply policy) (λ b. IsFollowed (seen_disk e c.args.second second) b gave kept made) (IsSecondCause (seen_disk e c.args.second second))
    (IsUsedCause (seen_disk e c.args.second second)) (WasUnopened (seen_disk e c.args.second second) gave kept made) (Rose (d.faults k.parts.store.disk) (d.faults first)) (books k.parts.store).count c.args.losing sink gave kept made first status in
    let ss = c.args.read.now.managers.supply.items in
    let ps = c.args.read.now.managers.policy.items in
    let by_book = subst (λ (ms : List ScriptManager). plays ss ms (gave_by o) o.first o.second o.kept o.made o.status) policies
    (subst (λ (ms : List ScriptManager). plays ms c.new-gate.result.policy.now.managers.now.policy.items (gave_by o) o.first o.second o.kept o.made o.status) suppliers c.mirror_opened.ensures.leaves) in
    let by_disks = subst (λ (x : g.row.E.Denot). plays ss ps (gave_by o) u.first x o.kept o.made o.status) (sym same.disks.1)
    (subst (λ (x : g.row.D.Denot). plays ss ps (gave_by o) x o.second o.kept o.made o.status) (sym same.disks.0) by_book) in
    let by_counts = subst (λ (n : ℕ). plays ss ps (gave_by o) u.first u.second u.kept n o.status) (sym same.counts.1)
    (subst (λ (n : ℕ). plays ss ps (gave_by o) u.first u.second n o.made o.status) (sym same.counts.0) by_disks) in
    let play = subst (λ (s : MirrorStatus). plays ss ps (gave_by u) u.first u.second u.kept u.made s) (sym same.status)
    (subst (λ (v : Gave). plays ss ps v u.first u.second u.kept u.made o.status) (sym same.gave) by_counts) in
    let later = subst (λ (disk : g.row.D.Denot). d.faults k.parts.store.disk ≤ d.faults disk) (sym same.disks.0) c.mirror_opened.ensures.later in
    let ready = λ (told : d.tells). subst (λ (disk : g.row.D.Denot). IsReady d script disk k) c.new-watched.ensures (c.in-Ok.ensures.ready told) in
    let began = subst (λ (disk : g.row.D.Denot). d.faults disk ≤ d.faults k.parts.store.disk) c.new-watched.ensures c.in-Ok.ensures.begins.later in
    plays_seen d g.met.D.Disk.counts_now old u.first (goes_on d g.met.D.Disk.counts_now old g.N.Handed.start u.first c.requires.start same.gone_on) m sink script (gave_by u) (seen_disk e c.args.second u.second)
    c.args.losing u.kept u.made k ready (Rose (d.faults k.parts.store.disk) (d.faults u.first))
    (Rose-before (d.faults old) (d.faults k.parts.store.disk) (d.faults u.first) began later) u.status play

pub returns-in-Err-clause-leaves : goal.returns-in-Err-clause-leaves
returns-in-Err-clause-leaves g c =
    let d = g.D.Disk in
    let e = g.E.Disk in
    let m = over (managers_of c.args.read.now.managers) (record { supply = g.N.Answers.word; policy = g.N.Answers.wish }) in
    let script = tables_of c.args.read.now.script in
    let sink = seen_sink g.W.Sink.held g.W.Sink.faults c.args.sink.now c.end_unrun.new.sink in
    let old = c.args.first in
    let new = c.into_disk.result in
    let o = c.end_unrun.result in
    let f = c.in-Err.field-0.fault in
    let empty = c.end_unrun.ensures.empty in
    let stops = subst (λ (disk : g.row.D.Denot). StopsOpening script (seen_disk d old disk) f) (sym c.into_disk.ensures.same)
    (subst (λ (disk : g.row.D.Denot). StopsOpening script (seen_disk d disk c.in-Err.field-0.disk) f) c.new-watched.ensures c.in-Err.ensures.stops) in
    subst (λ (disk : g.row.D.Denot). ScriptMirrors m script sink (seen_disk d old disk) (seen_disk e c.args.second o.second) c.args.losing (gave_by o) o.kept o.made o.status) (sym c.end_unrun.ensures.disks.0)
    (opening_seen d g.met.D.Disk.counts_now old new (goes_on d g.met.D.Disk.counts_now old g.N.Handed.start new c.requires.start c.into_disk.ensures.gone_on) m sink script (gave_by o) (seen_disk e c.args.second o.second)
    c.args.losing o.kept o.made g.met.D.Disk.only_now f o.status c.end_unrun.ensures.status stops (record { empty = record { history = empty.0; marks = empty.1 }; output = c.end_unrun.ensures.output }) c.end_unrun.ensures.disks.1)
