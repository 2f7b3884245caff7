use Rattle.std.proofs.Common.{◌≡◌, List, [], refl, sym, ap, subst}
use Rattle.std.specs.Prelude.{slice_index}
use Rattle.base_types.specs.declared.histories.Entry.{Entry}
use Rattle.kernel_run_facts.specs.kernel_laws.Opening.{empty_script, with_script}
use Rattle.model_new_commits.specs.Found.{AreFound}
use Rattle.node_mirror.proofs.Beginning.{mirrors_first, none_ship}
use Rattle.node_mirror.proofs.Faults.{begins_by}
use Rattle.node_mirror.proofs.running.begin.Goals as goal
use Rattle.node_rounds.specs.node_standby.node_shipments.Parts.{Shipment}
use Rattle.node_rounds.specs.node_standby.node_shipments.kernel_invariant.Beginnings.{completed}
use Rattle.node_world.specs.Worlds.{Sending, offered}

pub returns-in-Ok-clause-mirrors : goal.returns-in-Ok-clause-mirrors
returns-in-Ok-clause-mirrors g c = λ told b lives.
    let k = c.args.kernel.now in
    let es = k.parts.noted.entries in
    let first = with_script b (empty_script b.script.steps) in
    let found : AreFound (slice_index c.args.known.now) [] (completed first es) =
    subst (λ (fs : List Entry). AreFound (slice_index c.args.known.now) [] (completed first fs)) (sym c.requires.none)
    (c.shown_commits_law.ensures.opened first (slice_index c.args.known.now) lives.live.running.begins (λ x low. c.requires.known x low)) in
    let all : offered c.args.line.now.sender ≡ 0 = ap (λ (s : Sending Shipment). offered s) c.requires.sender in
    mirrors_first b (empty_script b.script.steps) es c.offer.new.known c.args.line.now (record { sender = c.offer.new.sender; standby = c.args.line.now.standby; words = c.args.line.now.words; loss = c.args.line.now.loss }) c.requires.none
    (c.in-Ok.ensures.ships told first [] lives found (none_ship first es c.args.line.now.sender c.requires.sender) all) c.offer.ensures.more c.requires.sender refl c.requires.count

pub returns-in-Err-clause-went : goal.returns-in-Err-clause-went
returns-in-Err-clause-went g c = begins_by c.in-Err.fault c.halt_by.result c.offer.new.kernel.stop c.halt_by.ensures c.in-Err.ensures.stop
