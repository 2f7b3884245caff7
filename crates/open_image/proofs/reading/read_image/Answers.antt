use Rattle.std.proofs.Common.{subst}
use Rattle.edge_disk.specs.Image.{Image}
use Rattle.edge_disk.proofs.Phases.{told}
use Rattle.open_facts.specs.image_chosen_facts.Parts.{IsAcceptedWith}
use Rattle.open_facts.specs.image_fits.Chosen.{parts_of}
use Rattle.open_facts.proofs.store_facts_lemmas.Opened.{read_behind}
use Rattle.open_facts.proofs.Clauses.{image_cause, still_synced}
use Rattle.open_image.proofs.reading.read_image.Goals as goal

pub returns-in-Ok-read_tables-clause-synced : goal.returns-in-Ok-read_tables-clause-synced
returns-in-Ok-read_tables-clause-synced g c =
    still_synced g.D.Disk c.in-Ok.synced.disk c.read_tables.new.disk c.in-Ok.synced.tally c.in-Ok.synced.log
    c.in-Ok.ensures.synced c.read_tables.ensures.same

pub returns-in-Ok-read_tables-clause-accepted : goal.returns-in-Ok-read_tables-clause-accepted
returns-in-Ok-read_tables-clause-accepted g c t =
    subst (λ (i : Image). IsAcceptedWith i c.in-Ok.synced.log.recs.items (parts_of c.in-Ok-read_tables.parts.entities.items)) (c.in-Ok.ensures.syncs.same_reading t)
    (c.in-Ok-read_tables.ensures.accepted t (c.in-Ok.ensures.synced.has_log t))

pub returns-in-Ok-read_tables-clause-syncs : goal.returns-in-Ok-read_tables-clause-syncs
returns-in-Ok-read_tables-clause-syncs g c =
    let disk = g.met.D.Disk in
    read_behind g.D.Disk (λ t. told g.D.Disk t disk.counts_now disk.only_now) c.args.disk c.in-Ok.synced.disk c.read_tables.new.disk
    c.in-Ok.ensures.syncs c.read_tables.ensures.same

pub returns-in-Err-read_tables-clause-syncs : goal.returns-in-Err-read_tables-clause-syncs
returns-in-Err-read_tables-clause-syncs g c =
    let disk = g.met.D.Disk in
    read_behind g.D.Disk (λ t. told g.D.Disk t disk.counts_now disk.only_now) c.args.disk c.in-Ok.synced.disk c.read_tables.new.disk
    c.in-Ok.ensures.syncs c.read_tables.ensures.same

pub returns-in-Err-read_tables-clause-cause : goal.returns-in-Err-read_tables-clause-cause
returns-in-Err-read_tables-clause-cause g c =
    image_cause g.D.Disk.tells (g.D.Disk.reading c.args.disk) (g.D.Disk.reading c.in-Ok.synced.disk) c.in-Ok.synced.log (g.D.Disk.faults c.args.disk) (g.D.Disk.faults c.in-Ok.synced.disk) (g.D.Disk.faults c.read_tables.new.disk) c.in-Err-read_tables.why
    c.in-Ok.ensures.syncs.same_reading c.in-Ok.ensures.synced.has_log c.in-Ok.ensures.syncs.later c.read_tables.ensures.same.later c.in-Err-read_tables.ensures.cause
