use Rattle.std.proofs.Common.{refl, ap, ◌∙◌}
use Rattle.edge_disk.proofs.Phases.{told}
use Rattle.log_append.specs.declared.log.Log.{Log}
use Rattle.edge_tally.specs.declared.Tally.{Tally}
use Rattle.log_turn.proofs.Appending.{log_stands, moments_logging, on_ok_two, stands_more}
use Rattle.log_turn.proofs.areas.Areas.append.Goals as goal

pub append-requires-clause-stands : goal.append-requires-clause-stands
append-requires-clause-stands g c t working =
    let disk = g.met.D.Disk in
    let laws = told g.D.Disk t disk.counts_now disk.only_now in
    let s = c.requires.stands t working in
    (s.0, log_stands laws c.args.self.now s.0 c.args.disk.now s.1)

pub returns-clause-added : goal.returns-clause-added
returns-clause-added g c t recs s =
    let disk = g.met.D.Disk in
    let laws = told g.D.Disk t disk.counts_now disk.only_now in
    on_ok_two c.append.result
    (λ after only. stands_more g.D.Disk c.args.self.now c.append.new.self c.append.new.tally recs _ c.args.disk.now c.append.new.disk s c.append.ensures.log.area (c.append.ensures.outside t) after only)
    (c.append.ensures.added t recs (log_stands laws c.args.self.now recs c.args.disk.now s)) (c.append.ensures.stable t)

pub returns-clause-any_moment : goal.returns-clause-any_moment
returns-clause-any_moment g c t working recs s =
    let disk = g.met.D.Disk in
    let laws = told g.D.Disk t disk.counts_now disk.only_now in
    moments_logging laws c.args.self.now recs c.args.rec.now c.args.disk.now c.append.new.disk s
    (c.append.ensures.any_moment t working recs (log_stands laws c.args.self.now recs c.args.disk.now s))

pub returns-clause-areas : goal.returns-clause-areas
returns-clause-areas g c =
    let log = c.append.ensures.log in
    record { area = log.area; epoch = refl; used = log.used; same_used = log.same_used; working = log.working; failed = log.failed }

pub returns-clause-untouched : goal.returns-clause-untouched
returns-clause-untouched g c why =
    let same = c.append.ensures.untouched why in
    let old = c.args.self.now in
    (same.0, ap (λ (log : Log). record { log = log; tally = c.append.new.tally; epoch = old.epoch }) same.2 ∙ ap (λ (tally : Tally). record { log = old.log; tally = tally; epoch = old.epoch }) same.1)
