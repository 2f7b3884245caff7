use Rattle.std.proofs.Common.{[], ◌∷◌, ◌++◌}
use Rattle.edge_disk.proofs.Phases.{told}
use Rattle.log_turn.specs.Standing.{place_of}
use Rattle.test_log.proofs.Begun.{one_of}
use Rattle.test_log.proofs.client.append_and_turn.Goals as goal

pub returns-in_err-turn-clause-any_moment : goal.returns-in_err-turn-clause-any_moment
returns-in_err-turn-clause-any_moment g c t working recs stands =
    let disk = g.met.D.Disk in
    let laws = told g.D.Disk t disk.counts_now disk.only_now in
    let first = c.append.ensures.any_moment t working recs stands in
    let grown = c.in_ok-append.ensures.areas in
    let second = c.turn.ensures.any_moment t grown.working (recs ++ c.args.rec.now ∷ []) (c.in_ok-append.ensures.added t recs stands) in
    one_of laws (place_of c.args.areas.now) recs c.args.rec.now c.args.kept.now (place_of c.append.new.self) c.args.disk.now c.append.new.disk c.turn.new.disk grown.area grown.epoch first second

pub returns-clause-any_moment : goal.returns-clause-any_moment
returns-clause-any_moment g c t working recs stands =
    let disk = g.met.D.Disk in
    let laws = told g.D.Disk t disk.counts_now disk.only_now in
    let first = c.append.ensures.any_moment t working recs stands in
    let grown = c.in_ok-append.ensures.areas in
    let second = c.turn.ensures.any_moment t grown.working (recs ++ c.args.rec.now ∷ []) (c.in_ok-append.ensures.added t recs stands) in
    one_of laws (place_of c.args.areas.now) recs c.args.rec.now c.args.kept.now (place_of c.append.new.self) c.args.disk.now c.append.new.disk c.turn.new.disk grown.area grown.epoch first second
