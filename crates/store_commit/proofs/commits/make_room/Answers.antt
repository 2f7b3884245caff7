use Rattle.std.proofs.Common.{sym, subst, length, ◌∙◌, arith}
use Rattle.std.specs.Prelude.{List}
use Rattle.std.proofs.lemmas.Result.{on_ok_weaker}
use Rattle.edge_disk.proofs.Images.{SameOutside-weaker}
use Rattle.edge_disk.proofs.Phases.{LeavesOnly-start, told}
use Rattle.base_types.specs.declared.records.Rec.{Rec}
use Rattle.store_books.specs.image_blocks.Logs.{IsTurned}
use Rattle.store_books.specs.image_meaning.Stores.{Stores}
use Rattle.store_books.specs.log_turn.Standing.{Stands, area_of, place_of, used_of}
use Rattle.store_books.specs.Books.{IsBeforePool}
use Rattle.store_commit.specs.Storing.{HasLogged}
use Rattle.store_commit.proofs.Stays.{turned_low}
use Rattle.store_commit.proofs.Phases.{moments_turn, stands_logged, stored_stores}
use Rattle.store_commit.proofs.Committing.{on_ok_four, room_made, turned_logged, used_full, used_room}
use Rattle.store_commit.proofs.commits.make_room.Goals as goal

pub returns-clause-stands : goal.returns-clause-stands
returns-clause-stands g c t recs stands =
    let reading = g.D.Disk.reading in
    let made = room_made (used_of c.args.areas.now) recs c.args.kept.now (let full = c.if-used-lt-SLOT_COUNT.false in let is = c.used.ensures.used in omega (arith, full, is)) in
    on_ok_weaker c.turn.result (λ turned. subst (λ (rs : List Rec). Stands g.D.Disk c.turn.new.self rs c.turn.new.disk) (sym made) turned.stands) (c.turn.ensures.turned t c.requires.working)

pub returns-clause-logged : goal.returns-clause-logged
returns-clause-logged g c t count recs ks has fit agree small =
    let disk = g.met.D.Disk in
    let reading = g.D.Disk.reading in
    let laws = told g.D.Disk t disk.counts_now disk.only_now in
    let made = room_made (used_of c.args.areas.now) recs c.args.kept.now (let full = c.if-used-lt-SLOT_COUNT.false in let is = c.used.ensures.used in omega (arith, full, is)) in
    on_ok_four c.turn.result
    (λ turned only area epoch. subst (λ (rs : List Rec). HasLogged g.D.Disk count c.turn.new.self rs ks c.turn.new.disk) (sym made)
    (turned_logged laws (λ d. disk.reads_now d t) count c.args.areas.now c.turn.new.self recs c.args.kept.now ks c.args.disk.now c.turn.new.disk has fit agree small (c.turn.ensures.outside t) turned only area epoch))
    (c.turn.ensures.turned t c.requires.working) (c.turn.ensures.stable t) c.turn.ensures.areas.area c.turn.ensures.areas.epoch

pub returns-clause-reading : goal.returns-clause-reading
returns-clause-reading g c t = SameOutside-weaker (IsTurned (area_of c.args.areas.now)) IsBeforePool _ _ (turned_low (area_of c.args.areas.now)) (c.turn.ensures.outside t)

pub returns-clause-any_moment : goal.returns-clause-any_moment
returns-clause-any_moment g c t count recs ks has fit agree small =
    let disk = g.met.D.Disk in
    let reading = g.D.Disk.reading in
    let laws = told g.D.Disk t disk.counts_now disk.only_now in
    moments_turn laws (λ d. disk.reads_now d t) count (place_of c.args.areas.now) recs c.args.kept.now ks c.args.disk.now c.turn.new.disk has.stored fit agree small
    (c.turn.ensures.any_moment t c.requires.working recs (stands_logged laws (λ d. disk.reads_now d t) count c.args.areas.now recs ks c.args.disk.now has))

pub returns-then-used-lt-SLOT_COUNT-clause-any_moment : goal.returns-then-used-lt-SLOT_COUNT-clause-any_moment
returns-then-used-lt-SLOT_COUNT-clause-any_moment g c t count recs ks has fit agree small =
    let disk = g.met.D.Disk in
    let laws = told g.D.Disk t disk.counts_now disk.only_now in
    LeavesOnly-start laws c.args.disk.now (Stores count ks) (stored_stores laws (λ d. disk.reads_now d t) count (place_of c.args.areas.now) recs ks c.args.disk.now has.stored)

pub returns-clause-used : goal.returns-clause-used
returns-clause-used g c =
    let made = used_full (used_of c.args.areas.now) (length c.args.kept.now) (let full = c.if-used-lt-SLOT_COUNT.false in let is = c.used.ensures.used in omega (arith, full, is)) in
    on_ok_weaker c.turn.result (λ used. used ∙ sym made) c.turn.ensures.areas.used

pub returns-then-used-lt-SLOT_COUNT-clause-used : goal.returns-then-used-lt-SLOT_COUNT-clause-used
returns-then-used-lt-SLOT_COUNT-clause-used g c = sym (used_room (used_of c.args.areas.now) (length c.args.kept.now) (let room = c.if-used-lt-SLOT_COUNT.true in let is = c.used.ensures.used in omega (arith, room, is)))
