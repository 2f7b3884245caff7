use Rattle.std.proofs.Common.{◌<◌, ◌+◌, ◌*◌, ℕ, inl, length, ◌∙◌, arith}
use Rattle.std.proofs.lemmas.Result.{on_ok_weaker}
use Rattle.edge_disk.proofs.Images.{SameOutside-weaker}
use Rattle.edge_disk.proofs.Phases.{LeavesOnly-then, LeavesOnly-weaker, told}
use Rattle.edge_tally.proofs.Counting.{Begins-fewer, Begins-then}
use Rattle.store_books.specs.image_facts.Layout.{slot_count}
use Rattle.store_books.proofs.log_turn_lemmas.Appending.{on_ok_two}
use Rattle.store_books.specs.log_turn.Standing.{area_of, used_of}
use Rattle.store_books.specs.Books.{IsBeforePool}
use Rattle.store_commit.specs.Storing.{IsCommitBlock, StoresOneMore, new_of, roomy_log}
use Rattle.store_commit.proofs.Phases.{blob_stands, stands_logged}
use Rattle.store_commit.proofs.Committing.{behind_blob, behind_next, blob_stays, logged_end, moments_of_append, moments_of_blob, on_ok_always, outside_append, outside_blob, places_pool}
use Rattle.store_commit.proofs.commits.commit_record.Goals as goal

pub append-requires-clause-stands : goal.append-requires-clause-stands
append-requires-clause-stands g c t working =
    let disk = g.met.D.Disk in
    let reading = g.D.Disk.reading in
    let laws = told g.D.Disk t disk.counts_now disk.only_now in
    let stood = c.requires.stands t in
    let many : ℕ = length c.args.blob.now in
    let rec = c.args.rec.now in
    let room = roomy_log (used_of c.args.areas.now) stood.0 c.args.kept.now in (
      room,
      blob_stands laws (λ d. disk.reads_now d t) c.make_room.new.areas c.write_blob.new.areas room rec many c.make_room.new.disk c.write_blob.new.disk c.write_blob.ensures.areas.same_place c.write_blob.ensures.areas.same_used
          (places_pool rec many _ c.requires.places) (c.write_blob.ensures.any_moment t) (c.write_blob.ensures.reading t) (c.in_ok-make_room.ensures.stands t stood.0 stood.1),
    )

pub returns-clause-committed : goal.returns-clause-committed
returns-clause-committed g c t recs stands =
    let disk = g.met.D.Disk in
    let reading = g.D.Disk.reading in
    let laws = told g.D.Disk t disk.counts_now disk.only_now in
    let many : ℕ = length c.args.blob.now in
    let rec = c.args.rec.now in
    let room = roomy_log (used_of c.args.areas.now) recs c.args.kept.now in
    c.append.ensures.added t room (blob_stands laws (λ d. disk.reads_now d t) c.make_room.new.areas c.write_blob.new.areas room rec many c.make_room.new.disk c.write_blob.new.disk c.write_blob.ensures.areas.same_place c.write_blob.ensures.areas.same_used
    (places_pool rec many _ c.requires.places) (c.write_blob.ensures.any_moment t) (c.write_blob.ensures.reading t) (c.in_ok-make_room.ensures.stands t recs stands))

pub returns-in_err-write_blob-clause-outside : goal.returns-in_err-write_blob-clause-outside
returns-in_err-write_blob-clause-outside g c t = outside_blob c.args.rec.now (length c.args.blob.now) _ _ _ (c.make_room.ensures.reading t) (c.write_blob.ensures.reading t)

pub returns-in_err-make_room-clause-outside : goal.returns-in_err-make_room-clause-outside
returns-in_err-make_room-clause-outside g c t = SameOutside-weaker IsBeforePool (IsCommitBlock c.args.rec.now (length c.args.blob.now)) _ _ (λ n low. inl low) (c.make_room.ensures.reading t)

pub returns-clause-outside : goal.returns-clause-outside
returns-clause-outside g c t =
    outside_append c.args.rec.now (length c.args.blob.now) (area_of c.write_blob.new.areas) (used_of c.write_blob.new.areas) _ _ _ _ (let room = c.in_ok-make_room.ensures.room in let same = c.write_blob.ensures.areas.same_used in omega (arith, room, same))
    (c.make_room.ensures.reading t) (c.write_blob.ensures.reading t) (c.append.ensures.outside t)

pub returns-in_err-make_room-clause-any_moment : goal.returns-in_err-make_room-clause-any_moment
returns-in_err-make_room-clause-any_moment g c t n ready =
    let disk = g.met.D.Disk in
    let laws = told g.D.Disk t disk.counts_now disk.only_now in
    LeavesOnly-weaker laws (StoresOneMore n.count n.ks (new_of n c.args.rec.now)) (λ image stores. inl stores)
    (c.make_room.ensures.any_moment t n.count n.recs n.ks ready.logged ready.next.kept_fit ready.next.kept_agree ready.epoch)

pub returns-in_err-write_blob-clause-any_moment : goal.returns-in_err-write_blob-clause-any_moment
returns-in_err-write_blob-clause-any_moment g c t n ready =
    let disk = g.met.D.Disk in
    let reading = g.D.Disk.reading in
    let laws = told g.D.Disk t disk.counts_now disk.only_now in
    let new = new_of n c.args.rec.now in
    let one = c.make_room.new.disk in
    let first = LeavesOnly-weaker laws (StoresOneMore n.count n.ks new) (λ image stores. inl stores)
    (c.make_room.ensures.any_moment t n.count n.recs n.ks ready.logged ready.next.kept_fit ready.next.kept_agree ready.epoch) in
    let two = c.write_blob.new.disk in
    let areas = c.make_room.new.areas in
    let mid = c.write_blob.new.areas in
    let room = roomy_log (used_of c.args.areas.now) n.recs c.args.kept.now in
    let blob = c.args.blob.now in
    let b = behind_next laws (λ d. disk.reads_now d t) n.count _ n.recs c.args.kept.now n.ks new blob c.args.areas.now areas mid c.args.disk.now one two ready.next c.requires.places
    (c.in_ok-make_room.ensures.logged t n.count n.recs n.ks ready.logged ready.next.kept_fit ready.next.kept_agree ready.epoch) (c.make_room.ensures.reading t) c.write_blob.ensures.areas (c.write_blob.ensures.any_moment t) (c.write_blob.ensures.reading t) in
    LeavesOnly-then laws first (moments_of_blob laws (λ d. disk.reads_now d t) n.count _ room n.ks new blob areas mid c.args.disk.now one two b)

pub returns-clause-any_moment : goal.returns-clause-any_moment
returns-clause-any_moment g c t n ready =
    let disk = g.met.D.Disk in
    let reading = g.D.Disk.reading in
    let laws = told g.D.Disk t disk.counts_now disk.only_now in
    let new = new_of n c.args.rec.now in
    let one = c.make_room.new.disk in
    let first = LeavesOnly-weaker laws (StoresOneMore n.count n.ks new) (λ image stores. inl stores)
    (c.make_room.ensures.any_moment t n.count n.recs n.ks ready.logged ready.next.kept_fit ready.next.kept_agree ready.epoch) in
    let two = c.write_blob.new.disk in
    let areas = c.make_room.new.areas in
    let mid = c.write_blob.new.areas in
    let room = roomy_log (used_of c.args.areas.now) n.recs c.args.kept.now in
    let blob = c.args.blob.now in
    let b = behind_next laws (λ d. disk.reads_now d t) n.count _ n.recs c.args.kept.now n.ks new blob c.args.areas.now areas mid c.args.disk.now one two ready.next c.requires.places
    (c.in_ok-make_room.ensures.logged t n.count n.recs n.ks ready.logged ready.next.kept_fit ready.next.kept_agree ready.epoch) (c.make_room.ensures.reading t) c.write_blob.ensures.areas (c.write_blob.ensures.any_moment t) (c.write_blob.ensures.reading t) in
    let low : used_of mid < slot_count = (let room = c.in_ok-make_room.ensures.room in let same = c.write_blob.ensures.areas.same_used in omega (arith, room, same)) in
    let has = c.in_ok-write_blob.ensures.blob t in
    let working = c.write_blob.ensures.areas.same_failed ∙ c.in_ok-make_room.ensures.working in
    let behind = behind_blob laws (λ d. disk.reads_now d t) n.count _ room n.ks new blob areas mid c.args.disk.now one two b in
    LeavesOnly-then laws first (moments_of_append laws (λ d. disk.reads_now d t) n.count _ room n.ks new blob areas mid c.args.disk.now one two b low has c.append.new.disk
    (c.append.ensures.any_moment t working room (stands_logged laws (λ d. disk.reads_now d t) n.count mid room n.ks two behind)))

pub returns-clause-stored : goal.returns-clause-stored
returns-clause-stored g c t n ready =
    let disk = g.met.D.Disk in
    let reading = g.D.Disk.reading in
    let laws = told g.D.Disk t disk.counts_now disk.only_now in
    let new = new_of n c.args.rec.now in
    let one = c.make_room.new.disk in
    let two = c.write_blob.new.disk in
    let areas = c.make_room.new.areas in
    let mid = c.write_blob.new.areas in
    let room = roomy_log (used_of c.args.areas.now) n.recs c.args.kept.now in
    let blob = c.args.blob.now in
    let b = behind_next laws (λ d. disk.reads_now d t) n.count _ n.recs c.args.kept.now n.ks new blob c.args.areas.now areas mid c.args.disk.now one two ready.next c.requires.places
    (c.in_ok-make_room.ensures.logged t n.count n.recs n.ks ready.logged ready.next.kept_fit ready.next.kept_agree ready.epoch) (c.make_room.ensures.reading t) c.write_blob.ensures.areas (c.write_blob.ensures.any_moment t) (c.write_blob.ensures.reading t) in
    let low : used_of mid < slot_count = (let room = c.in_ok-make_room.ensures.room in let same = c.write_blob.ensures.areas.same_used in omega (arith, room, same)) in
    let has = c.in_ok-write_blob.ensures.blob t in
    let behind = behind_blob laws (λ d. disk.reads_now d t) n.count _ room n.ks new blob areas mid c.args.disk.now one two b in
    on_ok_two c.append.result
    (λ stands only. logged_end laws (λ d. disk.reads_now d t) n.count _ room n.ks new blob areas mid c.args.disk.now one two b low has c.append.new.disk c.append.new.self c.append.ensures.areas.area c.append.ensures.areas.epoch stands (c.append.ensures.outside t) only)
    (c.append.ensures.added t room (stands_logged laws (λ d. disk.reads_now d t) n.count mid room n.ks two behind)) (c.append.ensures.stable t)

pub returns-in_err-make_room-clause-begins : goal.returns-in_err-make_room-clause-begins
returns-in_err-make_room-clause-begins g c =
    let kept : ℕ = length c.args.kept.now in
    let many : ℕ = length c.args.blob.now in
    Begins-fewer (2 * kept + 9) (2 * kept + many + 14) _ _ (omega arith) c.make_room.ensures.begins

pub returns-in_err-write_blob-clause-begins : goal.returns-in_err-write_blob-clause-begins
returns-in_err-write_blob-clause-begins g c =
    let kept : ℕ = length c.args.kept.now in
    let many : ℕ = length c.args.blob.now in
    Begins-fewer (2 * kept + 9 + many) (2 * kept + many + 14) _ _ (omega arith) (Begins-then (2 * kept + 9) many _ _ _ c.make_room.ensures.begins c.write_blob.ensures.begins)

pub returns-clause-begins : goal.returns-clause-begins
returns-clause-begins g c =
    let kept : ℕ = length c.args.kept.now in
    let many : ℕ = length c.args.blob.now in
    Begins-fewer (2 * kept + 9 + many + 5) (2 * kept + many + 14) _ _ (omega arith)
    (Begins-then (2 * kept + 9 + many) 5 _ _ _ (Begins-then (2 * kept + 9) many _ _ _ c.make_room.ensures.begins c.write_blob.ensures.begins) c.append.ensures.begins)

pub returns-clause-blob : goal.returns-clause-blob
returns-clause-blob g c t =
    on_ok_always c.append.result
    (blob_stays c.args.rec.now c.args.blob.now _ (area_of c.write_blob.new.areas) (used_of c.write_blob.new.areas) _ _ (let room = c.in_ok-make_room.ensures.room in let same = c.write_blob.ensures.areas.same_used in omega (arith, room, same))
    c.requires.places (c.append.ensures.outside t) (c.in_ok-write_blob.ensures.blob t))

pub returns-clause-used : goal.returns-clause-used
returns-clause-used g c =
    let room = c.in_ok-make_room.ensures.used in
    let same = c.write_blob.ensures.areas.same_used in
    on_ok_weaker c.append.result (λ used. omega (arith, used, same, room)) c.append.ensures.areas.used
