use Rattle.std.proofs.Common.{ℕ, sym, subst}
use Rattle.std.specs.List.{AllByRecursion}
use Rattle.edge_tally.proofs.Counting.{Begins-stay}
use Rattle.edge_tally.specs.Counts.{Begins, shown}
use Rattle.edge_disk.specs.Image.{SameOutside}
use Rattle.edge_disk.specs.Moments.{LeavesOnly}
use Rattle.edge_disk.proofs.Phases.{LeavesOnly-now, told}
use Rattle.open_facts.specs.image_meaning.Stores.{IsHeld}
use Rattle.log_reading.specs.log_facts.Logs.{AreInRange}
use Rattle.log_reading.specs.Logs.{IsLogOf}
use Rattle.open_facts.specs.store_facts.Choosing.{IsKeeping, are_chosen, books_kept}
use Rattle.open_facts.specs.store_facts.State.{State, books}
use Rattle.open_facts.specs.store_books.Books.{IsBeforePool, kept_of, recs_in}
use Rattle.open_facts.specs.Images.{AreReadOf, HasBegun, MeansSame}
use Rattle.open_facts.specs.Opened.{IsRead}
use Rattle.open_facts.proofs.Clauses.{holds, is_read, low_epoch, moments, opened, settled}
use Rattle.open_facts.proofs.Stored.{rows_placed, rows_spelt}
use Rattle.open_image.proofs.keeping.kept.Goals as goal

pub returns-in-Err-clause-moments : goal.returns-in-Err-clause-moments
returns-in-Err-clause-moments g c t room =
    let disk = g.met.D.Disk in
    let mid = c.args.read.synced.disk in
    subst (λ (d : g.row.D.Denot). LeavesOnly g.D.Disk mid d (MeansSame (g.D.Disk.reading mid))) (sym c.in-Err.ensures.same_disk)
    (settled (told g.D.Disk t disk.counts_now disk.only_now) (λ d s u image le left. disk.counts_later d s u image t le left) mid (c.requires.synced.stable t))

pub keep_chosen-requires-clause-range : goal.keep_chosen-requires-clause-range
keep_chosen-requires-clause-range g c =
    let st : State g.row.D.Denot = c.in-Ok.store in
    let over = c.in-Ok.ensures.over in
    subst (λ (n : ℕ). AreInRange n (recs_in (books st))) (sym over.count) (subst (AreInRange c.args.read.synced.log.blocks) (sym over.recs) c.requires.synced.known.in_range)

pub keep_chosen-requires-clause-placed : goal.keep_chosen-requires-clause-placed
keep_chosen-requires-clause-placed g c =
    let st : State g.row.D.Denot = c.in-Ok.store in
    let log = c.args.read.synced.log in
    let parts = c.args.read.parts in
    let read : AreReadOf log parts c.deref.result.now = subst (AreReadOf log parts) (sym c.deref.ensures.value) c.requires.read in
    rows_placed log parts c.deref.result.now st (is_read (g.D.Disk.block_count c.args.read.synced.disk) log parts c.deref.result.now st c.requires.synced.known read c.in-Ok.ensures.over)

pub keep_chosen-requires-clause-spelt : goal.keep_chosen-requires-clause-spelt
keep_chosen-requires-clause-spelt g c t =
    let st : State g.row.D.Denot = c.in-Ok.store in
    let log = c.args.read.synced.log in
    let parts = c.args.read.parts in
    let mid = c.args.read.synced.disk in
    let read : AreReadOf log parts c.deref.result.now = subst (AreReadOf log parts) (sym c.deref.ensures.value) c.requires.read in
    subst (λ (d : g.row.D.Denot). AllByRecursion (IsHeld (g.D.Disk.reading d)) (kept_of (g.D.Disk.reading d) (books_kept c.deref.result.now st))) (sym c.in-Ok.ensures.same_disk)
    (rows_spelt log parts c.deref.result.now st (is_read (g.D.Disk.block_count mid) log parts c.deref.result.now st c.requires.synced.known read c.in-Ok.ensures.over) (g.D.Disk.reading mid) (c.requires.accepted t))

pub returns-in-Ok-keep_chosen-clause-opened : goal.returns-in-Ok-keep_chosen-clause-opened
returns-in-Ok-keep_chosen-clause-opened g c =
    let st : State g.row.D.Denot = c.in-Ok.store in
    let log = c.args.read.synced.log in
    let parts = c.args.read.parts in
    let count = g.D.Disk.block_count c.args.read.synced.disk in
    let read : AreReadOf log parts c.deref.result.now = subst (AreReadOf log parts) (sym c.deref.ensures.value) c.requires.read in
    opened log parts c.deref.result.now st c.keep_chosen.new.self (is_read count log parts c.deref.result.now st c.requires.synced.known read c.in-Ok.ensures.over) c.in-Ok.ensures.fresh
    count c.requires.synced.known c.in-Ok-keep_chosen.ensures.kept c.keep_chosen.ensures.begins.counts.begun_later

pub returns-in-Ok-keep_chosen-clause-holds : goal.returns-in-Ok-keep_chosen-clause-holds
returns-in-Ok-keep_chosen-clause-holds g c t =
    let disk = g.met.D.Disk in
    let st : State g.row.D.Denot = c.in-Ok.store in
    let log = c.args.read.synced.log in
    let parts = c.args.read.parts in
    let mid = c.args.read.synced.disk in
    let new : State g.row.D.Denot = c.keep_chosen.new.self in
    let read : AreReadOf log parts c.deref.result.now = subst (AreReadOf log parts) (sym c.deref.ensures.value) c.requires.read in
    let is : IsRead log parts c.deref.result.now st = is_read (g.D.Disk.block_count mid) log parts c.deref.result.now st c.requires.synced.known read c.in-Ok.ensures.over in
    let of : IsLogOf (g.D.Disk.reading mid) log = c.requires.synced.has_log t in
    holds log parts c.deref.result.now st new is c.in-Ok.ensures.fresh
    g.D.Disk (g.D.Disk.reading mid) of (c.requires.accepted t) c.in-Ok-keep_chosen.ensures.kept (c.in-Ok-keep_chosen.ensures.true_books t) (c.in-Ok-keep_chosen.ensures.stable t)
    (λ room.
    let low = low_epoch log parts c.deref.result.now st new is c.in-Ok.ensures.fresh (g.D.Disk.reading mid) of room in
    let now : IsKeeping (g.D.Disk.reading st.disk) (books st) (are_chosen st) (g.D.Disk.reading new.disk) =
    LeavesOnly-now (told g.D.Disk t disk.counts_now disk.only_now) (c.keep_chosen.ensures.any_moment t c.in-Ok.ensures.fresh.working low) (g.D.Disk.reading new.disk) (disk.reads_now new.disk t) in
    subst (λ (d : g.row.D.Denot). SameOutside IsBeforePool (g.D.Disk.reading d) (g.D.Disk.reading new.disk)) c.in-Ok.ensures.same_disk now.same)

pub returns-in-Ok-keep_chosen-clause-moments : goal.returns-in-Ok-keep_chosen-clause-moments
returns-in-Ok-keep_chosen-clause-moments g c t room =
    let disk = g.met.D.Disk in
    let st : State g.row.D.Denot = c.in-Ok.store in
    let log = c.args.read.synced.log in
    let parts = c.args.read.parts in
    let mid = c.args.read.synced.disk in
    let new : State g.row.D.Denot = c.keep_chosen.new.self in
    let read : AreReadOf log parts c.deref.result.now = subst (AreReadOf log parts) (sym c.deref.ensures.value) c.requires.read in
    let is : IsRead log parts c.deref.result.now st = is_read (g.D.Disk.block_count mid) log parts c.deref.result.now st c.requires.synced.known read c.in-Ok.ensures.over in
    let of : IsLogOf (g.D.Disk.reading mid) log = c.requires.synced.has_log t in
    let low = low_epoch log parts c.deref.result.now st new is c.in-Ok.ensures.fresh (g.D.Disk.reading mid) of room in
    moments log parts c.deref.result.now st new is c.in-Ok.ensures.fresh (told g.D.Disk t disk.counts_now disk.only_now) (g.D.Disk.reading mid) of mid new.disk
    (subst (λ (d : g.row.D.Denot). LeavesOnly g.D.Disk d new.disk (IsKeeping (g.D.Disk.reading d) (books st) (are_chosen st))) c.in-Ok.ensures.same_disk
    (c.keep_chosen.ensures.any_moment t c.in-Ok.ensures.fresh.working low))

pub returns-in-Err-keep_chosen-clause-moments : goal.returns-in-Err-keep_chosen-clause-moments
returns-in-Err-keep_chosen-clause-moments g c t room =
    let disk = g.met.D.Disk in
    let st : State g.row.D.Denot = c.in-Ok.store in
    let log = c.args.read.synced.log in
    let parts = c.args.read.parts in
    let mid = c.args.read.synced.disk in
    let new : State g.row.D.Denot = c.keep_chosen.new.self in
    let read : AreReadOf log parts c.deref.result.now = subst (AreReadOf log parts) (sym c.deref.ensures.value) c.requires.read in
    let is : IsRead log parts c.deref.result.now st = is_read (g.D.Disk.block_count mid) log parts c.deref.result.now st c.requires.synced.known read c.in-Ok.ensures.over in
    let of : IsLogOf (g.D.Disk.reading mid) log = c.requires.synced.has_log t in
    let low = low_epoch log parts c.deref.result.now st new is c.in-Ok.ensures.fresh (g.D.Disk.reading mid) of room in
    subst (λ (d : g.row.D.Denot). LeavesOnly g.D.Disk mid d (MeansSame (g.D.Disk.reading mid))) (sym c.into_disk.ensures)
    (moments log parts c.deref.result.now st new is c.in-Ok.ensures.fresh (told g.D.Disk t disk.counts_now disk.only_now) (g.D.Disk.reading mid) of mid new.disk
    (subst (λ (d : g.row.D.Denot). LeavesOnly g.D.Disk d new.disk (IsKeeping (g.D.Disk.reading d) (books st) (are_chosen st))) c.in-Ok.ensures.same_disk
    (c.keep_chosen.ensures.any_moment t c.in-Ok.ensures.fresh.working low)))

pub returns-in-Err-clause-begins : goal.returns-in-Err-clause-begins
returns-in-Err-clause-begins g c =
    let mid = c.args.read.synced.disk in
    subst (λ (d : g.row.D.Denot). HasBegun g.D.Disk 137 1 mid d) (sym c.in-Err.ensures.same_disk)
    (1, Begins-stay 137 (shown g.D.Disk mid 1))

pub returns-in-Err-keep_chosen-clause-begins : goal.returns-in-Err-keep_chosen-clause-begins
returns-in-Err-keep_chosen-clause-begins g c =
    let st : State g.row.D.Denot = c.in-Ok.store in
    let new : State g.row.D.Denot = c.keep_chosen.new.self in
    let mid = c.args.read.synced.disk in
    subst (λ (d : g.row.D.Denot). HasBegun g.D.Disk 137 1 mid d) (sym c.into_disk.ensures) (
      (books new).begun,
      subst (λ (n : ℕ). Begins 137 (shown g.D.Disk mid n) (shown g.D.Disk new.disk (books new).begun)) c.in-Ok.ensures.fresh.one
          (subst (λ (d : g.row.D.Denot). Begins 137 (shown g.D.Disk d (books st).begun) (shown g.D.Disk new.disk (books new).begun)) c.in-Ok.ensures.same_disk
          c.keep_chosen.ensures.begins),
    )
