-- A store as it is opened: what its memory is, and where its log stands.
use Rattle.std.proofs.Common.{◌≡◌, ℕ, zero, suc, ◌<◌, ◌≤◌, Bool, true, false, if◌then◌else◌, nat_lt, List, [], ◌∷◌, ◌++◌, filter, length, map, Some, None, refl, sym, ap, subst, ◌∙◌, arith, append_assoc}
use Rattle.std.specs.Prelude.{Err, IfOk, Ok, Result, slice_get, slice_index}
use Rattle.std.specs.List.{AllByRecursion, AllPairs}
use Rattle.std.proofs.lemmas.Bool.{lt-ltb}
use Rattle.std.proofs.lemmas.Bool.Decides.{nat_tests}
use Rattle.std.proofs.lemmas.List.{get_or_past, map-append}
use Rattle.data_cut_facts.specs.Records.{IsAscending}
use Rattle.data_cuts.specs.model_cut_laws.Agreeing.{nothing}
use Rattle.data_cuts.specs.model_cut_laws.Records.{AgreeInRecs, commits_of}
use Rattle.edge_disk.specs.Disk.{LeavesNoMore, Only, Ticks}
use Rattle.edge_disk.specs.Image.{Image, IsImage, block_at}
use Rattle.edge_disk.proofs.Phases.{LeavesOnly-start, LeavesOnly-sync, Moments}
use Rattle.base_types.specs.declared.records.Cut.{Cut}
use Rattle.base_types.specs.declared.records.Rec.{Rec}
use Rattle.page_store.proofs.model_kernel_lemmas.Lowering.{greatest_is, greatest_one}
use Rattle.page_store.specs.model_kernel.Choices.{IsGreatest, IsNarrow, greatest}
use Rattle.log_reading.specs.image_blocks.Checks.{active_area, active_by}
use Rattle.log_reading.specs.image_facts.Checks.{count_in}
use Rattle.log_reading.specs.image_blocks.Layout.{epoch_in, gate_at, header_at}
use Rattle.log_reading.specs.image_facts.Layout.{is_open}
use Rattle.log_reading.specs.image_facts.Logs.{AreFitting}
use Rattle.log_reading.specs.image_blocks.Logs.{HasFront, HasLog, HasRecords, IsActive, Place}
use Rattle.log_reading.specs.image_blocks.declared.areas.Area.{Area}
use Rattle.log_reading.specs.image_blocks.declared.areas.Area.TheVariants.{A, B}
use Rattle.log_reading.proofs.image_blocks_lemmas.Opening.{log_back_law}
use Rattle.log_reading.specs.log_facts.Logs.{AreInRange, IsOlder}
use Rattle.log_reading.specs.Logs.{IsKnown}
use Rattle.log_reading.specs.log_facts.Reads.{ReadsOnly}
use Rattle.log_reading.specs.declared.log.ImageLog.{ImageLog}
use Rattle.page_words.specs.image_meaning.Parts.{cut_of}
use Rattle.page_words.specs.image_meaning.Stores.{IsHeld, Kept, recs_of}
use Rattle.edge_tally.specs.declared.Tally.{Tally}
use Rattle.log_reading.specs.log_facts.Areas.{SameAreas}
use Rattle.page_words.specs.log_turn.Standing.{area_of, epoch_of, place_of}
use Rattle.page_words.specs.log_turn.declared.areas.Areas.{Areas}
use Rattle.data_blocks.specs.Ledger.{Ledger}
use Rattle.page_words.specs.store_books.Books.{AreApartFrom, AreTrue, Books, IsBeforePool, Logged, kept_of, logged_recs, recs_in}
use Rattle.store_facts.specs.Keeping.{AreKept}
use Rattle.store_facts.specs.Opening.{HasStableLog, IsOver, IsSynced, SyncsOnly, fresh_ledger, unread}
use Rattle.store_facts.specs.Shelves.{is_from}
use Rattle.store_facts.specs.State.{State, books, state_of}
use Rattle.std.proofs.lemmas.Option.{same_Some}
use Rattle.edge_disk.specs.Disks.{TimePasses}
use Rattle.edge_disk.specs.declared.disk.Disk.{Ghosts}

-- the records are those that were put on the shelf
pub recs_back : (recs : List Rec) → logged_recs (map unread recs) ≡ recs
recs_back [] = refl
recs_back (r ∷ recs) = ap (λ (l : List Rec). r ∷ l) (recs_back recs)

-- one record more is on the shelf
pub shelve_more : (before : List Logged) (recs : List Rec) (l : List Logged) (r : Rec) → l ≡ before ++ map unread recs → l ++ unread r ∷ [] ≡ before ++ map unread (recs ++ r ∷ [])
shelve_more before recs l r so_far =
    ap (λ (m : List Logged). m ++ unread r ∷ []) so_far ∙ (append_assoc before (map unread recs) (unread r ∷ []) ∙ ap (λ (m : List Logged). before ++ m) (sym (map-append unread recs (r ∷ []))))

-- versions that strictly ascend ascend
pub older_ascending : (recs : List Rec) → AllPairs IsOlder recs → IsAscending recs
older_ascending recs pairs i j d lt within = λ same. (let less = pairs i j d lt within same in omega (arith, less))

-- stamps of 64 components are narrow
narrow_all : (recs : List Rec) → ((i : ℕ) (r : Rec) → slice_get recs i ≡ Some r → length r.stamp ≡ 64) → IsNarrow (commits_of recs)
narrow_all [] each = tt
narrow_all (r ∷ recs) each = ((λ y far. get_or_past r.stamp y 0 (let len = each zero r refl in omega (arith, len, far))), narrow_all recs (λ i s here. each (suc i) s here))

pub narrow_in_range : (count : ℕ) (recs : List Rec) → AreInRange count recs → IsNarrow (commits_of recs)
narrow_in_range count recs range = narrow_all recs (λ i r here. (range i r here).components)

pub shelved_kept : (count : ℕ) (recs : List Rec) (log kept : List Logged) (cut : ℕ → ℕ) → log ≡ map unread recs → kept ≡ filter (is_from cut) log → IsGreatest nothing (commits_of recs) cut → AllPairs IsOlder recs → AreInRange count recs
    → AreKept log kept cut
shelved_kept count recs log kept cut is kept_is greatest older range =
    let back : recs ≡ logged_recs log = sym (ap logged_recs is ∙ recs_back recs) in
    record {
      kept = kept_is;
      greatest = subst (λ (rs : List Rec). IsGreatest nothing (commits_of rs) cut) back greatest;
      ascending = subst IsAscending back (older_ascending recs older);
      narrow = subst (λ (rs : List Rec). IsNarrow (commits_of rs)) back (narrow_in_range count recs range);
    }

-- WHERE THE LOG STANDS

active_A : (b : Bool) (m n : ℕ) → (b ≡ true → n < m) → active_by true b m n ≡ Some A
active_A false m n above = refl
active_A true m n above = ap (λ (t : Bool). if t then Some A else if nat_lt m n then Some B else None) (lt-ltb n m (above refl))

active_B : (a : Bool) (m n : ℕ) → (a ≡ true → m < n) → active_by a true m n ≡ Some B
active_B false m n above = refl
active_B true m n above =
    let lt : m < n = above refl in
    let not_a : nat_lt n m ≡ false = grind (arith, nat_tests) in
    ap (λ (t : Bool). if t then Some A else if nat_lt m n then Some B else None) not_a ∙ ap (λ (t : Bool). if t then Some B else None) (lt-ltb m n lt)

active_is : (image : Image) (area : Area) (epoch : ℕ) → IsActive (record { active = area; epoch = epoch }) image → active_area image ≡ Some area
active_is image A epoch is =
    ap (λ (t : Bool). active_by t (is_open image 4) (epoch_in image A) (epoch_in image B)) is.gate
    ∙ active_A (is_open image 4) (epoch_in image A) (epoch_in image B) (λ opens. (let low = is.above opens in let same = is.epoch in omega (arith, low, same)))
active_is image B epoch is =
    ap (λ (t : Bool). active_by (is_open image 2) t (epoch_in image A) (epoch_in image B)) is.gate
    ∙ active_B (is_open image 2) (epoch_in image A) (epoch_in image B) (λ opens. (let low = is.above opens in let same = is.epoch in omega (arith, low, same)))

-- what the image has, as the writers of a log see it
pub record Stands (count : ℕ) (p : Place) (recs : List Rec) (image : Image) : Type 0 where
  pub front : HasFront count p image
  pub log : HasLog p recs image
  pub fit : AreFitting count recs

pub log_stands : (recs : List Rec) (blocks : ℕ) (image : Image) (area : Area) (epoch count : ℕ) → IsImage blocks image → (has : HasRecords recs image) → has.area ≡ area → epoch ≡ epoch_in image area → count ≡ count_in image
    → Stands count (record { active = area; epoch = epoch }) recs image
log_stands recs blocks image area epoch count whole has is_area is_epoch is_count =
    let back = log_back_law recs blocks image whole has in
    let p : Place = back.0 in
    let one : p.active ≡ area = same_Some p.active has.area (sym (active_is image p.active p.epoch back.2.active) ∙ has.active) ∙ is_area in
    let two : p.epoch ≡ epoch = sym back.2.active.epoch ∙ (ap (epoch_in image) one ∙ sym is_epoch) in
    let same : p ≡ record { active = area; epoch = epoch } = ap (λ (a : Area). record { active = a; epoch = p.epoch }) one ∙ ap (λ (n : ℕ). record { active = area; epoch = n }) two in
    subst (λ (n : ℕ). Stands n (record { active = area; epoch = epoch }) recs image) (sym is_count)
    (subst (λ (q : Place). Stands (count_in image) q recs image) same (record { front = back.1; log = back.2; fit = back.3 }))

-- A SYNC, AND READS BEHIND IT

module _ {D : Type 0} (disks : Ghosts D) (laws : disks.tells → Moments disks) where
  pub synced : (old new : D) → disks.block_count new ≡ disks.block_count old → Ticks (disks.clock old) (disks.clock new) → disks.faults old ≤ disks.faults new → (disks.tells → disks.reading new ≡ disks.reading old) → (disks.tells → LeavesNoMore disks.may_leave old new) → (disks.tells → TimePasses disks old new)
      → SyncsOnly disks old new
  synced old new count ticks later same stop time = record {
    same_count = count;
    one = ticks;
    later = later;
    same_reading = same;
    moments = λ t. LeavesOnly-sync (laws t) (LeavesOnly-start (laws t) old (disks.may_leave old) (λ c may. may)) (stop t) (time t);
  }

  pub read_behind : (old mid new : D) → SyncsOnly disks old mid → ReadsOnly disks mid new
      → SyncsOnly disks old new
  read_behind old mid new syncs reads = record {
    same_count = reads.same_count ∙ syncs.same_count;
    one = subst (λ (n : ℕ). Ticks (disks.clock old) n) (sym reads.same_clock) syncs.one;
    later = (let first = syncs.later in let second = reads.later in omega (arith, first, second));
    same_reading = λ t. reads.same_reading t ∙ syncs.same_reading t;
    moments = λ t. LeavesOnly-sync (laws t) (syncs.moments t) (reads.stop t) (reads.time t);
  }

-- THE CLAUSES of what was found, for a log that was read

module _ (recs : List Rec) (log : List Logged) (is : log ≡ map unread recs) where
  pub recs_are : logged_recs log ≡ recs
  recs_are = ap logged_recs is ∙ recs_back recs

  module _ {D : Type 0} (disks : Ghosts D) (disk : D) (areas : Areas) (kept : List Logged) (cut : Cut) (ledger : Ledger) (blocks : ℕ) (same : ledger ≡ fresh_ledger blocks recs) where
    pub found_stands : (place : Place) → place_of areas ≡ place → Stands blocks place recs (disks.reading disk) → Only (disks.reading disk) (disks.may_leave disk)
        → HasStableLog disks (books (state_of disk areas log kept cut ledger true false 0)) disk
    found_stands place at stands stable =
        let end : ledger.end ≡ blocks = ap (λ (l : Ledger). l.end) same in
        let here : Stands ledger.end (place_of areas) (logged_recs log) (disks.reading disk) =
        subst (λ (n : ℕ). Stands n (place_of areas) (logged_recs log) (disks.reading disk)) (sym end)
        (subst (λ (p : Place). Stands blocks p (logged_recs log) (disks.reading disk)) (sym at) (subst (λ (rs : List Rec). Stands blocks place rs (disks.reading disk)) (sym recs_are) stands)) in
        record { front = here.front; log = here.log; fit = here.fit; stable = stable }

-- A LOG WITHOUT A RECORD has nothing to store
pub empty_true : {D : Type 0} (disks : Ghosts D) (b : Books) (disk : D) → HasStableLog disks b disk → b.logged ≡ [] → AreTrue disks b disk
empty_true disks b disk s none =
    let none_kept : kept_of (disks.reading disk) b ≡ [] = ap (λ (ls : List Logged). kept_of (disks.reading disk) (record b { logged = ls })) none in
    let no_recs : recs_in b ≡ [] = ap logged_recs none in
    let left : (c : Image) → disks.may_leave disk c → HasLog b.place (recs_in b) c × SameAreas (disks.reading disk) c = λ c may.
    let same : c ≡ disks.reading disk = s.stable c may in
    (subst (HasLog b.place (recs_in b)) (sym same) s.log, record { header = λ area. ap (λ (i : Image). block_at i (header_at area)) same; gate = λ area. ap (λ (i : Image). block_at i (gate_at area)) same }) in
    record {
      log = λ _. s.log;
      left = λ _. left;
      stored = λ _ _. record {
        fit = s.fit;
        agree = subst (λ (rs : List Rec). AgreeInRecs rs (recs_of (kept_of (disks.reading disk) b))) (sym no_recs) (subst (λ (ks : List Kept). AgreeInRecs [] (recs_of ks)) (sym none_kept)
            (record { cut = greatest nothing []; greatest = greatest_is nothing [] tt; same = refl }));
        pool = subst (AreApartFrom IsBeforePool) (sym none_kept) tt;
        left = left;
        front = λ c may. subst (HasFront b.count b.place) (sym (s.stable c may)) s.front;
        held = λ c may. subst (λ (ks : List Kept). AllByRecursion (IsHeld c) ks) (sym none_kept) tt;
      };
    }

pub place_is : (areas : Areas) (area : Area) (epoch : ℕ) → area_of areas ≡ area → epoch_of areas ≡ epoch → place_of areas ≡ record { active = area; epoch = epoch }
place_is areas area epoch one two = ap (λ (a : Area). record { active = a; epoch = areas.epoch }) one ∙ ap (λ (n : ℕ). record { active = area; epoch = n }) two

pub none_logged : (ls : List Logged) → logged_recs ls ≡ [] → ls ≡ []
none_logged [] none = refl
none_logged (l ∷ ls) none = absurd (let clash : l.rec ∷ logged_recs ls ≡ [] = none in cc clash)

-- the log stands as it did, where a disk was only read
pub log_read : {D : Type 0} (disks : Ghosts D) (b : Books) (shut : Bool) (old new : D)
    → disks.tells → ReadsOnly disks old new → HasStableLog disks b old → HasStableLog disks (record b { shut = shut }) new
log_read disks b shut old new t reads s = record {
  front = subst (HasFront b.count b.place) (sym (reads.same_reading t)) s.front;
  log = subst (HasLog b.place (recs_in b)) (sym (reads.same_reading t)) s.log;
  fit = s.fit;
  stable = λ c may. s.stable c (reads.stop t c may) ∙ sym (reads.same_reading t);
}

-- A STORE OVER A LOG THAT WAS READ

-- the log that was read stands alone on the disk
pub synced_stands : {D : Type 0} (disks : Ghosts D) (disk : D) (tally : Tally) (log : ImageLog) → IsSynced disks disk tally log
    → (areas : Areas) (shelf kept : List Logged) (cut : Cut) (ledger : Ledger) → area_of areas ≡ log.area → epoch_of areas ≡ log.epoch → shelf ≡ map unread log.recs.items → ledger ≡ fresh_ledger log.blocks log.recs.items
    → disks.tells → IsImage (disks.block_count disk) (disks.reading disk) → HasStableLog disks (books (state_of disk areas shelf kept cut ledger true false 0)) disk
synced_stands disks disk tally log is areas shelf kept cut ledger area epoch shelf_is ledger_is told whole =
    let has = is.has_log told in
    let place : Place = record { active = log.area; epoch = log.epoch } in
    found_stands log.recs.items shelf shelf_is disks disk areas kept cut ledger log.blocks ledger_is place (place_is areas log.area log.epoch area epoch)
    (log_stands log.recs.items (disks.block_count disk) (disks.reading disk) log.area log.epoch log.blocks whole has.has has.area has.epoch has.blocks)
    (is.stable told)

-- its books are those of the log
pub over_log : {D : Type 0} (count : ℕ) (disk : D) (log : ImageLog) → IsKnown count log → (areas : Areas) (shelf kept : List Logged) (cut : Cut) (ledger : Ledger) → area_of areas ≡ log.area → epoch_of areas ≡ log.epoch
    → shelf ≡ map unread log.recs.items → ledger ≡ fresh_ledger log.blocks log.recs.items → AreKept shelf kept (slice_index cut.0) → IsOver log (state_of disk areas shelf kept cut ledger true false 0)
over_log count disk log known areas shelf kept cut ledger area epoch shelf_is ledger_is are_kept =
    let recs = recs_are log.recs.items shelf shelf_is in
    record {
      recs = recs;
      count = ap (λ (l : Ledger). l.end) ledger_is;
      place = place_is areas log.area log.epoch area epoch;
      first = ap (λ (l : Ledger). l.first) ledger_is;
      cut = greatest_one nothing (commits_of log.recs.items) (slice_index cut.0) (cut_of log.recs.items)
          (subst (λ (rs : List Rec). IsGreatest nothing (commits_of rs) (slice_index cut.0)) recs are_kept.greatest)
          (greatest_is nothing (commits_of log.recs.items) (narrow_in_range log.blocks log.recs.items known.in_range));
    }

-- so its records are the image's, and in range
pub over_records : {D : Type 0} {E : Type 0} (disks : Ghosts D) (disk : D) (tally : Tally) (log : ImageLog) → IsSynced disks disk tally log
    → (image : Image) → (disks.tells → disks.reading disk ≡ image) → (r : Result (State D) E) → IfOk r (IsOver log) → disks.tells → IfOk r (λ st. HasRecords (recs_in (books st)) image)
over_records disks disk tally log is image same (Err e) over t = tt
over_records disks disk tally log is image same (Ok st) over t =
    subst (λ (rs : List Rec). HasRecords rs image) (sym over.recs) (subst (HasRecords log.recs.items) (same t) (is.has_log t).has)

pub over_range : {D : Type 0} {E : Type 0} (count : ℕ) (log : ImageLog) → IsKnown count log → (r : Result (State D) E) → IfOk r (IsOver log) → IfOk r (λ st. AreInRange (books st).count (recs_in (books st)))
over_range count log known (Err e) over = tt
over_range count log known (Ok st) over =
    subst (λ (n : ℕ). AreInRange n (recs_in (books st))) (sym over.count) (subst (AreInRange log.blocks) (sym over.recs) known.in_range)
