-- The clauses of an image that is opened.
use Rattle.std.proofs.Common.{◌≡◌, ◌⊎◌, inl, inr, ℕ, ◌+◌, ◌-◌, ◌^◌, ◌<◌, ◌≤◌, List, length, Option, Some, None, refl, sym, ap, subst, ◌∙◌, ⊎_elim, arith}
use Rattle.std.specs.Prelude.{AllPairs, Err, IsErrOf, MatchResult, Ok, Result, slice_index}
use Rattle.std.proofs.lemmas.Bool.{cases_lt}
use Rattle.edge_disk.specs.declared.disk.Disk.{Ghosts}
use Rattle.edge_disk.specs.Counts.{Rose}
use Rattle.edge_disk.specs.Disk.{Only, Ticks}
use Rattle.edge_disk.specs.Image.{Image, SameOutside}
use Rattle.edge_disk.specs.Moments.{LeavesOnly}
use Rattle.edge_disk.proofs.Phases.{LeavesOnly-start, LeavesOnly-then, LeavesOnly-weaker, Moments}
use Rattle.edge_tally.proofs.Counting.{CountsOn-then}
use Rattle.edge_tally.specs.Counts.{Begins, CountsOn, shown}
use Rattle.base_types.specs.declared.records.Rec.{Rec}
use Rattle.table_opened.specs.image_blocks.Checks.{Bad}
use Rattle.table_opened.specs.image_blocks.Layout.{epoch_in}
use Rattle.image_facts.specs.Layout.{last_number}
use Rattle.table_opened.specs.image_blocks.Logs.{Place}
use Rattle.table_opened.specs.image_meaning.Parts.{AreFormed, Part, AtlasPart, ContainerPart, LocusPart, Spells, table_in}
use Rattle.table_opened.specs.image_meaning.Meaning.{Accepted, Means}
use Rattle.table_opened.proofs.image_meaning_lemmas.Firsts.{not_both}
use Rattle.table_opened.proofs.image_meaning_lemmas.Ones.{one_log}
use Rattle.table_opened.specs.image_chosen_facts.Parts.{IsAcceptedWith}
use Rattle.table_opened.specs.image_chosen_facts.Tables.{blocks_in}
use Rattle.table_opened.specs.image_chosen.declared.parts.ImageParts.{ImageParts}
use Rattle.table_opened.specs.log_facts.Logs.{AreInRange, IsOlder}
use Rattle.table_opened.specs.log_reading.Logs.{IsKnown, IsLogOf}
use Rattle.table_opened.specs.log_reading.declared.log.ImageLog.{ImageLog}
use Rattle.table_opened.specs.data_blocks.declared.ShadowTable.{ShadowTable}
use Rattle.table_opened.specs.image_fits.Chosen.{parts_of}
use Rattle.kernel_views.specs.store_facts.Choosing.{HasKept, IsKeeping, are_chosen}
use Rattle.kernel_views.specs.store_facts.Opening.{IsFresh, IsOver, IsSynced, SyncsOnly}
use Rattle.kernel_views.specs.store_facts.State.{State, books}
use Rattle.kernel_views.specs.store_snapshots.OpenFaults.{why as why_of}
use Rattle.kernel_views.specs.store_snapshots.declared.opening.OpenWhy.{OpenWhy}
use Rattle.kernel_views.specs.store_snapshots.declared.opening.OpenWhy.TheVariants as why
use Rattle.edge_disk.proofs.Ticks.{Rose-before}
use Rattle.edge_tally.specs.declared.Tally.{Tally}
use Rattle.table_opened.specs.log_facts.Reads.{ReadsOnly}
use Rattle.table_opened.specs.log_reading.declared.faults.ReadingFault.{ReadingFault}
use Rattle.table_opened.specs.log_reading.declared.faults.ReadingFault.TheVariants as reading
use Rattle.table_opened.specs.image_meaning.Foreign.{IsBadMeaning}
use Rattle.kernel_views.proofs.store_facts_lemmas.Keep.{rows_recs}
use Rattle.table_opened.specs.store_books.Books.{AreTrue, IsBeforePool, logged_recs, recs_in}
use Rattle.open_facts.specs.Images.{AreReadOf, HasImageCause, HasKeepCause, HasPartsCause, HasTurnLeft, HoldsImage, IsOpened, MeansSame, MeansSince}
use Rattle.open_facts.specs.Opened.{IsRead}
use Rattle.kernel_views.proofs.store_facts_lemmas.ChosenAlone.{row_of}
use Rattle.open_facts.proofs.Moments.{keeping_law}
use Rattle.open_facts.proofs.Owned.{held_page, page_held, rows_owned}
use Rattle.open_facts.proofs.Stored.{all_kept, row_is, rows_are, rows_chosen, same_lists}

-- a part that has a spelling has no more pages than a table
few_in : (p : Part) (blob : List ℕ) → Spells p blob → length (table_in p) ≤ 256
few_in (AtlasPart a) blob s = omega arith
few_in (ContainerPart c table) blob s = (let each = s.form.blocks.each_page in let size = s.form.shape.size in omega (arith, each, size))
few_in (LocusPart l) blob s = omega arith

few_pages : (parts : ℕ → Option Part) → AreFormed parts → (x : ℕ) → length (blocks_in (parts x)) ≤ 256
few_pages parts formed x = by_part (parts x) refl
  where
    by_part : (o : Option Part) → parts x ≡ o → length (blocks_in o) ≤ 256
    by_part None at = omega arith
    by_part (Some p) at = (let f = formed x p at in few_in p f.blob f.spells)

pub is_read : {D : Type 0} (count : ℕ) (log : ImageLog) (parts : ImageParts) (tables : List ShadowTable) (st : State D) → IsKnown count log → AreReadOf log parts tables → IsOver log st → IsRead log parts tables st
is_read count log parts tables st known read over = record {
  range = known.in_range;
  older = known.ascending;
  over = over;
  parts_are = read.parts_are;
  tables_are = read.tables_are;
  few = few_pages (parts_of parts.entities.items) read.parts_are.formed;
}

module _ {D : Type 0} (log : ImageLog) (parts : ImageParts) (tables : List ShadowTable) (st new : State D) (is : IsRead log parts tables st) (fresh : IsFresh st) where
  abbrev those : ℕ → Option Part
  those = parts_of parts.entities.items

  -- THE STORE whatever the disk tells
  pub opened : (count : ℕ) → IsKnown count log → HasKept tables st new → (books st).begun ≤ (books new).begun → IsOpened new parts
  opened count known kept later = record {
    log = log;
    known = record { enough = known.enough; most = known.most; within = omega arith; few = known.few; epoch = known.epoch; in_range = known.in_range; ascending = known.ascending };
    parts_are = is.parts_are;
    recs = ap logged_recs (kept.log ∙ rows_are log parts tables st is) ∙ (rows_recs tables (row_of log.recs.items) ∙ same_lists log.recs.items);
    all_kept = all_kept log parts tables st is (books new) kept.log ∙ sym (kept.log ∙ rows_are log parts tables st is);
    count = kept.same_count ∙ is.over.count;
    epoch = ap (λ (p : Place). p.epoch) kept.place ∙ ap (λ (p : Place). p.epoch + 1) is.over.place;
    held = record {
      all_held = λ x page some. page_held log parts tables st new (λ y. blocks_in (those y)) is kept fresh.none_held (λ y p. refl) x page (slice_index (blocks_in (those x)) page) some refl;
      no_others = λ n held. held_page log parts tables st new (λ y. blocks_in (those y)) is kept fresh.none_held (λ y p. refl) n held;
    };
    read = kept.read;
    small = kept.same_small ∙ fresh.small;
    working = kept.working;
    synced = (let one = fresh.one in omega (arith, one, later));
  }

  -- and where it does
  pub holds : (disks : Ghosts D) (image : Image) → IsLogOf image log → IsAcceptedWith image log.recs.items (parts_of parts.entities.items) → HasKept tables st new → AreTrue disks (books new) new.disk
      → Only (disks.reading new.disk) (disks.may_leave new.disk) → (HasTurnLeft image → SameOutside IsBeforePool image (disks.reading new.disk)) → HoldsImage disks image new parts
  holds disks image of w kept right stable same = record {
    log = log;
    parts_are = is.parts_are;
    accepted = w;
    area = log.area;
    active = of.has.active ∙ ap Some of.area;
    epoch = ap (λ (p : Place). p.epoch) kept.place ∙ (ap (λ (p : Place). p.epoch + 1) is.over.place ∙ ap (λ (n : ℕ). n + 1) of.epoch);
    count = kept.same_count ∙ (is.over.count ∙ of.blocks);
    keeps = rows_chosen log parts tables st is image w new kept;
    books_true = right;
    stable = stable;
    same = same;
    owned = λ working have. rows_owned log parts tables st new working is kept fresh.none_held have;
  }

  -- MOMENTS
  pub low_epoch : (image : Image) → IsLogOf image log → HasTurnLeft image → (books st).place.epoch < last_number
  low_epoch image of room =
      let low : epoch_in image log.area < last_number = room log.area (of.has.active ∙ ap Some of.area) in
      let at = ap (λ (p : Place). p.epoch) is.over.place in
      let same = of.epoch in
      omega (arith, low, at, same)

  pub keeping : (image : Image) → IsLogOf image log → (c : Image) → IsKeeping image (books st) (are_chosen st) c → MeansSame image c
  keeping image of c keeps s v m =
      let recs = is.over.recs in
      keeping_law s image c v m (books st) (one_log image m.accepted.recs log.recs.items m.accepted.has of.has ∙ sym recs) (is.over.count ∙ of.blocks)
      (subst (λ (n : ℕ). AreInRange n (recs_in (books st))) (sym is.over.count) (subst (AreInRange log.blocks) (sym recs) is.range))
      (subst (AllPairs IsOlder) (sym recs) is.older)
      (subst (λ (rs : List Rec). IsKeeping image (books st) rs c) (row_is log parts tables st is ∙ ap row_of (sym recs)) keeps)

  pub moments : {disks : Ghosts D} → Moments disks → (image : Image) → IsLogOf image log → (a b : D)
      → LeavesOnly disks a b (IsKeeping image (books st) (are_chosen st)) → LeavesOnly disks a b (MeansSame image)
  moments laws image of a b so_far = LeavesOnly-weaker laws (MeansSame image) (keeping image of) so_far

-- why the parts could not be read
pub parts_cause : (tells : Type 0) (image : Image) (log : ImageLog) (before now : ℕ) (fault : ReadingFault)
    → (tells → IsLogOf image log → (bad : Bad) → IsErrOf {T = ImageParts} {E = ReadingFault} (Err fault) (reading.Foreign bad) → IsBadMeaning image bad) → (IsErrOf {T = ImageParts} {E = ReadingFault} (Err fault) reading.ReadFault → Rose before now)
    → HasPartsCause tells image log before now (why_of fault)
parts_cause tells image log before now (reading.Foreign bad) foreign cause = λ t is. foreign t is bad refl
parts_cause tells image log before now reading.ReadFault foreign cause = cause refl
parts_cause tells image log before now reading.Memory foreign cause = tt

-- FROM THE SYNC ON

module _ {D : Type 0} {disks : Ghosts D} (laws : Moments disks)
    (counts_later : (d : D) (s t : ℕ) (c : Image) → s ≤ t → disks.left_since d t c → disks.left_since d s c) where
  -- each image since the sync means what was meant, where a stop right behind it left what read
  pub since_sync : (old mid new : D) → disks.reading mid ≡ disks.reading old → Ticks (disks.clock old) (disks.clock mid) → LeavesOnly disks mid new (MeansSame (disks.reading mid)) → MeansSince disks old new
  since_sync old mid new same ticks leaves first t c one after left =
      let mid_is : disks.clock mid ≤ t = same_tick (disks.clock old) first (disks.clock mid) t one ticks after in
      subst (λ (i : Image). MeansSame i c) same (leaves.each c (counts_later new (disks.clock mid) t c mid_is left))
    where
      same_tick : (a m n t : ℕ) → Ticks a m → Ticks a n → m ≤ t → n ≤ t
      same_tick a m n t one two le = ⊎_elim
          (λ (short : a < 2 ^ 64 - 1). (let x = one.one_more short in let y = two.one_more short in omega (arith, x, y, le)))
          (λ (end : 2 ^ 64 - 1 ≤ a). (let x = one.at_end end in let y = two.at_end end in omega (arith, x, y, le)))
          (cases_lt a (2 ^ 64 - 1))

  -- where nothing was begun behind it
  pub settled : (mid : D) → Only (disks.reading mid) (disks.may_leave mid) → LeavesOnly disks mid mid (MeansSame (disks.reading mid))
  settled mid stable = LeavesOnly-start laws mid (MeansSame (disks.reading mid)) (λ c may s v m. subst (λ (i : Image). Means s i v) (sym (stable c may)) m)

  pub both : (P Q : Image → Type 0) (old mid new : D) → LeavesOnly disks old mid P → LeavesOnly disks mid new Q → LeavesOnly disks old new (λ c. P c ⊎ Q c)
  both P Q old mid new first second =
      LeavesOnly-then laws (LeavesOnly-weaker laws (λ c. P c ⊎ Q c) (λ c p. inl p) first) (LeavesOnly-weaker laws (λ c. P c ⊎ Q c) (λ c q. inr q) second)

-- WHAT CAME of a call

pub match_weaker : {T E : Type 0} (r : Result T E) (P P' : T → Type 0) (Q Q' : E → Type 0) → ((x : T) → P x → P' x) → ((e : E) → Q e → Q' e) → MatchResult r P Q → MatchResult r P' Q'
match_weaker (Ok x) P P' Q Q' one two has = one x has
match_weaker (Err e) P P' Q Q' one two has = two e has

pub keep_cause : (tells : Type 0) (image : Image) (before mid now : ℕ) (w : OpenWhy) → before ≤ mid → HasKeepCause mid now w → HasImageCause tells image before now w
keep_cause tells image before mid now (why.Foreign bad) le cause = absurd cause
keep_cause tells image before mid now why.ReadFault le cause = absurd cause
keep_cause tells image before mid now why.WriteFault le cause = Rose-before before mid now le cause.0 cause.1
keep_cause tells image before mid now why.Memory le cause = tt

-- the parts of an image with this log
pub image_cause : (tells : Type 0) (a b : Image) (log : ImageLog) (before mid now : ℕ) (w : OpenWhy) → (tells → b ≡ a) → (tells → IsLogOf b log) → before ≤ mid → mid ≤ now → HasPartsCause tells b log mid now w → HasImageCause tells a before now w
image_cause tells a b log before mid now (why.Foreign bad) same of one two cause = λ t. inr (subst (λ (i : Image). IsBadMeaning i bad) (same t) (cause t (of t)))
image_cause tells a b log before mid now why.ReadFault same of one two cause = Rose-before before mid now one two cause
image_cause tells a b log before mid now why.WriteFault same of one two cause = absurd cause
image_cause tells a b log before mid now why.Memory same of one two cause = tt

pub keep_not_foreign : (before now : ℕ) (w : OpenWhy) (bad : Bad) → HasKeepCause before now w → w ≡ why.Foreign bad → ⊥
keep_not_foreign before now w bad cause is = subst (HasKeepCause before now) is cause

-- nor was a write that failed a bad place
pub foreign_not_failed : (w : OpenWhy) (bad : Bad) → w ≡ why.Foreign bad → w ≡ why.WriteFault → ⊥
foreign_not_failed w bad is failed = cc

pub open_not_foreign : (tells : Type 0) (image : Image) (before now : ℕ) (w : OpenWhy) (bad : Bad) → tells → Accepted image → HasImageCause tells image before now w → w ≡ why.Foreign bad → ⊥
open_not_foreign tells image before now w bad t a cause is = not_both image bad a (subst (HasImageCause tells image before now) is cause t)

-- an image was read whose log was read
pub still_synced : {D : Type 0} (disks : Ghosts D) (old new : D) (tally : Tally) (log : ImageLog)
    → IsSynced disks old tally log → ReadsOnly disks old new → IsSynced disks new tally log
still_synced disks old new tally log is reads = record {
  known = subst (λ (n : ℕ). IsKnown n log) (sym reads.same_count) is.known;
  one = is.one;
  has_log = λ t. subst (λ (i : Image). IsLogOf i log) (sym (reads.same_reading t)) (is.has_log t);
  stable = λ t c may. is.stable t c (reads.stop t c may) ∙ sym (reads.same_reading t);
}

-- ONE SYNC, and what came behind it
one_sync : (old new : ℕ) → Ticks old new → CountsOn old new 0 1
one_sync old new ticks = record {
  clock_later = ⊎_elim (λ (short : old < 2 ^ 64 - 1). (let e = ticks.one_more short in omega (arith, e))) (λ (end : 2 ^ 64 - 1 ≤ old). (let e = ticks.at_end end in omega (arith, e))) (cases_lt old (2 ^ 64 - 1));
  begun_later = omega arith;
  same = λ since at low. ⊎_elim
      (λ (short : old < 2 ^ 64 - 1). (let e = ticks.one_more short in omega (arith, e, at)))
      (λ (end : 2 ^ 64 - 1 ≤ old). (let e = ticks.at_end end in absurd (omega (arith, e, end, low))))
      (cases_lt old (2 ^ 64 - 1));
}

pub begins_behind : {D : Type 0} (disks : Ghosts D) (old mid new : D) (begun : ℕ)
    → SyncsOnly disks old mid → Begins 137 (shown disks mid 1) (shown disks new begun) → Begins 138 (shown disks old 0) (shown disks new begun)
begins_behind disks old mid new begun syncs b = record {
  count = b.count ∙ syncs.same_count;
  few = (let few = b.few in omega (arith, few));
  counts = CountsOn-then (disks.clock old) (disks.clock mid) (disks.clock new) 0 1 begun (one_sync (disks.clock old) (disks.clock mid) syncs.one) b.counts;
  later = (let one = syncs.later in let two = b.later in omega (arith, one, two));
}
