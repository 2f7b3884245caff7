-- Books that were true stay true while only blocks change that no kept record names.
use Rattle.std.proofs.Common.{◌≡◌, ℕ, ◌<◌, ◌≤◌, Bool, true, false, ◌==◌, if◌then◌else◌, List, [], ◌∷◌, ◌++◌, map, take, refl, sym, ap, subst, ◌∙◌, arith}
use Rattle.std.specs.List.{AllByRecursion, concat, flat_map, list_any}
use Rattle.std.proofs.lemmas.Bool.{false≢true}
use Rattle.edge_disk.specs.Disks.{TimePasses}
use Rattle.edge_disk.specs.declared.disk.Disk.{Ghosts}
use Rattle.edge_tally.specs.Counts.{CountsOn}
use Rattle.edge_disk.specs.Image.{Image, SameOutside, block_at}
use Rattle.edge_disk.specs.Moments.{LeavesOnly}
use Rattle.edge_disk.proofs.Phases.{LeavesOnly-call, LeavesOnly-start, Moments}
use Rattle.store_books.specs.model_cut_laws.Records.{AgreeInRecs}
use Rattle.store_books.specs.image_facts.Bodies.{blob_blocks, blob_in}
use Rattle.store_books.specs.image_blocks.Layout.{gate_at, header_at}
use Rattle.store_books.specs.image_facts.Layout.{pool_at}
use Rattle.store_books.specs.image_blocks.Logs.{HasFront, HasLog}
use Rattle.store_books.specs.image_blocks.declared.areas.Area.{Area}
use Rattle.store_books.specs.image_meaning.Stores.{IsHeld, Kept, Page, Stores, recs_of}
use Rattle.store_books.specs.log_facts.Areas.{SameAreas}
use Rattle.store_commit.proofs.Stays.{front_same, gate_low, header_low, held_same, log_stays}
use Rattle.store_commit.proofs.Unused.{apart_unnamed}
use Rattle.store_books.specs.Between.{OnlyPages, stores_left}
use Rattle.store_books.specs.Books.{AreApartFrom, AreSmall, AreTrue, Books, IsApart, IsBeforePool, Logged, kept_for, kept_in, kept_of, names, page_for, recs_in}

-- WHAT THE KEPT RECORDS HOLD in an image that differs elsewhere

blocks_same : (these : ℕ → Type 0) (old new : Image) (xs : List ℕ) → ((n : ℕ) → (these n → ⊥) → block_at new n ≡ block_at old n) → AllByRecursion (λ n. these n → ⊥) xs → map (block_at new) xs ≡ map (block_at old) xs
blocks_same these old new [] same apart = refl
blocks_same these old new (x ∷ xs) same apart = ap (λ (y : List ℕ). y ∷ map (block_at new) xs) (same x apart.0) ∙ ap (λ (ys : List (List ℕ)). block_at old x ∷ ys) (blocks_same these old new xs same apart.1)

page_same : (these : ℕ → Type 0) (old new : Image) (n : ℕ) (ps qs : List Page) (b : Bool) → ((n : ℕ) → (these n → ⊥) → block_at new n ≡ block_at old n)
    → (AllByRecursion (λ (p : Page). these p.block → ⊥) qs → ps ≡ qs)
    → AllByRecursion (λ (p : Page). these p.block → ⊥) ((if b then [] else record { block = n; bytes = block_at old n } ∷ []) ++ qs)
    → (if b then [] else record { block = n; bytes = block_at new n } ∷ []) ++ ps ≡ (if b then [] else record { block = n; bytes = block_at old n } ∷ []) ++ qs
page_same these old new n ps qs true same rest apart = rest apart
page_same these old new n ps qs false same rest apart =
    ap (λ (bytes : List ℕ). record { block = n; bytes = bytes } ∷ ps) (same n apart.0) ∙ ap (λ (rs : List Page). record { block = n; bytes = block_at old n } ∷ rs) (rest apart.1)

pages_same : (these : ℕ → Type 0) (old new : Image) (xs : List ℕ) → ((n : ℕ) → (these n → ⊥) → block_at new n ≡ block_at old n) → AllByRecursion (λ (p : Page). these p.block → ⊥) (flat_map (page_for old) xs) → flat_map (page_for new) xs ≡ flat_map (page_for old) xs
pages_same these old new [] same apart = refl
pages_same these old new (x ∷ xs) same apart = page_same these old new x (flat_map (page_for new) xs) (flat_map (page_for old) xs) (x == 0) same (λ rest. pages_same these old new xs same rest) apart

kept_one : (these : ℕ → Type 0) (old new : Image) (l : Logged) → SameOutside these old new → IsApart these (kept_for old l) → kept_for new l ≡ kept_for old l
kept_one these old new l same apart =
    ap (λ (blob : List ℕ). record { rec = l.rec; blob = blob; pages = flat_map (page_for new) l.table }) (ap (λ (room : List (List ℕ)). take l.rec.length (concat room)) (blocks_same these old new (blob_blocks l.rec) same.same apart.blob))
    ∙ ap (λ (pages : List Page). record { rec = l.rec; blob = blob_in old l.rec; pages = pages }) (pages_same these old new l.table same.same apart.pages)

pub kept_all : (these : ℕ → Type 0) (old new : Image) (ls : List Logged) → SameOutside these old new → AreApartFrom these (map (kept_for old) ls) → map (kept_for new) ls ≡ map (kept_for old) ls
kept_all these old new [] same apart = refl
kept_all these old new (l ∷ ls) same apart =
    ap (λ (k : Kept). k ∷ map (kept_for new) ls) (kept_one these old new l same apart.0) ∙ ap (λ (ks : List Kept). kept_for old l ∷ ks) (kept_all these old new ls same apart.1)

-- only these blocks of the pool differ, which no kept record names
pub record IsMoved {D : Type 0} (disks : Ghosts D) (these : ℕ → Type 0) (b : Books) (old new : D) : Type 0 where
  pub same : SameOutside these (disks.reading old) (disks.reading new)
  pub stop : (c : Image) → disks.may_leave new c → (d : Image) × disks.may_leave old d × SameOutside these d c
  pub pool : (n : ℕ) → these n → pool_at ≤ n
  pub unnamed : (n : ℕ) → these n → list_any (names n) (kept_in b) ≡ false

-- the books with another count of writes and syncs, and shut or not
abbrev pub with_counts : Books → Bool → ℕ → Books
with_counts b shut begun = record b { shut = shut; begun = begun }

module _ {D : Type 0} (disks : Ghosts D) (these : ℕ → Type 0) (b : Books) (old new : D) (m : IsMoved disks these b old new) (working : b.shut ≡ false) where
  apart : AreApartFrom these (kept_of (disks.reading old) b)
  apart = apart_unnamed (disks.reading old) these (kept_in b) (λ n here is. (let low = m.pool n here in absurd (omega (arith, low, is)))) m.unnamed

  pub kept_moved : kept_of (disks.reading new) b ≡ kept_of (disks.reading old) b
  kept_moved = kept_all these (disks.reading old) (disks.reading new) (kept_in b) m.same apart

  low_apart : (n : ℕ) → n < pool_at → these n → ⊥
  low_apart n low here = let high = m.pool n here in absurd (omega (arith, low, high))

  areas_moved : (c : Image) → ((d : Image) × disks.may_leave old d × SameOutside these d c) → ((d : Image) → disks.may_leave old d → HasLog b.place (recs_in b) d × SameAreas (disks.reading old) d) → HasLog b.place (recs_in b) c × SameAreas (disks.reading new) c
  areas_moved c from was =
      let before = was from.0 from.1 in
      let low : (n : ℕ) → n < 5 → block_at c n ≡ block_at from.0 n = λ n lt. from.2.same n (low_apart n (omega (arith, lt))) in
      let now : (n : ℕ) → n < 5 → block_at (disks.reading old) n ≡ block_at (disks.reading new) n = λ n lt. sym (m.same.same n (low_apart n (omega (arith, lt)))) in (
        log_stays b.place (recs_in b) from.0 c (λ n lt. from.2.same n (low_apart n lt)) before.0,
        record {
          header = λ (a : Area). low (header_at a) (header_low a) ∙ (before.1.header a ∙ now (header_at a) (header_low a));
          gate = λ (a : Area). low (gate_at a) (gate_low a) ∙ (before.1.gate a ∙ now (gate_at a) (gate_low a));
        },
      )

  front_moved : (c : Image) → ((d : Image) × disks.may_leave old d × SameOutside these d c) → ((d : Image) → disks.may_leave old d → HasFront b.count b.place d) → HasFront b.count b.place c
  front_moved c from was =
      front_same b.count b.place from.0 c from.2.len (from.2.same 0 (low_apart 0 (omega arith))) (from.2.same (header_at b.place.active) (low_apart (header_at b.place.active) (let low = header_low b.place.active in omega (arith, low)))) (was from.0 from.1)

  -- TRUE BOOKS STAY TRUE
  pub true_moved : (shut : Bool) (begun : ℕ) → AreTrue disks b old → AreTrue disks (with_counts b shut begun) new
  true_moved shut begun right = record {
    log = λ _. log_stays b.place (recs_in b) (disks.reading old) (disks.reading new) (λ n lt. m.same.same n (low_apart n lt)) (right.log working);
    left = λ _ c may. areas_moved c (m.stop c may) (right.left working);
    stored = λ small _.
        let s = right.stored (record { recs = small.recs; epoch = small.epoch }) working in
        record {
          fit = s.fit;
          agree = subst (λ (ks : List Kept). AgreeInRecs (recs_in b) (recs_of ks)) (sym kept_moved) s.agree;
          pool = subst (AreApartFrom IsBeforePool) (sym kept_moved) s.pool;
          left = λ c may. areas_moved c (m.stop c may) s.left;
          front = λ c may. front_moved c (m.stop c may) s.front;
          held = λ c may.
              let from = m.stop c may in
              subst (λ (ks : List Kept). AllByRecursion (IsHeld c) ks) (sym kept_moved) (held_same these from.0 c from.2 (kept_of (disks.reading old) b) apart (s.held from.0 from.1));
        };
  }

  -- AND A STOP leaves what was stored
  pub moments_moved : Moments disks → TimePasses disks old new → AreTrue disks b old → AreSmall b
      → LeavesOnly disks old new (Stores b.count (kept_of (disks.reading old) b))
  moments_moved laws time right small =
      let now : AreTrue disks (with_counts b false b.begun) new = true_moved false b.begun right in
      LeavesOnly-call laws (LeavesOnly-start laws old (Stores b.count (kept_of (disks.reading old) b)) (λ c may. stores_left disks old b right small working c may)) time
      (λ c may. subst (λ (ks : List Kept). Stores b.count ks c) kept_moved (stores_left disks new (with_counts b false b.begun) now (record { recs = small.recs; epoch = small.epoch }) refl c may))

-- what a call that reads or writes a page leaves of the disk and of the counts
pub record HasPaged {D : Type 0} (disks : Ghosts D) (these : ℕ → Type 0) (b : Books) (begun : ℕ) (old new : D) : Type 0 where
  pub moved : disks.tells → IsMoved disks these b old new
  pub time : disks.tells → TimePasses disks old new
  pub counts : CountsOn (disks.clock old) (disks.clock new) b.begun begun

-- NOTHING WAS COMMITTED by it
pub paged_between : {D : Type 0} (disks : Ghosts D) (laws : disks.tells → Moments disks) (these : ℕ → Type 0)
    (b : Books) (shut : Bool) (begun : ℕ) (old new : D) → b.shut ≡ false → HasPaged disks these b begun old new
    → OnlyPages disks old new b (with_counts b shut begun) b.begun begun
paged_between disks laws these b shut begun old new working p = record {
  same_logged = refl;
  same_place = refl;
  same_small = refl;
  same_count = refl;
  same_found = refl;
  same_kept = λ told. kept_moved disks these b old new (p.moved told) working;
  true_books = λ told right. true_moved disks these b old new (p.moved told) working shut begun right;
  shut = λ clash. absurd (false≢true (sym working ∙ clash));
  moments = λ told right small _. moments_moved disks these b old new (p.moved told) working (laws told) (p.time told) right small;
  later = p.counts.clock_later;
  begun = p.counts.begun_later;
  written = p.counts.begun_later;
  few = omega arith;
  counts = p.counts;
}
