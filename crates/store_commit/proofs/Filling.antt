-- A blob, block by block.
use Rattle.std.proofs.Common.{◌≡◌, ℕ, ◌≤◌, ◌<◌, ◌+◌, inl, inr, List, [], length, map, take, drop, set, sym, ap, subst, ◌∙◌, arith}
use Rattle.std.specs.Prelude.{All, slice_index}
use Rattle.std.specs.List.{AllByRecursion, concat}
use Rattle.std.proofs.lemmas.Bool.{cases_eq}
use Rattle.std.proofs.lemmas.List.{ext_get_or, get_or-map, get_or-set_same, get_or-take, length-map, length-take}
use Rattle.edge_disk.specs.declared.disk.Disk.{Ghosts}
use Rattle.edge_disk.specs.Disk.{Ticks}
use Rattle.edge_disk.specs.Image.{Image, SameOutside, block_at}
use Rattle.edge_disk.specs.Moments.{Quiet}
use Rattle.edge_tally.specs.Counts.{Begins, CountsOn, shown}
use Rattle.base_types.specs.declared.records.Rec.{Rec}
use Rattle.store_books.specs.image_facts.Bodies.{blob_blocks, blob_room, blocks_for}
use Rattle.store_books.specs.image_meaning.Stores.{IsFound, IsHeld, Kept}
use Rattle.store_books.specs.log_turn.Standing.{HasCounted, begun_of}
use Rattle.store_books.specs.log_turn.declared.areas.Areas.{Areas}
use Rattle.store_commit.specs.Storing.{HasBlob, IsBlobBlock, IsBlobOf}

-- as far as the blob is written
pub record BlobSoFar {D : Type 0} (disks : Ghosts D)
    (r : Rec) (blob : List (List ℕ)) (i : ℕ) (areas now : Areas) (old new : D) : Type 0 where
  pub counted : HasCounted areas now
  pub begins : Begins i (shown disks old (begun_of areas)) (shown disks new (begun_of now))
  pub first : disks.tells → (k : ℕ) → k < i → block_at (disks.reading new) (slice_index r.blocks k) ≡ block_at blob k
  pub same : disks.tells → SameOutside (IsBlobBlock r (length blob)) (disks.reading old) (disks.reading new)
  pub quiet : disks.tells → Quiet disks (IsBlobBlock r (length blob)) old new

-- one call
pub one_begun : (blocks clock faults begun blocks_now clock_now faults_now begun_now : ℕ) → blocks_now ≡ blocks → Ticks begun begun_now → CountsOn clock clock_now begun begun_now → faults ≤ faults_now
    → Begins 1 (record { blocks = blocks; clock = clock; faults = faults; begun = begun }) (record { blocks = blocks_now; clock = clock_now; faults = faults_now; begun = begun_now })
one_begun blocks clock faults begun blocks_now clock_now faults_now begun_now count ticks counts later = record { count = count; few = (let t = ticks in grind (arith, t)); counts = counts; later = later }

pub counted_then : (a b c : Areas) → HasCounted a b → HasCounted b c → HasCounted a c
counted_then a b c p q = record { same_place = q.same_place ∙ p.same_place; same_used = q.same_used ∙ p.same_used; same_failed = q.same_failed ∙ p.same_failed }

-- one block more
pub blob_more : (r : Rec) (blob : List (List ℕ)) (i : ℕ) (old new : Image) → ((k j : ℕ) → k < length blob → j < length blob → slice_index r.blocks k ≡ slice_index r.blocks j → k ≡ j) → i < length blob → slice_index r.blocks i < length old
    → ((k : ℕ) → k < i → block_at old (slice_index r.blocks k) ≡ block_at blob k) → new ≡ set old (slice_index r.blocks i) (block_at blob i)
    → SameOutside (λ n. n ≡ slice_index r.blocks i) old new → (k : ℕ) → k < i + 1 → block_at new (slice_index r.blocks k) ≡ block_at blob k
blob_more r blob i old new different lt within so_far wrote same k below =
    elim (cases_eq k i) as (λ _. block_at new (slice_index r.blocks k) ≡ block_at blob k) [
      | inl is ↦ subst (λ (n : ℕ). block_at new (slice_index r.blocks n) ≡ block_at blob n) (sym is) (ap (λ (image : Image). block_at image (slice_index r.blocks i)) wrote ∙ get_or-set_same old (slice_index r.blocks i) (block_at blob i) [] within)
      | inr other ↦
          (let before : k < i = omega (arith, below, other) in
          same.same (slice_index r.blocks k) (λ e. other (different k i (omega (arith, before, lt)) lt e)) ∙ so_far k before)
    ]

-- the blob reads as it was written
pub blob_reads : (new : Kept) (blob : List (List ℕ)) (image : Image) → IsBlobOf new blob → HasBlob new.rec blob image → blob_room image new.rec ≡ concat blob
blob_reads new blob image is has =
    let n = blocks_for new.rec.length in
    let listed : length (blob_blocks new.rec) ≡ n = (let a = length-take n new.rec.blocks in let b = is.listed in omega (arith, a, b)) in
    ap concat (ext_get_or [] (map (block_at image) (blob_blocks new.rec)) blob
    (length-map (blob_blocks new.rec) (block_at image) ∙ (listed ∙ sym is.many))
    (λ i lt.
    let inside : i < n = (let a = length-map (blob_blocks new.rec) (block_at image) in omega (arith, a, lt, listed)) in
    get_or-map (block_at image) (blob_blocks new.rec) i 0 [] (omega (arith, inside, listed))
    ∙ (ap (block_at image) (get_or-take n new.rec.blocks i 0 inside) ∙ has i (let m = is.many in omega (arith, inside, m)))))

pub new_held : (new : Kept) (blob : List (List ℕ)) (image : Image) → IsBlobOf new blob → HasBlob new.rec blob image → AllByRecursion (IsFound image) new.pages → IsHeld image new
new_held new blob image is has pages =
    let room = blob_reads new blob image is has in
    record {
      blob = ap (take new.rec.length) room ∙ is.spelled;
      rest = subst (λ (bytes : List ℕ). All (λ b. b ≡ 0) (drop new.rec.length bytes)) (sym room) is.rest;
      pages = pages;
      components = is.components;
    }
