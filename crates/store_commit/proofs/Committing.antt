-- A commit behind the turn: the blob and the append.
use Rattle.std.proofs.Common.{◌≡◌, ℕ, ◌≤◌, ◌<◌, ◌+◌, Bool, true, false, if◌then◌else◌, nat_lt, inl, inr, List, [], ◌∷◌, ◌++◌, length, get_or, sym, ap, subst, ◌∙◌, arith}
use Rattle.std.specs.List.{AllByRecursion}
use Rattle.std.specs.Prelude.{Result, Ok, Err, OnOk}
use Rattle.std.proofs.lemmas.List.{get_or-take, length-take}
use Rattle.edge_disk.specs.declared.disk.Disk.{Ghosts}
use Rattle.edge_disk.specs.Disk.{Only}
use Rattle.edge_disk.specs.Image.{Image, SameOutside, block_at}
use Rattle.edge_disk.specs.Moments.{LeavesOnly, Quiet}
use Rattle.edge_disk.proofs.Images.{SameOutside-trans, SameOutside-weaker}
use Rattle.edge_disk.proofs.Phases.{LeavesOnly-then, LeavesOnly-weaker, Moments}
use Rattle.base_types.specs.declared.records.Rec.{Rec}
use Rattle.store_books.specs.model_cut_laws.Records.{AgreeInRecs}
use Rattle.store_books.specs.image_facts.Bodies.{blob_blocks, blocks_for}
use Rattle.store_books.specs.image_facts.Layout.{last_number, pool_at, slot_count}
use Rattle.store_books.specs.image_blocks.Layout.{other}
use Rattle.store_books.specs.image_facts.Logs.{AreFitting}
use Rattle.store_books.specs.image_blocks.Logs.{HasLog, IsNextSlot, IsTurned, Place}
use Rattle.store_books.specs.image_blocks.declared.areas.Area.{Area}
use Rattle.store_books.specs.image_meaning.Stores.{IsHeld, Kept, Page, recs_of}
use Rattle.store_books.specs.log_facts.Stages.{IsLogging}
use Rattle.store_books.specs.log_turn.Standing.{HasCounted, IsTurnedTo, Stands, area_of, epoch_of, place_of, used_of}
use Rattle.store_books.specs.log_turn.declared.areas.Areas.{Areas}
use Rattle.store_books.specs.Books.{AreStored, IsApart, IsBeforePool}
use Rattle.store_commit.specs.Storing.{HasBlob, HasLogged, HasPlaces, IsBehind, IsBlobBlock, IsBlobOf, IsCommitBlock, IsNext, StoresOneMore, roomy_log, roomy_used}
use Rattle.store_commit.proofs.Stays.{all_by_index, all_weaker, found_all, next_low}
use Rattle.store_commit.proofs.Phases.{AreFree, appended_stored, blob_stored, moments_append, moments_blob, turned_stored}
use Rattle.store_commit.proofs.Filling.{new_held}

-- what holds of either holds of the one that a test takes
pub either : {X : Type 0} (P : X → Type 0) (b : Bool) (x y : X) → P x → P y → P (if b then x else y)
either P true x y p q = p
either P false x y p q = q

-- without room the log that is appended to is the kept one
pub room_made : (used : ℕ) (recs kept : List Rec) → slot_count ≤ used → roomy_log used recs kept ≡ kept
room_made used recs kept none = ap (λ (b : Bool). if b then recs else kept) (let t : nat_lt used slot_count ≡ false = grind (arith, none) in t)

pub next_behind : (count used : ℕ) (recs kept : List Rec) (ks : List Kept) (new : Kept) → IsBehind count recs ks new → IsBehind count kept ks new → IsBehind count (roomy_log used recs kept) ks new
next_behind count used recs kept ks new one two = either (λ (rs : List Rec). IsBehind count rs ks new) (nat_lt used slot_count) recs kept one two

-- the blocks of a commit
pub places_pool : (r : Rec) (many count : ℕ) → HasPlaces r many count → (n : ℕ) → n < pool_at → IsBlobBlock r many n → ⊥
places_pool r many count places n low (i, lt, is) = absurd (let from = places.pool i lt in omega (arith, low, is, from))

pub outside_append : (r : Rec) (many : ℕ) (a : Area) (used : ℕ) (old one two end : Image) → used < slot_count → SameOutside IsBeforePool old one → SameOutside (IsBlobBlock r many) one two → SameOutside (IsNextSlot a used) two end
    → SameOutside (IsCommitBlock r many) old end
outside_append r many a used old one two end room first second third =
    SameOutside-trans (IsCommitBlock r many) old two end
    (SameOutside-trans (IsCommitBlock r many) old one two (SameOutside-weaker IsBeforePool (IsCommitBlock r many) old one (λ n low. inl low) first) (SameOutside-weaker (IsBlobBlock r many) (IsCommitBlock r many) one two (λ n here. inr here) second))
    (SameOutside-weaker (IsNextSlot a used) (IsCommitBlock r many) two end (λ n here. inl (next_low a used n room here)) third)

pub outside_blob : (r : Rec) (many : ℕ) (old one two : Image) → SameOutside IsBeforePool old one → SameOutside (IsBlobBlock r many) one two → SameOutside (IsCommitBlock r many) old two
outside_blob r many old one two first second =
    SameOutside-trans (IsCommitBlock r many) old one two (SameOutside-weaker IsBeforePool (IsCommitBlock r many) old one (λ n low. inl low) first) (SameOutside-weaker (IsBlobBlock r many) (IsCommitBlock r many) one two (λ n here. inr here) second)

-- the blob stays through the append
pub blob_stays : (r : Rec) (blob : List (List ℕ)) (count : ℕ) (a : Area) (used : ℕ) (two end : Image) → used < slot_count → HasPlaces r (length blob) count → SameOutside (IsNextSlot a used) two end → HasBlob r blob two → HasBlob r blob end
blob_stays r blob count a used two end room places same has i lt =
    same.same (get_or r.blocks i 0) (λ here. (let low = next_low a used (get_or r.blocks i 0) room here in let from = places.pool i lt in omega (arith, low, from))) ∙ has i lt

-- the new record is apart from the areas
new_apart : (new : Kept) (blob : List (List ℕ)) (count : ℕ) → IsBlobOf new blob → HasPlaces new.rec (length blob) count → AllByRecursion (λ (p : Page). IsCommitBlock new.rec (length blob) p.block → ⊥) new.pages → IsApart IsBeforePool new
new_apart new blob count is places pages = record {
  blob = all_by_index (λ n. n < pool_at → ⊥) (blob_blocks new.rec) (λ i lt low.
      let n = blocks_for new.rec.length in
      let inside : i < n = (let a = length-take n new.rec.blocks in omega (arith, a, lt)) in
      let item : get_or (blob_blocks new.rec) i 0 ≡ get_or new.rec.blocks i 0 = get_or-take n new.rec.blocks i 0 inside in
      let from = places.pool i (let m = is.many in omega (arith, inside, m)) in
      absurd (omega (arith, item, from, low)));
  pages = all_weaker (λ (p : Page). IsCommitBlock new.rec (length blob) p.block → ⊥) (λ (p : Page). p.block < pool_at → ⊥) new.pages (λ p out low. out (inl low)) pages;
}

place_same : (a b : Area) (m n : ℕ) → a ≡ b → m ≡ n → ◌≡◌ {A = Place} (record { active = a; epoch = m }) (record { active = b; epoch = n })
place_same a b m n e f = ap (λ (x : Area). record { active = x; epoch = m }) e ∙ ap (λ (k : ℕ). record { active = b; epoch = k }) f

-- BEHIND THE TURN, which left the log of the areas as it was or turned it
module _ {D : Type 0} {disks : Ghosts D} (laws : Moments disks) (reads_now : (d : D) → disks.may_leave d (disks.reading d)) where
  -- the turn and the blob, with what they left
  pub record Behind (count blocks : ℕ) (recs : List Rec) (ks : List Kept) (new : Kept) (blob : List (List ℕ)) (areas mid : Areas) (old one two : D) : Type 0 where
    pub logged : HasLogged disks count areas recs ks one
    pub behind : IsBehind count recs ks new
    pub is_blob : IsBlobOf new blob
    pub places : HasPlaces new.rec (length blob) blocks
    pub free : AreFree new.rec (length blob) ks
    pub pages_apart : AllByRecursion (λ (p : Page). IsCommitBlock new.rec (length blob) p.block → ⊥) new.pages
    pub pages : AllByRecursion (λ (p : Page). block_at (disks.reading old) p.block ≡ p.bytes) new.pages
    pub outside : SameOutside IsBeforePool (disks.reading old) (disks.reading one)
    pub counted : HasCounted areas mid
    pub quiet : Quiet disks (IsBlobBlock new.rec (length blob)) one two
    pub reads : SameOutside (IsBlobBlock new.rec (length blob)) (disks.reading one) (disks.reading two)

  pub behind_next : (count blocks : ℕ) (recs kept : List Rec) (ks : List Kept) (new : Kept) (blob : List (List ℕ)) (before areas mid : Areas) (old one two : D) → IsNext count recs kept new blob ks (disks.reading old)
      → HasPlaces new.rec (length blob) blocks → HasLogged disks count areas (roomy_log (used_of before) recs kept) ks one → SameOutside IsBeforePool (disks.reading old) (disks.reading one) → HasCounted areas mid
      → Quiet disks (IsBlobBlock new.rec (length blob)) one two → SameOutside (IsBlobBlock new.rec (length blob)) (disks.reading one) (disks.reading two)
      → Behind count blocks (roomy_log (used_of before) recs kept) ks new blob areas mid old one two
  behind_next count blocks recs kept ks new blob before areas mid old one two next places logged outside counted quiet reads = record {
    logged = logged;
    behind = next_behind count (used_of before) recs kept ks new next.behind next.kept_behind;
    is_blob = next.blob_is;
    places = places;
    free = record { pool = places_pool new.rec (length blob) blocks places; free = next.free };
    pages_apart = next.pages_apart;
    pages = next.pages;
    outside = outside;
    counted = counted;
    quiet = quiet;
    reads = reads;
  }

  module _ (count blocks : ℕ) (recs : List Rec) (ks : List Kept) (new : Kept) (blob : List (List ℕ)) (areas mid : Areas) (old one two : D) (b : Behind count blocks recs ks new blob areas mid old one two) where
    pub behind_blob : HasLogged disks count mid recs ks two
    behind_blob = record {
      used = b.logged.used ∙ sym b.counted.same_used;
      stored = subst (λ (p : Place). AreStored disks count p recs ks two) (sym b.counted.same_place)
          (blob_stored laws reads_now count (place_of areas) recs ks new.rec (length blob) one two b.logged.stored b.free b.quiet b.reads);
    }

    held_now : HasBlob new.rec blob (disks.reading two) → IsHeld (disks.reading two) new
    held_now has =
        let found_one = found_all IsBeforePool (disks.reading old) (disks.reading one) b.outside new.pages
        (all_weaker (λ (p : Page). IsCommitBlock new.rec (length blob) p.block → ⊥) (λ (p : Page). p.block < pool_at → ⊥) new.pages (λ p out low. out (inl low)) b.pages_apart) b.pages in
        let found_two = found_all (IsBlobBlock new.rec (length blob)) (disks.reading one) (disks.reading two) b.reads new.pages
        (all_weaker (λ (p : Page). IsCommitBlock new.rec (length blob) p.block → ⊥) (λ (p : Page). IsBlobBlock new.rec (length blob) p.block → ⊥) new.pages (λ p out here. out (inr here)) b.pages_apart) found_one in
        new_held new blob (disks.reading two) b.is_blob has found_two

    pub moments_of_blob : LeavesOnly disks one two (StoresOneMore count ks new)
    moments_of_blob =
        LeavesOnly-weaker laws (StoresOneMore count ks new) (λ c s. inl s)
        (moments_blob laws reads_now count (place_of areas) recs ks new.rec (length blob) one two b.logged.stored b.free b.quiet)

    pub moments_of_append : used_of mid < slot_count → HasBlob new.rec blob (disks.reading two) → (end : D) → LeavesOnly disks two end (IsLogging disks (place_of mid) recs new.rec two)
        → LeavesOnly disks one end (StoresOneMore count ks new)
    moments_of_append low has end so_far =
        LeavesOnly-then laws moments_of_blob
        (moments_append laws reads_now count (place_of mid) recs ks new two behind_blob.stored (let u = behind_blob.used in omega (arith, low, u)) (held_now has) (new_apart new blob blocks b.is_blob b.places b.pages_apart) b.behind end so_far)

    pub logged_end : used_of mid < slot_count → HasBlob new.rec blob (disks.reading two) → (end : D) (after : Areas) → area_of after ≡ area_of mid → epoch_of after ≡ epoch_of mid
        → Stands disks after (recs ++ new.rec ∷ []) end → SameOutside (IsNextSlot (area_of mid) (used_of mid)) (disks.reading two) (disks.reading end) → Only (disks.reading end) (disks.may_leave end)
        → HasLogged disks count after (recs ++ new.rec ∷ []) (ks ++ new ∷ []) end
    logged_end low has end after area epoch stands same only =
        let e = place_same (area_of after) (area_of mid) (epoch_of after) (epoch_of mid) area epoch in
        record {
          used = stands.used;
          stored = subst (λ (p : Place). AreStored disks count p (recs ++ new.rec ∷ []) (ks ++ new ∷ []) end) (sym e)
              (appended_stored laws reads_now count (place_of mid) recs ks new two behind_blob.stored (let u = behind_blob.used in omega (arith, low, u)) (held_now has) (new_apart new blob blocks b.is_blob b.places b.pages_apart) b.behind end
              (λ c may. (subst (λ (p : Place). HasLog p (recs ++ new.rec ∷ []) c) e (stands.left c may).0, (stands.left c may).1))
              (subst (λ (k : ℕ). SameOutside (IsNextSlot (area_of mid) k) (disks.reading two) (disks.reading end)) (sym behind_blob.used) same) only);
        }

  -- THE TURN, for the areas
  pub turned_logged : (count : ℕ) (areas after : Areas) (recs kept : List Rec) (ks : List Kept) (old new : D) → HasLogged disks count areas recs ks old → AreFitting count kept → AgreeInRecs kept (recs_of ks)
      → epoch_of areas < last_number → SameOutside (IsTurned (area_of areas)) (disks.reading old) (disks.reading new) → IsTurnedTo disks kept areas after new → Only (disks.reading new) (disks.may_leave new)
      → area_of after ≡ other (area_of areas) → epoch_of after ≡ epoch_of areas + 1 → HasLogged disks count after kept ks new
  turned_logged count areas after recs kept ks old new has fit agree small same turned only area epoch =
      let e = place_same (area_of after) (other (area_of areas)) (epoch_of after) (epoch_of areas + 1) area epoch in
      record {
        used = turned.stands.used;
        stored = subst (λ (p : Place). AreStored disks count p kept ks new) (sym e)
            (turned_stored laws reads_now count (place_of areas) recs kept ks old new has.stored fit agree small
            (λ c may. (subst (λ (p : Place). HasLog p kept c) e (turned.stands.left c may).0, (turned.stands.left c may).1)) turned.header same only);
      }

pub on_ok_four : {T E P Q R S V : Type 0} (r : Result T E) → (P → Q → R → S → V) → OnOk r P → OnOk r Q → OnOk r R → OnOk r S → OnOk r V
on_ok_four (Ok x) f p q r s = f p q r s
on_ok_four (Err e) f p q r s = p

pub on_ok_always : {T E P : Type 0} (r : Result T E) → P → OnOk r P
on_ok_always (Ok x) p = p
on_ok_always (Err e) p = tt

-- how many slots are used once there is room
pub used_full : (used kept : ℕ) → slot_count ≤ used → roomy_used used kept ≡ kept
used_full used kept full = ap (λ (b : Bool). if b then used else kept) (let e : nat_lt used slot_count ≡ false = grind (arith, full) in e)

pub used_room : (used kept : ℕ) → used < slot_count → roomy_used used kept ≡ used
used_room used kept room = ap (λ (b : Bool). if b then used else kept) (let e : nat_lt used slot_count ≡ true = grind (arith, room) in e)
