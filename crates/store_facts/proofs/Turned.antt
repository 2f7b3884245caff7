-- What stands on the disk when the log was turned to the chosen records, and on the way there.
use Rattle.std.proofs.Common.{◌≡◌, ℕ, zero, suc, ◌+◌, ◌<◌, ◌≤◌, ◌⊎◌, inl, inr, List, [], ◌∷◌, map, Some, refl, sym, ap, subst, ◌∙◌, arith}
use Rattle.std.specs.Prelude.{All, slice_get}
use Rattle.std.specs.List.{AllByRecursion}
use Rattle.std.proofs.lemmas.List.{get_or-take, length-take}
use Rattle.edge_disk.specs.declared.disk.Disk.{Ghosts}
use Rattle.data_cuts.specs.model_cut_laws.Records.{commits_of}
use Rattle.edge_disk.specs.Disk.{Only}
use Rattle.edge_disk.specs.Image.{Image, SameOutside, block_at}
use Rattle.edge_disk.specs.Moments.{LeavesOnly}
use Rattle.edge_disk.proofs.Images.{SameOutside-weaker}
use Rattle.edge_disk.proofs.Phases.{LeavesOnly-weaker, Moments}
use Rattle.base_types.specs.declared.records.Rec.{Rec}
use Rattle.page_store.specs.model_kernel.Choices.{IsNarrow}
use Rattle.log_reading.specs.image_facts.Bodies.{blob_blocks, blocks_for}
use Rattle.log_reading.specs.image_blocks.Layout.{header_at, other}
use Rattle.log_reading.specs.image_facts.Layout.{header_block, last_number, most_blocks, pool_at}
use Rattle.log_reading.specs.image_blocks.declared.areas.Area.{Area}
use Rattle.log_reading.specs.log_facts.Logs.{AreInRange}
use Rattle.log_reading.specs.image_facts.Logs.{AreFitting, IsInRange}
use Rattle.log_reading.specs.image_blocks.Logs.{HasFront, HasLog, HasRecords, IsTurned, IsTurning, Place, next_place}
use Rattle.log_reading.proofs.image_blocks_lemmas.Reading.{log_law}
use Rattle.page_words.specs.image_meaning.Stores.{IsHeld, Page}
use Rattle.page_words.specs.log_turn.Standing.{IsTurnedTo, area_of, epoch_of, place_of}
use Rattle.log_reading.specs.log_facts.Areas.{SameAreas}
use Rattle.page_words.specs.log_turn.declared.areas.Areas.{Areas}
use Rattle.data_blocks.specs.declared.ShadowTable.{ShadowTable}
use Rattle.store_commit.proofs.Stays.{all_by_index, apart_weaker, front_next, front_same, held_same, own_header, turned_low, zero_not_turned}
use Rattle.store_commit.proofs.Unused.{pages_all}
use Rattle.page_words.proofs.store_books_lemmas.Keeping.{kept_agree}
use Rattle.page_words.specs.store_books.Books.{AreApartFrom, AreTrue, Books, IsApart, IsBeforePool, Logged, kept_for, kept_in, kept_of, logged_recs, recs_in}
use Rattle.store_facts.specs.Choosing.{IsKeeping, are_chosen, books_kept, table_of, with_tables}
use Rattle.store_facts.specs.Naming.{IsPlaced}
use Rattle.store_facts.specs.Opening.{HasStableLog}
use Rattle.store_facts.specs.State.{IsWhole, State, books}
use Rattle.store_facts.proofs.Holding.{kept_is}
use Rattle.store_facts.proofs.Keep.{chosen_fit, chosen_in_range, rows_recs}
use Rattle.store_commit.proofs.Paged.{kept_all}

-- THE ROWS' BLOCKS are of the pool

row_apart : (image : Image) (first end count : ℕ) (before : List Rec) (r : Rec) (table : List ℕ) → first ≡ pool_at → IsPlaced first end (record { rec = r; table = table }) → IsInRange count before r → IsApart IsBeforePool (kept_for image (record { rec = r; table = table }))
row_apart image first end count before r table is placed range = record {
  blob = all_by_index (λ n. IsBeforePool n → ⊥) (blob_blocks r) (λ i lt low.
      let len = length-take (blocks_for r.length) r.blocks in
      let here : i < blocks_for r.length = omega (arith, lt, len) in
      let at = get_or-take (blocks_for r.length) r.blocks i 0 here in
      let high = (range.needed i here).0 in
      absurd (omega (arith, low, at, high)));
  pages = pages_all (λ (p : Page). IsBeforePool p.block → ⊥) image table (λ n some (i, lt, at) low.
      let high = (placed.table i n lt (λ zero_is. some (sym at ∙ zero_is))).0 in
      absurd (omega (arith, low, at, high, is)));
}

pub rows_apart : (image : Image) (first end count : ℕ) (tables : List ShadowTable) (row : List Rec) → first ≡ pool_at → All (IsPlaced first end) (with_tables tables row) → ((k : ℕ) (r : Rec) → slice_get row k ≡ Some r → (before : List Rec) × IsInRange count before r)
    → AreApartFrom IsBeforePool (map (kept_for image) (with_tables tables row))
rows_apart image first end count tables [] is placed range = tt
rows_apart image first end count tables (r ∷ row) is placed range = (
  (let one = range zero r refl in row_apart image first end count one.0 r (table_of tables r.entity) is (placed zero (record { rec = r; table = table_of tables r.entity }) (omega arith)) one.1),
  rows_apart image first end count tables row is (λ i d lt. placed (suc i) d (omega (arith, lt))) (λ k s here. range (suc k) s here),
)

-- FRONTS

module _ {D : Type 0} (disks : Ghosts D) (b : Books) (old : D) (s : HasStableLog disks b old) where
  front_then : (c : Image) → SameOutside (IsTurned b.place.active) (disks.reading old) c → block_at c (header_at (other b.place.active)) ≡ header_block (b.place.epoch + 1) → b.place.epoch < last_number → HasFront b.count (next_place b.place) c
  front_then c same header low = front_next b.count b.place (next_place b.place) (disks.reading old) c same.len (same.same 0 (zero_not_turned b.place.active)) header (omega arith) (omega (arith, low)) s.front

  front_still : (c : Image) → SameOutside (IsTurned b.place.active) (disks.reading old) c → HasFront b.count b.place c
  front_still c same = front_same b.count b.place (disks.reading old) c same.len (same.same 0 (zero_not_turned b.place.active)) (same.same (header_at b.place.active) (own_header b.place.active)) s.front

  -- MOMENTS
  keeping : (chosen : List Rec) → AreFitting b.count chosen → b.place.epoch < last_number → (c : Image) → IsTurning disks.may_leave b.place (recs_in b) chosen old c → IsKeeping (disks.reading old) b chosen c
  keeping chosen fit low c t =
      let same : SameOutside (IsTurned b.place.active) (disks.reading old) c = subst (λ (i : Image). SameOutside (IsTurned b.place.active) i c) (s.stable t.from t.could) t.same in
      record {
        same = SameOutside-weaker (IsTurned b.place.active) IsBeforePool (disks.reading old) c (turned_low b.place.active) same;
        blocks = (front_still c same).count_is;
        records = elim t.log as (λ _. HasRecords (recs_in b) c ⊎ HasRecords chosen c) [
          | inl log ↦ inl (log_law b.count b.place (recs_in b) c (front_still c same) log s.fit)
          | inr kept ↦ inr (log_law b.count (next_place b.place) chosen c (front_then c same kept.header low) kept.log fit)
        ];
      }

  pub moments_keeping : Moments disks → (new : D) (chosen : List Rec) → AreFitting b.count chosen → b.place.epoch < last_number
      → LeavesOnly disks old new (IsTurning disks.may_leave b.place (recs_in b) chosen old) → LeavesOnly disks old new (IsKeeping (disks.reading old) b chosen)
  moments_keeping laws new chosen fit low moments = LeavesOnly-weaker laws (IsKeeping (disks.reading old) b chosen) (keeping chosen fit low) moments

  -- TRUE BOOKS
  pub true_kept : (chosen : List Rec) (old_areas areas : Areas) (new : D) (after : Books) → place_of old_areas ≡ b.place → IsTurnedTo disks chosen old_areas areas new → SameOutside (IsTurned (area_of old_areas)) (disks.reading old) (disks.reading new)
      → Only (disks.reading new) (disks.may_leave new) → place_of areas ≡ next_place b.place → after.place ≡ place_of areas → after.count ≡ b.count → recs_in after ≡ chosen → AreFitting b.count chosen → IsNarrow (commits_of (recs_in after))
      → AreApartFrom IsBeforePool (kept_of (disks.reading old) after) → AllByRecursion (IsHeld (disks.reading old)) (kept_of (disks.reading old) after) → AreTrue disks after new
  true_kept chosen old_areas areas new after from turned same stable next place count recs fit narrow apart held =
      let turned_same : SameOutside (IsTurned b.place.active) (disks.reading old) (disks.reading new) = subst (λ (p : Place). SameOutside (IsTurned p.active) (disks.reading old) (disks.reading new)) from same in
      let apart_turned : AreApartFrom (IsTurned b.place.active) (kept_of (disks.reading old) after) = apart_weaker IsBeforePool (IsTurned b.place.active) (kept_of (disks.reading old) after) (turned_low b.place.active) apart in
      let same_kept : kept_of (disks.reading new) after ≡ kept_of (disks.reading old) after = kept_all (IsTurned b.place.active) (disks.reading old) (disks.reading new) (kept_in after) turned_same apart_turned in
      let left : (c : Image) → disks.may_leave new c → HasLog after.place (recs_in after) c × SameAreas (disks.reading new) c = λ c may.
      let was = turned.stands.left c may in
      (subst (λ (p : Place). HasLog p (recs_in after) c) (sym place) (subst (λ (rs : List Rec). HasLog (place_of areas) rs c) (sym recs) was.0), was.1) in
      record {
        log = λ _. subst (λ (p : Place). HasLog p (recs_in after) (disks.reading new)) (sym place) (subst (λ (rs : List Rec). HasLog (place_of areas) rs (disks.reading new)) (sym recs) turned.stands.log);
        left = λ _. left;
        stored = λ small _. record {
          fit = subst (λ (n : ℕ). AreFitting n (recs_in after)) (sym count) (subst (AreFitting b.count) (sym recs) fit);
          agree = kept_agree (disks.reading new) after narrow;
          pool = subst (AreApartFrom IsBeforePool) (sym same_kept) apart;
          left = left;
          front = λ c may.
              let at : after.place ≡ next_place b.place = place ∙ next in
              let low : b.place.epoch < last_number = (let e = ap (λ (p : Place). p.epoch) at in let most = small.epoch in omega (arith, e, most)) in
              let header : block_at (disks.reading new) (header_at (other b.place.active)) ≡ header_block (b.place.epoch + 1) =
              subst (λ (p : Place). block_at (disks.reading new) (header_at (other p.active)) ≡ header_block (p.epoch + 1)) from turned.header in
              let here : HasFront after.count after.place (disks.reading new) =
              subst (λ (p : Place). HasFront after.count p (disks.reading new)) (sym at) (subst (λ (n : ℕ). HasFront n (next_place b.place) (disks.reading new)) (sym count) (front_then (disks.reading new) turned_same header low)) in
              subst (HasFront after.count after.place) (sym (stable c may)) here;
          held = λ c may.
              subst (λ (i : Image). AllByRecursion (IsHeld i) (kept_of (disks.reading new) after)) (sym (stable c may))
              (subst (AllByRecursion (IsHeld (disks.reading new))) (sym same_kept) (held_same (IsTurned b.place.active) (disks.reading old) (disks.reading new) turned_same (kept_of (disks.reading old) after) apart_turned held));
        };
      }

-- the place of the next area
pub next_is : (old new : Areas) → area_of new ≡ other (area_of old) → epoch_of new ≡ epoch_of old + 1 → place_of new ≡ next_place (place_of old)
next_is old new area epoch = ap (λ (a : Area). record { active = a; epoch = new.epoch }) area ∙ ap (λ (n : ℕ). record { active = other (area_of old); epoch = n }) epoch

-- THE BOOKS OF THE STORE, which is whole, are true
pub kept_books_true : {D : Type 0} (disks : Ghosts D) (st after : State D) (tables : List ShadowTable) (row : List Rec) → HasStableLog disks (books st) st.disk → IsWhole disks.block_count after
    → row ≡ are_chosen st → after.log ≡ with_tables tables row → after.kept ≡ with_tables tables row → after.blocks.end ≡ st.blocks.end → st.blocks.first ≡ pool_at → st.blocks.end ≤ most_blocks → AreInRange st.blocks.end (logged_recs st.log)
    → All (IsPlaced st.blocks.first st.blocks.end) (with_tables tables (are_chosen st)) → AllByRecursion (IsHeld (disks.reading st.disk)) (kept_of (disks.reading st.disk) (books_kept tables st))
    → IsTurnedTo disks row st.areas after.areas after.disk → SameOutside (IsTurned (area_of st.areas)) (disks.reading st.disk) (disks.reading after.disk) → Only (disks.reading after.disk) (disks.may_leave after.disk)
    → place_of after.areas ≡ next_place (place_of st.areas) → AreTrue disks (books after) after.disk
kept_books_true disks st after tables row s w row_is log_is kept_is_rows end first most range placed spelt turned same stable next =
    let rows : List Logged = with_tables tables row in
    let logged : after.log ≡ with_tables tables (are_chosen st) = log_is ∙ ap (with_tables tables) row_is in
    let kept_rows_are : kept_of (disks.reading st.disk) (books after) ≡ map (kept_for (disks.reading st.disk)) (with_tables tables (are_chosen st)) =
    ap (map (kept_for (disks.reading st.disk))) (sym (kept_is disks.block_count after w) ∙ (kept_is_rows ∙ ap (with_tables tables) row_is)) in
    true_kept disks (books st) st.disk s row st.areas after.areas after.disk (books after) refl turned same stable next refl end
    (ap logged_recs log_is ∙ rows_recs tables row)
    (subst (AreFitting st.blocks.end) (sym row_is) (chosen_fit st st.blocks.end most range))
    w.kept.narrow
    (subst (AreApartFrom IsBeforePool) (sym kept_rows_are) (rows_apart (disks.reading st.disk) st.blocks.first st.blocks.end st.blocks.end tables (are_chosen st) first placed (chosen_in_range st st.blocks.end range)))
    (subst (λ (ls : List Logged). AllByRecursion (IsHeld (disks.reading st.disk)) (kept_of (disks.reading st.disk) (record (books st) { logged = ls }))) (sym logged) spelt)
