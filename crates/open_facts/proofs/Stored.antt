-- What is kept of an image that was read: where it stands, and that it is the image's.
use Rattle.std.proofs.Common.{◌≡◌, ℕ, ◌^◌, ◌<◌, ◌≤◌, List, [], ◌∷◌, length, map, take, get_or, Option, Some, None, refl, sym, ap, subst, ◌∙◌, ⊎_elim, arith}
use Rattle.std.specs.Prelude.{All, Any, Contains, slice_index}
use Rattle.std.specs.List.{AllByRecursion, flat_map}
use Rattle.std.proofs.lemmas.Bool.{cases_lt}
use Rattle.std.proofs.lemmas.List.{get_or-take, get_or_default, get_or_past, length-take}
use Rattle.std.proofs.lemmas.List.Elements.{All-contains, All-from_recursion, All-get_or}
use Rattle.edge_disk.specs.Image.{Image}
use Rattle.base_types.specs.Edges.{upto}
use Rattle.base_types.specs.declared.records.Rec.{Rec}
use Rattle.image_facts.specs.Bodies.{blocks_for}
use Rattle.image_facts.specs.Layout.{pool_at}
use Rattle.image_facts.specs.Logs.{IsInRange}
use Rattle.table_opened.specs.log_facts.Logs.{AreInRange}
use Rattle.table_opened.specs.image_meaning.Parts.{Part, chosen, cut_of}
use Rattle.table_opened.specs.image_meaning.Stores.{IsFound, IsHeld}
use Rattle.table_opened.proofs.image_meaning_lemmas.Firsts.{spelt_at}
use Rattle.table_opened.specs.image_chosen_facts.Parts.{IsAcceptedWith}
use Rattle.table_opened.specs.image_chosen_facts.Tables.{IsTableOf, blocks_in}
use Rattle.table_opened.specs.image_chosen.declared.parts.ImageParts.{ImageParts}
use Rattle.table_opened.proofs.image_chosen_lemmas.Placing.{tables_placed}
use Rattle.kernel_views.specs.kernel_laws.Opening.{KeepsChosen, chosen_recs, rec_list}
use Rattle.table_opened.specs.log_reading.declared.log.ImageLog.{ImageLog}
use Rattle.table_opened.specs.data_blocks.declared.ShadowTable.{ShadowTable}
use Rattle.table_opened.specs.image_fits.Chosen.{parts_of}
use Rattle.kernel_views.specs.store_facts.Choosing.{HasKept, are_chosen, books_kept, chosen_list, kept_rows, listed, table_of, with_tables}
use Rattle.kernel_views.specs.store_facts.Naming.{IsPlaced}
use Rattle.kernel_views.specs.store_facts.State.{State, books}
use Rattle.kernel_views.proofs.store_facts_lemmas.Chosen.{chosen_is}
use Rattle.kernel_views.proofs.store_facts_lemmas.Keep.{chosen_row, rows_recs}
use Rattle.kernel_views.proofs.store_commit_lemmas.Unused.{pages_all}
use Rattle.table_opened.specs.store_books.Books.{Books, Logged, kept_for, kept_in, kept_of, logged_recs}
use Rattle.open_facts.specs.Opened.{IsRead}
use Rattle.kernel_views.proofs.store_facts_lemmas.ChosenAlone.{row_of}
use Rattle.kernel_views.proofs.store_facts_lemmas.ChosenRows.{IsRow, are_rows, row_all, rows_all, rows_stay}

pub same_lists : (recs : List Rec) → row_of recs ≡ chosen_recs recs
same_lists recs = ap (λ (f : ℕ → List Rec). flat_map f (upto 64)) (λ i x. same (chosen recs x) i)
  where
    same : (o : Option Rec) → listed o ≡ rec_list o
    same None = refl
    same (Some r) = refl

-- no version of a chosen record is too large
pub low_row : (count : ℕ) (recs : List Rec) → AreInRange count recs → All (λ (r : Rec). r.version ≤ 2 ^ 62) (chosen_recs recs)
low_row count recs range =
    subst (All (λ (r : Rec). r.version ≤ 2 ^ 62)) (same_lists recs)
    (All-from_recursion (λ (r : Rec). r.version ≤ 2 ^ 62) (row_of recs)
    (row_all (cut_of recs) recs (λ (r : Rec). r.version ≤ 2 ^ 62) 64 (λ x r lt is. (let c = chosen_is (cut_of recs) recs x r is in ((range c.place r c.here).versions.1)))))

-- nor that of one among them
pub low_any : (recs : List Rec) (n x : ℕ) (stamp : List ℕ) → All (λ (r : Rec). r.version ≤ 2 ^ 62) recs → Any (λ (r : Rec). (r.entity ≡ x) × (r.version ≡ n) × (r.stamp ≡ stamp)) recs → n ≤ 2 ^ 62
low_any recs n x stamp all (k, r, low, at, is) =
    let le = subst (λ (q : Rec). q.version ≤ 2 ^ 62) at (All-get_or (λ (q : Rec). q.version ≤ 2 ^ 62) recs k r low all) in
    let same = is.1 in
    omega (arith, le, same)

module _ {D : Type 0} (log : ImageLog) (parts : ImageParts) (tables : List ShadowTable) (st : State D) (is : IsRead log parts tables st) where
  abbrev recs : List Rec
  recs = log.recs.items

  abbrev pub rows : List Logged
  rows = with_tables tables (row_of recs)

  pub row_is : are_chosen st ≡ row_of recs
  row_is = sym (chosen_row st recs (sym is.over.recs)) ∙ ap (λ (cut : ℕ → ℕ). chosen_list cut recs (upto 64)) is.over.cut

  pub rows_are : kept_rows tables st ≡ rows
  rows_are = ap (with_tables tables) row_is

  -- the rows are all that is kept
  pub all_kept : (b : Books) → b.logged ≡ kept_rows tables st → kept_in b ≡ rows
  all_kept b logged = rows_stay log.blocks recs is.range is.older tables b (logged ∙ rows_are)

  pub is_row : (b : Books) → b.logged ≡ kept_rows tables st → (l : Logged) → Contains (kept_in b) l → IsRow recs tables l
  is_row b logged l within = All-contains (IsRow recs tables) rows l (are_rows recs tables) (subst (λ (ls : List Logged). Contains ls l) (all_kept b logged) within)

  table_is : (x : ℕ) → x < 64 → IsTableOf (blocks_in (parts_of parts.entities.items x)) (table_of tables x)
  table_is x lt = is.tables_are.each x (let places = is.parts_are.places in omega (arith, lt, places))

  -- the table of an entity has the blocks of its part
  pub table_blocks : (x : ℕ) → x < 64 → (page : ℕ) → slice_index (table_of tables x) page ≡ slice_index (blocks_in (parts_of parts.entities.items x)) page
  table_blocks x lt page =
      let t = table_is x lt in
      ⊎_elim
      (λ (low : page < 256). t.same page low)
      (λ (past : 256 ≤ page).
      get_or_past (table_of tables x) page 0 (let long = t.long in omega (arith, past, long))
      ∙ sym (get_or_past (blocks_in (parts_of parts.entities.items x)) page 0 (let few = is.few x in omega (arith, past, few))))
      (cases_lt page 256)

  pub row_blocks : (l : Logged) → IsRow recs tables l → (page : ℕ) → slice_index l.table page ≡ slice_index (blocks_in (parts_of parts.entities.items l.rec.entity)) page
  row_blocks l row page = ap (λ (t : List ℕ). slice_index t page) row.table ∙ table_blocks l.rec.entity row.low page

  row_range : (x : ℕ) (r : Rec) → chosen recs x ≡ Some r → (before : List Rec) × IsInRange log.blocks before r × (r.entity ≡ x)
  row_range x r here = (let c = chosen_is (cut_of recs) recs x r here in (take c.place recs, is.range c.place r c.here, c.entity))

  -- WHERE IT STANDS
  placed_one : (x : ℕ) (r : Rec) → x < 64 → chosen recs x ≡ Some r → IsPlaced pool_at log.blocks (record { rec = r; table = table_of tables r.entity })
  placed_one x r lt here =
      let range = row_range x r here in
      let low : r.entity < 64 = (let of = range.2 in omega (arith, lt, of)) in
      record {
        length_is = range.1.lengths.1;
        blob = λ k d within some.
            let len = length-take (blocks_for r.length) r.blocks in
            let first : k < blocks_for r.length = omega (arith, within, len) in
            let at = get_or-take (blocks_for r.length) r.blocks k d first in
            let inside : k < length r.blocks = omega (arith, within, len) in
            subst (λ (n : ℕ). (pool_at ≤ n) × (n < log.blocks)) (sym (at ∙ default r.blocks k d inside)) (range.1.needed k first);
        table = tables_placed log parts tables is.tables_are is.parts_are r.entity;
        pages = (table_is r.entity low).long;
      }
    where
      default : (xs : List ℕ) (k d : ℕ) → k < length xs → get_or xs k d ≡ slice_index xs k
      default xs k d lt = get_or_default xs k d 0 lt

  pub rows_placed : All (IsPlaced st.blocks.first st.blocks.end) (with_tables tables (are_chosen st))
  rows_placed =
      subst (λ (ls : List Logged). All (IsPlaced st.blocks.first st.blocks.end) ls) (sym rows_are)
      (subst (λ (n : ℕ). All (IsPlaced n st.blocks.end) rows) (sym is.over.first)
      (subst (λ (n : ℕ). All (IsPlaced pool_at n) rows) (sym is.over.count)
      (rows_all (IsPlaced pool_at log.blocks) tables (row_of recs)
      (row_all (cut_of recs) recs (λ (r : Rec). IsPlaced pool_at log.blocks (record { rec = r; table = table_of tables r.entity })) 64 placed_one))))

  -- THE IMAGE'S
  module _ (image : Image) (w : IsAcceptedWith image log.recs.items (parts_of parts.entities.items)) where
    held_one : (x : ℕ) (r : Rec) → x < 64 → chosen recs x ≡ Some r → IsHeld image (kept_for image (record { rec = r; table = table_of tables r.entity }))
    held_one x r lt here =
        let spelt = spelt_at image w.whole.recs w.whole.parts w.whole.spelt x r (ap (λ (rs : List Rec). chosen rs x) w.recs_are ∙ here) in
        record {
          blob = refl;
          rest = spelt.2.rest;
          pages = pages_all (IsFound image) image (table_of tables r.entity) (λ n some within. refl);
          components = (row_range x r here).1.components;
        }

    held_rows : (row : List Rec) → AllByRecursion (λ (r : Rec). IsHeld image (kept_for image (record { rec = r; table = table_of tables r.entity }))) row → AllByRecursion (IsHeld image) (map (kept_for image) (with_tables tables row))
    held_rows [] all = tt
    held_rows (r ∷ row) all = (all.0, held_rows row all.1)

    pub rows_spelt : AllByRecursion (IsHeld image) (kept_of image (books_kept tables st))
    rows_spelt =
        subst (λ (ls : List Logged). AllByRecursion (IsHeld image) (map (kept_for image) ls)) (sym (all_kept (books_kept tables st) refl))
        (held_rows (row_of recs) (row_all (cut_of recs) recs (λ (r : Rec). IsHeld image (kept_for image (record { rec = r; table = table_of tables r.entity }))) 64 held_one))

    pub rows_chosen : (new : State D) → HasKept tables st new → KeepsChosen image w.whole (books new)
    rows_chosen new kept = record {
      recs = ap logged_recs (all_kept (books new) kept.log) ∙ (rows_recs tables (row_of recs) ∙ (same_lists recs ∙ ap chosen_recs (sym w.recs_are)));
      tables = λ l part within at page.
          let here : parts_of parts.entities.items l.rec.entity ≡ Some part = ap (λ (ps : ℕ → Option Part). ps l.rec.entity) (sym w.parts_are) ∙ at in
          row_blocks l (is_row (books new) kept.log l within) page ∙ ap (λ (o : Option Part). slice_index (blocks_in o) page) here;
    }
