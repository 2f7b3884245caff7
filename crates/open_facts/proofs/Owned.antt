-- The blocks of a store that keeps the chosen records have one owner each.
use Rattle.std.proofs.Common.{◌≡◌, ◌≢◌, ℕ, zero, suc, ◌<◌, ◌≤◌, Bool, true, false, not, ◌&&◌, ◌||◌, ◌==◌, List, length, Option, Some, None, refl, sym, ap, subst, ◌∙◌, ⊎_elim, arith, eqb-true}
use Rattle.std.specs.Prelude.{Contains, slice_index}
use Rattle.std.specs.List.{list_any}
use Rattle.std.proofs.lemmas.Bool.{and_parts, cases_lt, eq-eqb, false≢true}
use Rattle.std.proofs.lemmas.List.{get_or_default, get_or_past, map-append}
use Rattle.std.proofs.lemmas.List.Folds.{Any-from_list_any, list_any-append, list_any_at}
use Rattle.base_types.specs.Edges.{upto}
use Rattle.base_types.specs.declared.records.Rec.{Rec}
use Rattle.image_facts.proofs.Firsts.{ne_test}
use Rattle.table_opened.specs.image_meaning.Parts.{Part, chosen, chosen_by, cut_of}
use Rattle.table_opened.specs.image_chosen_facts.Tables.{blocks_in}
use Rattle.table_opened.specs.image_chosen.declared.parts.ImageParts.{ImageParts}
use Rattle.table_opened.specs.log_reading.declared.log.ImageLog.{ImageLog}
use Rattle.table_opened.specs.data_blocks.declared.ShadowTable.{ShadowTable}
use Rattle.table_opened.specs.image_fits.Chosen.{entity_at, part_in, parts_of, record_in}
use Rattle.table_opened.specs.image_fits.declared.chosen.ChosenEntity.{ChosenEntity}
use Rattle.kernel_views.specs.store_facts.Choosing.{HasKept, chosen_list, kept_rows, listed, table_of, with_tables}
use Rattle.kernel_views.specs.store_facts.Holds.{names_page}
use Rattle.kernel_views.specs.store_facts.Naming.{is_use}
use Rattle.kernel_views.specs.store_facts.State.{State, books}
use Rattle.kernel_views.proofs.store_facts_lemmas.Chosen.{chosen_is, chosen_more}
use Rattle.table_opened.specs.store_books.Books.{Logged, kept_in}
use Rattle.table_opened.specs.store_books.Owning.{AreOwned}
use Rattle.open_facts.specs.Opened.{HaveBlocks, IsRead}
use Rattle.kernel_views.proofs.store_facts_lemmas.ChosenAlone.{row_of}
use Rattle.table_opened.proofs.image_chosen_facts_lemmas.Naming.{block_of, block_pool, no_blob, one_page}
use Rattle.kernel_views.proofs.store_facts_lemmas.ChosenRows.{IsRow, are_rows}
use Rattle.open_facts.proofs.Stored.{is_row, row_blocks, rows_are, table_blocks}
use Rattle.std.proofs.Math.Bool.{or-true}

-- TABLES AND BLOCKS

-- a block of a table is one page's
page_of : (table : List ℕ) (n : ℕ) → Contains table n → (p : ℕ) × (slice_index table p ≡ n)
page_of table n (p, lt, at) = (p, get_or_default table p 0 n lt ∙ at)

within_table : (table : List ℕ) (p n : ℕ) → n ≢ 0 → slice_index table p ≡ n → p < length table
within_table table p n some at = ⊎_elim (λ (lt : p < length table). lt) (λ (past : length table ≤ p). absurd (some (sym at ∙ get_or_past table p 0 past))) (cases_lt p (length table))

has_page : (table : List ℕ) (p n : ℕ) → n ≢ 0 → slice_index table p ≡ n → Contains table n
has_page table p n some at = (let lt = within_table table p n some at in (p, lt, get_or_default table p n 0 lt ∙ at))

use_self : (n : ℕ) → n ≢ 0 → is_use n n ≡ true
use_self n some = ap (λ (b : Bool). not b && (n == n)) (ne_test n 0 some) ∙ eq-eqb n n refl

some_use : (m : ℕ) → not (m == 0) ≡ true → m ≢ 0
some_use m test none = false≢true (sym (ap not (eq-eqb m 0 none)) ∙ test)

-- a row names a block where one of its pages has it, and only there
names_one : (l : Logged) (p n : ℕ) → n ≢ 0 → slice_index l.table p ≡ n → names_page n l ≡ true
names_one l p n some at = list_any_at (is_use n) l.table p 0 (within_table l.table p n some at) (ap (is_use n) at ∙ use_self n some)

one_named : (l : Logged) (n : ℕ) → names_page n l ≡ true → (p : ℕ) × (n ≢ 0) × (slice_index l.table p ≡ n)
one_named l n named =
    let a = Any-from_list_any (is_use n) l.table named in
    let m : ℕ = a.1 in
    let both = and_parts (not (m == 0)) (m == n) a.4 in
    let same : m ≡ n = eqb-true m n both.1 in
    (a.0, subst (λ (k : ℕ). k ≢ 0) same (some_use m both.0), get_or_default l.table a.0 0 m a.2 ∙ (a.3 ∙ same))

-- a chosen record is one of the rows
module _ (cut : ℕ → ℕ) (recs : List Rec) (tables : List ShadowTable) (test : Logged → Bool) (x : ℕ) (r : Rec) (here : chosen_by cut recs x ≡ Some r) (passes : test (record { rec = r; table = table_of tables r.entity }) ≡ true) where
  last_row : list_any test (with_tables tables (listed (chosen_by cut recs x))) ≡ true
  last_row = subst (λ (o : Option Rec). list_any test (with_tables tables (listed o)) ≡ true) (sym here) (ap (λ (b : Bool). b || false) passes)

  any_row : (n : ℕ) → x < n → list_any test (with_tables tables (chosen_list cut recs (upto n))) ≡ true
  any_row zero lt = absurd (omega (arith, lt))
  any_row (suc n) lt =
      let front : List Rec = chosen_list cut recs (upto n) in
      let back : List Rec = listed (chosen_by cut recs n) in
      ap (λ (l : List Rec). list_any test (with_tables tables l)) (chosen_more cut recs n)
      ∙ (ap (list_any test) (map-append (λ (q : Rec). record { rec = q; table = table_of tables q.entity }) front back)
      ∙ (list_any-append test (with_tables tables front) (with_tables tables back)
      ∙ ⊎_elim
      (λ (low : x < n). ap (λ (b : Bool). b || list_any test (with_tables tables back)) (any_row n low))
      (λ (high : n ≤ x).
      let same : x ≡ n = omega (arith, lt, high) in
      let last : list_any test (with_tables tables back) ≡ true = subst (λ (k : ℕ). list_any test (with_tables tables (listed (chosen_by cut recs k))) ≡ true) same last_row in
      ap (λ (b : Bool). list_any test (with_tables tables front) || b) last ∙ or-true (list_any test (with_tables tables front)))
      (cases_lt x n)))

module _ {D : Type 0} (log : ImageLog) (parts : ImageParts) (tables : List ShadowTable) (st new : State D) (working : ℕ → List ℕ) (is : IsRead log parts tables st) (kept : HasKept tables st new)
    (free : (n : ℕ) → (books st).held n ≡ false) (have : HaveBlocks working (parts_of parts.entities.items)) where
  abbrev recs : List Rec
  recs = log.recs.items

  abbrev those : ℕ → Option Part
  those = parts_of parts.entities.items

  held_is : (n : ℕ) → (books new).held n ≡ list_any (names_page n) (with_tables tables (row_of recs))
  held_is n =
      kept.held n
      ∙ (ap (λ (b : Bool). b || list_any (names_page n) (kept_rows tables st)) (free n)
      ∙ ap (list_any (names_page n)) (rows_are log parts tables st is))

  -- a held block is one page's
  pub held_page : (n : ℕ) → (books new).held n ≡ true → (x : ℕ) × (p : ℕ) × (n ≢ 0) × (slice_index (blocks_in (those x)) p ≡ n)
  held_page n held =
      let rows : List Logged = with_tables tables (row_of recs) in
      let a = Any-from_list_any (names_page n) rows (sym (held_is n) ∙ held) in
      let l : Logged = a.1 in
      let row : IsRow recs tables l = subst (IsRow recs tables) a.3 (are_rows recs tables a.0 l a.2) in
      let page = one_named l n a.4 in
      (l.rec.entity, page.0, page.1, sym (row_blocks log parts tables st is l row page.0) ∙ page.2)

  -- what has a part has a chosen record
  part_rec : (x : ℕ) (part : Part) (o : Option ChosenEntity) → entity_at parts.entities.items x ≡ o → part_in o ≡ Some part → chosen recs x ≡ record_in o → (r : Rec) × (chosen recs x ≡ Some r)
  part_rec x part None at has is_rec = absurd (let e : None ≡ Some part = has in cc)
  part_rec x part (Some e) at has is_rec = (e.rec, is_rec)

  -- and each page's is held
  pub page_held : (x p n : ℕ) → n ≢ 0 → slice_index (blocks_in (those x)) p ≡ n → (books new).held n ≡ true
  page_held x p n some at =
      let b = block_of log.blocks recs those is.parts_are.fit x p n some at in
      let o : Option ChosenEntity = entity_at parts.entities.items x in
      let rec = part_rec x b.part o refl b.is (is.parts_are.chosen x) in
      let r : Rec = rec.0 in
      let c = chosen_is (cut_of recs) recs x r rec.1 in
      let of : r.entity ≡ x = c.entity in
      let low : x < 64 = (let lt = (is.range c.place r c.here).entity in omega (arith, lt, of)) in
      let l : Logged = record { rec = r; table = table_of tables r.entity } in
      let page : slice_index (table_of tables r.entity) p ≡ n = ap (λ (k : ℕ). slice_index (table_of tables k) p) of ∙ (table_blocks log parts tables st is x low p ∙ at) in
      held_is n ∙ any_row (cut_of recs) recs tables (names_page n) x r rec.1 (names_one l p n some page) 64 low

  row : (l : Logged) → Contains (kept_in (books new)) l → IsRow recs tables l
  row l within = is_row log parts tables st is (books new) kept.log l within

  page_at : (l : Logged) → Contains (kept_in (books new)) l → (p n : ℕ) → slice_index l.table p ≡ n → slice_index (blocks_in (those l.rec.entity)) p ≡ n
  page_at l within p n at = sym (row_blocks log parts tables st is l (row l within) p) ∙ at

  -- THE BLOCKS HAVE ONE OWNER
  pub rows_owned : AreOwned (books new) working
  rows_owned =
      let fit = is.parts_are.fit in
      record {
        held = λ n. (
          λ held. (let h = held_page n held in (h.0, (h.2, has_page (working h.0) h.1 n h.2 (have h.0 h.1 ∙ h.3)))),
          λ named. (let at = page_of (working named.0) n named.1.1 in page_held named.0 at.0 n named.1.0 (sym (have named.0 at.0) ∙ at.1)),
        );
        once = λ x y p q some same. one_page log.blocks recs those fit x y p q (slice_index (working x) p) some (sym (have x p)) (sym (have y q) ∙ sym same);
        not_blob = λ l m n l_in m_in named in_blob.
            let at = page_of l.table n named.1 in
            no_blob log.blocks recs those fit l.rec.entity at.0 m.rec.entity n m.rec named.0 (page_at l l_in at.0 n at.1) (row m m_in).is_chosen in_blob;
        not_held_blob = λ l n l_in in_blob held.
            let h = held_page n held in
            no_blob log.blocks recs those fit h.0 h.1 l.rec.entity n l.rec h.2 h.3 (row l l_in).is_chosen in_blob;
        kept_once = λ l m p q l_in m_in some same. one_page log.blocks recs those fit l.rec.entity m.rec.entity p q (slice_index l.table p) some (page_at l l_in p (slice_index l.table p) refl) (page_at m m_in q (slice_index l.table p) (sym same));
        kept_own = λ l y p q l_in some same. one_page log.blocks recs those fit l.rec.entity y p q (slice_index l.table p) some (page_at l l_in p (slice_index l.table p) refl) (sym (have y q) ∙ sym same);
        kept_pool = λ l n l_in named. (let at = page_of l.table n named.1 in
            (let pool = block_pool log.blocks recs those fit l.rec.entity at.0 n named.0 (page_at l l_in at.0 n at.1) in
            (pool.0, (let high = pool.1 in let count = kept.same_count in let same = is.over.count in omega (arith, high, count, same)))));
      }
