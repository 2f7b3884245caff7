-- A store keeps the chosen records alone.
use Rattle.std.proofs.Common.{◌≡◌, ℕ, zero, suc, ◌≤◌, Bool, false, if◌then◌else◌, List, [], ◌∷◌, length, filter, take, get_or, Some, refl, sym, ap, subst, ◌∙◌, arith}
use Rattle.std.specs.Prelude.{All, slice_get, slice_index}
use Rattle.std.specs.List.{AllPairs}
use Rattle.std.proofs.lemmas.Bool.{le-leb}
use Rattle.std.proofs.lemmas.List.{get_or_past, length-map}
use Rattle.std.proofs.lemmas.Option.{slice_get-get_or}
use Rattle.edge_disk.specs.declared.disk.Disk.{Ghosts}
use Rattle.data_cut_facts.specs.Records.{IsAscending}
use Rattle.data_cuts.specs.model_cut_laws.Agreeing.{nothing}
use Rattle.data_cuts.specs.model_cut_laws.Records.{commits_of}
use Rattle.edge_disk.specs.Image.{Image, block_at}
use Rattle.base_types.specs.Edges.{upto}
use Rattle.base_types.specs.declared.records.Rec.{Rec}
use Rattle.page_store.specs.model_kernel.Choices.{IsGreatest, IsNarrow}
use Rattle.log_reading.specs.image_blocks.Layout.{gate_at, header_at}
use Rattle.log_reading.specs.image_facts.Layout.{most_blocks, slot_count}
use Rattle.log_reading.specs.image_facts.Logs.{AreFitting, IsInRange}
use Rattle.log_reading.specs.image_blocks.Logs.{HasLog}
use Rattle.log_reading.specs.log_facts.Logs.{AreInRange, IsOlder}
use Rattle.page_words.specs.log_turn.Standing.{Stands, has_failed, place_of, used_of}
use Rattle.page_words.specs.log_turn.declared.areas.Areas.{Areas}
use Rattle.data_blocks.specs.Ledger.{Ledger}
use Rattle.data_blocks.specs.declared.ShadowTable.{ShadowTable}
use Rattle.page_words.specs.store_books.Books.{Logged, logged_recs, recs_in}
use Rattle.store_facts.specs.Choosing.{are_chosen, chosen_list, kept_rows, table_of, with_tables}
use Rattle.store_facts.specs.Keeping.{AreKept, AreListed, HasRecounted}
use Rattle.store_facts.specs.Opening.{HasStableLog}
use Rattle.store_facts.specs.Shelves.{is_from}
use Rattle.store_facts.specs.State.{IsWhole, State, books}
use Rattle.store_facts.specs.Naming.{IsPlaced}
use Rattle.store_facts.proofs.Chosen.{AreRow, are_row, chosen_greatest, row_fits}

-- THE LOG STANDS, as a turn asks
pub found_logged : {D : Type 0} (disks : Ghosts D) (st : State D) → IsWhole disks.block_count st → st.shut ≡ false → HasStableLog disks (books st) st.disk → Stands disks st.areas (recs_in (books st)) st.disk
found_logged disks st w working s = record {
  used = length-map st.log (λ (l : Logged). l.rec) ∙ w.used working;
  log = s.log;
  left = λ c may.
      let same : c ≡ disks.reading st.disk = s.stable c may in
      (subst (HasLog (place_of st.areas) (recs_in (books st))) (sym same) s.log, record { header = λ area. ap (λ (i : Image). block_at i (header_at area)) same; gate = λ area. ap (λ (i : Image). block_at i (gate_at area)) same });
}

-- THE ROWS

pub rows_recs : (tables : List ShadowTable) (recs : List Rec) → logged_recs (with_tables tables recs) ≡ recs
rows_recs tables [] = refl
rows_recs tables (r ∷ recs) = ap (λ (l : List Rec). r ∷ l) (rows_recs tables recs)

rows_from : (cut : ℕ → ℕ) (tables : List ShadowTable) (recs : List Rec) → ((k : ℕ) (r : Rec) → slice_get recs k ≡ Some r → r.version ≡ cut r.entity) → filter (is_from cut) (with_tables tables recs) ≡ with_tables tables recs
rows_from cut tables [] each = refl
rows_from cut tables (r ∷ recs) each =
    ap (λ (b : Bool). if b then record { rec = r; table = table_of tables r.entity } ∷ filter (is_from cut) (with_tables tables recs) else filter (is_from cut) (with_tables tables recs))
    (le-leb (cut r.entity) r.version (let at = each zero r refl in omega (arith, at)))
    ∙ ap (λ (ms : List Logged). record { rec = r; table = table_of tables r.entity } ∷ ms) (rows_from cut tables recs (λ k s here. each (suc k) s here))

narrow_rows : (recs : List Rec) → ((k : ℕ) (r : Rec) → slice_get recs k ≡ Some r → length r.stamp ≡ 64) → IsNarrow (commits_of recs)
narrow_rows [] each = tt
narrow_rows (r ∷ recs) each = ((λ y far. get_or_past r.stamp y 0 (let len = each zero r refl in omega (arith, len, far))), narrow_rows recs (λ k s here. each (suc k) s here))

module _ (cut : ℕ → ℕ) (recs row : List Rec) (n count : ℕ) (a : AreRow cut recs row n) (range : AreInRange count recs) where
  pub at_cut : (k : ℕ) (r : Rec) → slice_get row k ≡ Some r → r.version ≡ cut r.entity
  at_cut k r here = (a.each k r here).0.version

  row_ascending : IsAscending row
  row_ascending i j d lt within same =
      let one = at_cut i (get_or row i d) (slice_get-get_or row i d (omega (arith, lt, within))) in
      let two = at_cut j (get_or row j d) (slice_get-get_or row j d within) in
      let e : cut (get_or row i d).entity ≡ cut (get_or row j d).entity = ap cut same in
      omega (arith, one, two, e)

  row_narrow : IsNarrow (commits_of row)
  row_narrow = narrow_rows row (λ k r here. (let c = (a.each k r here).0 in (range c.place r c.here).components))

  pub rows_kept : (tables : List ShadowTable) → IsGreatest nothing (commits_of row) cut → AreKept (with_tables tables row) (with_tables tables row) cut
  rows_kept tables greatest =
      let back : row ≡ logged_recs (with_tables tables row) = sym (rows_recs tables row) in
      record {
        kept = sym (rows_from cut tables row at_cut);
        greatest = subst (λ (rs : List Rec). IsGreatest nothing (commits_of rs) cut) back greatest;
        ascending = subst IsAscending back row_ascending;
        narrow = subst (λ (rs : List Rec). IsNarrow (commits_of rs)) back row_narrow;
      }

-- the kept records and their choice are the store's own
pub chosen_kept : {D : Type 0} (st : State D) (tables : List ShadowTable) (count : ℕ) → AreKept st.log st.kept (slice_index st.cut.0) → AllPairs IsOlder (logged_recs st.log) → AreInRange count (logged_recs st.log)
    → AreKept (kept_rows tables st) (kept_rows tables st) (slice_index st.cut.0)
unfolding are_chosen
chosen_kept st tables count k older range =
    rows_kept (slice_index st.cut.0) (logged_recs st.log) (are_chosen st) 64 count (are_row (slice_index st.cut.0) (logged_recs st.log) 64) range tables
    (chosen_greatest (slice_index st.cut.0) (logged_recs st.log) older (λ i r here. (range i r here).entity) k.greatest)

-- THE STORE IS WHOLE
pub whole_kept : {D : Type 0} (block_count : D → ℕ) (st : State D) (disk : D) (areas : Areas) (rows : List Logged) (counted ledger : Ledger) → IsWhole block_count st → block_count disk ≡ block_count st.disk
    → counted ≡ record st.blocks { all_named = false } → HasRecounted counted ledger → AreListed ledger rows → AreKept rows rows (slice_index st.cut.0) → length rows ≤ slot_count → has_failed areas ≡ false → length rows ≡ used_of areas
    → IsWhole block_count (record st { disk = disk; areas = areas; log = rows; kept = rows; blocks = ledger; shut = false })
whole_kept block_count st disk areas rows counted ledger w same is counts listed kept few working used =
    let first : ledger.first ≡ st.blocks.first = ap (λ (l : Ledger). l.first) counts.only ∙ ap (λ (l : Ledger). l.first) is in
    let end : ledger.end ≡ st.blocks.end = ap (λ (l : Ledger). l.end) counts.only ∙ ap (λ (l : Ledger). l.end) is in
    let held : ledger.held ≡ st.blocks.held = ap (λ (l : Ledger). l.held) counts.only ∙ ap (λ (l : Ledger). l.held) is in
    let names : length ledger.names ≡ length st.blocks.names = counts.same_size ∙ ap (λ (l : Ledger). length l.names) is in
    record {
      within = (let within = w.within in omega (arith, within, same, end));
      enough = (let enough = w.enough in omega (arith, enough, end));
      most = (let most = w.most in omega (arith, most, end));
      first = first ∙ w.first;
      sized = names ∙ (w.sized ∙ sym end);
      marked = ap length held ∙ (w.marked ∙ sym end);
      held = λ n marked. (let range = w.held n (sym (ap (λ (l : List Bool). get_or l n false) held) ∙ marked) in let high = range.1 in (range.0, omega (arith, high, end)));
      few = few;
      kept = kept;
      listed = λ read. listed;
      working = λ shut. working;
      used = λ shut. used;
    }

-- what was chosen is the store's
pub chosen_row : {D : Type 0} (st : State D) (recs : List Rec) → recs ≡ logged_recs st.log → chosen_list (slice_index st.cut.0) recs (upto 64) ≡ are_chosen st
unfolding are_chosen
chosen_row st recs is = ap (λ (rs : List Rec). chosen_list (slice_index st.cut.0) rs (upto 64)) is

pub chosen_fit : {D : Type 0} (st : State D) (count : ℕ) → count ≤ most_blocks → AreInRange count (logged_recs st.log) → AreFitting count (are_chosen st)
unfolding are_chosen
chosen_fit st count few range = row_fits (slice_index st.cut.0) (logged_recs st.log) (chosen_list (slice_index st.cut.0) (logged_recs st.log) (upto 64)) 64 count few (are_row (slice_index st.cut.0) (logged_recs st.log) 64) range

pub chosen_in_range : {D : Type 0} (st : State D) (count : ℕ) → AreInRange count (logged_recs st.log) → (k : ℕ) (r : Rec) → slice_get (are_chosen st) k ≡ Some r → (before : List Rec) × IsInRange count before r
unfolding are_chosen
chosen_in_range st count range k r here =
    let c = ((are_row (slice_index st.cut.0) (logged_recs st.log) 64).each k r here).0 in
    (take c.place (logged_recs st.log), range c.place r c.here)

pub placed_row : (tables : List ShadowTable) (row chosen : List Rec) (old new : Ledger) → row ≡ chosen → new ≡ record old { all_named = false } → All (IsPlaced old.first old.end) (with_tables tables chosen) → All (IsPlaced new.first new.end) (with_tables tables row)
placed_row tables row chosen old new is same placed =
    subst (λ (l : Ledger). All (IsPlaced l.first l.end) (with_tables tables row)) (sym same) (subst (λ (rs : List Rec). All (IsPlaced old.first old.end) (with_tables tables rs)) (sym is) placed)

-- THE STORE IS WHOLE, with the rows as they were listed
pub whole_rows : {D : Type 0} (block_count : D → ℕ) (st : State D) (disk : D) (areas : Areas) (tables : List ShadowTable) (row : List Rec) (log kept : List Logged) (counted ledger : Ledger) → IsWhole block_count st → block_count disk ≡ block_count st.disk
    → counted ≡ record st.blocks { all_named = false } → HasRecounted counted ledger → AreListed ledger kept → row ≡ are_chosen st → kept ≡ with_tables tables row → log ≡ kept → AllPairs IsOlder (logged_recs st.log) → AreInRange st.blocks.end (logged_recs st.log)
    → length row ≤ 64 → has_failed areas ≡ false → used_of areas ≡ length row
    → IsWhole block_count (record st { disk = disk; areas = areas; log = log; kept = kept; blocks = ledger; shut = false })
whole_rows block_count st disk areas tables row log kept counted ledger w same is counts listed row_is kept_is log_is older range few working used =
    let rows : List Logged = with_tables tables row in
    let len : length rows ≡ length row = length-map {B = Logged} row (λ (q : Rec). record { rec = q; table = table_of tables q.entity }) in
    let are_kept : AreKept rows rows (slice_index st.cut.0) = subst (λ (rs : List Rec). AreKept (with_tables tables rs) (with_tables tables rs) (slice_index st.cut.0)) (sym row_is) (chosen_kept st tables st.blocks.end w.kept older range) in
    let whole = whole_kept block_count st disk areas rows counted ledger w same is counts (subst (AreListed ledger) kept_is listed) are_kept (omega (arith, len, few)) working (omega (arith, len, used)) in
    subst (λ (l : List Logged). IsWhole block_count (record st { disk = disk; areas = areas; log = l; kept = kept; blocks = ledger; shut = false })) (sym log_is)
    (subst (λ (l : List Logged). IsWhole block_count (record st { disk = disk; areas = areas; log = l; kept = l; blocks = ledger; shut = false })) (sym kept_is) whole)
