-- Records and their tables, side by side.
use Rattle.std.proofs.Common.{◌≡◌, ℕ, zero, suc, ◌+◌, ◌<◌, ◌≤◌, List, [], ◌∷◌, ◌++◌, length, take, set, get_or, false, nat_le, refl, sym, ap, subst, ◌∙◌, arith}
use Rattle.std.proofs.lemmas.List.{get_or_default, get_or-take, length-set, length-take, take-map, take_more, take_more_set}
use Rattle.std.proofs.lemmas.Bool.{le-leb}
use Rattle.std.proofs.lemmas.Bool.Decides.{nat_tests}
use Rattle.std.proofs.lemmas.List.Filters.{FiltersInPlace, FiltersInPlace-more_no, FiltersInPlace-more_set}
use Rattle.base_types.specs.declared.records.Rec.{Rec}
use Rattle.log_reading.specs.image_facts.Layout.{slot_count}
use Rattle.data_blocks.specs.declared.ShadowTable.{ShadowTable}
use Rattle.store_facts.specs.Shelves.{is_from, logged_with, nothing_logged}
use Rattle.page_words.specs.store_books.Books.{Logged, logged_recs}

pub logged_len : (rs : List Rec) (ts : List ShadowTable) → length ts ≡ length rs → length (logged_with rs ts) ≡ length rs
logged_len [] ts len = refl
logged_len (r ∷ rs) [] len = absurd (omega (arith, len))
logged_len (r ∷ rs) (t ∷ ts) len = (let rest = logged_len rs ts (omega (arith, len)) in omega (arith, rest))

-- both lists are written at one place
pub logged_set : (rs : List Rec) (ts : List ShadowTable) (i : ℕ) (r : Rec) (t : ShadowTable) → length ts ≡ length rs → logged_with (set rs i r) (set ts i t) ≡ set (logged_with rs ts) i (record { rec = r; table = t.0 })
logged_set [] ts i r t len = refl
logged_set (x ∷ rs) [] i r t len = absurd (omega (arith, len))
logged_set (x ∷ rs) (y ∷ ts) zero r t len = refl
logged_set (x ∷ rs) (y ∷ ts) (suc i) r t len = ap (λ (ls : List Logged). record { rec = x; table = y.0 } ∷ ls) (logged_set rs ts i r t (omega (arith, len)))

pub recs_are : (rs : List Rec) (ts : List ShadowTable) → length ts ≡ length rs → logged_recs (logged_with rs ts) ≡ rs
recs_are [] ts len = refl
recs_are (r ∷ rs) [] len = absurd (omega (arith, len))
recs_are (r ∷ rs) (t ∷ ts) len = ap (λ (qs : List Rec). r ∷ qs) (recs_are rs ts (omega (arith, len)))

-- the first ones
pub first_recs : (rs : List Rec) (ts : List ShadowTable) (n : ℕ) → length ts ≡ length rs → take n rs ≡ logged_recs (take n (logged_with rs ts))
first_recs rs ts n len = ap (take n) (sym (recs_are rs ts len)) ∙ take-map (λ (l : Logged). l.rec) n (logged_with rs ts)

pub one_pushed : (rs : List Rec) (ts : List ShadowTable) (n : ℕ) (r : Rec) (t : ShadowTable) → length ts ≡ length rs → n < length rs
    → take (n + 1) (logged_with (set rs n r) (set ts n t)) ≡ take n (logged_with rs ts) ++ record { rec = r; table = t.0 } ∷ []
one_pushed rs ts n r t len lt = ap (take (n + 1)) (logged_set rs ts n r t len) ∙ take_more_set (logged_with rs ts) n (record { rec = r; table = t.0 }) (let all = logged_len rs ts len in omega (arith, all, lt))

pub used_len : (rs : List Rec) (ts : List ShadowTable) (n : ℕ) → length ts ≡ length rs → n ≤ length rs → n ≡ length (take n (logged_with rs ts))
used_len rs ts n len le = (let a = length-take n (logged_with rs ts) in let b = logged_len rs ts len in omega (arith, a, b, le))

-- there is room behind the first ones
pub has_room : (rs : List Rec) (ts : List ShadowTable) (n m : ℕ) → length ts ≡ length rs → n ≤ length rs → length (take n (logged_with rs ts)) < m → n < m
has_room rs ts n m len le lt = (let used = used_len rs ts n len le in omega (arith, used, lt))

-- one place of both
pub logged_read : (rs : List Rec) (ts : List ShadowTable) (i : ℕ) (r : Rec) (t : ShadowTable) → i < length rs → i < length ts → r ≡ get_or rs i r → t ≡ get_or ts i t → record { rec = r; table = t.0 } ≡ get_or (logged_with rs ts) i (record { rec = r; table = t.0 })
logged_read [] ts i r t lt within a b = absurd (omega (arith, lt))
logged_read (x ∷ rs) [] i r t lt within a b = absurd (omega (arith, within))
logged_read (x ∷ rs) (y ∷ ts) zero r t lt within a b = ap (λ (q : Rec). record { rec = q; table = t.0 }) a ∙ ap (λ (u : ShadowTable). record { rec = x; table = u.0 }) b
logged_read (x ∷ rs) (y ∷ ts) (suc i) r t lt within a b = logged_read rs ts i r t (omega (arith, lt)) (omega (arith, within)) a b

-- KEEPING THOSE AT OR ABOVE A CHOICE, so far
pub record KeepsSoFar (cut : ℕ → ℕ) (recs : List Rec) (tables : List ShadowTable) (end : ℕ) (rs : List Rec) (ts : List ShadowTable) (k i : ℕ) : Type 0 where
  pub many : length rs ≡ slot_count
  pub tabled : length ts ≡ slot_count
  pub few : end ≤ slot_count
  pub kept : FiltersInPlace (is_from cut) (logged_with recs tables) (logged_with rs ts) k i

pub lt-not-leb : (a b : ℕ) → b < a → nat_le a b ≡ false
lt-not-leb a b lt = grind (arith, nat_tests)

module _ (cut : ℕ → ℕ) (recs : List Rec) (tables : List ShadowTable) (end : ℕ) (rs : List Rec) (ts : List ShadowTable) (k i : ℕ) (s : KeepsSoFar cut recs tables end rs ts k i) (lt : i < end) (r : Rec) (is : r ≡ get_or rs i r) where
  pub keeps_one : (t : ShadowTable) → t ≡ get_or ts i t → cut r.entity ≤ r.version → KeepsSoFar cut recs tables end (set rs k r) (set ts k t) (k + 1) (i + 1)
  keeps_one t there above =
      let few = s.few in
      let many = s.many in
      let tabled = s.tabled in
      let within : i < length (logged_with rs ts) = (let all = logged_len rs ts (s.tabled ∙ sym s.many) in omega (arith, all, lt, few, many)) in
      let read = logged_read rs ts i r t (omega (arith, lt, few, many)) (omega (arith, lt, few, tabled)) is there in
      record {
        many = length-set rs k r ∙ s.many;
        tabled = length-set ts k t ∙ s.tabled;
        few = s.few;
        kept = subst (λ (ls : List Logged). FiltersInPlace (is_from cut) (logged_with recs tables) ls (k + 1) (i + 1)) (sym (logged_set rs ts k r t (s.tabled ∙ sym s.many)))
            (FiltersInPlace-more_set s.kept within (le-leb (cut r.entity) r.version above) read);
      }

  pub keeps_none : r.version < cut r.entity → KeepsSoFar cut recs tables end rs ts k (i + 1)
  keeps_none below =
      let few = s.few in
      let many = s.many in
      let tabled = s.tabled in
      let t : ShadowTable = get_or ts i (record { 0 = [] }) in
      let inside : i < length ts = omega (arith, lt, few, tabled) in
      let within : i < length (logged_with rs ts) = (let all = logged_len rs ts (s.tabled ∙ sym s.many) in omega (arith, all, lt, few, many)) in
      let read = logged_read rs ts i r t (omega (arith, lt, few, many)) inside is (get_or_default ts i (record { 0 = [] }) t inside) in
      record {
        many = s.many;
        tabled = s.tabled;
        few = s.few;
        kept = FiltersInPlace-more_no s.kept within (lt-not-leb (cut r.entity) r.version below) read;
      }

-- the record at a place of the first ones, and its blocks
module _ (rs : List Rec) (ts : List ShadowTable) (n i : ℕ) (len : length ts ≡ length rs) (le : n ≤ length rs) (lt : i < length (take n (logged_with rs ts))) where
  below : i < n
  below = (let used = used_len rs ts n len le in omega (arith, used, lt))

  read_both : (r : Rec) (t : ShadowTable) → r ≡ get_or rs i r → t ≡ get_or ts i t → record { rec = r; table = t.0 } ≡ get_or (take n (logged_with rs ts)) i nothing_logged
  read_both r t a b =
      let low = below in
      logged_read rs ts i r t (omega (arith, low, le)) (omega (arith, low, le, len)) a b
      ∙ (get_or_default (logged_with rs ts) i (record { rec = r; table = t.0 }) nothing_logged (let all = logged_len rs ts len in omega (arith, low, le, all))
      ∙ sym (get_or-take n (logged_with rs ts) i nothing_logged low))

  pub read_rec : (r : Rec) → r ≡ get_or rs i r → r ≡ (get_or (take n (logged_with rs ts)) i nothing_logged).rec
  read_rec r is =
      let low = below in
      let t : ShadowTable = get_or ts i (record { 0 = [] }) in
      ap (λ (l : Logged). l.rec) (read_both r t is (get_or_default ts i (record { 0 = [] }) t (omega (arith, low, le, len))))

  pub read_table : (t : ShadowTable) → t ≡ get_or ts i t → t.0 ≡ (get_or (take n (logged_with rs ts)) i nothing_logged).table
  read_table t is =
      let low = below in
      let r : Rec = get_or rs i nothing_logged.rec in
      ap (λ (l : Logged). l.table) (read_both r t (get_or_default rs i nothing_logged.rec r (omega (arith, low, le))) is)

-- THE FIRST ONES ARE COPIED, so far
pub record CopiedSoFar (recs : List Rec) (tables : List ShadowTable) (rs : List Rec) (ts : List ShadowTable) (i : ℕ) : Type 0 where
  pub many : length rs ≡ slot_count
  pub tabled : length ts ≡ slot_count
  pub same : take i (logged_with rs ts) ≡ take i (logged_with recs tables)

pub copied_more : (recs : List Rec) (tables : List ShadowTable) (rs : List Rec) (ts : List ShadowTable) (i : ℕ) → length recs ≡ slot_count → length tables ≡ slot_count → i < slot_count → CopiedSoFar recs tables rs ts i
    → (r : Rec) (t : ShadowTable) → r ≡ get_or recs i r → t ≡ get_or tables i t → CopiedSoFar recs tables (set rs i r) (set ts i t) (i + 1)
copied_more recs tables rs ts i all tabled lt h r t read there =
    let many = h.many in
    let l : Logged = record { rec = r; table = t.0 } in
    let long = logged_len recs tables (tabled ∙ sym all) in
    record {
      many = length-set rs i r ∙ h.many;
      tabled = length-set ts i t ∙ h.tabled;
      same =
          one_pushed rs ts i r t (h.tabled ∙ sym h.many) (omega (arith, lt, many))
          ∙ (ap (λ (ls : List Logged). ls ++ l ∷ []) h.same
          ∙ (ap (λ (m : Logged). take i (logged_with recs tables) ++ m ∷ []) (logged_read recs tables i r t (omega (arith, lt, all)) (omega (arith, lt, tabled)) read there)
          ∙ sym (take_more (logged_with recs tables) i l (omega (arith, lt, all, long)))));
    }
