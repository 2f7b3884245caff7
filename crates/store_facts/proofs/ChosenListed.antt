-- The chosen records on a shelf, with their tables.
use Rattle.std.proofs.Common.{◌≡◌, ℕ, ◌+◌, ◌<◌, ◌≤◌, ◌++◌, ◌∷◌, List, [], length, take, get_or, refl, sym, ap, subst, ◌∙◌, arith}
use Rattle.std.specs.Prelude.{All, slice_index}
use Rattle.std.proofs.lemmas.List.{get_or-map, length-map, length-take, map-append, take_more}
use Rattle.log_reading.specs.image_facts.Layout.{slot_count}
use Rattle.base_types.specs.declared.records.Rec.{Rec}
use Rattle.data_blocks.specs.Ledger.{Ledger}
use Rattle.data_blocks.specs.declared.ShadowTable.{ShadowTable}
use Rattle.page_words.specs.store_books.Books.{Logged}
use Rattle.store_facts.specs.Choosing.{table_of, with_tables}
use Rattle.store_facts.specs.Keeping.{AreListed, HasRecounted}
use Rattle.store_facts.specs.Naming.{IsPlaced}

pub recounted_same : (l : Ledger) → HasRecounted l l
recounted_same l = record { only = refl; same_size = refl }

-- an empty shelf, where nothing is named
pub listed_none : (l : Ledger) (kept : List Logged) → kept ≡ [] → ((n : ℕ) → slice_index l.names n ≡ 0) → AreListed l kept
listed_none l kept none unnamed = subst (AreListed l) (sym none) (record { placed = λ i d lt. absurd (omega (arith, lt)); counted = unnamed })

-- one record more
pub with_more : (tables : List ShadowTable) (recs : List Rec) (i : ℕ) (r : Rec) (kept new : List Logged) (table : List ℕ) → i < length recs → r ≡ get_or recs i r → table ≡ table_of tables r.entity → kept ≡ with_tables tables (take i recs)
    → new ≡ kept ++ record { rec = r; table = table } ∷ [] → new ≡ with_tables tables (take (i + 1) recs)
with_more tables recs i r kept new table lt is table_is so_far put =
    put
    ∙ (ap (λ (t : List ℕ). kept ++ record { rec = r; table = t } ∷ []) table_is
    ∙ (ap (λ (ls : List Logged). ls ++ with_tables tables (r ∷ [])) so_far
    ∙ (sym (map-append (λ (q : Rec). record { rec = q; table = table_of tables q.entity }) (take i recs) (r ∷ []))
    ∙ ap (with_tables tables) (ap (λ (q : Rec). take i recs ++ q ∷ []) is ∙ sym (take_more recs i r lt)))))

-- the record at a place is placed
pub placed_at : (first end : ℕ) (tables : List ShadowTable) (recs : List Rec) (i : ℕ) (r : Rec) (table : List ℕ) → All (IsPlaced first end) (with_tables tables recs) → i < length recs → r ≡ get_or recs i r → table ≡ table_of tables r.entity
    → IsPlaced first end (record { rec = r; table = table })
placed_at first end tables recs i r table all lt is table_is =
    let l : Logged = record { rec = r; table = table } in
    let len = length-map {B = Logged} recs (λ (q : Rec). record { rec = q; table = table_of tables q.entity }) in
    let at : get_or (with_tables tables recs) i l ≡ record { rec = r; table = table_of tables r.entity } =
    get_or-map (λ (q : Rec). record { rec = q; table = table_of tables q.entity }) recs i r l lt ∙ ap (λ (q : Rec). record { rec = q; table = table_of tables q.entity }) (sym is) in
    subst (IsPlaced first end) (at ∙ ap (λ (t : List ℕ). record { rec = r; table = t }) (sym table_is)) (all i l (omega (arith, len, lt)))

pub few_listed : (tables : List ShadowTable) (recs : List Rec) (i : ℕ) (kept : List Logged) → kept ≡ with_tables tables (take i recs) → length recs ≤ 64 → length kept < slot_count
few_listed tables recs i kept is few =
    let same = ap length is in
    let all = length-map {B = Logged} (take i recs) (λ (q : Rec). record { rec = q; table = table_of tables q.entity }) in
    let cut = length-take i recs in
    omega (arith, same, all, cut, few)

pub sized_still : (old new : Ledger) → HasRecounted old new → length old.names ≡ old.end → length new.names ≡ new.end
sized_still old new r sized = r.same_size ∙ (sized ∙ sym (ap (λ (l : Ledger). l.end) r.only))

pub placed_still : (old new : Ledger) (l : Logged) → HasRecounted old new → IsPlaced old.first old.end l → IsPlaced new.first new.end l
placed_still old new l r placed =
    subst (λ n. IsPlaced n new.end l) (sym (ap (λ (m : Ledger). m.first) r.only)) (subst (λ n. IsPlaced old.first n l) (sym (ap (λ (m : Ledger). m.end) r.only)) placed)
