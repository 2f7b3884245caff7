-- The chosen records of an image, ascending by entity.
use Rattle.std.specs.Prelude.{◌≡◌, ◌⊎◌, ℕ, List, [], ◌∷◌, false, ◌||◌, Option, Some, None, map, slice_index, slice_index_or}
use Rattle.std.specs.List.{flat_map, list_any}
use Rattle.edge_disk.specs.Image.{Image, SameOutside}
use Rattle.base_types.specs.Edges.{upto}
use Rattle.base_types.specs.declared.records.Rec.{Rec}
use Rattle.log_reading.specs.image_facts.Checks.{count_in}
use Rattle.log_reading.specs.image_blocks.Logs.{HasRecords, next_place}
use Rattle.page_words.specs.image_meaning.Parts.{chosen_by}
use Rattle.data_blocks.specs.declared.ShadowTable.{ShadowTable}
use Rattle.store_facts.specs.Holds.{names_page}
use Rattle.store_facts.specs.State.{State, books}
use Rattle.page_words.specs.store_books.Books.{Books, IsBeforePool, Logged, logged_recs, recs_in}

abbrev pub listed : Option Rec → List Rec
listed None = []
listed (Some r) = r ∷ []

-- the chosen records of these entities, in their order
abbrev pub chosen_list : (ℕ → ℕ) → List Rec → List ℕ → List Rec
chosen_list cut recs xs = flat_map (λ x. listed (chosen_by cut recs x)) xs

-- those of a store
unfoldable pub are_chosen : {D : Type 0} → State D → List Rec
are_chosen st = chosen_list (slice_index st.cut.0) (logged_recs st.log) (upto 64)

-- the table of an entity
abbrev pub table_of : List ShadowTable → ℕ → List ℕ
table_of tables x = slice_index_or (map (λ (t : ShadowTable). t.0) tables) x []

-- each record with the table of its entity
abbrev pub with_tables : List ShadowTable → List Rec → List Logged
with_tables tables recs = map (λ (r : Rec). record { rec = r; table = table_of tables r.entity }) recs

-- WHAT A STOP LEAVES: outside of the areas what reads, and a log of the records that were found, or of the chosen ones
pub record IsKeeping (reading : Image) (b : Books) (chosen : List Rec) (c : Image) : Type 0 where
  pub same : SameOutside IsBeforePool reading c
  pub blocks : count_in c ≡ b.count
  pub records : HasRecords (recs_in b) c ⊎ HasRecords chosen c

-- THE STORE AS IT IS THEN: its log and its kept records are the chosen ones with their tables, whose blocks are held too, and no block counts as
-- named that none of them names
abbrev pub kept_rows : {D : Type 0} → List ShadowTable → State D → List Logged
kept_rows tables st = with_tables tables (are_chosen st)

-- its books, at the place where the log stands
abbrev pub books_kept : {D : Type 0} → List ShadowTable → State D → Books
books_kept tables st = record (books st) { logged = kept_rows tables st; found = false }

pub record HasKept {D : Type 0} (tables : List ShadowTable) (old new : State D) : Type 0 where
  pub log : new.log ≡ kept_rows tables old
  pub kept : new.kept ≡ kept_rows tables old
  pub cut : new.cut ≡ old.cut
  pub read : (books new).found ≡ false
  pub held : (n : ℕ) → (books new).held n ≡ ((books old).held n || list_any (names_page n) (kept_rows tables old))
  pub same_count : (books new).count ≡ (books old).count
  pub same_small : (books new).small ≡ (books old).small
  pub working : (books new).shut ≡ false
  pub place : (books new).place ≡ next_place (books old).place
