-- Records on a shelf.
use Rattle.std.specs.Prelude.{◌≡◌, ℕ, ◌<◌, List, [], ◌∷◌, Bool, ◌==◌, count_by, nat_le, slice_index}
use Rattle.base_types.specs.declared.records.Rec.{Rec}
use Rattle.data_blocks.specs.declared.ShadowTable.{ShadowTable}
use Rattle.page_words.specs.store_books.Books.{Logged}

-- each record with the table at its place
abbrev pub logged_with : List Rec → List ShadowTable → List Logged
logged_with [] tables = []
logged_with (r ∷ rs) [] = []
logged_with (r ∷ rs) (t ∷ ts) = record { rec = r; table = t.0 } ∷ logged_with rs ts

-- the record is at or above a choice
abbrev pub is_from : (ℕ → ℕ) → Logged → Bool
is_from cut l = nat_le (cut l.rec.entity) l.rec.version

-- what stands at a place where no record is
abbrev pub nothing_logged : Logged
nothing_logged = record { rec = record { entity = 0; version = 0; stamp = []; length = 0; blocks = [] }; table = [] }

-- how many of the records are of an entity
abbrev pub records_of : ℕ → List Logged → ℕ
records_of x ls = count_by (λ (l : Logged). l.rec.entity == x) ls

-- for each entity, so many of these records are its own
abbrev pub AreTallied : List ℕ → List Rec → Type 0
AreTallied counts recs = (x : ℕ) → x < 64 → slice_index counts x ≡ count_by (λ (r : Rec). r.entity == x) recs
