-- Page tables of parts that fit.
use Rattle.std.proofs.Common.{◌≡◌, ◌≢◌, ℕ, zero, suc, ◌+◌, ◌<◌, ◌≤◌, List, [], ◌∷◌, ◌++◌, length, map, get_or, Option, Some, None, refl, sym, ap, subst, ◌∙◌, ⊎_elim, arith}
use Rattle.std.specs.Prelude.{All, replicate, slice_get, slice_index, slice_index_or}
use Rattle.std.proofs.lemmas.Bool.{cases_lt}
use Rattle.std.proofs.lemmas.List.{get_or_past, length-map, length-replicate, map-append, get_or_append_left, get_or_push}
use Rattle.std.proofs.lemmas.List.Elements.{All-from_get_or}
use Rattle.std.proofs.lemmas.Option.{slice_get-get_or}
use Rattle.image_blocks.specs.image_facts.Layout.{pool_at}
use Rattle.image_chosen_facts.specs.image_meaning.Parts.{Part, table_in}
use Rattle.image_chosen_facts.specs.log_reading.declared.log.ImageLog.{ImageLog}
use Rattle.data_blocks.specs.declared.ShadowTable.{ShadowTable}
use Rattle.image_chosen_facts.specs.image_fits.Chosen.{entity_at, part_of, parts_of}
use Rattle.image_chosen_facts.proofs.image_fits_lemmas.Choices.{read_at}
use Rattle.image_chosen_facts.specs.image_fits.declared.chosen.ChosenEntity.{ChosenEntity}
use Rattle.image_chosen_facts.specs.image_fits.declared.chosen.ChosenPart.{ChosenPart}
use Rattle.image_chosen_facts.specs.image_fits.declared.chosen.ChosenPart.TheVariants.{Atlas, Container, Locus}
use Rattle.image_chosen_facts.specs.blob_reading.declared.containers.ContainerBlob.{ContainerBlob}
use Rattle.image_chosen.specs.Parts.{ArePartsOf}
use Rattle.image_chosen_facts.specs.Tables.{ArePlaced, AreTablesOf, IsTableOf, blocks_in, table_at}
use Rattle.image_chosen.specs.declared.parts.ImageParts.{ImageParts}

abbrev IsPlace : ℕ → ℕ → Type 0
IsPlace count n = n ≢ 0 → (pool_at ≤ n) × (n < count)

-- a block that a part names is in the pool
placed_block : (log : ImageLog) (parts : ImageParts) → ArePartsOf log parts → (x page n : ℕ) (o : Option Part) → parts_of parts.entities.items x ≡ o → n ≡ slice_index (blocks_in o) page → IsPlace log.blocks n
placed_block log parts are x page n None at is some = absurd (some is)
placed_block log parts are x page n (Some part) at is some = ⊎_elim
    (λ (lt : page < length (table_in part)).
    let here : slice_get (table_in part) page ≡ Some n = slice_get-get_or (table_in part) page 0 lt ∙ ap Some (sym is) in
    ((are.fit x part at).blocks page n here some).pool)
    (λ (past : length (table_in part) ≤ page). absurd (some (is ∙ get_or_past (table_in part) page 0 past)))
    (cases_lt page (length (table_in part)))

placed_table : (log : ImageLog) (parts : ImageParts) → ArePartsOf log parts → (x : ℕ) (table : List ℕ) → IsTableOf (blocks_in (parts_of parts.entities.items x)) table → All (IsPlace log.blocks) table
placed_table log parts are x table is =
    All-from_get_or (IsPlace log.blocks) table 0
    (λ k lt. placed_block log parts are x k (get_or table k 0) (parts_of parts.entities.items x) refl (is.same k (let long = is.long in omega (arith, lt, long))))

-- past the last table there is none
table_past : (tables : List ShadowTable) (x : ℕ) → length tables ≤ x → table_at tables x ≡ []
table_past tables x past = get_or_past (map (λ (t : ShadowTable). t.0) tables) x [] (let e = length-map tables (λ (t : ShadowTable). t.0) in omega (arith, e, past))

pub tables_placed : (log : ImageLog) (parts : ImageParts) (tables : List ShadowTable) → AreTablesOf parts.entities.items tables → ArePartsOf log parts → ArePlaced log tables
tables_placed log parts tables each are x = ⊎_elim
    (λ (lt : x < length parts.entities.items). placed_table log parts are x (table_at tables x) (each.each x lt))
    (λ (past : length parts.entities.items ≤ x).
    subst (λ (table : List ℕ). All (IsPlace log.blocks) table) (sym (table_past tables x (let same = each.places in omega (arith, past, same)))) (λ k d lt. absurd (omega (arith, lt))))
    (cases_lt x (length parts.entities.items))

-- ONE MORE

abbrev pub TablesTo : List (Option ChosenEntity) → List ShadowTable → ℕ → Type 0
TablesTo es tables n = (x : ℕ) → x < n → IsTableOf (blocks_in (parts_of es x)) (table_at tables x)

front_table : (tables : List ShadowTable) (t : ShadowTable) (x : ℕ) → x < length tables → table_at (tables ++ t ∷ []) x ≡ table_at tables x
front_table tables t x lt =
    ap (λ (l : List (List ℕ)). slice_index_or l x []) (map-append (λ (u : ShadowTable). u.0) tables (t ∷ []))
    ∙ get_or_append_left (map (λ (u : ShadowTable). u.0) tables) (t.0 ∷ []) [] x (let e = length-map tables (λ (u : ShadowTable). u.0) in omega (arith, e, lt))

last_table : (tables : List ShadowTable) (t : ShadowTable) (n : ℕ) → length tables ≡ n → table_at (tables ++ t ∷ []) n ≡ t.0
last_table tables t n long =
    ap (λ (l : List (List ℕ)). slice_index_or l n []) (map-append (λ (u : ShadowTable). u.0) tables (t ∷ []))
    ∙ get_or_push (map (λ (u : ShadowTable). u.0) tables) t.0 [] n (length-map tables (λ (u : ShadowTable). u.0) ∙ long)

pub tables_more : (es : List (Option ChosenEntity)) (tables : List ShadowTable) (t : ShadowTable) (n : ℕ) → length tables ≡ n → TablesTo es tables n → IsTableOf (blocks_in (parts_of es n)) t.0
    → TablesTo es (tables ++ t ∷ []) (n + 1)
tables_more es tables t n long before here x lt = ⊎_elim
    (λ (less : x < n). subst (IsTableOf (blocks_in (parts_of es x))) (sym (front_table tables t x (omega (arith, less, long)))) (before x less))
    (λ (high : n ≤ x).
    let same : n ≡ x = omega arith in
    subst (λ (k : ℕ). IsTableOf (blocks_in (parts_of es k)) (table_at (tables ++ t ∷ []) k)) same (subst (IsTableOf (blocks_in (parts_of es n))) (sym (last_table tables t n long)) here))
    (cases_lt x n)

-- TABLES WITHOUT A BLOCK

zero_at : (n k : ℕ) → slice_index (replicate n 0) k ≡ 0
zero_at zero k = refl
zero_at (suc n) zero = refl
zero_at (suc n) (suc k) = zero_at n k

pub zero_table : (table : List ℕ) (k : ℕ) → table ≡ replicate 256 0 → slice_index table k ≡ 0
zero_table table k is = ap (λ (l : List ℕ). slice_index l k) is ∙ zero_at 256 k

pub empty_table : (table : List ℕ) → table ≡ replicate 256 0 → IsTableOf [] table
empty_table table is = record { long = ap length is ∙ length-replicate {A = ℕ} 256 0; same = λ page lt. zero_table table page is }

-- only a container's part names pages' blocks
pub no_pages : (p : ChosenPart) → ((c : ContainerBlob) → p ≡ Container c → ⊥) → table_in (part_of p) ≡ []
no_pages (Atlas a) none = refl
no_pages (Container c) none = absurd (none c refl)
no_pages (Locus l) none = refl

-- THE LOOP OVER ENTITIES

pub read_entity_at : (es read : List (Option ChosenEntity)) (n : ℕ) (o : Option ChosenEntity) → read ≡ es → n < length read → o ≡ get_or read n o → entity_at es n ≡ o
read_entity_at es read n o same lt is = ap (λ (l : List (Option ChosenEntity)). entity_at l n) (sym same) ∙ read_at read n o lt is

pub tables_whole : (es read : List (Option ChosenEntity)) (tables : List ShadowTable) (n : ℕ) → read ≡ es → length read ≤ n → n ≤ length read → length tables ≡ n → TablesTo es tables n → AreTablesOf es tables
tables_whole es read tables n same past within long to =
    let size : length read ≡ length es = ap length same in
    record {
      places = omega (arith, size, past, within, long);
      each = λ x lt. to x (omega (arith, size, past, lt));
    }
