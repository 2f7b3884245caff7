-- Blocks that no kept record names, and the pages of a table.
use Rattle.std.proofs.Common.{◌≡◌, ◌≢◌, ℕ, zero, suc, Bool, true, false, not, ◌==◌, if◌then◌else◌, List, [], ◌∷◌, ◌++◌, map, Contains, refl, sym, ap, ◌∙◌, eq-eqb, arith}
use Rattle.std.specs.List.{AllByRecursion, flat_map, list_any}
use Rattle.edge_disk.specs.Image.{Image, block_at}
use Rattle.store_books.specs.image_facts.Bodies.{blob_blocks}
use Rattle.store_books.proofs.image_facts_lemmas.Firsts.{ne_test}
use Rattle.store_books.specs.image_meaning.Stores.{Page}
use Rattle.store_books.specs.Books.{AreApartFrom, Logged, kept_for, names, page_for}
use Rattle.std.proofs.lemmas.Bool.{and_from, or_left, or_right}

-- what holds of each item
pub all_of : {X : Type 0} (P : X → Type 0) (xs : List X) → ((x : X) → Contains xs x → P x) → AllByRecursion P xs
all_of P [] each = tt
all_of P (x ∷ xs) each = (each x (0, omega arith, refl), all_of P xs (λ y (i, lt, is). each y (suc i, omega (arith, lt), is)))

-- an item that passes is found
pub any_in : {X : Type 0} (test : X → Bool) (xs : List X) (x : X) → Contains xs x → test x ≡ true → list_any test xs ≡ true
any_in test [] x (i, lt, is) e = absurd (omega (arith, lt))
any_in test (y ∷ xs) x (zero, lt, is) e = or_left (test y) (list_any test xs) (ap test is ∙ e)
any_in test (y ∷ xs) x (suc i, lt, is) e = or_right (test y) (list_any test xs) (any_in test xs x (i, omega (arith, lt), is) e)

not_zero : (n : ℕ) → n ≢ 0 → not (n == 0) ≡ true
not_zero n some = ap not (ne_test n 0 some)

item_test : (xs : List ℕ) (n : ℕ) → Contains xs n → list_any (λ m. m == n) xs ≡ true
item_test xs n there = any_in (λ m. m == n) xs n there (eq-eqb n n refl)

pub names_blob : (l : Logged) (n : ℕ) → n ≢ 0 → Contains (blob_blocks l.rec) n → names n l ≡ true
names_blob l n some there = and_from (not (n == 0)) _ (not_zero n some) (or_left (list_any (λ m. m == n) (blob_blocks l.rec)) (list_any (λ m. m == n) l.table) (item_test (blob_blocks l.rec) n there))

pub names_page : (l : Logged) (n : ℕ) → n ≢ 0 → Contains l.table n → names n l ≡ true
names_page l n some there = and_from (not (n == 0)) _ (not_zero n some) (or_right (list_any (λ m. m == n) (blob_blocks l.rec)) (list_any (λ m. m == n) l.table) (item_test l.table n there))

-- the pages of a table
page_by : (P : Page → Type 0) (image : Image) (n : ℕ) (rest : List Page) (zero_is : Bool) → (n == 0) ≡ zero_is → (n ≢ 0 → P (record { block = n; bytes = block_at image n })) → AllByRecursion P rest
    → AllByRecursion P ((if zero_is then [] else record { block = n; bytes = block_at image n } ∷ []) ++ rest)
page_by P image n rest true e one all = all
page_by P image n rest false e one all = (one (λ is. let clash : true ≡ false = sym (eq-eqb n 0 is) ∙ e in cc clash), all)

page_all : (P : Page → Type 0) (image : Image) (n : ℕ) (rest : List Page) → (n ≢ 0 → P (record { block = n; bytes = block_at image n })) → AllByRecursion P rest → AllByRecursion P (page_for image n ++ rest)
page_all P image n rest one all = page_by P image n rest (n == 0) refl one all

pub pages_all : (P : Page → Type 0) (image : Image) (table : List ℕ) → ((n : ℕ) → n ≢ 0 → Contains table n → P (record { block = n; bytes = block_at image n })) → AllByRecursion P (flat_map (page_for image) table)
pages_all P image [] each = tt
pages_all P image (n ∷ table) each =
    page_all P image n (flat_map (page_for image) table) (λ some. each n some (0, omega arith, refl)) (pages_all P image table (λ m some (i, lt, is). each m some (suc i, omega (arith, lt), is)))

-- kept records that name none of these blocks are apart from them
pub apart_unnamed : (image : Image) (these : ℕ → Type 0) (ls : List Logged) → ((n : ℕ) → these n → n ≢ 0) → ((n : ℕ) → these n → list_any (names n) ls ≡ false) → AreApartFrom these (map (kept_for image) ls)
apart_unnamed image these ls some unnamed = go ls (λ l there. there)
  where
    clash_of : (l : Logged) (n : ℕ) → Contains ls l → these n → names n l ≡ true → ⊥
    clash_of l n there here named = let clash : true ≡ false = sym (any_in (names n) ls l there named) ∙ unnamed n here in cc clash

    go : (ms : List Logged) → ((l : Logged) → Contains ms l → Contains ls l) → AreApartFrom these (map (kept_for image) ms)
    go [] within = tt
    go (l ∷ ms) within = (
      record {
        blob = all_of (λ n. these n → ⊥) (blob_blocks l.rec) (λ n there here. clash_of l n (within l (0, omega arith, refl)) here (names_blob l n (some n here) there));
        pages = pages_all (λ (p : Page). these p.block → ⊥) image l.table (λ n nonzero there here. clash_of l n (within l (0, omega arith, refl)) here (names_page l n nonzero there));
      },
      go ms (λ m (i, lt, is). within m (suc i, omega (arith, lt), is)),
    )
