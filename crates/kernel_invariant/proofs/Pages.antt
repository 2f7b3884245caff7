-- The pages of records, by the tables that name their blocks.
use Rattle.std.proofs.Common.{◌≡◌, ◌≢◌, ℕ, zero, suc, ◌≤◌, Bool, true, false, ◌==◌, if◌then◌else◌, ◌⊎◌, inl, inr, List, [], ◌∷◌, ◌++◌, length, map, refl, sym, ap, subst, ◌∙◌, arith, eqb-true, eq-eqb}
use Rattle.std.specs.Prelude.{Contains, slice_index}
use Rattle.std.specs.List.{flat_map}
use Rattle.std.proofs.lemmas.Bool.{false≢true}
use Rattle.edge_disk.specs.Image.{Image, block_at}
use Rattle.store_books.specs.image_meaning.Describing.{HasPage, bytes_of}
use Rattle.store_books.specs.image_meaning.Stores.{Page}
use Rattle.store_books.specs.Books.{page_for}
use Rattle.store_books.specs.Owning.{NamesPage}
use Rattle.store_told.proofs.Naming.{behind, first_in}

pub of_map : {A B : Type 0} (f : A → B) (xs : List A) (y : B) → Contains (map f xs) y → (x : A) × Contains xs x × (f x ≡ y)
of_map f [] y (i, lt, at) = absurd (omega (arith, lt))
of_map f (x ∷ xs) y (zero, lt, at) = (x, first_in x xs, at)
of_map f (x ∷ xs) y (suc i, lt, at) = (let m = of_map f xs y (i, omega (arith, lt), at) in (m.0, behind x m.0 xs m.1, m.2))

pub of_more : {A : Type 0} (xs : List A) (y z : A) → Contains (xs ++ y ∷ []) z → Contains xs z ⊎ (y ≡ z)
of_more [] y z (zero, lt, at) = inr at
of_more [] y z (suc i, lt, at) = absurd (omega (arith, lt))
of_more (x ∷ xs) y z (zero, lt, at) = inl (0, omega arith, at)
of_more (x ∷ xs) y z (suc i, lt, at) = elim (of_more xs y z (i, omega (arith, lt), at)) as (λ _. Contains (x ∷ xs) z ⊎ (y ≡ z)) [ inl h ↦ inl (behind x z xs h) | inr h ↦ inr h ]

module _ (image : Image) where
  abbrev pub pages_for : List ℕ → List Page
  pages_for table = flat_map (page_for image) table

  -- by whether the first page has a block
  one_has : (t n : ℕ) (ps : List Page) (b : Bool) → HasPage ps n → HasPage ((if b then [] else record { block = t; bytes = block_at image t } ∷ []) ++ ps) n
  one_has t n ps true has = has
  one_has t n ps false has = inr has

  first_has : (t : ℕ) (ps : List Page) (b : Bool) → (t == 0) ≡ b → t ≢ 0 → HasPage ((if b then [] else record { block = t; bytes = block_at image t } ∷ []) ++ ps) t
  first_has t ps true e some = absurd (some (eqb-true t 0 e))
  first_has t ps false e some = inl refl

  -- a block that the table names is a page's
  pub has_page : (table : List ℕ) (p : ℕ) → slice_index table p ≢ 0 → HasPage (pages_for table) (slice_index table p)
  has_page [] p some = absurd (some refl)
  has_page (t ∷ ts) zero some = first_has t (pages_for ts) (t == 0) refl some
  has_page (t ∷ ts) (suc p) some = one_has t (slice_index ts p) (pages_for ts) (t == 0) (has_page ts p some)

  named_one : (t n : ℕ) (ts : List ℕ) (b : Bool) → (t == 0) ≡ b → (HasPage (pages_for ts) n → NamesPage ts n)
      → HasPage ((if b then [] else record { block = t; bytes = block_at image t } ∷ []) ++ pages_for ts) n → NamesPage (t ∷ ts) n
  named_one t n ts true e rest has = (let m = rest has in (m.0, behind t n ts m.1))
  named_one t n ts false e rest (inl is) = ((λ none. false≢true (sym e ∙ eq-eqb t 0 (is ∙ none))), subst (Contains (t ∷ ts)) is (first_in t ts))
  named_one t n ts false e rest (inr has) = (let m = rest has in (m.0, behind t n ts m.1))

  -- and each page's block is named by it
  pub page_named : (table : List ℕ) (n : ℕ) → HasPage (pages_for table) n → NamesPage table n
  page_named [] n has = elim has [ ]
  page_named (t ∷ ts) n has = named_one t n ts (t == 0) refl (page_named ts n) has

  bytes_one : (t n : ℕ) (ps : List Page) (b d : Bool) → (t == n) ≡ d → (HasPage ps n → bytes_of ps n ≡ block_at image n)
      → HasPage ((if b then [] else record { block = t; bytes = block_at image t } ∷ []) ++ ps) n
      → bytes_of ((if b then [] else record { block = t; bytes = block_at image t } ∷ []) ++ ps) n ≡ block_at image n
  bytes_one t n ps true d e rest has = rest has
  bytes_one t n ps false true e rest has = rw e (ap (block_at image) (eqb-true t n e))
  bytes_one t n ps false false e rest (inl is) = absurd (false≢true (sym e ∙ eq-eqb t n is))
  bytes_one t n ps false false e rest (inr has) = rw e (rest has)

  -- its bytes are those of the image
  pub page_bytes : (table : List ℕ) (n : ℕ) → HasPage (pages_for table) n → bytes_of (pages_for table) n ≡ block_at image n
  page_bytes [] n has = elim has [ ]
  page_bytes (t ∷ ts) n has = bytes_one t n (pages_for ts) (t == 0) (t == n) refl (page_bytes ts n) has

  none_one : (t : ℕ) (ps : List Page) (b : Bool) → (t == 0) ≡ b → t ≡ 0 → length ps ≤ 0 → length ((if b then [] else record { block = t; bytes = block_at image t } ∷ []) ++ ps) ≤ 0
  none_one t ps true e zero_is few = few
  none_one t ps false e zero_is few = absurd (false≢true (sym e ∙ eq-eqb t 0 zero_is))

  one_more : (t m : ℕ) (ps : List Page) (b : Bool) → length ps ≤ m → length ((if b then [] else record { block = t; bytes = block_at image t } ∷ []) ++ ps) ≤ suc m
  one_more t m ps true few = omega (arith, few)
  one_more t m ps false few = omega (arith, few)

  -- there are at most as many pages as another table has places, which names the same
  pub few_pages : (table other : List ℕ) → ((p : ℕ) → slice_index table p ≡ slice_index other p) → length (pages_for table) ≤ length other
  few_pages [] other same = omega arith
  few_pages (t ∷ ts) [] same = none_one t (pages_for ts) (t == 0) refl (same 0) (few_pages ts [] (λ p. same (suc p)))
  few_pages (t ∷ ts) (u ∷ us) same = one_more t (length us) (pages_for ts) (t == 0) (few_pages ts us (λ p. same (suc p)))
