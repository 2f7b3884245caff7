-- Kept records as an image holds them stay the same where the blocks that they name do.
use Rattle.std.proofs.Common.{◌≡◌, ℕ, ◌<◌, ◌≤◌, ◌==◌, ◌||◌, Bool, true, false, not, ◌&&◌, inl, inr, if◌then◌else◌, List, [], ◌∷◌, ◌++◌, map, take, zero, suc, refl, sym, ap, subst, ◌∙◌, arith, eq-eqb, eqb-true}
use Rattle.std.specs.Prelude.{Contains}
use Rattle.std.proofs.lemmas.Bool.{cases_lt, false≢true, or_left, or_right}
use Rattle.std.specs.List.{AllByRecursion, concat, flat_map, list_any}
use Rattle.edge_disk.specs.Image.{Image, block_at}
use Rattle.kernel_invariant.specs.image_facts.Bodies.{blob_blocks, blob_in}
use Rattle.kernel_invariant.specs.image_facts.Layout.{pool_at}
use Rattle.kernel_invariant.specs.image_meaning.Stores.{Kept, Page}
use Rattle.kernel_invariant.proofs.Apart.{any_passes, page_names}
use Rattle.kernel_invariant.proofs.store_told_lemmas.Naming.{behind, first_in}
use Rattle.kernel_invariant.specs.store_books.Books.{AreApartFrom, Books, IsApart, IsBeforePool, Logged, is_used, kept_for, kept_in, kept_names, kept_of, names, page_for}
use Rattle.kernel_invariant.specs.store_books.Owning.{NamesPage}

-- A BLOCK OF A KEPT RECORD IS IN USE

not_zero : (n : ℕ) → pool_at ≤ n → (n == 0) ≡ false
not_zero n high = by_test (n == 0) refl
  where
    by_test : (t : Bool) → (n == 0) ≡ t → t ≡ false
    by_test true is = absurd (let zero_is = eqb-true n 0 is in omega (arith, high, zero_is))
    by_test false is = refl

pub blob_named : (n : ℕ) (l : Logged) → pool_at ≤ n → Contains (blob_blocks l.rec) n → names n l ≡ true
blob_named n l high within =
    let there : list_any (λ (m : ℕ). m == n) (blob_blocks l.rec) ≡ true = any_passes (λ (m : ℕ). m == n) (blob_blocks l.rec) n within (eq-eqb n n refl) in
    ap (λ t. not t && (list_any (λ m. m == n) (blob_blocks l.rec) || list_any (λ m. m == n) l.table)) (not_zero n high) ∙ or_left _ (list_any (λ m. m == n) l.table) there

pub kept_named : (b : Books) (n : ℕ) (l : Logged) → Contains (kept_in b) l → names n l ≡ true → kept_names b n ≡ true
kept_named b n l within is = or_right b.found (list_any (names n) (kept_in b)) (any_passes (names n) (kept_in b) l within is)

-- AS IMAGES HOLD THEM

module _ (old new : Image) where
  blocks_same : (xs : List ℕ) → ((n : ℕ) → Contains xs n → block_at new n ≡ block_at old n) → map (block_at new) xs ≡ map (block_at old) xs
  blocks_same [] same = refl
  blocks_same (x ∷ xs) same =
      ap (λ (y : List ℕ). y ∷ map (block_at new) xs) (same x (first_in x xs))
      ∙ ap (λ (ys : List (List ℕ)). block_at old x ∷ ys) (blocks_same xs (λ n within. same n (behind x n xs within)))

  abbrev page_by : Bool → Page → List Page
  page_by t p = if t then [] else p ∷ []

  page_same : (n : ℕ) → ((n == 0) ≡ false → block_at new n ≡ block_at old n) → page_for new n ≡ page_for old n
  page_same n same = by_test (n == 0) refl
    where
      by_test : (t : Bool) → (n == 0) ≡ t → page_by t (record { block = n; bytes = block_at new n }) ≡ page_by t (record { block = n; bytes = block_at old n })
      by_test true is = refl
      by_test false is = ap (λ (bytes : List ℕ). page_by false (record { block = n; bytes = bytes })) (same is)

  pages_same : (xs : List ℕ) → ((n : ℕ) → Contains xs n → (n == 0) ≡ false → block_at new n ≡ block_at old n) → flat_map (page_for new) xs ≡ flat_map (page_for old) xs
  pages_same [] same = refl
  pages_same (x ∷ xs) same =
      ap (λ (ps : List Page). ps ++ flat_map (page_for new) xs) (page_same x (same x (first_in x xs)))
      ∙ ap (λ (ps : List Page). page_for old x ++ ps) (pages_same xs (λ n within. same n (behind x n xs within)))

  kept_one : (l : Logged) → ((n : ℕ) → Contains (blob_blocks l.rec) n → block_at new n ≡ block_at old n) → ((n : ℕ) → Contains l.table n → (n == 0) ≡ false → block_at new n ≡ block_at old n)
      → kept_for new l ≡ kept_for old l
  kept_one l blob pages =
      ap (λ (bytes : List ℕ). record { rec = l.rec; blob = bytes; pages = flat_map (page_for new) l.table }) (ap (λ (room : List (List ℕ)). take l.rec.length (concat room)) (blocks_same (blob_blocks l.rec) blob))
      ∙ ap (λ (ps : List Page). record { rec = l.rec; blob = blob_in old l.rec; pages = ps }) (pages_same l.table pages)

  kept_all : (ls : List Logged) → ((l : Logged) → Contains ls l → kept_for new l ≡ kept_for old l) → map (kept_for new) ls ≡ map (kept_for old) ls
  kept_all [] same = refl
  kept_all (l ∷ ls) same =
      ap (λ (k : Kept). k ∷ map (kept_for new) ls) (same l (first_in l ls))
      ∙ ap (λ (ks : List Kept). kept_for old l ∷ ks) (kept_all ls (λ m within. same m (behind l m ls within)))

each_in : {A : Type 0} (P : A → Type 0) (xs : List A) (x : A) → AllByRecursion P xs → Contains xs x → P x
each_in P [] x all (i, lt, at) = absurd (omega (arith, lt))
each_in P (y ∷ ys) x all (zero, lt, at) = subst P at all.0
each_in P (y ∷ ys) x all (suc i, lt, at) = each_in P ys x all.1 (i, omega (arith, lt), at)

each_map : {A B : Type 0} (f : A → B) (P : B → Type 0) (xs : List A) (x : A) → AllByRecursion P (map f xs) → Contains xs x → P (f x)
each_map f P [] x all (i, lt, at) = absurd (omega (arith, lt))
each_map f P (y ∷ ys) x all (zero, lt, at) = subst (λ z. P (f z)) at all.0
each_map f P (y ∷ ys) x all (suc i, lt, at) = each_map f P ys x all.1 (i, omega (arith, lt), at)

high_of : (n : ℕ) → (n < pool_at → ⊥) → pool_at ≤ n
high_of n not_low = elim (cases_lt n pool_at) [
  | inl low ↦ absurd (not_low low)
  | inr high ↦ high
]

-- the blocks of a kept record's blob are of the pool
pub blob_high : (b : Books) (image : Image) → AreApartFrom IsBeforePool (kept_of image b) → (l : Logged) (n : ℕ) → Contains (kept_in b) l → Contains (blob_blocks l.rec) n → pool_at ≤ n
blob_high b image blobs l n kept within = high_of n (each_in (λ n. n < pool_at → ⊥) (blob_blocks l.rec) n (each_map (kept_for image) (IsApart IsBeforePool) (kept_in b) l blobs kept).blob within)

module _ (b : Books) (old new : Image) (same : (n : ℕ) → pool_at ≤ n → is_used b n ≡ true → block_at new n ≡ block_at old n)
    (blobs : (l : Logged) (n : ℕ) → Contains (kept_in b) l → Contains (blob_blocks l.rec) n → pool_at ≤ n)
    (pages : (l : Logged) (n : ℕ) → Contains (kept_in b) l → NamesPage l.table n → pool_at ≤ n) where
  used_by : (n : ℕ) (l : Logged) → Contains (kept_in b) l → names n l ≡ true → is_used b n ≡ true
  used_by n l within is = or_right (b.held n) (kept_names b n) (kept_named b n l within is)

  -- where the blocks in use are the same, the kept records as they were held are held so again
  pub kept_same : kept_of new b ≡ kept_of old b
  kept_same = kept_all old new (kept_in b) (λ l kept. kept_one old new l
      (λ n within. (let high = blobs l n kept within in same n high (used_by n l kept (blob_named n l high within))))
      (λ n within some. (
      let page : NamesPage l.table n = ((λ zero_is. false≢true (sym some ∙ eq-eqb n 0 zero_is)), within) in
      same n (pages l n kept page) (used_by n l kept (page_names l n page)))))
