-- The pages of kept records stand apart where the blocks have one owner.
use Rattle.std.proofs.Common.{◌≡◌, ℕ, zero, suc, ◌≤◌, ◌<◌, Bool, true, false, not, ◌&&◌, ◌||◌, ◌==◌, inl, inr, List, [], ◌∷◌, ◌++◌, refl, sym, ap, subst, ◌∙◌, arith, eqb-true, eq-eqb}
use Rattle.std.specs.Prelude.{Contains}
use Rattle.std.specs.List.{list_any}
use Rattle.std.proofs.lemmas.Bool.{false≢true}
use Rattle.edge_disk.specs.Image.{Image}
use Rattle.store_books.specs.image_facts.Bodies.{blob_blocks}
use Rattle.store_books.specs.image_facts.Layout.{pool_at}
use Rattle.store_books.specs.image_meaning.Describing.{HasPage}
use Rattle.store_books.specs.image_meaning.Stores.{Kept}
use Rattle.store_books.specs.Books.{Books, Logged, is_used, kept_for, kept_in, kept_names, kept_of, names}
use Rattle.store_books.specs.Owning.{AreOwned, NamesPage}
use Rattle.kernel_invariant.specs.Owning.{IsApartNew}
use Rattle.store_told.specs.Told.{ArePagesApart}
use Rattle.kernel_invariant.proofs.Pages.{of_map, of_more, page_named}
use Rattle.store_books.proofs.Owners.{place_in}

-- a test that some item of a list passes
pub any_passes : {A : Type 0} (f : A → Bool) (xs : List A) (x : A) → Contains xs x → f x ≡ true → list_any f xs ≡ true
any_passes f [] x (i, lt, at) h = absurd (omega (arith, lt))
any_passes f (y ∷ ys) x (zero, lt, at) h = rw (ap f at ∙ h) refl
any_passes f (y ∷ ys) x (suc i, lt, at) h = or_right (f y) (list_any f ys) (any_passes f ys x (i, omega (arith, lt), at) h)
  where
    or_right : (a b : Bool) → b ≡ true → (a || b) ≡ true
    or_right true b h = refl
    or_right false b h = h

-- a record names the blocks of its pages
pub page_names : (l : Logged) (n : ℕ) → NamesPage l.table n → names n l ≡ true
page_names l n (some, within) = by_zero (n == 0) refl
  where
    or_true : (a : Bool) → (a || true) ≡ true
    or_true true = refl
    or_true false = refl

    by_zero : (z : Bool) → (n == 0) ≡ z → (not z && (list_any (λ m. m == n) (blob_blocks l.rec) || list_any (λ m. m == n) l.table)) ≡ true
    by_zero true e = absurd (some (eqb-true n 0 e))
    by_zero false e =
        let there : list_any (λ (m : ℕ). m == n) l.table ≡ true = any_passes (λ (m : ℕ). m == n) l.table n within (eq-eqb n n refl) in
        ap (λ t. list_any (λ (m : ℕ). m == n) (blob_blocks l.rec) || t) there ∙ or_true (list_any (λ m. m == n) (blob_blocks l.rec))

module _ (b : Books) (tables : ℕ → List ℕ) (image : Image) (o : AreOwned b tables) where
  -- a kept record with its pages comes from one of the books
  record Comes (k : Kept) : Type 0 where
    logged : Logged
    within : Contains (kept_in b) logged
    entity : logged.rec.entity ≡ k.rec.entity
    blob : blob_blocks logged.rec ≡ blob_blocks k.rec
    pages : (n : ℕ) → HasPage k.pages n → NamesPage logged.table n

  comes : (k : Kept) → Contains (kept_of image b) k → Comes k
  comes k within =
      let l = of_map (kept_for image) (kept_in b) k within in
      record {
        logged = l.0;
        within = l.1;
        entity = ap (λ (m : Kept). m.rec.entity) l.2;
        blob = ap (λ (m : Kept). blob_blocks m.rec) l.2;
        pages = λ n has. page_named image l.0.table n (subst (λ (m : Kept). HasPage m.pages n) (sym l.2) has);
      }

  kept_pool : (k : Kept) (n : ℕ) → Comes k → HasPage k.pages n → (pool_at ≤ n) × (n < b.count)
  kept_pool k n c has = o.kept_pool c.logged n c.within (c.pages n has)

  kept_blob : (k m : Kept) (n : ℕ) → Comes k → Comes m → HasPage k.pages n → Contains (blob_blocks m.rec) n → ⊥
  kept_blob k m n c d has named = o.not_blob c.logged d.logged n c.within d.within (c.pages n has) (subst (λ (ns : List ℕ). Contains ns n) (sym d.blob) named)

  kept_own : (k m : Kept) (n : ℕ) → Comes k → Comes m → HasPage k.pages n → HasPage m.pages n → k.rec.entity ≡ m.rec.entity
  kept_own k m n c d has too =
      let one = c.pages n has in
      let other = d.pages n too in
      let p = place_in c.logged.table n one.1 in
      let q = place_in d.logged.table n other.1 in
      sym c.entity ∙ ((o.kept_once c.logged d.logged p.0 q.0 c.within d.within (λ none. one.0 (sym p.1 ∙ none)) (p.1 ∙ sym q.1)).0 ∙ d.entity)

  pub kept_apart : ArePagesApart b.count (kept_of image b)
  kept_apart = record {
    pool = λ k n within has. kept_pool k n (comes k within) has;
    not_blob = λ k m n within too has named. kept_blob k m n (comes k within) (comes m too) has named;
    own = λ k m n within too has same. kept_own k m n (comes k within) (comes m too) has same;
  }

  -- A RECORD MORE
  module _ (new : Kept) (a : IsApartNew b tables new) where
    -- a block of a kept record is in use
    used_by : (l : Logged) (n : ℕ) → Contains (kept_in b) l → names n l ≡ true → is_used b n ≡ true
    used_by l n within named = or_right (b.held n) (kept_names b n) (or_right b.found (list_any (names n) (kept_in b)) (any_passes (names n) (kept_in b) l within named))
      where
        or_right : (a b : Bool) → b ≡ true → (a || b) ≡ true
        or_right true b h = refl
        or_right false b h = h

    held_used : (n : ℕ) → b.held n ≡ true → is_used b n ≡ true
    held_used n held = ap (λ t. t || kept_names b n) held

    fresh_block : (n : ℕ) → Contains (blob_blocks new.rec) n → is_used b n ≡ true → ⊥
    fresh_block n within used = false≢true (sym (a.fresh n within) ∙ used)

    new_held : (n : ℕ) → HasPage new.pages n → b.held n ≡ true
    new_held n has = (o.held n).1 (new.rec.entity, a.pages n has)

    -- a block of the new record's pages is of no other entity's kept record
    new_own : (k : Kept) (n : ℕ) → Comes k → HasPage k.pages n → HasPage new.pages n → k.rec.entity ≡ new.rec.entity
    new_own k n c has too =
        let one = c.pages n has in
        let other = a.pages n too in
        let p = place_in c.logged.table n one.1 in
        let q = place_in (tables new.rec.entity) n other.1 in
        sym c.entity ∙ (o.kept_own c.logged new.rec.entity p.0 q.0 c.within (λ none. one.0 (sym p.1 ∙ none)) (p.1 ∙ sym q.1)).0

    kept_fresh : (k : Kept) (n : ℕ) → Comes k → HasPage k.pages n → Contains (blob_blocks new.rec) n → ⊥
    kept_fresh k n c has named = fresh_block n named (used_by c.logged n c.within (page_names c.logged n (c.pages n has)))

    new_not_blob : (m : Kept) (n : ℕ) → Comes m → HasPage new.pages n → Contains (blob_blocks m.rec) n → ⊥
    new_not_blob m n d has named = o.not_held_blob d.logged n d.within (subst (λ (ns : List ℕ). Contains ns n) (sym d.blob) named) (new_held n has)

    pub more_apart : ArePagesApart b.count (kept_of image b ++ new ∷ [])
    more_apart = record {
      pool = λ k n within has. elim (of_more (kept_of image b) new k within) as (λ _. (pool_at ≤ n) × (n < b.count)) [
        | inl old ↦ kept_pool k n (comes k old) has
        | inr is ↦ a.pool n (new_held n (subst (λ (m : Kept). HasPage m.pages n) (sym is) has))
      ];
      not_blob = λ k m n within too has named. elim (of_more (kept_of image b) new k within) as (λ _. ⊥) [
        | inl old ↦ elim (of_more (kept_of image b) new m too) as (λ _. ⊥) [
          | inl also ↦ kept_blob k m n (comes k old) (comes m also) has named
          | inr is ↦ kept_fresh k n (comes k old) has (subst (λ (q : Kept). Contains (blob_blocks q.rec) n) (sym is) named)
        ]
        | inr is ↦ (let mine : HasPage new.pages n = subst (λ (q : Kept). HasPage q.pages n) (sym is) has in elim (of_more (kept_of image b) new m too) as (λ _. ⊥) [
          | inl also ↦ new_not_blob m n (comes m also) mine named
          | inr at ↦ fresh_block n (subst (λ (q : Kept). Contains (blob_blocks q.rec) n) (sym at) named) (held_used n (new_held n mine))
        ])
      ];
      own = λ k m n within too has same. elim (of_more (kept_of image b) new k within) as (λ _. k.rec.entity ≡ m.rec.entity) [
        | inl old ↦ elim (of_more (kept_of image b) new m too) as (λ _. k.rec.entity ≡ m.rec.entity) [
          | inl also ↦ kept_own k m n (comes k old) (comes m also) has same
          | inr is ↦ new_own k n (comes k old) has (subst (λ (q : Kept). HasPage q.pages n) (sym is) same) ∙ ap (λ (q : Kept). q.rec.entity) is
        ]
        | inr is ↦ (let mine : HasPage new.pages n = subst (λ (q : Kept). HasPage q.pages n) (sym is) has in elim (of_more (kept_of image b) new m too) as (λ _. k.rec.entity ≡ m.rec.entity) [
          | inl also ↦ sym (new_own m n (comes m also) same mine ∙ ap (λ (q : Kept). q.rec.entity) is)
          | inr at ↦ ap (λ (q : Kept). q.rec.entity) (sym is ∙ at)
        ])
      ];
    }
