-- Of parts that fit each page's block is one page's of one container, and no blob's.
use Rattle.std.proofs.Common.{◌≡◌, ◌≢◌, ℕ, ◌<◌, ◌≤◌, List, length, Option, Some, None, refl, sym, ap, ◌∙◌, ⊎_elim}
use Rattle.std.specs.Prelude.{Contains, slice_get, slice_index}
use Rattle.std.proofs.lemmas.Bool.{cases_eq, cases_lt}
use Rattle.std.proofs.lemmas.List.{get_or_past}
use Rattle.std.proofs.lemmas.Option.{get_or_from_slice_get, slice_get-get_or, slice_get_within}
use Rattle.base_types.specs.declared.records.Rec.{Rec}
use Rattle.image_blobs.specs.image_facts.Bodies.{blob_blocks}
use Rattle.image_blobs.specs.image_facts.Layout.{pool_at}
use Rattle.image_blobs.specs.image_meaning.Fits.{IsNamedOnce}
use Rattle.image_blobs.specs.image_meaning.Parts.{Part, chosen, table_in}
use Rattle.image_chosen_facts.specs.Tables.{blocks_in}
use Rattle.image_blobs.specs.image_fits.Fits.{AreFit}

module _ (count : ℕ) (recs : List Rec) (parts : ℕ → Option Part) (fit : AreFit count recs parts) where
  -- the page of an entity has the block
  pub record HasBlock (x p n : ℕ) : Type 0 where
    pub part : Part
    pub is : parts x ≡ Some part
    pub at : slice_get (table_in part) p ≡ Some n
    pub once : IsNamedOnce count recs parts x (table_in part) p n

  by_part : (x p n : ℕ) (o : Option Part) → parts x ≡ o → n ≢ 0 → slice_index (blocks_in o) p ≡ n → HasBlock x p n
  by_part x p n None is some at = absurd (some (sym at))
  by_part x p n (Some part) is some at = ⊎_elim
      (λ (lt : p < length (table_in part)).
      let here : slice_get (table_in part) p ≡ Some n = slice_get-get_or (table_in part) p 0 lt ∙ ap Some at in
      record { part = part; is = is; at = here; once = (fit x part is).blocks p n here some })
      (λ (past : length (table_in part) ≤ p). absurd (some (sym at ∙ get_or_past (table_in part) p 0 past)))
      (cases_lt p (length (table_in part)))

  pub block_of : (x p n : ℕ) → n ≢ 0 → slice_index (blocks_in (parts x)) p ≡ n → HasBlock x p n
  block_of x p n some at = by_part x p n (parts x) refl some at

  pub block_pool : (x p n : ℕ) → n ≢ 0 → slice_index (blocks_in (parts x)) p ≡ n → (pool_at ≤ n) × (n < count)
  block_pool x p n some at = (block_of x p n some at).once.pool

  there : (table : List ℕ) (p n : ℕ) → slice_get table p ≡ Some n → Contains table n
  there table p n at = (p, slice_get_within table p n at, get_or_from_slice_get table p n n at)

  same_part : (a b : Part) → Some a ≡ Some b → a ≡ b
  same_part a b same = cc

  -- one page has it
  pub one_page : (x y p q n : ℕ) → n ≢ 0 → slice_index (blocks_in (parts x)) p ≡ n → slice_index (blocks_in (parts y)) q ≡ n → (x ≡ y) × (p ≡ q)
  one_page x y p q n some here too =
      let a = block_of x p n some here in
      let b = block_of y q n some too in
      ⊎_elim
      (λ (same : x ≡ y).
      let part : b.part ≡ a.part = same_part b.part a.part (sym b.is ∙ (ap parts (sym same) ∙ a.is)) in
      let at : slice_get (table_in a.part) q ≡ Some n = ap (λ (t : Part). slice_get (table_in t) q) (sym part) ∙ b.at in
      (same, sym (a.once.once q at)))
      (λ (apart : x ≡ y → ⊥).
      absurd ((a.once.others y (λ same. apart (sym same))).by_table b.part b.is (there (table_in b.part) q n b.at)))
      (cases_eq x y)

  -- and no chosen blob
  pub no_blob : (x p y n : ℕ) (r : Rec) → n ≢ 0 → slice_index (blocks_in (parts x)) p ≡ n → chosen recs y ≡ Some r → Contains (blob_blocks r) n → ⊥
  no_blob x p y n r some here is within =
      let a = block_of x p n some here in
      ⊎_elim
      (λ (same : x ≡ y). a.once.blob r (ap (chosen recs) same ∙ is) within)
      (λ (apart : x ≡ y → ⊥). (a.once.others y (λ same. apart (sym same))).by_blob r is within)
      (cases_eq x y)
