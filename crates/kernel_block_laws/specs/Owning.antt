-- A record that a store puts behind its log, against the working page tables.
use Rattle.std.specs.Prelude.{◌≡◌, ℕ, ◌≤◌, ◌<◌, ◌⊎◌, true, false, List, [], ◌∷◌, ◌++◌, Contains, slice_index}
use Rattle.kernel_invariant.specs.image_facts.Bodies.{blob_blocks}
use Rattle.kernel_invariant.specs.image_facts.Layout.{pool_at}
use Rattle.kernel_invariant.specs.store_books.Books.{Books, Logged, is_used, kept_in}

-- Its pages are those of its entity's working table, in the pool, and the blocks of its blob weren't in use. Nothing else is another.
pub record PutsRecord (old new : Books) (tables : ℕ → List ℕ) (l : Logged) : Type 0 where
  pub log : (new.logged ≡ old.logged ++ l ∷ []) ⊎ (new.logged ≡ kept_in old ++ l ∷ [])
  pub table : (p : ℕ) → slice_index l.table p ≡ slice_index (tables l.rec.entity) p
  pub pool : (n : ℕ) → old.held n ≡ true → (pool_at ≤ n) × (n < old.count)
  pub fresh : (n : ℕ) → Contains (blob_blocks l.rec) n → is_used old n ≡ false
  pub held : new.held ≡ old.held
  pub count : new.count ≡ old.count
