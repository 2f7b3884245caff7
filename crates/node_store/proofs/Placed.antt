-- A store whose free blocks have a shipment's pages.
use Rattle.std.proofs.Common.{◌≡◌, ◌≢◌, inl, inr, ℕ, ◌<◌, Bool, true, false, arith, List, [], length, Some, refl, sym, ap, ◌∙◌}
use Rattle.std.specs.Prelude.{Contains, slice_get, slice_index}
use Rattle.std.proofs.lemmas.Bool.{cases_lt, false≢true, or_left}
use Rattle.std.proofs.lemmas.Option.{slice_get_past}
use Rattle.edge_disk.specs.declared.disk.Disk.{Ghosts}
use Rattle.edge_disk.specs.Image.{Image}
use Rattle.data_blocks.specs.Ledger.{is_held}
use Rattle.store_snapshots.specs.store_facts.State.{HoldsPoolBlocks, State, books}
use Rattle.store_snapshots.specs.store_facts.Committed.{SameUsed}
use Rattle.store_snapshots.specs.store_books.Books.{Books, kept_names, words_of_bytes}
use Rattle.store_snapshots.specs.store_books.Owning.{AreOwned}
use Rattle.node_commits.specs.Deliveries.{one_table}
use Rattle.page_placing.specs.declared.writing.PageWords.{PageWords}
use Rattle.page_placing.specs.Writing.{AreWritten, HasGivenBack}
use Rattle.kernel_placing.specs.Placing.{stores_of}
use Rattle.kernel_placing.proofs.Owners.{at_place, owned_with}
use Rattle.node_store.specs.Shipping.{HaveBlocks}

nowhere : {n : ℕ} → Contains [] n → ⊥
nowhere (i, lt, at) = omega (arith, lt)

pub below : {A : Type 0} (xs : List A) (k : ℕ) (x : A) → slice_get xs k ≡ Some x → k < length xs
below xs k x at = elim (cases_lt k (length xs)) as (λ _. k < length xs) [
  | inl lt ↦ lt
  | inr past ↦ (let none = slice_get_past xs k past in absurd (cc (none, at)))
]

pub at_entity : (entity : ℕ) (table : List ℕ) → one_table entity table entity ≡ table
at_entity entity table = at_place (λ x. []) entity table

-- a store whose blocks nobody's table names holds none
pub free_old : (bk : Books) → AreOwned bk (λ x. []) → (n : ℕ) → bk.held n ≡ false
free_old bk o n = by_test (bk.held n) refl
  where
    by_test : (t : Bool) → bk.held n ≡ t → bk.held n ≡ false
    by_test false e = e
    by_test true e = (let named = (o.held n).0 e in absurd (nowhere named.1.1))

module _ {D : Type 0} (disks : Ghosts D) where
  abbrev pub Placed : List PageWords → List ℕ → State D → State D → Type 0
  Placed pages table old mid = AreWritten (stores_of disks) pages (length pages) table old mid

  module _ (pages : List PageWords) (table : List ℕ) (old mid : State D) (w : Placed pages table old mid) where
    pub owned_now : (entity : ℕ) → AreOwned (books old) (λ x. []) → (books mid).logged ≡ (books old).logged → (books mid).count ≡ (books old).count → AreOwned (books mid) (one_table entity table)
    owned_now entity o logged count = owned_with disks (length pages) table old mid w.taken (λ x. []) entity (λ n named. nowhere named.1) o logged count

    module _ (free : (n : ℕ) → is_held old.blocks n ≡ false) where
      page_of : (n : ℕ) → is_held mid.blocks n ≡ true → (p : ℕ) × (n ≢ 0) × (slice_index table p ≡ n)
      page_of n held = elim (w.taken.others n held) as (λ _. (p : ℕ) × (n ≢ 0) × (slice_index table p ≡ n)) [
        | inl was ↦ absurd (false≢true (sym (free n) ∙ was))
        | inr new ↦ new
      ]

      pub none_left : (put given : State D) → is_held put.blocks ≡ is_held mid.blocks → HasGivenBack (stores_of disks) pages (length pages) table put given → (n : ℕ) → is_held given.blocks n ≡ false
      none_left put given same g n = by_test (is_held given.blocks n) refl
        where
          by_test : (t : Bool) → is_held given.blocks n ≡ t → is_held given.blocks n ≡ false
          by_test false e = e
          by_test true e =
              let p = page_of n (ap (λ (f : ℕ → Bool). f n) (sym same) ∙ g.was n e) in
              let some : slice_index table p.0 ≢ 0 = (λ zero. p.1 (sym p.2 ∙ zero)) in
              let m = w.none p.0 some in
              g.gone n m.0 m.1 m.2 m.3 (sym p.2 ∙ ap (slice_index table) (sym m.4))

    -- AS AN IMAGE HAS THEM that reads the blocks in use as they were
    pub have_blocks : disks.tells → (image : Image) → HoldsPoolBlocks (books mid) → SameUsed (books mid) (disks.reading mid.disk) image → HaveBlocks pages table image
    have_blocks t image pool same = record {
      each = λ k q at. w.each k q (below pages k q at) at;
      none = λ p some. (let m = w.none p some in (m.0, m.1, m.3, m.4));
      apart = w.taken.apart;
      words = λ k q at.
          let some = w.each k q (below pages k q at) at in
          let n : ℕ = slice_index table q.page in
          let held = w.taken.now_held q.page some in
          ap words_of_bytes (same n (pool n held).0 (or_left (is_held mid.blocks n) (kept_names (books mid) n) held)) ∙ w.words_are t k q (below pages k q at) at;
    }
