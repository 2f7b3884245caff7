-- Whose blocks that were taken are.
use Rattle.std.proofs.Common.{◌≡◌, ◌≢◌, ◌⊎◌, inl, inr, ℕ, ◌<◌, ◌==◌, if◌then◌else◌, Bool, true, false, not, ◌&&◌, ◌||◌, List, refl, sym, ap, subst, ◌∙◌, eqb-true, eq-eqb}
use Rattle.std.specs.Prelude.{Contains, slice_index}
use Rattle.std.specs.List.{list_any}
use Rattle.std.proofs.lemmas.Bool.{false≢true, or_left, or_right}
use Rattle.edge_disk.specs.declared.disk.Disk.{Ghosts}
use Rattle.store_snapshots.specs.store_facts.image_facts.Bodies.{blob_blocks}
use Rattle.data_blocks.specs.Ledger.{is_held}
use Rattle.store_snapshots.specs.store_facts.State.{State, books}
use Rattle.store_snapshots.specs.store_books.Books.{Books, Logged, kept_in, kept_names, names as are_named}
use Rattle.store_snapshots.specs.store_books.Owning.{AreOwned, NamesPage}
use Rattle.kernel_block_laws.proofs.kernel_invariant_lemmas.Apart.{any_passes, page_names}
use Rattle.kernel_block_laws.proofs.kernel_invariant_lemmas.image_meaning_lemmas.Resting.{one_of}
use Rattle.kernel_block_laws.proofs.kernel_invariant_lemmas.store_books_lemmas.Owners.{place_in}
use Rattle.page_placing.specs.Placing.{TakesBlocks}
use Rattle.kernel_placing.specs.Placing.{stores_of, with_table}

eqb-not : (n m : ℕ) → n ≢ m → (n == m) ≡ false
eqb-not n m other = by_test (n == m) refl
  where
    by_test : (t : Bool) → (n == m) ≡ t → (n == m) ≡ false
    by_test true e = absurd (other (eqb-true n m e))
    by_test false e = e

-- a block of a kept record's blob is named, and a page's is
blob_uses : (b : Books) (l : Logged) (n : ℕ) → Contains (kept_in b) l → Contains (blob_blocks l.rec) n → n ≢ 0 → kept_names b n ≡ true
blob_uses b l n within blob some = or_right b.found _ (any_passes (are_named n) (kept_in b) l within (ap (λ t. not t && (list_any (λ m. m == n) (blob_blocks l.rec) || list_any (λ m. m == n) l.table)) (eqb-not n 0 some)
    ∙ or_left _ _ (any_passes (λ (m : ℕ). m == n) (blob_blocks l.rec) n blob (eq-eqb n n refl))))

page_uses : (b : Books) (l : Logged) (p : ℕ) → Contains (kept_in b) l → slice_index l.table p ≢ 0 → kept_names b (slice_index l.table p) ≡ true
page_uses b l p within some = or_right b.found _ (any_passes (are_named (slice_index l.table p)) (kept_in b) l within (page_names l (slice_index l.table p) (some, one_of l.table p some)))

module _ (tables : ℕ → List ℕ) (entity : ℕ) (table : List ℕ) where
  -- a place is of the new table, or of another entity's
  place : (x p : ℕ) → ((x ≡ entity) × (slice_index (with_table tables entity table x) p ≡ slice_index table p)) ⊎ ((x ≢ entity) × (slice_index (with_table tables entity table x) p ≡ slice_index (tables x) p))
  place x p = by_test (x == entity) refl
    where
      by_test : (t : Bool) → (x == entity) ≡ t → ((x ≡ entity) × (slice_index (if t then table else tables x) p ≡ slice_index table p)) ⊎ ((x ≢ entity) × (slice_index (if t then table else tables x) p ≡ slice_index (tables x) p))
      by_test true e = inl (eqb-true x entity e, refl)
      by_test false e = inr ((λ same. false≢true (sym e ∙ eq-eqb x entity same)), refl)

  names : (x n : ℕ) → NamesPage (with_table tables entity table x) n → ((x ≡ entity) × NamesPage table n) ⊎ ((x ≢ entity) × NamesPage (tables x) n)
  names x n named = by_test (x == entity) refl named
    where
      by_test : (t : Bool) → (x == entity) ≡ t → NamesPage (if t then table else tables x) n → ((x ≡ entity) × NamesPage table n) ⊎ ((x ≢ entity) × NamesPage (tables x) n)
      by_test true e named = inl (eqb-true x entity e, named)
      by_test false e named = inr ((λ same. false≢true (sym e ∙ eq-eqb x entity same)), named)

  pub at_place : with_table tables entity table entity ≡ table
  at_place = (let t = eq-eqb entity entity refl in ap (λ b. if b then table else tables entity) t)

  pub at_other : (x : ℕ) → x ≢ entity → with_table tables entity table x ≡ tables x
  at_other x other = (let t = eqb-not x entity other in ap (λ b. if b then table else tables x) t)

-- WHO OWNS THE BLOCKS: the entity, which had none, has those that were taken
module _ {D : Type 0} (disks : Ghosts D) (many : ℕ) (table : List ℕ) (old mid : State D) (w : TakesBlocks (stores_of disks) many table old mid)
    (tables : ℕ → List ℕ) (entity : ℕ) (unset : (n : ℕ) → NamesPage (tables entity) n → ⊥) (o : AreOwned (books old) tables) (logged : (books mid).logged ≡ (books old).logged) (count : (books mid).count ≡ (books old).count) where
  back : (l : Logged) → Contains (kept_in (books mid)) l → Contains (kept_in (books old)) l
  back l within = subst (λ (ls : List Logged). Contains (kept_in (record (books old) { logged = ls })) l) logged within

  -- the new blocks are named by no kept record, and were held by nobody
  not_kept : (p n : ℕ) → slice_index table p ≡ n → n ≢ 0 → kept_names (books old) n ≡ true → ⊥
  not_kept p n is some named = false≢true (sym (w.fresh p (λ zero. some (sym is ∙ zero))).1 ∙ (ap (kept_names (books old)) is ∙ named))

  not_held : (p n : ℕ) → slice_index table p ≡ n → n ≢ 0 → is_held old.blocks n ≡ true → ⊥
  not_held p n is some held = false≢true (sym (w.fresh p (λ zero. some (sym is ∙ zero))).0 ∙ (ap (is_held old.blocks) is ∙ held))

  owner : (y q : ℕ) → slice_index (tables y) q ≢ 0 → is_held old.blocks (slice_index (tables y) q) ≡ true
  owner y q some = (o.held (slice_index (tables y) q)).1 (y, (some, one_of (tables y) q some))

  now : (n : ℕ) → is_held mid.blocks n ≡ true → (x : ℕ) × NamesPage (with_table tables entity table x) n
  now n held = elim (w.others n held) as (λ _. (x : ℕ) × NamesPage (with_table tables entity table x) n) [
    | inl was ↦ (
        let x = (o.held n).0 was in
        let other : x.0 ≢ entity = (λ is. unset n (subst (λ (y : ℕ). NamesPage (tables y) n) is x.1)) in
        (x.0, subst (λ (t : List ℕ). NamesPage t n) (sym (at_other tables entity table x.0 other)) x.1))
    | inr p ↦ (entity, subst (λ (t : List ℕ). NamesPage t n) (sym (at_place tables entity table)) (p.1, subst (Contains table) p.2 (one_of table p.0 (λ zero. p.1 (sym p.2 ∙ zero)))))
  ]

  then_held : (n x : ℕ) → NamesPage (with_table tables entity table x) n → is_held mid.blocks n ≡ true
  then_held n x named = elim (names tables entity table x n named) as (λ _. is_held mid.blocks n ≡ true) [
    | inl m ↦ (let p = place_in table n m.1.1 in subst (λ k. is_held mid.blocks k ≡ true) p.1 (w.now_held p.0 (λ zero. m.1.0 (sym p.1 ∙ zero))))
    | inr m ↦ w.stays n ((o.held n).1 (x, m.1))
  ]

  only_once : (x y p q : ℕ) → slice_index (with_table tables entity table x) p ≢ 0 → slice_index (with_table tables entity table x) p ≡ slice_index (with_table tables entity table y) q → (x ≡ y) × (p ≡ q)
  only_once x y p q some same = elim (place tables entity table x p) as (λ _. (x ≡ y) × (p ≡ q)) [
    | inl a ↦ elim (place tables entity table y q) as (λ _. (x ≡ y) × (p ≡ q)) [
      | inl b ↦ (a.0 ∙ sym b.0, w.apart p q (λ zero. some (a.1 ∙ zero)) (sym a.1 ∙ (same ∙ b.1)))
      | inr b ↦ (let at : slice_index table p ≡ slice_index (tables y) q = sym a.1 ∙ (same ∙ b.1) in
          let there : slice_index (tables y) q ≢ 0 = (λ zero. some (a.1 ∙ (at ∙ zero))) in
          absurd (not_held p (slice_index (tables y) q) at there (owner y q there)))
    ]
    | inr a ↦ elim (place tables entity table y q) as (λ _. (x ≡ y) × (p ≡ q)) [
      | inl b ↦ (let at : slice_index table q ≡ slice_index (tables x) p = sym b.1 ∙ (sym same ∙ a.1) in
          let there : slice_index (tables x) p ≢ 0 = (λ zero. some (a.1 ∙ zero)) in
          absurd (not_held q (slice_index (tables x) p) at there (owner x p there)))
      | inr b ↦ o.once x y p q (λ zero. some (a.1 ∙ zero)) (sym a.1 ∙ (same ∙ b.1))
    ]
  ]

  pub owned_with : AreOwned (books mid) (with_table tables entity table)
  owned_with = record {
    held = λ n. (now n, (λ named. then_held n named.0 named.1));
    once = only_once;
    not_blob = λ l m n a b has named. o.not_blob l m n (back l a) (back m b) has named;
    not_held_blob = λ l n a blob held. elim (w.others n held) as (λ _. ⊥) [
      | inl was ↦ o.not_held_blob l n (back l a) blob was
      | inr p ↦ not_kept p.0 n p.2 p.1 (blob_uses (books old) l n (back l a) blob p.1)
    ];
    kept_once = λ l m p q a b some is. o.kept_once l m p q (back l a) (back m b) some is;
    kept_own = λ l y p q a some is. elim (place tables entity table y q) as (λ _. (l.rec.entity ≡ y) × (p ≡ q)) [
      | inl b ↦ absurd (not_kept q (slice_index l.table p) (sym b.1 ∙ sym is) some (page_uses (books old) l p (back l a) some))
      | inr b ↦ o.kept_own l y p q (back l a) some (is ∙ b.1)
    ];
    kept_pool = λ l n a has. (let k = o.kept_pool l n (back l a) has in (k.0, subst (λ (c : ℕ). n < c) (sym count) k.1));
  }
