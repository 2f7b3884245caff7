-- Cells stay in order, and blocks have one owner, as the pages of one cell are written.
use Rattle.std.proofs.Common.{◌≡◌, ◌≢◌, ◌⊎◌, ◌↔◌, inl, inr, ℕ, zero, suc, ◌<◌, ◌≤◌, Bool, true, false, List, [], ◌∷◌, slice_get, slice_index, Option, Some, None, refl, sym, ap, subst, ◌∙◌, arith}
use Rattle.std.specs.Prelude.{Contains}
use Rattle.std.proofs.lemmas.Bool.{cases_eq}
use Rattle.edge_disk.specs.declared.disk.Disk.{Ghosts}
use Rattle.kernel_laws.specs.image_facts.Bodies.{blob_blocks}
use Rattle.kernel_laws.specs.image_facts.Layout.{pool_at}
use Rattle.kernel_laws.specs.store_books.Books.{Books, Logged, kept_in, kept_names, names}
use Rattle.kernel_laws.specs.store_books.Owning.{AreOwned, NamesPage}
use Rattle.kernel_records.specs.store_facts.State.{State, books}
use Rattle.kernel_records.specs.page_memory.declared.paged.PagedMemory.{PagedMemory}
use Rattle.kernel_records.specs.page_memory.Calls.{IsOfTable, Keeps}
use Rattle.kernel_records.specs.cell_states.declared.cells.Cell.{Cell}
use Rattle.kernel_records.specs.cell_states.declared.cells.Part.{Part}
use Rattle.kernel_records.specs.cell_states.declared.cells.Part.TheVariants as part
use Rattle.table_laws.specs.cell_calls.Besides.{memory_of}
use Rattle.table_laws.specs.Tables.{HasNews, IsOrderly, blocks_by, memory_at, tables_in}
use Rattle.table_laws.specs.Lending.{Lends}
use Rattle.kernel_laws.proofs.kernel_invariant_lemmas.Apart.{page_names}
use Rattle.kernel_records.specs.Flushing.{Flushes}
use Rattle.kernel_records.proofs.kernel_block_laws_lemmas.Unchanged.{blob_named, kept_named}
use Rattle.kernel_views.proofs.Others.{held_at}
use Rattle.kernel_laws.proofs.store_books_lemmas.Owners.{place_in}

-- LISTS

pub within_at : (xs : List ℕ) (p n : ℕ) → n ≢ 0 → slice_index xs p ≡ n → Contains xs n
within_at [] p n some is = absurd (some (sym is))
within_at (x ∷ xs) zero n some is = (zero, omega arith, is)
within_at (x ∷ xs) (suc p) n some is = (let rest = within_at xs p n some is in (suc rest.0, (let lt = rest.1 in omega (arith, lt)), rest.2))

-- THE PLACE OF ONE CELL

module _ (cs cs' : List Cell) (c d : Cell) (same : d.clock.entity ≡ c.clock.entity) (lends : Lends cs cs' (c ∷ []) (d ∷ [])) where
  pub spot : (y : ℕ) → ((y ≡ c.clock.entity) × (slice_get cs' y ≡ Some d)) ⊎ ((y ≢ c.clock.entity) × (slice_get cs' y ≡ slice_get cs y))
  spot y = elim (cases_eq y c.clock.entity) as (λ _. ((y ≡ c.clock.entity) × (slice_get cs' y ≡ Some d)) ⊎ ((y ≢ c.clock.entity) × (slice_get cs' y ≡ slice_get cs y))) [
    | inl at ↦ inl (at, ap (slice_get cs') (at ∙ sym same) ∙ lends.stand.0)
    | inr differs ↦ inr (differs, lends.others y (differs, tt))
  ]

-- PAGES ARE WRITTEN

module _ {D : Type 0} (disks : Ghosts D) (words : State D → ℕ → List ℕ) (old flushed : State D) where
  abbrev Flushed : Part → Part → Type 0
  Flushed p q = Flushes disks.tells (λ (st : State D). (books st).held) (λ (st : State D). kept_names (books st)) words p q old flushed

  abbrev KeepsOf : PagedMemory → PagedMemory → Type 0
  KeepsOf m m' = Keeps disks.tells (λ (st : State D). (books st).held) (λ (st : State D). kept_names (books st)) words m m' old flushed

  -- how the blocks of a part's memory go on
  pub record Goes (o o' : Option PagedMemory) : Type 0 where
    pub held_stay : (n : ℕ) → (books old).held n ≡ true → ((m : PagedMemory) → o ≡ Some m → IsOfTable m n → ⊥) → ((books flushed).held n ≡ true) × ((m : PagedMemory) → o' ≡ Some m → IsOfTable m n → ⊥)
    pub no_others : (n : ℕ) → (books flushed).held n ≡ true → ((m : PagedMemory) → o' ≡ Some m → IsOfTable m n → ⊥) → ((books old).held n ≡ true) × ((m : PagedMemory) → o ≡ Some m → IsOfTable m n → ⊥)
    pub news : (page : ℕ) → (slice_index (blocks_by o') page ≡ slice_index (blocks_by o) page) ⊎ (kept_names (books old) (slice_index (blocks_by o') page) ≡ false)

  some_is : {A : Type 0} (x y : A) → Some x ≡ Some y → x ≡ y
  some_is x y e = cc

  pub goes : (p q : Part) → Flushed p q → Goes (memory_of p) (memory_of q)
  goes (part.Atlas a) q f = stays (part.Atlas a) q f.part f.store
    where
      stays : (p q : Part) → q ≡ p → flushed ≡ old → Goes (memory_of p) (memory_of q)
      stays p q e st = subst (λ (z : Part). Goes (memory_of p) (memory_of z)) (sym e) (record {
        held_stay = λ n held out. (ap (λ (s : State D). (books s).held n) st ∙ held, out);
        no_others = λ n held out. (sym (ap (λ (s : State D). (books s).held n) st) ∙ held, out);
        news = λ page. inl refl;
      })
  goes (part.Locus l) q f = stays (part.Locus l) q f.part f.store
    where
      stays : (p q : Part) → q ≡ p → flushed ≡ old → Goes (memory_of p) (memory_of q)
      stays p q e st = subst (λ (z : Part). Goes (memory_of p) (memory_of z)) (sym e) (record {
        held_stay = λ n held out. (ap (λ (s : State D). (books s).held n) st ∙ held, out);
        no_others = λ n held out. (sym (ap (λ (s : State D). (books s).held n) st) ∙ held, out);
        news = λ page. inl refl;
      })
  goes (part.Container a) q f =
      let k : KeepsOf a.memory f.0.memory = f.2.outside in
      subst (λ (z : Part). Goes (Some a.memory) (memory_of z)) (sym f.1) (record {
        held_stay = λ n held out. (let h = k.held_stay n held (out a.memory refl) in (h.0, λ m is of. h.1 (subst (λ (z : PagedMemory). IsOfTable z n) (sym (some_is f.0.memory m is)) of)));
        no_others = λ n held out. (let h = k.no_others n held (out f.0.memory refl) in (h.0, λ m is of. h.1 (subst (λ (z : PagedMemory). IsOfTable z n) (sym (some_is a.memory m is)) of)));
        news = k.news;
      })

-- ONE OWNER

module _ (held : ℕ → Bool) (cs : List Cell) (ord : IsOrderly held cs) where
  named_held : (y p n : ℕ) → n ≢ 0 → (o : Option PagedMemory) → memory_at (slice_get cs y) ≡ o → slice_index (blocks_by o) p ≡ n → held n ≡ true
  named_held y p n some None at is = absurd (some (sym is))
  named_held y p n some (Some m) at is =
      let sound = held_at held cs ord y (slice_get cs y) refl m at in
      ap held (sym is) ∙ sound.held_blocks p (λ zero. some (sym is ∙ zero))

-- so it is where the part of one cell has such pages, and no other cell is another
pub one_news : (cs cs' : List Cell) (c d : Cell) → d.clock.entity ≡ c.clock.entity → slice_get cs c.clock.entity ≡ Some c → Lends cs cs' (c ∷ []) (d ∷ []) → (old : Books)
    → ((page : ℕ) → (slice_index (blocks_by (memory_of d.part)) page ≡ slice_index (blocks_by (memory_of c.part)) page) ⊎ (kept_names old (slice_index (blocks_by (memory_of d.part)) page) ≡ false))
    → HasNews (kept_names old) (tables_in cs) (tables_in cs')
one_news cs cs' c d same at lends old news y q = elim (spot cs cs' c d same lends y) as (λ _. (slice_index (tables_in cs' y) q ≡ slice_index (tables_in cs y) q) ⊎ (kept_names old (slice_index (tables_in cs' y) q) ≡ false)) [
  | inl k ↦
      (let here : slice_index (tables_in cs' y) q ≡ slice_index (blocks_by (memory_of d.part)) q = ap (λ (z : Option Cell). slice_index (blocks_by (memory_at z)) q) k.1 in
      let was : slice_index (tables_in cs y) q ≡ slice_index (blocks_by (memory_of c.part)) q = ap (λ (z : Option Cell). slice_index (blocks_by (memory_at z)) q) (ap (slice_get cs) k.0 ∙ at) in
      elim (news q) as (λ _. (slice_index (tables_in cs' y) q ≡ slice_index (tables_in cs y) q) ⊎ (kept_names old (slice_index (tables_in cs' y) q) ≡ false)) [
        | inl is ↦ inl (here ∙ (is ∙ sym was))
        | inr fresh ↦ inr (ap (kept_names old) here ∙ fresh)
      ])
  | inr k ↦ inl (ap (λ (z : Option Cell). slice_index (blocks_by (memory_at z)) q) k.1)
]

module _ (cs cs' : List Cell) (old flushed : Books) (news : HasNews (kept_names old) (tables_in cs) (tables_in cs')) (same_logged : flushed.logged ≡ old.logged) (same_count : flushed.count ≡ old.count)
    (o : AreOwned old (tables_in cs)) (ord : IsOrderly flushed.held cs') where
  same_kept : kept_in flushed ≡ kept_in old
  same_kept = ap (λ (ls : List Logged). kept_in (record old { logged = ls })) same_logged

  kept_before : (l : Logged) → Contains (kept_in flushed) l → Contains (kept_in old) l
  kept_before l within = subst (λ (ls : List Logged). Contains ls l) same_kept within

  -- a block that a kept record names stands where it stood
  stood : (l : Logged) (y q n : ℕ) → Contains (kept_in flushed) l → names n l ≡ true → slice_index (tables_in cs' y) q ≡ n → slice_index (tables_in cs y) q ≡ n
  stood l y q n within named is = elim (news y q) as (λ _. slice_index (tables_in cs y) q ≡ n) [
    | inl same_block ↦ sym same_block ∙ is
    | inr fresh ↦ (let clash : true ≡ false = sym (kept_named old n l (kept_before l within) named) ∙ (ap (kept_names old) (sym is) ∙ fresh) in absurd (cc clash))
  ]

  held_named : (n : ℕ) → flushed.held n ≡ true ↔ ((x : ℕ) × NamesPage (tables_in cs' x) n)
  held_named n = (
    λ held. (let h = ord.named n held in (h.0, (h.2, within_at (tables_in cs' h.0) h.1 n h.2 h.3))),
    λ named. (let p = place_in (tables_in cs' named.0) n named.1.1 in named_held flushed.held cs' ord named.0 p.0 n named.1.0 (memory_at (slice_get cs' named.0)) refl p.1),
  )

  named_page : (l : Logged) (p n : ℕ) → n ≢ 0 → slice_index l.table p ≡ n → names n l ≡ true
  named_page l p n some is = page_names l n (some, within_at l.table p n some is)

  -- THE BLOCKS HAVE ONE OWNER again
  pub owned_again : ((l : Logged) (n : ℕ) → Contains (kept_in old) l → Contains (blob_blocks l.rec) n → pool_at ≤ n) → AreOwned flushed (tables_in cs')
  owned_again blobs = record {
    held = held_named;
    once = ord.once;
    not_blob = λ l m n in_l in_m named blob. o.not_blob l m n (kept_before l in_l) (kept_before m in_m) named blob;
    not_held_blob = λ l n within blob held.
        let h = ord.named n held in
        let was = stood l h.0 h.1 n within (blob_named n l (blobs l n (kept_before l within) blob) blob) h.3 in
        o.not_held_blob l n (kept_before l within) blob ((o.held n).1 (h.0, (h.2, within_at (tables_in cs h.0) h.1 n h.2 was)));
    kept_once = λ l m p q in_l in_m. o.kept_once l m p q (kept_before l in_l) (kept_before m in_m);
    kept_own = λ l y p q within some is.
        o.kept_own l y p q (kept_before l within) some
        (sym (stood l y q (slice_index l.table p) within (named_page l p (slice_index l.table p) some refl) (sym is)));
    kept_pool = λ l n within named. (let h = o.kept_pool l n (kept_before l within) named in (h.0, subst (λ (k : ℕ). n < k) (sym same_count) h.1));
  }
