-- A shipment as a record of the run.
use Rattle.std.proofs.Common.{◌≡◌, ◌≢◌, ℕ, zero, suc, ◌*◌, ◌/◌, ◌%◌, ◌^◌, ◌<◌, ◌≤◌, ◌==◌, if◌then◌else◌, Bool, true, false, arith, List, [], ◌∷◌, length, take, Option, Some, None, refl, sym, ap, subst, ◌∙◌, eqb-true, eq-eqb}
use Rattle.std.specs.Prelude.{All, slice_get, slice_index}
use Rattle.std.specs.List.{flat_map}
use Rattle.std.proofs.lemmas.Bool.{false≢true}
use Rattle.edge_disk.specs.Image.{Image, block_at}
use Rattle.base_types.specs.declared.histories.Entry.{Entry}
use Rattle.kernel_record_facts.specs.kernel_invariant.model_kernel.State.{ContainerCell, EntityState, Supply}
use Rattle.kernel_record_facts.specs.kernel_invariant.image_facts.Bodies.{number_at}
use Rattle.kernel_record_facts.specs.kernel_invariant.image_meaning.Describing.{HasPage, bytes_of}
use Rattle.kernel_record_facts.specs.kernel_invariant.image_meaning.Parts.{AtlasPart, ContainerPart, IsOf, LocusPart, Part, Spells, cell_of, kind_in, table_in, word_in, words_in}
use Rattle.kernel_record_facts.specs.kernel_invariant.image_meaning.Stores.{Kept, Page}
use Rattle.kernel_record_facts.specs.kernel_invariant.store_books.Books.{IsNewKept, page_for}
use Rattle.kernel_record_facts.specs.kernel_invariant.Beginnings.{Beginning, entity_at, state_after}
use Rattle.kernel_record_facts.specs.kernel_invariant.Records.{IsKeptRecord}
use Rattle.node_store.proofs.node_commits_lemmas.kernel_invariant_lemmas.Pages.{few_pages, has_page, page_bytes, page_named}
use Rattle.node_store.proofs.node_commits_lemmas.kernel_invariant_lemmas.image_meaning_lemmas.Meaning.{cell_same}
use Rattle.kernel_record_facts.proofs.Settled.{front_block, word_at}
use Rattle.node_store.specs.page_placing.declared.writing.PageWords.{PageWords}
use Rattle.node_store.specs.node_commits.Deliveries.{IsShipped}
use Rattle.node_store.specs.Shipping.{HaveBlocks}
use Rattle.node_records.specs.Shipments.{IsShippedOf, SpellsOver, over, page_words, shipped_cell, shipped_word, size_of, word_or}

-- WHICH PAGES ARE SHIPPED

found : (pages : List PageWords) (p : ℕ) (ws : List ℕ) → page_words pages p ≡ Some ws → (k : ℕ) × (q : PageWords) × (slice_get pages k ≡ Some q) × (q.page ≡ p) × (q.words ≡ ws)
found [] p ws is = cc is
found (q ∷ qs) p ws is = by_test (q.page == p) refl is (found qs p ws)
  where
    by_test : (t : Bool) → (q.page == p) ≡ t → (if t then Some q.words else page_words qs p) ≡ Some ws → (page_words qs p ≡ Some ws → (k : ℕ) × (r : PageWords) × (slice_get qs k ≡ Some r) × (r.page ≡ p) × (r.words ≡ ws))
        → (k : ℕ) × (r : PageWords) × (slice_get (q ∷ qs) k ≡ Some r) × (r.page ≡ p) × (r.words ≡ ws)
    by_test true e is rest = (0, q, refl, eqb-true q.page p e, cc is)
    by_test false e is rest = (let m = rest is in (suc m.0, m.1, m.2, m.3, m.4))

not_found : (pages : List PageWords) (p : ℕ) → page_words pages p ≡ None → (k : ℕ) (q : PageWords) → slice_get pages k ≡ Some q → q.page ≡ p → ⊥
not_found [] p is k q at same = cc at
not_found (r ∷ rs) p is k q at same = by_test (r.page == p) refl is (not_found rs p) k at
  where
    by_test : (t : Bool) → (r.page == p) ≡ t → (if t then Some r.words else page_words rs p) ≡ None → (page_words rs p ≡ None → (k : ℕ) (q : PageWords) → slice_get rs k ≡ Some q → q.page ≡ p → ⊥)
        → (k : ℕ) → slice_get (r ∷ rs) k ≡ Some q → ⊥
    by_test true e is rest k at = cc is
    by_test false e is rest zero at = (let one : r ≡ q = cc at in false≢true (sym e ∙ eq-eqb r.page p (ap (λ (x : PageWords). x.page) one ∙ same)))
    by_test false e is rest (suc k) at = rest is k q at same

module _ (s : Supply) (pages : List PageWords) (image : Image) (table : List ℕ) (have : HaveBlocks pages table image) (long : length table ≡ 256) where
  none_there : (p : ℕ) → ((k : ℕ) (q : PageWords) → slice_get pages k ≡ Some q → q.page ≡ p → ⊥) → slice_index table p ≡ 0
  none_there p none = by_test (slice_index table p == 0) refl
    where
      by_test : (t : Bool) → (slice_index table p == 0) ≡ t → slice_index table p ≡ 0
      by_test true e = eqb-true (slice_index table p) 0 e
      by_test false e = (let m = have.none p (λ zero_is. false≢true (sym e ∙ eq-eqb (slice_index table p) 0 zero_is)) in absurd (none m.0 m.1 m.2 m.3))

  no_word : (tag block address : ℕ) → block ≡ 0 → word_in s tag (block_at image) block address ≡ s tag (address / 128) (address % 128)
  no_word tag block address is = (let t = eq-eqb block 0 is in rw t refl)

  a_word : (tag block address : ℕ) → block ≢ 0 → word_in s tag (block_at image) block address ≡ number_at (8 * (address % 128)) 8 (block_at image block)
  a_word tag block address some = by_test (block == 0) refl
    where
      by_test : (t : Bool) → (block == 0) ≡ t → (if t then s tag (address / 128) (address % 128) else number_at (8 * (address % 128)) 8 (block_at image block)) ≡ number_at (8 * (address % 128)) 8 (block_at image block)
      by_test true e = absurd (some (eqb-true block 0 e))
      by_test false e = refl

  module _ (size : ℕ) (few : size ≤ 256) (within : (k : ℕ) (q : PageWords) → slice_get pages k ≡ Some q → q.page < size) where
    front : (p : ℕ) → slice_index (take size table) p ≡ slice_index table p
    front p = front_block table size p long few (λ past. none_there p (λ k q at same. (let lt = within k q at in omega (arith, lt, same, past))))

    word_same : (tag address : ℕ) → words_in s tag (block_at image) (take size table) address ≡ shipped_word s tag pages address
    word_same tag address = by_page (page_words pages (address / 128)) refl
      where
        by_page : (o : Option (List ℕ)) → page_words pages (address / 128) ≡ o → word_in s tag (block_at image) (slice_index (take size table) (address / 128)) address ≡ word_or (s tag (address / 128) (address % 128)) (address % 128) o
        by_page None e = no_word tag (slice_index (take size table) (address / 128)) address (front (address / 128) ∙ none_there (address / 128) (not_found pages (address / 128) e))
        by_page (Some ws) e =
            let m = found pages (address / 128) ws e in
            let at : slice_index (take size table) (address / 128) ≡ slice_index table m.1.page = front (address / 128) ∙ ap (slice_index table) (sym m.3) in
            let some = have.each m.0 m.1 m.2 in
            let low : address % 128 < 128 = omega arith in
            a_word tag (slice_index (take size table) (address / 128)) address (λ zero_is. some (sym at ∙ zero_is))
            ∙ (ap (λ (n : ℕ). number_at (8 * (address % 128)) 8 (block_at image n)) at
            ∙ (sym (word_at (block_at image (slice_index table m.1.page)) (address % 128) low)
            ∙ ap (λ (xs : List ℕ). slice_index xs (address % 128)) (have.words m.0 m.1 m.2 ∙ m.4)))

  -- the cell, and the table's places
  cell_is : (part : Part) → size_of part ≤ 256 → ((k : ℕ) (q : PageWords) → slice_get pages k ≡ Some q → q.page < size_of part) → shipped_cell s pages part ≡ cell_of s (block_at image) (over table part)
  cell_is (AtlasPart a) few within = refl
  cell_is (ContainerPart c was) few within = ap (λ (f : ℕ → ℕ). ContainerCell (record c { words = f })) (λ i address. sym (word_same c.pages few within c.tag address) i)
  cell_is (LocusPart l) few within = refl

  named_is : (part : Part) → size_of part ≤ 256 → ((k : ℕ) (q : PageWords) → slice_get pages k ≡ Some q → q.page < size_of part) → (p : ℕ) → slice_index table p ≡ slice_index (table_in (over table part)) p
  named_is (AtlasPart a) few within p = none_there p (λ k q at same. (let lt = within k q at in omega (arith, lt)))
  named_is (ContainerPart c was) few within p = sym (front c.pages few within p)
  named_is (LocusPart l) few within p = none_there p (λ k q at same. (let lt = within k q at in omega (arith, lt)))

-- over another table of blocks it is of the same kind
pub kind_over : (table : List ℕ) (part : Part) → kind_in (over table part) ≡ kind_in part
kind_over table (AtlasPart a) = refl
kind_over table (ContainerPart c was) = refl
kind_over table (LocusPart l) = refl

module _ (b : Beginning) (es : List Entry) (entity version : ℕ) (stamp : List ℕ) (part : Part) (pages : List PageWords) (bytes : List ℕ → List ℕ) (image : Image) (table : List ℕ)
    (is : IsShippedOf b es entity version stamp part pages) (spells : SpellsOver part bytes) (long : length table ≡ 256) (small : All (λ n. n < 2 ^ 32) table) (have : HaveBlocks pages table image) where
  named : (p : ℕ) → slice_index table p ≡ slice_index (table_in (over table part)) p
  named = named_is b.supply pages image table have long part is.few is.within

  module _ (k : Kept) (new : IsNewKept entity version stamp (bytes table) table image k) where
    paged : (page : ℕ) → slice_index (table_in (over table part)) page ≢ 0 → HasPage k.pages (slice_index (table_in (over table part)) page)
    paged page some =
        let same = named page in
        let has = has_page image table page (λ none. some (sym same ∙ none)) in
        subst (λ (ps : List Page). HasPage ps (slice_index (table_in (over table part)) page)) (sym new.pages_are) (subst (HasPage (flat_map (page_for image) table)) same has)

    block_bytes : (page : ℕ) → slice_index (table_in (over table part)) page ≢ 0 → block_at image (slice_index (table_in (over table part)) page) ≡ bytes_of k.pages (slice_index (table_in (over table part)) page)
    block_bytes page some =
        let n : ℕ = slice_index (table_in (over table part)) page in
        sym (ap (λ (ps : List Page). bytes_of ps n) new.pages_are ∙ page_bytes image table n (subst (λ (ps : List Page). HasPage ps n) new.pages_are (paged page some)))

    at : entity_at b es k.rec.entity k.rec.version ≡ entity_at b es entity version
    at = (λ i. entity_at b es (new.entity_is i) (new.version_is i))

    told : IsKeptRecord b es k
    told = record {
      told = record {
        components = ap length new.stamp_is ∙ is.components;
        part = over table part;
        describes = record {
          spells = record {
            kind = subst (λ (x : ℕ). IsOf x (over table part)) (sym new.entity_is) (kind_over table part ∙ is.kind);
            spells = subst (Spells (over table part)) (sym new.blob_is) (spells table long small);
            pages = paged;
          };
          cell = ap (λ (e : EntityState). e.cell) at ∙ (is.cell ∙ (cell_is b.supply pages image table have long part is.few is.within ∙ cell_same b.supply (block_at image) (bytes_of k.pages) (over table part) block_bytes));
          version = ap (λ (e : EntityState). e.version) at ∙ (is.version_is ∙ sym new.version_is);
          stamp = ap (λ (e : EntityState). e.stamp) at ∙ (is.stamp_is ∙ ap slice_index (sym new.stamp_is));
        };
        once = λ p q some same. have.apart p q (λ none. some (sym (named p) ∙ none)) (named p ∙ (same ∙ sym (named q)));
      };
      from = subst (λ (x : ℕ). (b.state x).version ≤ k.rec.version) (sym new.entity_is) (subst (λ (n : ℕ). (b.state entity).version ≤ n) (sym new.version_is) is.from);
      reached = subst (λ (x : ℕ). k.rec.version ≤ (state_after b es x).version) (sym new.entity_is) (subst (λ (n : ℕ). n ≤ (state_after b es entity).version) (sym new.version_is) is.reached);
      few = (let few = few_pages image table (table_in (over table part)) named in let len = ap length new.pages_are in omega (arith, few, len));
    }

  pub shipped : IsShipped b es entity version stamp (bytes table) table image (record { entity = entity; version = version; stamp = slice_index stamp })
  shipped = record {
    told = told;
    pages = λ k n new has. page_named image table n (subst (λ (ps : List Page). HasPage ps n) new.pages_are has);
    commit = λ k new i. record { entity = new.entity_is i; version = new.version_is i; stamp = slice_index (new.stamp_is i) };
  }
