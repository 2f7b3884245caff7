-- What is read of a kept record of a run is the shipment of its entity's newest commit.
use Rattle.std.proofs.Common.{◌≡◌, ◌≢◌, inl, inr, ℕ, ◌/◌, ◌<◌, ◌≤◌, List, length, Some, None, refl, sym, ap, subst, ◌∙◌, arith, get_or}
use Rattle.std.specs.Prelude.{Any, slice_index, take}
use Rattle.edge_disk.specs.Image.{Image, block_at}
use Rattle.base_types.specs.declared.histories.Entry.{Entry}
use Rattle.base_types.specs.declared.records.Rec.{Rec}
use Rattle.image_meaning.proofs.Meaning.{cell_same}
use Rattle.image_meaning.proofs.Ones.{plain, plain_cell, plain_one}
use Rattle.image_meaning.specs.Describing.{bytes_of}
use Rattle.kernel_invariant.proofs.Pages.{page_bytes}
use Rattle.kernel_invariant.specs.Beginnings.{Beginning, IsLegal, completed, entity_at, with_tried}
use Rattle.kernel_invariant.specs.Records.{AreKeptRecords, IsKeptRecord}
use Rattle.kernel_records.proofs.Newest.{cut_low}
use Rattle.kernel_records.specs.Keeping.{HasNewest}
use Rattle.kernel_record_facts.specs.Cells.{words_on}
use Rattle.kernel_record_facts.specs.image_meaning.Parts.{AtlasPart, ContainerPart, IsOf, LocusPart, Part, Spells, cell_of, cut_of, table_in}
use Rattle.kernel_record_facts.specs.kernel_invariant.model_kernel.State.{ContainerCell, Supply}
use Rattle.model_new_commits.specs.Found.{newest_commit}
use Rattle.model_run_rules.specs.Newest.{newest_in}
use Rattle.model_run_rules.specs.Records.{AreRecordsOf, IsRecordOf}
use Rattle.model_kernel.specs.Choices.{Commit}
use Rattle.node_newest.proofs.Commits.{newest_found}
use Rattle.node_pages.proofs.Lists.{IsLastAt, kept_one, last_at, last_newest, none_any}
use Rattle.node_newest.proofs.Words.{block_words, found_all, word_found}
use Rattle.node_newest.specs.Newest.{IsNewest}
use Rattle.node_newest.specs.Reading.{IsReadOf}
use Rattle.node_pages.specs.Reading.{last_rec, pages_to}
use Rattle.node_shipments.proofs.node_records_lemmas.Records.{kind_over}
use Rattle.node_shipments.specs.node_records.Shipments.{IsShippedOf, over, page_words, shipped_cell}
use Rattle.node_shipments.proofs.Spelling.{size_few}
use Rattle.node_shipments.specs.Parts.{IsSoundShipment, Shipment, part_in}
use Rattle.node_shipments.specs.Runs.{commit_in}
use Rattle.node_shipments.specs.node_store.page_placing.declared.writing.PageWords.{PageWords}
use Rattle.store_snapshots.specs.store_facts.image_facts.Bodies.{blob_in}
use Rattle.store_snapshots.specs.store_books.Books.{Books, Logged, kept_for, kept_of, recs_in}

-- PARTS

table_few : (p : Part) (bytes : List ℕ) → Spells p bytes → length (table_in p) ≤ 256
table_few (AtlasPart a) bytes s = omega arith
table_few (ContainerPart c table) bytes s = (let each = s.form.blocks.each_page in let size = s.form.shape.size in omega (arith, each, size))
table_few (LocusPart l) bytes s = omega arith

-- the cell over the words that were read is that over the blocks
over_cell : (s : Supply) (image : Image) (pages : List PageWords) (table : List ℕ) (p : Part)
    → ((page : ℕ) → page_words pages page ≡ block_words (words_on image) (slice_index (table_in (over table p)) page)) → cell_of s (block_at image) (over table p) ≡ shipped_cell s pages p
over_cell s image pages table (AtlasPart a) found = refl
over_cell s image pages table (ContainerPart c was) found =
    ap (λ (f : ℕ → ℕ). ContainerCell (record c { words = f })) (λ i address. sym (word_found s image c.tag (take c.pages table) pages address (found (address / 128))) i)
over_cell s image pages table (LocusPart l) found = refl

module _ (b : Beginning) (es : List Entry) (image : Image) (l : Logged) (s : Shipment) (kept : IsKeptRecord b es (kept_for image l)) (read : IsReadOf image l.rec s) (sound : IsSoundShipment s)
    (entity_is : s.entity ≡ l.rec.entity) (version_is : s.version ≡ l.rec.version) (stamp_is : s.stamp ≡ l.rec.stamp) where
  abbrev spelt : Part
  spelt = kept.told.part

  abbrev sent : Part
  sent = part_in s.part

  abbrev table : List ℕ
  table = read.part.0

  kind : IsOf l.rec.entity sent
  kind = subst (λ (x : ℕ). IsOf x sent) entity_is sound.kind

  plains : plain (over table sent) ≡ plain spelt
  plains = plain_one l.rec.entity (over table sent) spelt (blob_in image l.rec) (kind_over table sent ∙ kind ∙ sym kept.told.describes.spells.kind) read.part.1 kept.told.describes.spells.spells

  pages_are : s.pages ≡ pages_to (words_on image) (table_in (over table sent)) 256
  pages_are = read.pages (over table sent) (kind_over table sent ∙ sound.kind) read.part.1

  found : (page : ℕ) → page_words s.pages page ≡ block_words (words_on image) (slice_index (table_in (over table sent)) page)
  found page =
      ap (λ (ps : List PageWords). page_words ps page) pages_are
      ∙ found_all (words_on image) (table_in (over table sent)) page (table_few (over table sent) (blob_in image l.rec) read.part.1)

  blocks : (page : ℕ) → slice_index (table_in spelt) page ≢ 0 → block_at image (slice_index (table_in spelt) page) ≡ bytes_of (kept_for image l).pages (slice_index (table_in spelt) page)
  blocks page some = sym (page_bytes image l.table (slice_index (table_in spelt) page) (kept.told.describes.spells.pages page some))

  cell : (entity_at b es l.rec.entity l.rec.version).cell ≡ shipped_cell b.supply s.pages sent
  cell =
      kept.told.describes.cell
      ∙ sym (cell_same b.supply (block_at image) (bytes_of (kept_for image l).pages) spelt blocks)
      ∙ plain_cell b.supply (block_at image) spelt
      ∙ ap (cell_of b.supply (block_at image)) (sym plains)
      ∙ sym (plain_cell b.supply (block_at image) (over table sent))
      ∙ over_cell b.supply image s.pages table sent found

  shipped_there : IsShippedOf b es l.rec.entity l.rec.version l.rec.stamp sent s.pages
  shipped_there = record {
    from = kept.from;
    reached = kept.reached;
    components = kept.told.components;
    kind = kind;
    cell = cell;
    version_is = kept.told.describes.version;
    stamp_is = kept.told.describes.stamp;
    within = sound.within;
    few = size_few s.part sound.spelt;
  }

  pub shipped : IsShippedOf b es s.entity s.version s.stamp sent s.pages
  shipped = subst (λ (x : ℕ). IsShippedOf b es x s.version s.stamp sent s.pages) (sym entity_is)
      (subst (λ (v : ℕ). IsShippedOf b es l.rec.entity v s.stamp sent s.pages) (sym version_is)
      (subst (λ (st : List ℕ). IsShippedOf b es l.rec.entity l.rec.version st sent s.pages) (sym stamp_is) shipped_there))

-- THE NEWEST

module _ (b : Beginning) (es : List Entry) (x : ℕ) (image : Image) (bk : Books) (n : ℕ → ℕ) (stamps : ℕ → List ℕ) (legal : IsLegal b es) (records : AreRecordsOf b.supply b.script b.state es (with_tried b es))
    (kept : AreKeptRecords b es (completed b es) (kept_of image bk)) (newest : HasNewest n stamps (recs_in bk)) (n_is : n x ≡ newest_in (completed b es) x) where
  abbrev Good : Commit → Type 0
  Good c = (0 < c.version) × IsRecordOf b.supply b.script b.state es c

  of_version : Any (λ (q : Rec). (q.entity ≡ x) × (q.version ≡ n x) × (q.stamp ≡ stamps x)) (recs_in bk) → Any (λ (q : Rec). (q.entity ≡ x) × (q.version ≡ n x)) (recs_in bk)
  of_version (j, d, short, at, is) = (j, d, short, at, (is.0, is.1))

  -- the last record has the newest version
  version_last : (r : Rec) → IsLastAt x (recs_in bk) r → r.version ≤ n x → r.version ≡ n x
  version_last r l low = elim (newest.newest x) as (λ _. r.version ≡ n x) [
    | inl none ↦ omega (arith, none, low)
    | inr some ↦ last_newest x (recs_in bk) r (n x) l newest.ascending low (of_version some)
  ]

  low_at : (r : Rec) → IsLastAt x (recs_in bk) r → r.version ≤ n x
  low_at r l = (let le = newest.most l.place r l.short in subst (λ (q : Rec). q.version ≤ n x) l.at (subst (λ (y : ℕ). (get_or (recs_in bk) l.place r).version ≤ n y) (ap (λ (q : Rec). q.entity) l.at ∙ l.of) le))

  module _ (r : Rec) (is : last_rec (recs_in bk) x ≡ Some r) (s : Shipment) (read : IsReadOf image r s) (sound : IsSoundShipment s) (entity_is : s.entity ≡ r.entity) (version_is : s.version ≡ r.version) (stamp_is : s.stamp ≡ r.stamp) where
    last : IsLastAt x (recs_in bk) r
    last = last_at x (recs_in bk) r is

    version : r.version ≡ n x
    version = version_last r last (low_at r last)

    above : cut_of (recs_in bk) r.entity ≤ r.version
    above = (let low = cut_low n stamps (recs_in bk) newest.most x in let same : cut_of (recs_in bk) r.entity ≡ cut_of (recs_in bk) x = ap (cut_of (recs_in bk)) last.of in let is = version in omega (arith, low, same, is))

    logged : (l : Logged) × (l.rec ≡ r) × IsKeptRecord b es (kept_for image l)
    logged = kept_one (IsKeptRecord b es) (kept_for image) (cut_of (recs_in bk)) bk.logged last.place r last.short last.at above kept.each

    told : IsShippedOf b es s.entity s.version s.stamp (part_in s.part) s.pages
    told =
        let l = logged.0 in
        let same : l.rec ≡ r = logged.1 in
        shipped b es image l s logged.2 (subst (λ (q : Rec). IsReadOf image q s) (sym same) read) sound
        (entity_is ∙ sym (ap (λ (q : Rec). q.entity) same)) (version_is ∙ sym (ap (λ (q : Rec). q.version) same)) (stamp_is ∙ sym (ap (λ (q : Rec). q.stamp) same))

    of_entity : s.entity ≡ x
    of_entity = entity_is ∙ last.of

    commit : newest_commit (completed b es) x ≡ Some (commit_in s)
    commit = elim (newest_found b es x legal records) as (λ _. newest_commit (completed b es) x ≡ Some (commit_in s)) [
      | inl none ↦ absurd (let zero_is = none.1 in let some = sound.some in let v = version in let own = version_is in let m = n_is in omega (arith, zero_is, some, v, own, m))
      | inr one ↦ one.1 ∙ ap Some (same one)
    ]
      where
        same : (f : (c : Commit) × (newest_commit (completed b es) x ≡ Some c) × (c.entity ≡ x) × (c.version ≡ newest_in (completed b es) x) × Good c) → f.0 ≡ commit_in s
        same (c, at, entity, v, good) =
            let same_entity : c.entity ≡ s.entity = entity ∙ sym of_entity in
            let same_version : c.version ≡ s.version = v ∙ sym n_is ∙ sym version ∙ sym version_is in
            let stamp : c.stamp ≡ slice_index s.stamp =
            sym good.1.stamp ∙ (λ i. (entity_at b es (same_entity i) (same_version i)).stamp) ∙ told.stamp_is in
            (λ i. record { entity = same_entity i; version = same_version i; stamp = stamp i })

    pub newest_told : IsNewest b es x s
    newest_told = record { commit = commit; told = told }

  pub none_told : last_rec (recs_in bk) x ≡ None → newest_commit (completed b es) x ≡ None
  none_told is = elim (newest.newest x) as (λ _. newest_commit (completed b es) x ≡ None) [
    | inl none ↦ elim (newest_found b es x legal records) as (λ _. newest_commit (completed b es) x ≡ None) [
      | inl zero_is ↦ zero_is.0
      | inr one ↦ absurd (let v = one.3 in let some = one.4.0 in let m = n_is in omega (arith, v, some, m, none))
    ]
    | inr some ↦ absurd (none_any x (recs_in bk) (λ (q : Rec). q.version ≡ n x) is (of_version some))
  ]
