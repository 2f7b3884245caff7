-- What an image stores behind a commit of a cell, whose record is made or tried.
use Rattle.std.proofs.Common.{◌≡◌, inl, inr, ℕ, List, [], ◌∷◌, ◌++◌, length, slice_index, Option, None, IfSome, refl, sym, ap, subst, ◌∙◌}
use Rattle.edge_disk.specs.declared.disk.Disk.{Ghosts}
use Rattle.edge_disk.specs.Image.{Image}
use Rattle.base_types.specs.declared.histories.Entry.{Entry}
use Rattle.kernel_records.specs.model_kernel.Choices.{Commit}
use Rattle.base_types.specs.declared.records.Rec.{Rec}
use Rattle.kernel_records.specs.model_kernel.Histories.{Run, commit_of as run_commit}
use Rattle.kernel_records.specs.model_kernel.State.{KernelState}
use Rattle.kernel_laws.specs.model_cut_laws.Records.{commit_of}
use Rattle.kernel_laws.specs.image_meaning.Describing.{HasPage}
use Rattle.kernel_laws.specs.image_meaning.Parts.{Spells}
use Rattle.kernel_laws.specs.image_meaning.Stores.{Kept, Page, Stores}
use Rattle.kernel_laws.specs.store_books.Books.{AreStored, kept_names, kept_of, recs_in}
use Rattle.kernel_laws.specs.store_books.Owning.{AreOwned, NamesPage}
use Rattle.kernel_records.specs.store_facts.Committed.{StoresMoreInFreeBlocks}
use Rattle.kernel_records.specs.store_facts.State.{State, books}
use Rattle.kernel_records.specs.cell_clocks.Clocks.{HasClock}
use Rattle.kernel_records.specs.cell_clocks.declared.Clock.{Clock}
use Rattle.data_stamps.specs.Stamps.{component}
use Rattle.kernel_records.specs.cell_states.declared.cells.Cell.{Cell}
use Rattle.kernel_records.specs.cell_states.Cells.{HasCell, part_of}
use Rattle.kernel_records.specs.cell_blobs.Blobs.{bytes_of, spelt_in}
use Rattle.table_laws.specs.Tables.{IsOrderly, blocks_by, memory_at, tables_in}
use Rattle.kernel_records.specs.kernel_record_facts.Cells.{IsCleanIn, IsSettled, IsSpellable, table_of, words_on}
use Rattle.kernel_records.specs.kernel_record_facts.Telling.{IsRecordOf}
use Rattle.kernel_records.proofs.kernel_record_facts_lemmas.Telling.{told as told_record}
use Rattle.kernel_records.specs.Committing.{HasPages, IsSpelt}
use Rattle.kernel_records.proofs.Spelling.{spellable_again}
use Rattle.kernel_laws.specs.kernel_invariant.Beginnings.{Beginning, IsLegal, completed, run_of, state_after, with_tried}
use Rattle.kernel_laws.specs.kernel_invariant.Live.{HoldsCommits}
use Rattle.kernel_laws.specs.kernel_invariant.store_told.Told.{ArePagesApart}
use Rattle.kernel_laws.specs.kernel_invariant.Records.{AreKeptRecords, IsKeptRecord, StoresCommits}
use Rattle.kernel_laws.specs.kernel_invariant.Telling.{TellsOf}
use Rattle.kernel_laws.proofs.kernel_invariant_lemmas.Apart.{kept_apart, more_apart}
use Rattle.kernel_laws.proofs.kernel_invariant_lemmas.Growing.{records_grow}
use Rattle.kernel_laws.proofs.kernel_invariant_lemmas.Pages.{page_named}
use Rattle.kernel_laws.proofs.kernel_invariant_lemmas.Staying.{records_stay}
use Rattle.kernel_laws.proofs.kernel_invariant_lemmas.Telling.{told_record as kept_told}
use Rattle.kernel_views.specs.Views.{view_in}
use Rattle.kernel_views.proofs.Flushing.{goes, one_news, owned_again, within_at}
use Rattle.kernel_records.proofs.kernel_block_laws_lemmas.Unchanged.{blob_high}
use Rattle.kernel_views.proofs.Leaving.{LeftCell, clean_before, had, kept_clock, kept_entity, place_of, same_table, stood, version_is}
use Rattle.kernel_laws.proofs.store_books_lemmas.Owners.{place_in}

-- THE ENTRY of the record, made or tried: it may follow, changes no state, and its commit is the entity's
pub record IsNextEntry (b : Beginning) (es : List Entry) (e : Entry) (x : ℕ) : Type 0 where
  pub legal : IsLegal b (es ++ e ∷ [])
  pub state_is : (run_of b es).state ≡ state_after b (es ++ e ∷ [])
  pub next : with_tried b (es ++ e ∷ []) ≡ completed b es ++ run_commit (run_of b es) x ∷ []

module _ {D : Type 0} {disks : Ghosts D}
    {b : Beginning} {cs cs' : List Cell} {c d : Cell} {old new : State D} {es : List Entry} {marks : List ℕ}
    (q : LeftCell disks b cs cs' c d old new es marks) (e : Entry) (n : IsNextEntry b es e c.clock.entity) where
  abbrev x : ℕ
  x = c.clock.entity

  abbrev words0 : ℕ → List ℕ
  words0 = words_on (disks.reading old.disk)

  abbrev r : Run
  r = run_of b es

  -- the entity's commit, by its record
  pub same_commit : (new' : Rec) → new'.entity ≡ x → new'.version ≡ c.clock.version → new'.stamp ≡ d.clock.stamp.0 → run_commit r x ≡ commit_of new'
  same_commit new' entity version stamp = λ i. record {
    entity = sym entity i;
    version = (sym (version_is q) ∙ sym version) i;
    stamp = λ y. ((had q).clock.stamp y ∙ sym (ap (λ (k : Clock). component k.stamp y) (kept_clock q)) ∙ sym (ap (λ (l : List ℕ). slice_index l y) stamp)) i;
  }

  -- WHAT THE STORE HOLDS

  pub hold : HoldsCommits b disks (view_in b.supply b.script.steps (disks.reading old.disk) cs (books old) es marks None) old.disk
  hold = q.stands.runs.stored q.told refl

  pub stored : AreStored disks (books old).count (books old).place (recs_in (books old)) (kept_of (disks.reading old.disk) (books old)) old.disk
  stored = hold.books.stored hold.small hold.working

  spellable_d : (fl : State D) → HasPages disks c.part d.part old fl → IsSpellable d
  spellable_d fl pages = spellable_again disks.tells (λ (k : State D). (books k).held) (λ (k : State D). kept_names (books k)) (λ (k : State D). words_on (disks.reading k.disk)) (books fl).held c d old fl (kept_clock q) pages.flushes pages.table q.spellable

  module _ (fl : State D) (pages : HasPages disks c.part d.part old fl) (settled : IsSettled d.part) (spelt : IsSpelt d) (ord' : IsOrderly (books fl).held cs') where
    pub owned_by_pages : AreOwned (books fl) (tables_in cs')
    owned_by_pages = owned_again cs cs' (books old) (books fl)
        (one_news cs cs' c d (kept_entity q) (stood q) q.lends (books old) (goes disks (λ (k : State D). words_on (disks.reading k.disk)) old fl c.part d.part pages.flushes).news)
        pages.only.same_logged pages.only.same_count hold.owned ord' (blob_high (books old) (disks.reading old.disk) stored.pool)

    pub same_books : kept_of (disks.reading fl.disk) (books fl) ≡ kept_of (disks.reading old.disk) (books old)
    same_books = pages.only.same_kept q.told

    -- the table of the cell's place
    pub table_there : (p : ℕ) → slice_index (tables_in cs' x) p ≡ slice_index (table_of d.part) p
    table_there p = elim (place_of q x) as (λ _. slice_index (tables_in cs' x) p ≡ slice_index (table_of d.part) p) [
      | inl k ↦ ap (λ (o : Option Cell). slice_index (blocks_by (memory_at o)) p) k.1 ∙ sym (same_table d.part p)
      | inr k ↦ absurd (k.0 refl)
    ]

    -- a record of the cell as an image holds it, which means what the cell meant
    module _ (image : Image) (means : (part_of b.supply (words_on image) d.part ≡ part_of b.supply words0 c.part) × IsCleanIn b.supply (words_on image) d.part) (new' : Kept) (is : IsRecordOf image d new') where
      has_d : HasCell b.supply (words_on image) r.state d
      has_d = record {
        part = ap (λ (k : Clock). (r.state k.entity).cell) (kept_clock q) ∙ ((had q).part ∙ sym means.0);
        clock = subst (λ (k : Clock). HasClock r.state k) (sym (kept_clock q)) (had q).clock;
      }

      tells_of : TellsOf b.supply r.state image (table_of d.part) new'
      tells_of = told_record b.supply image (books fl).held r.state d new' has_d (spellable_d fl pages) (record { table = pages.table; clean = means.1; settled = settled }) is

      pub kept_record : IsKeptRecord b (es ++ e ∷ []) new'
      kept_record = kept_told b (es ++ e ∷ []) n.legal image (table_of d.part) new' (subst (λ (w : KernelState). TellsOf b.supply w image (table_of d.part) new') n.state_is tells_of)

      pub next_commits : with_tried b (es ++ e ∷ []) ≡ completed b es ++ commit_of new'.rec ∷ []
      next_commits = n.next ∙ ap (λ (m : Commit). completed b es ++ m ∷ []) (same_commit new'.rec (is.entity ∙ kept_entity q) (is.version ∙ ap (λ (k : Clock). k.version) (kept_clock q)) is.stamp)

    pub records0 : AreKeptRecords b (es ++ e ∷ []) (completed b es) (kept_of (disks.reading fl.disk) (books fl))
    records0 = subst (AreKeptRecords b (es ++ e ∷ []) (completed b es)) (sym same_books) (records_stay b es (e ∷ []) n.legal (completed b es) (kept_of (disks.reading old.disk) (books old)) hold.records)

    -- A STOP behind the pages leaves the record, too
    module _ (image : Image) (more : StoresMoreInFreeBlocks (disks.reading fl.disk) (books fl) d.clock.entity d.clock.version d.clock.stamp.0 (bytes_of (spelt_in d.part)) (table_of d.part) image) where
      abbrev new_kept : Kept
      new_kept = more.more.new

      new_is : IsRecordOf (disks.reading fl.disk) d new_kept
      new_is = record {
        entity = more.more.is.entity_is;
        version = more.more.is.version_is;
        stamp = more.more.is.stamp_is;
        components = ap length more.more.is.stamp_is ∙ spelt.components;
        spells = subst (λ (bytes : List ℕ). IfSome (spelt_in d.part) (λ p. Spells p bytes)) (sym more.more.is.blob_is) spelt.spells;
        pages = more.more.is.pages_are;
      }

      named_there : (n : ℕ) → HasPage new_kept.pages n → NamesPage (tables_in cs' new_kept.rec.entity) n
      named_there n page =
          let named = page_named (disks.reading fl.disk) (table_of d.part) n (subst (λ (ps : List Page). HasPage ps n) new_is.pages page) in
          let p = place_in (table_of d.part) n named.1 in
          subst (λ (y : ℕ). NamesPage (tables_in cs' y) n) (sym (new_is.entity ∙ kept_entity q)) (named.0, within_at (tables_in cs' x) p.0 n named.0 (table_there p.0 ∙ p.1))

      grown : AreKeptRecords b (es ++ e ∷ []) (with_tried b (es ++ e ∷ [])) (kept_of (disks.reading fl.disk) (books fl) ++ new_kept ∷ [])
      grown =
          let means = pages.means q.told b.supply (clean_before q) in
          subst (λ (k : List Commit). AreKeptRecords b (es ++ e ∷ []) k (kept_of (disks.reading fl.disk) (books fl) ++ new_kept ∷ [])) (sym (next_commits (disks.reading fl.disk) means new_kept new_is))
          (records_grow b (es ++ e ∷ []) (completed b es) (kept_of (disks.reading fl.disk) (books fl)) new_kept records0 (kept_record (disks.reading fl.disk) means new_kept new_is))

      pub stores_next : StoresCommits b (es ++ e ∷ []) (books old).count (with_tried b (es ++ e ∷ [])) image
      stores_next = record {
        ks = kept_of (disks.reading fl.disk) (books fl) ++ new_kept ∷ [];
        records = grown;
        apart = subst (λ (n : ℕ). ArePagesApart n (kept_of (disks.reading fl.disk) (books fl) ++ new_kept ∷ [])) pages.only.same_count
            (more_apart (books fl) (tables_in cs') (disks.reading fl.disk) owned_by_pages new_kept (record { pages = named_there; pool = more.free.pool; fresh = more.free.fresh }));
        stores = subst (λ (n : ℕ). Stores n (kept_of (disks.reading fl.disk) (books fl) ++ new_kept ∷ []) image) pages.only.same_count more.more.stores;
      }

  -- what was stored is stored
  pub stores_still : (image : Image) → Stores (books old).count (kept_of (disks.reading old.disk) (books old)) image → StoresCommits b es (books old).count (completed b es) image
  stores_still image s = record {
    ks = kept_of (disks.reading old.disk) (books old);
    records = hold.records;
    apart = kept_apart (books old) (tables_in cs) (disks.reading old.disk) hold.owned;
    stores = s;
  }
