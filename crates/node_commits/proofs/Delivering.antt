-- The images and moments of a delivery.
use Rattle.std.proofs.Common.{◌≡◌, inl, inr, ℕ, ◌==◌, if◌then◌else◌, true, false, List, [], ◌∷◌, ◌++◌, refl, sym, ap, subst, eq-eqb}
use Rattle.edge_disk.specs.declared.disk.Disk.{Ghosts}
use Rattle.edge_disk.specs.Image.{Image}
use Rattle.edge_disk.specs.Moments.{LeavesOnly}
use Rattle.base_types.specs.declared.histories.Entry.{Entry}
use Rattle.kernel_block_laws.specs.kernel_invariant.model_kernel.Choices.{Commit}
use Rattle.kernel_block_laws.specs.kernel_invariant.model_cut_laws.Records.{commit_of}
use Rattle.kernel_block_laws.specs.kernel_invariant.image_meaning.Stores.{Kept, Stores}
use Rattle.kernel_block_laws.specs.kernel_invariant.store_books.Between.{LeavesOnly-join, OnlyPages}
use Rattle.kernel_block_laws.specs.kernel_invariant.store_books.Books.{AreSmall, AreTrue, Books, IsNewKept, kept_of}
use Rattle.kernel_block_laws.specs.kernel_invariant.store_books.Owning.{NamesPage}
use Rattle.kernel_block_laws.specs.kernel_invariant.Beginnings.{Beginning, IsLegal}
use Rattle.kernel_block_laws.specs.kernel_invariant.Records.{AreKeptRecords, IsKeptRecord, StoresCommits}
use Rattle.kernel_block_laws.proofs.kernel_invariant_lemmas.Apart.{kept_apart, more_apart}
use Rattle.kernel_block_laws.proofs.kernel_invariant_lemmas.Growing.{records_grow}
use Rattle.kernel_block_laws.proofs.kernel_invariant_lemmas.Stretches.{leaves_map}
use Rattle.store_facts.specs.Committed.{StoresKeptOrMore, StoresMoreInFreeBlocks}
use Rattle.node_commits.specs.Deliveries.{IsShipped, KeepsCommits, StoresOneMore, one_table}

one_at : (entity : ℕ) (table : List ℕ) (x : ℕ) → x ≡ entity → one_table entity table x ≡ table
one_at entity table x is = (let t = eq-eqb x entity is in ap (λ b. if b then table else []) t)

-- an image that stores what is kept stores the commits
pub kept_stored : (b : Beginning) (es : List Entry) (cs : List Commit) (image at : Image) (bk : Books) (tables : ℕ → List ℕ) → KeepsCommits b es cs image bk tables → Stores bk.count (kept_of image bk) at → StoresCommits b es bk.count cs at
kept_stored b es cs image at bk tables k st = record { ks = kept_of image bk; records = k.records; apart = kept_apart bk tables image k.owned; stores = st }

module _ (b : Beginning) (es : List Entry) (cs : List Commit) (c : Commit) (image : Image) (bk : Books) (entity version : ℕ) (stamp blob table : List ℕ)
    (k : KeepsCommits b es cs image bk (one_table entity table)) (s : IsShipped b es entity version stamp blob table image c) where
  more_stored : (at : Image) → StoresMoreInFreeBlocks image bk entity version stamp blob table at → StoresCommits b es bk.count (cs ++ c ∷ []) at
  more_stored at m =
      let new : Kept = m.more.new in
      record {
        ks = kept_of image bk ++ new ∷ [];
        records = subst (λ (d : Commit). AreKeptRecords b es (cs ++ d ∷ []) (kept_of image bk ++ new ∷ [])) (s.commit new m.more.is) (records_grow b es cs (kept_of image bk) new k.records (s.told new m.more.is));
        apart = more_apart bk (one_table entity table) image k.owned new (record {
          pages = λ n has. subst (λ (t : List ℕ). NamesPage t n) (sym (one_at entity table new.rec.entity m.more.is.entity_is)) (s.pages new n m.more.is has);
          pool = k.pool;
          fresh = m.free.fresh;
        });
        stores = m.more.stores;
      }

  pub delivered : (at : Image) → StoresKeptOrMore image bk entity version stamp blob table at → StoresOneMore b es bk.count cs c at
  delivered at (inl st) = inl (kept_stored b es cs image at bk (one_table entity table) k st)
  delivered at (inr m) = inr (more_stored at m)

pub delivered_moments : {D : Type 0} (disks : Ghosts D) (b : Beginning) (es : List Entry) (cs : List Commit) (c : Commit) (old mid new : D) (bk fl : Books) (m n : ℕ) (entity version : ℕ) (stamp blob table : List ℕ)
    → disks.tells → AreTrue disks bk old → AreSmall bk → bk.shut ≡ false
    → KeepsCommits b es cs (disks.reading old) bk (λ x. [])
    → OnlyPages disks old mid bk fl m n → KeepsCommits b es cs (disks.reading mid) fl (one_table entity table)
    → IsShipped b es entity version stamp blob table (disks.reading mid) c
    → LeavesOnly disks mid new (StoresKeptOrMore (disks.reading mid) fl entity version stamp blob table)
    → LeavesOnly disks old new (StoresOneMore b es bk.count cs c)
delivered_moments disks b es cs c old mid new bk fl m n entity version stamp blob table told right small working k pages kf s commit =
    LeavesOnly-join disks (StoresOneMore b es bk.count cs c) old mid new
    (leaves_map disks old mid (Stores bk.count (kept_of (disks.reading old) bk)) (StoresOneMore b es bk.count cs c) (λ at st. inl (kept_stored b es cs (disks.reading old) at bk (λ x. []) k st)) (pages.moments told right small working))
    (leaves_map disks mid new (StoresKeptOrMore (disks.reading mid) fl entity version stamp blob table) (StoresOneMore b es bk.count cs c)
    (λ at st. subst (λ (count : ℕ). StoresOneMore b es count cs c at) pages.same_count (delivered b es cs c (disks.reading mid) fl entity version stamp blob table kf s at st)) commit)
