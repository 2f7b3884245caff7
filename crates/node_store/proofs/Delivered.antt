-- A delivery, from the pages to the blocks given back.
use Rattle.std.proofs.Common.{◌≡◌, ◌⊎◌, inl, inr, ℕ, ◌^◌, ◌<◌, ◌&&◌, Bool, true, false, arith, List, [], ◌∷◌, ◌++◌, length, map, refl, sym, ap, subst, ◌∙◌}
use Rattle.std.specs.Prelude.{All, slice_index}
use Rattle.edge_disk.specs.declared.disk.Disk.{Ghosts}
use Rattle.edge_disk.specs.Image.{Image}
use Rattle.edge_disk.specs.Moments.{LeavesOnly}
use Rattle.node_commits.proofs.kernel_invariant_lemmas.Stretches.{leaves_map}
use Rattle.base_types.specs.declared.histories.Entry.{Entry}
use Rattle.node_commits.specs.kernel_invariant.model_kernel.Choices.{Commit}
use Rattle.node_commits.specs.kernel_invariant.Beginnings.{Beginning}
use Rattle.node_commits.specs.kernel_invariant.Records.{AreKeptRecords, StoresCommits}
use Rattle.node_commits.specs.kernel_invariant.image_meaning.Stores.{Kept, Stores}
use Rattle.store_snapshots.specs.store_facts.image_facts.Layout.{last_number}
use Rattle.store_snapshots.specs.store_facts.image_facts.Logs.{AreFitting}
use Rattle.store_snapshots.specs.Paging.{GoesByPages}
use Rattle.store_snapshots.specs.store_facts.State.{HoldsPoolBlocks, State, books}
use Rattle.store_snapshots.specs.store_facts.Committed.{CommitsInFreeBlocks, HasNewRecord, SameUsed, StoresKeptOrMore}
use Rattle.store_snapshots.specs.store_facts.Putting.{are_small}
use Rattle.store_snapshots.specs.store_books.Between.{LeavesOnly-join}
use Rattle.store_snapshots.specs.store_books.Books.{AreSmall, AreStored, AreTrue, IsNewKept, Logged, kept_for, kept_in, kept_of, recs_in}
use Rattle.store_snapshots.specs.store_books.Owning.{AreOwned}
use Rattle.node_commits.specs.Deliveries.{HasDelivered, IsShipped, KeepsCommits, StoresOneMore, one_table}
use Rattle.node_commits.proofs.Delivering.{delivered_moments, kept_stored}
use Rattle.node_commits.proofs.Standing.{delivered_books, same_kept_in}
use Rattle.page_placing.specs.declared.writing.PageWords.{PageWords}
use Rattle.page_placing.specs.Writing.{HasGivenBack}
use Rattle.kernel_placing.specs.Placing.{stores_of}
use Rattle.node_store.specs.Shipping.{MayDeliver, TakesRecord}
use Rattle.node_commits.proofs.kernel_block_laws_lemmas.Unchanged.{blob_high, kept_same}
use Rattle.node_store.proofs.Placed.{Placed, at_entity, free_old, have_blocks, none_left, owned_now}

module _ {D : Type 0} (disks : Ghosts D)
    (b : Beginning) (es : List Entry) (cs : List Commit) (c : Commit) (entity version : ℕ) (stamp : List ℕ) (bytes : List ℕ → List ℕ) (pages : List PageWords) (old : State D)
    (t : disks.tells) (may : MayDeliver b es cs c (disks.reading old.disk) (books old) entity version stamp bytes pages) (right : AreTrue disks (books old) old.disk) (working : (books old).shut ≡ false) where
  abbrev One : Image → Type 0
  One = StoresOneMore b es (books old).count cs c

  -- where nothing was committed
  pub by_pages : (new : State D) → GoesByPages disks old new → LeavesOnly disks old.disk new.disk One
  by_pages new go = leaves_map disks old.disk new.disk (Stores (books old).count (kept_of (disks.reading old.disk) (books old))) One
      (λ at st. inl (kept_stored b es cs (disks.reading old.disk) at (books old) (λ x. []) may.keeps st)) (go.only.moments t right may.small working)

  module _ (table : List ℕ) (mid : State D) (w : Placed disks pages table old mid) (go : GoesByPages disks old mid) (pool : HoldsPoolBlocks (books mid))
      (long : length table ≡ 256) (low : All (λ n. n < 2 ^ 32) table) where
    small_mid : AreSmall (books mid)
    small_mid = record {
      recs = go.only.same_small ∙ may.small.recs;
      epoch = subst (λ (p : Rattle.node_commits.specs.kernel_invariant.image_blocks.Logs.Place). p.epoch < last_number) (sym go.only.same_place) may.small.epoch;
    }

    keeps_mid : KeepsCommits b es cs (disks.reading mid.disk) (books mid) (one_table entity table)
    keeps_mid = record {
      records = subst (AreKeptRecords b es cs) (sym (go.only.same_kept t)) may.keeps.records;
      owned = owned_now disks pages table old mid w entity may.keeps.owned go.only.same_logged go.only.same_count;
      pool = pool;
    }

    ships : (image : Image) → SameUsed (books mid) (disks.reading mid.disk) image → IsShipped b es entity version stamp (bytes table) table image c
    ships image same = may.ships image table long low (have_blocks disks pages table old mid w t image pool same)

    module _ (put : State D) (blob : List ℕ) (spelt : blob ≡ bytes table) (shut_mid : (books mid).shut ≡ false)
        (commits : disks.tells → AreSmall (books mid) → are_small version stamp ≡ true → (books mid).shut ≡ false
        → LeavesOnly disks mid.disk put.disk (StoresKeptOrMore (disks.reading mid.disk) (books mid) entity version stamp blob table)) where
      -- the pages, and the commit
      pub by_commit : LeavesOnly disks old.disk put.disk One
      by_commit = delivered_moments disks b es cs c old.disk mid.disk put.disk (books old) (books mid) (books old).begun (books mid).begun entity version stamp (bytes table) table
          t right may.small working may.keeps go.only keeps_mid (ships (disks.reading mid.disk) (λ n high used. refl))
          (subst (λ (bs : List ℕ). LeavesOnly disks mid.disk put.disk (StoresKeptOrMore (disks.reading mid.disk) (books mid) entity version stamp bs table)) spelt (commits t small_mid may.fits shut_mid))

      module _ (given : State D) (committed : CommitsInFreeBlocks entity version stamp blob table (disks.reading put.disk) (books mid) (books put)) (same : SameUsed (books mid) (disks.reading mid.disk) (disks.reading put.disk))
          (small : (books put).small ≡ ((books mid).small && are_small version stamp)) (true_mid : AreTrue disks (books mid) mid.disk) (true_put : AreTrue disks (books put) put.disk) (shut_put : (books put).shut ≡ false)
          (g : HasGivenBack (stores_of disks) pages (length pages) table put given) (back : GoesByPages disks put given) where
        small_put : AreSmall (books put)
        small_put = record {
          recs = small ∙ rw (small_mid.recs, may.fits) refl;
          epoch = (let e = committed.epoch.1 in let f = may.epoch in let same_epoch = ap (λ (p : Rattle.node_commits.specs.kernel_invariant.image_blocks.Logs.Place). p.epoch) go.only.same_place in omega (arith, e, f, same_epoch));
        }

        stored_mid : AreStored disks (books mid).count (books mid).place (recs_in (books mid)) (kept_of (disks.reading mid.disk) (books mid)) mid.disk
        stored_mid = true_mid.stored small_mid shut_mid

        abbrev l : Logged
        l = record { rec = committed.commits.rec; table = table }

        new_is : IsNewKept entity version stamp (bytes table) table (disks.reading put.disk) (kept_for (disks.reading put.disk) l)
        new_is = record {
          entity_is = committed.commits.entity_is;
          version_is = committed.commits.version_is;
          stamp_is = committed.commits.stamp_is;
          blob_is = committed.commits.blob_is ∙ spelt;
          pages_are = refl;
        }

        kept_put : kept_of (disks.reading put.disk) (books mid) ≡ kept_of (disks.reading mid.disk) (books mid)
        kept_put = kept_same (books mid) (disks.reading mid.disk) (disks.reading put.disk) same (blob_high (books mid) (disks.reading mid.disk) stored_mid.pool) (λ l n within named. (keeps_mid.owned.kept_pool l n within named).0)

        keeps_fl : KeepsCommits b es cs (disks.reading put.disk) (books mid) (one_table l.rec.entity table)
        keeps_fl = record {
          records = subst (AreKeptRecords b es cs) (sym kept_put) keeps_mid.records;
          owned = subst (λ (x : ℕ). AreOwned (books mid) (one_table x table)) (sym committed.commits.entity_is) keeps_mid.owned;
          pool = pool;
        }

        none_held : (n : ℕ) → (books given).held n ≡ false
        none_held = none_left disks pages table old mid w (free_old (books old) may.keeps.owned) put given committed.commits.same_held g

        has_delivered : HasDelivered b es c (books mid).count (disks.reading put.disk) (books mid) (books put) (books given) table l
        has_delivered = record {
          puts = record {
            log = committed.commits.log;
            table = λ p. ap (λ (ts : List ℕ). slice_index ts p) (sym (at_entity l.rec.entity table));
            pool = pool;
            fresh = committed.free.fresh;
            held = committed.commits.same_held;
            count = committed.commits.same_count;
          };
          told = (ships (disks.reading put.disk) same).told (kept_for (disks.reading put.disk) l) new_is;
          commit = (ships (disks.reading put.disk) same).commit (kept_for (disks.reading put.disk) l) new_is;
          fit_before = stored_mid.fit;
          fit_after = subst (λ (n : ℕ). AreFitting n (recs_in (books put))) committed.commits.same_count (true_put.stored small_put shut_put).fit;
          given_logged = back.only.same_logged;
          given_count = back.only.same_count;
          none_held = none_held;
        }

        keeps_put : KeepsCommits b es (cs ++ c ∷ []) (disks.reading put.disk) (books given) (λ x. [])
        keeps_put = delivered_books b es cs c (books mid).count (disks.reading put.disk) (books mid) (books put) (books given) table l keeps_fl has_delivered

        same_kept : kept_of (disks.reading put.disk) (books given) ≡ kept_of (disks.reading put.disk) (books put)
        same_kept = ap (λ (ls : List Logged). map (kept_for (disks.reading put.disk)) ls) (same_kept_in (books put) (books given) back.only.same_logged)

        -- BEHIND ALL OF IT
        pub keeps_given : KeepsCommits b es (cs ++ c ∷ []) (disks.reading given.disk) (books given) (λ x. [])
        keeps_given = record {
          records = subst (AreKeptRecords b es (cs ++ c ∷ [])) (same_kept ∙ sym (back.only.same_kept t)) keeps_put.records;
          owned = keeps_put.owned;
          pool = keeps_put.pool;
        }

        one_more : (at : Image) → Stores (books put).count (kept_of (disks.reading put.disk) (books put)) at → One at
        one_more at st = inr (subst (λ (n : ℕ). StoresCommits b es n (cs ++ c ∷ []) at) (committed.commits.same_count ∙ go.only.same_count)
            (subst (λ (n : ℕ). StoresCommits b es n (cs ++ c ∷ []) at) back.only.same_count
            (kept_stored b es (cs ++ c ∷ []) (disks.reading put.disk) at (books given) (λ x. []) keeps_put
            (subst (λ (n : ℕ). Stores n (kept_of (disks.reading put.disk) (books given)) at) (sym back.only.same_count) (subst (λ (ks : List Kept). Stores (books put).count ks at) (sym same_kept) st)))))

        pub by_all : LeavesOnly disks old.disk given.disk One
        by_all = LeavesOnly-join disks One old.disk put.disk given.disk by_commit
            (leaves_map disks put.disk given.disk (Stores (books put).count (kept_of (disks.reading put.disk) (books put))) One one_more (back.only.moments t true_put small_put shut_put))

-- WHAT IS IN MEMORY behind all of it
pub takes_record : {D : Type 0} (disks : Ghosts D) (pages : List PageWords) (table : List ℕ) (old mid put given : State D) (entity version blob_length : ℕ) (stamp : List ℕ) → Placed disks pages table old mid → GoesByPages disks old mid
    → HasNewRecord entity version blob_length stamp table (books mid) (books put) → (books put).small ≡ ((books mid).small && are_small version stamp)
    → HasGivenBack (stores_of disks) pages (length pages) table put given → GoesByPages disks put given → given.shut ≡ put.shut → (books old).found ≡ false
    → TakesRecord entity version stamp (books old) (books given)
takes_record disks pages table old mid put given entity version blob_length stamp w go new small g back shut read = record {
  logged = record { rec = new.rec; table = table };
  entity_is = new.entity_is;
  version_is = new.version_is;
  stamp_is = new.stamp_is;
  log = by_log (record { rec = new.rec; table = table }) new.log;
  working = shut ∙ new.working;
  read = back.only.same_found ∙ (new.same_found ∙ (go.only.same_found ∙ read));
  none_held = λ free n. none_left disks pages table old mid w free put given new.same_held g n;
  small = back.only.same_small ∙ (small ∙ ap (λ (s : Bool). s && are_small version stamp) go.only.same_small);
  epoch = (
      let rise = new.epoch.1 in
      let before = ap (λ (p : Rattle.node_commits.specs.kernel_invariant.image_blocks.Logs.Place). p.epoch) go.only.same_place in
      let behind = ap (λ (p : Rattle.node_commits.specs.kernel_invariant.image_blocks.Logs.Place). p.epoch) back.only.same_place in
      omega (arith, rise, before, behind));
}
  where
    by_log : (l : Logged) → ((books put).logged ≡ (books mid).logged ++ l ∷ []) ⊎ ((books put).logged ≡ kept_in (books mid) ++ l ∷ []) → ((books given).logged ≡ (books old).logged ++ l ∷ []) ⊎ ((books given).logged ≡ kept_in (books old) ++ l ∷ [])
    by_log l (inl is) = inl (back.only.same_logged ∙ (is ∙ ap (λ (ls : List Logged). ls ++ l ∷ []) go.only.same_logged))
    by_log l (inr is) = inr (back.only.same_logged ∙ (is ∙ ap (λ (ls : List Logged). ls ++ l ∷ []) (same_kept_in (books old) (books mid) go.only.same_logged)))
