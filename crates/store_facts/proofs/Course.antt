-- The course of a commit: blocks are taken, the record is put, and the blocks given back.
use Rattle.std.proofs.Common.{◌≡◌, ℕ, ◌+◌, ◌≤◌, ◌<◌, Bool, true, false, nat_lt, if◌then◌else◌, ◌⊎◌, inl, inr, List, [], ◌∷◌, ◌++◌, length, take, refl, sym, ap, subst, ◌∙◌, arith}
use Rattle.std.specs.Prelude.{slice_index, Result, Ok, Err, OnOk, OnErr}
use Rattle.std.proofs.lemmas.List.{length-map}
use Rattle.edge_disk.specs.declared.disk.Disk.{Ghosts}
use Rattle.edge_disk.specs.Disk.{Only}
use Rattle.edge_disk.specs.Image.{Image, SameOutside}
use Rattle.edge_disk.specs.Moments.{LeavesOnly}
use Rattle.edge_disk.proofs.Phases.{LeavesOnly-weaker, Moments}
use Rattle.base_types.specs.declared.records.Rec.{Rec}
use Rattle.log_reading.specs.image_facts.Bodies.{blob_in, blocks_for}
use Rattle.log_reading.specs.image_facts.Layout.{slot_count}
use Rattle.page_words.specs.log_turn.Standing.{Stands, epoch_of, used_of}
use Rattle.page_words.specs.log_turn.declared.areas.Areas.{Areas}
use Rattle.data_blocks.specs.Ledger.{Ledger, is_held}
use Rattle.page_words.specs.store_books.Books.{AreHeldPages, AreSmall, AreTrue, Books, Commits, Logged, StoresMore, is_small, is_used, kept_in, kept_of, logged_recs, recs_in}
use Rattle.store_commit.specs.BlobBytes.{HoldsBytes}
use Rattle.store_commit.specs.Ready.{AreAt, CanCommit, HasCommitted, ReadyLaw, books_after, next_in}
use Rattle.store_commit.specs.Storing.{HasLogged, IsCommitBlock, IsReady, Next, StoresOneMore, new_of, roomy_log as roomy_recs}
use Rattle.store_facts.specs.Committed.{CommitsInFreeBlocks, HasFailedShut, HasNewRecord, IsInFreeBlocks, SameUsed, StoresKeptOrMore}
use Rattle.store_facts.specs.Keeping.{HasRecounted}
use Rattle.store_facts.specs.Putting.{HasFailed, HasPut, roomy_log}
use Rattle.store_facts.specs.State.{IsWhole, State, books}
use Rattle.store_facts.specs.Taking.{HasReleased, HasTaken}
use Rattle.store_commit.proofs.After.{true_after}
use Rattle.store_commit.proofs.Readying.{ready_law}
use Rattle.store_facts.proofs.Committable.{IsRecordOf, can_commit, taken_free}
use Rattle.store_facts.proofs.Holding.{kept_is}
use Rattle.store_facts.proofs.Returned.{held_back}

-- books are the same where all of them is
pub books_same : (a b : Books) → a.count ≡ b.count → a.logged ≡ b.logged → a.place ≡ b.place → a.held ≡ b.held → a.found ≡ b.found → a.small ≡ b.small → a.shut ≡ b.shut → a.begun ≡ b.begun → a ≡ b
books_same a b count logged place held found small shut begun = λ i. record {
  count = count i;
  logged = logged i;
  place = place i;
  held = held i;
  found = found i;
  small = small i;
  shut = shut i;
  begun = begun i;
}

-- BEFORE

module _ {D : Type 0} (disks : Ghosts D) (st : State D) (w : IsWhole disks.block_count st) (working : st.shut ≡ false) (right : AreTrue disks (books st) st.disk) where
  recs_used : length (recs_in (books st)) ≡ used_of st.areas
  recs_used = length-map st.log (λ (l : Logged). l.rec) ∙ w.used working

  -- the books are those of the areas
  pub at_books : AreAt disks (books st) st.areas st.disk
  at_books = record { true_books = right; working = working; place = refl; used = recs_used }

  pub stands_now : Stands disks st.areas (recs_in (books st)) st.disk
  stands_now = record { used = recs_used; log = right.log working; left = right.left working }

pub kept_recs_is : {D : Type 0} (block_count : D → ℕ) (st : State D) → IsWhole block_count st → logged_recs st.kept ≡ logged_recs (kept_in (books st))
kept_recs_is block_count st w = ap logged_recs (kept_is block_count st w)

-- BEHIND IT

module _ {D : Type 0} (st st2 : State D) (mid last : Ledger) (many : ℕ) (blocks : List ℕ) (taken : HasTaken many st.blocks mid blocks) (released : HasReleased many st2.blocks last (take many blocks)) where
  module _ (only : st2.blocks ≡ record mid { names = st2.blocks.names }) where
    same_end : last.end ≡ st.blocks.end
    same_end = ap (λ (l : Ledger). l.end) released.only ∙ (ap (λ (l : Ledger). l.end) only ∙ ap (λ (l : Ledger). l.end) taken.only)

    same_found : last.all_named ≡ st.blocks.all_named
    same_found = ap (λ (l : Ledger). l.all_named) released.only ∙ (ap (λ (l : Ledger). l.all_named) only ∙ ap (λ (l : Ledger). l.all_named) taken.only)

    same_held : is_held last ≡ is_held st.blocks
    same_held = λ i n. held_back st.blocks mid st2.blocks last many blocks taken (ap (λ (l : Ledger). l.held) only) released n i

  -- after a failure
  pub failed_shut : HasFailed (record st { blocks = mid }) st2 → HasFailedShut (books st) (books (record st2 { blocks = last }))
  failed_shut f =
      let only : st2.blocks ≡ record mid { names = st2.blocks.names } = f.blocks ∙ ap (λ (ns : List ℕ). record mid { names = ns }) (sym (ap (λ (l : Ledger). l.names) f.blocks)) in
      record {
        same_logged = f.log;
        same_held = same_held only;
        same_found = same_found only;
        same_count = same_end only;
        same_small = f.small;
        shut = f.shut;
      }

  module _ (r : Rec) (table : List ℕ) (put : HasPut (record { rec = r; table = table }) (record st { blocks = mid }) st2) (block_count : D → ℕ) (w : IsWhole block_count st) (working : st.shut ≡ false) where
    -- the books behind it are those that the law speaks of
    pub books_are : books_after (books st) st.areas st2.areas r table (is_small r) ≡ books (record st2 { blocks = last })
    books_are =
        books_same (books_after (books st) st.areas st2.areas r table (is_small r)) (books (record st2 { blocks = last }))
        (sym (same_end put.ledger.only))
        (ap (λ (ks : List Logged). roomy_log (used_of st.areas) st.log ks ++ record { rec = r; table = table } ∷ []) (sym (kept_is block_count st w)) ∙ sym put.log)
        refl
        (sym (same_held put.ledger.only))
        (sym (same_found put.ledger.only))
        (sym put.small)
        (working ∙ sym put.shut)
        refl

    -- the log has one record more, behind all or the kept ones
    logged_by : (room : Bool) → st2.log ≡ (if room then st.log else st.kept) ++ record { rec = r; table = table } ∷ []
        → (st2.log ≡ st.log ++ record { rec = r; table = table } ∷ []) ⊎ (st2.log ≡ kept_in (books st) ++ record { rec = r; table = table } ∷ [])
    logged_by true is = inl is
    logged_by false is = inr (is ∙ ap (λ (ks : List Logged). ks ++ record { rec = r; table = table } ∷ []) (kept_is block_count st w))

    commits_as : (reading : Image) (bytes : List ℕ) → r.length ≡ length bytes → blob_in reading r ≡ bytes → Commits r.entity r.version r.stamp bytes table reading (books st) (books (record st2 { blocks = last }))
    commits_as reading bytes len reads = record {
      rec = r;
      entity_is = refl;
      version_is = refl;
      stamp_is = refl;
      length_is = len;
      blob_is = reads;
      log = logged_by (nat_lt (used_of st.areas) slot_count) put.log;
      same_held = same_held put.ledger.only;
      same_found = same_found put.ledger.only;
      same_count = same_end put.ledger.only;
    }

    pub new_record : IsInFreeBlocks (books st) r → (epoch_of st.areas ≤ epoch_of st2.areas) × (epoch_of st2.areas ≤ epoch_of st.areas + 1) → HasNewRecord r.entity r.version r.length r.stamp table (books st) (books (record st2 { blocks = last }))
    new_record free epoch = record {
      rec = r;
      entity_is = refl;
      version_is = refl;
      stamp_is = refl;
      length_is = refl;
      log = logged_by (nat_lt (used_of st.areas) slot_count) put.log;
      same_held = same_held put.ledger.only;
      same_found = same_found put.ledger.only;
      same_count = same_end put.ledger.only;
      working = put.shut;
      free = free;
      epoch = epoch;
    }

    pub commits : (reading : Image) (bytes : List ℕ) → r.length ≡ length bytes → blob_in reading r ≡ bytes → IsInFreeBlocks (books st) r → (epoch_of st.areas ≤ epoch_of st2.areas) × (epoch_of st2.areas ≤ epoch_of st.areas + 1)
        → CommitsInFreeBlocks r.entity r.version r.stamp bytes table reading (books st) (books (record st2 { blocks = last }))
    unfolding commits_as
    commits reading bytes len reads free epoch = record { commits = commits_as reading bytes len reads; free = free; epoch = epoch }

-- THE DISK

module _ {D : Type 0} (disks : Ghosts D) (st : State D) (w : IsWhole disks.block_count st) (working : st.shut ≡ false) (right : AreTrue disks (books st) st.disk)
    (r : Rec) (blob : List (List ℕ)) (bytes table : List ℕ) where
  -- with the kept records that the store has in place of the books'
  pub ready : ReadyLaw disks → AreSmall (books st) → CanCommit (books st) r blob bytes table → IsReady disks (next_in (disks.reading st.disk) (books st) bytes table) st.areas (logged_recs st.kept) r blob st.disk
  ready law small can =
      subst (λ (ks : List Rec). IsReady disks (next_in (disks.reading st.disk) (books st) bytes table) st.areas ks r blob st.disk) (sym (kept_recs_is disks.block_count st w))
      (law (books st) st.areas st.disk r blob bytes table (at_books disks st w working right) small can)

  pub has_committed : (areas : Areas) (new : D) → ((recs : List Rec) → Stands disks st.areas recs st.disk → Stands disks areas (roomy_recs (used_of st.areas) recs (logged_recs st.kept) ++ r ∷ []) new)
      → Only (disks.reading new) (disks.may_leave new) → epoch_of st.areas ≤ epoch_of areas
      → ((next : Next) → IsReady disks next st.areas (logged_recs st.kept) r blob st.disk → HasLogged disks next.count areas (roomy_recs (used_of st.areas) next.recs (logged_recs st.kept) ++ r ∷ []) (next.ks ++ new_of next r ∷ []) new)
      → HasCommitted disks (books st) st.areas areas r blob bytes table st.disk new
  has_committed areas new stands stable epoch stored = record {
    stands = subst (λ (ks : List Rec). Stands disks areas (roomy_recs (used_of st.areas) (recs_in (books st)) ks ++ r ∷ []) new) (kept_recs_is disks.block_count st w) (stands (recs_in (books st)) (stands_now disks st w working right));
    stable = stable;
    epoch = epoch;
    stored = λ is_ready.
        subst (λ (ks : List Rec). HasLogged disks st.blocks.end areas (roomy_recs (used_of st.areas) (recs_in (books st)) ks ++ r ∷ []) (kept_of (disks.reading st.disk) (books st) ++ new_of (next_in (disks.reading st.disk) (books st) bytes table) r ∷ []) new) (kept_recs_is disks.block_count st w)
        (stored (next_in (disks.reading st.disk) (books st) bytes table)
        (subst (λ (ks : List Rec). IsReady disks (next_in (disks.reading st.disk) (books st) bytes table) st.areas ks r blob st.disk) (sym (kept_recs_is disks.block_count st w)) is_ready));
  }

-- what a stop leaves of it, in the words of a commit
pub kept_or_more : (reading : Image) (b : Books) (r : Rec) (bytes table : List ℕ) (c : Image) → IsInFreeBlocks b r → StoresOneMore b.count (kept_of reading b) (new_of (next_in reading b bytes table) r) c → StoresKeptOrMore reading b r.entity r.version r.stamp bytes table c
kept_or_more reading b r bytes table c free (inl kept) = inl kept
kept_or_more reading b r bytes table c free (inr stores) = inr (record { more = more; free = free })
  where
    more : StoresMore b.count (kept_of reading b) r.entity r.version r.stamp bytes table reading c
    more = record {
      new = new_of (next_in reading b bytes table) r;
      is = record { entity_is = refl; version_is = refl; stamp_is = refl; blob_is = refl; pages_are = refl };
      stores = stores;
    }

-- the ledger, whatever came of it
pub recounted_either : {D T E : Type 0} (Q : Type 0) (r : Result T E) (l : Logged) (old new : State D) → OnOk r (HasPut l old new) → OnErr r (HasFailed old new × Q) → HasRecounted old.blocks new.blocks
recounted_either Q (Ok x) l old new put failed = put.ledger
recounted_either Q (Err e) l old new put failed =
    let same = failed.0.blocks in
    record { only = same ∙ ap (λ (ns : List ℕ). record old.blocks { names = ns }) (sym (ap (λ (b : Ledger). b.names) same)); same_size = ap (λ (b : Ledger). length b.names) same }

-- true books behind it
module _ {D : Type 0} (disks : Ghosts D) (st st2 : State D) (mid last : Ledger) (r : Rec) (blob : List (List ℕ)) (bytes table : List ℕ) (w : IsWhole disks.block_count st) (working : st.shut ≡ false)
    (is : IsRecordOf r bytes (recs_in (books st))) (holds : HoldsBytes bytes blob) (pages : AreHeldPages (is_held st.blocks) table) (taken : HasTaken (blocks_for (length bytes)) st.blocks mid r.blocks) where
  pub can : is_small r ≡ true → CanCommit (books st) r blob bytes table
  can small = can_commit disks.block_count st w r bytes blob table mid taken is small holds pages

  module _ (right : AreTrue disks (books st) st.disk) where
    pub true_behind : ((d : D) → disks.may_leave d (disks.reading d)) → HasReleased (blocks_for (length bytes)) st2.blocks last (take (blocks_for (length bytes)) r.blocks) → HasPut (record { rec = r; table = table }) (record st { blocks = mid }) st2
        → ((recs : List Rec) → Stands disks st.areas recs st.disk → Stands disks st2.areas (roomy_recs (used_of st.areas) recs (logged_recs st.kept) ++ r ∷ []) st2.disk)
        → Only (disks.reading st2.disk) (disks.may_leave st2.disk) → epoch_of st.areas ≤ epoch_of st2.areas
        → ((next : Next) → IsReady disks next st.areas (logged_recs st.kept) r blob st.disk → HasLogged disks next.count st2.areas (roomy_recs (used_of st.areas) next.recs (logged_recs st.kept) ++ r ∷ []) (next.ks ++ new_of next r ∷ []) st2.disk)
        → AreTrue disks (books (record st2 { blocks = last })) st2.disk
    true_behind reads_now released put stands stable epoch stored =
        subst (λ (b : Books). AreTrue disks b st2.disk) (books_are st st2 mid last (blocks_for (length bytes)) r.blocks taken released r table put disks.block_count w working)
        (true_after disks reads_now (books st) st.areas st2.areas st.disk st2.disk r blob bytes table (at_books disks st w working right) can
        (has_committed disks st w working right r blob bytes table st2.areas st2.disk stands stable epoch stored))

    -- a stop at any moment
    pub moments_behind : Moments disks → IsInFreeBlocks (books st) r → AreSmall (books st) → is_small r ≡ true
        → ((next : Next) → IsReady disks next st.areas (logged_recs st.kept) r blob st.disk → LeavesOnly disks st.disk st2.disk (StoresOneMore next.count next.ks (new_of next r)))
        → LeavesOnly disks st.disk st2.disk (StoresKeptOrMore (disks.reading st.disk) (books st) r.entity r.version r.stamp bytes table)
    moments_behind laws free small own any_moment =
        LeavesOnly-weaker laws (StoresKeptOrMore (disks.reading st.disk) (books st) r.entity r.version r.stamp bytes table) (λ c. kept_or_more (disks.reading st.disk) (books st) r bytes table c free)
        (any_moment (next_in (disks.reading st.disk) (books st) bytes table) (ready disks st w working right r blob bytes table (ready_law disks) small (can own)))

-- a block that is in use is none of those that are written
pub used_same : {D : Type 0} (block_count : D → ℕ) (st : State D) → IsWhole block_count st → (r : Rec) (many : ℕ) (mid : Ledger) (old new : Image) → HasTaken many st.blocks mid r.blocks → SameOutside (IsCommitBlock r many) old new → SameUsed (books st) old new
used_same block_count st w r many mid old new taken same n pool used = same.same n not_written
  where
    free_not : (i : ℕ) → i < many → n ≡ slice_index r.blocks i → is_used (books st) n ≡ false
    free_not i lt is = ap (is_used (books st)) is ∙ taken_free block_count st w mid many r.blocks taken i lt

    not_written : IsCommitBlock r many n → ⊥
    not_written (inl low) = omega (arith, low, pool)
    not_written (inr (i, lt, is)) = (let clash : true ≡ false = sym used ∙ free_not i lt is in cc clash)
