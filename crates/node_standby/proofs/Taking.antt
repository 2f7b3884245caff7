-- The next shipment of a run, taken by a standby that follows it.
use Rattle.std.proofs.Common.{◌≡◌, ◌⊎◌, inl, inr, ℕ, zero, suc, ◌+◌, ◌^◌, ◌<◌, ◌≤◌, Bool, true, false, if◌then◌else◌, arith, List, [], ◌∷◌, ◌++◌, length, take, drop, option_to_list, Some, append_assoc, take-append-drop, refl, sym, ap, subst, ◌∙◌, add-one}
use Rattle.std.specs.Prelude.{slice_get, slice_index}
use Rattle.std.proofs.lemmas.Bool.{false≢true}
use Rattle.std.proofs.lemmas.List.{take-append-le}
use Rattle.std.proofs.lemmas.Option.{slice_get_within}
use Rattle.edge_disk.specs.declared.disk.Disk.{Ghosts}
use Rattle.edge_disk.specs.Image.{Image}
use Rattle.edge_disk.specs.Moments.{LeavesOnly}
use Rattle.base_types.specs.declared.histories.Entry.{Entry}
use Rattle.node_shipments.proofs.Spelling.{spelt_over}
use Rattle.node_shipments.specs.Parts.{HasSpelling, Shipment, bytes_over, part_in}
use Rattle.node_shipments.specs.Runs.{IsShipmentAt, commit_in}
use Rattle.node_shipments.specs.kernel_invariant.Beginnings.{Beginning, completed, first_commits, run_of}
use Rattle.node_shipments.specs.kernel_invariant.Records.{StoresCommits}
use Rattle.node_shipments.specs.kernel_invariant.model_cut_laws.Agreeing.{AgreeFromCut, nothing}
use Rattle.node_shipments.specs.kernel_invariant.model_cut_laws.Records.{commit_of, commits_of}
use Rattle.node_shipments.specs.kernel_invariant.model_kernel.Choices.{Commit, IsNarrow}
use Rattle.node_shipments.specs.node_store.Shipping.{MayDeliver, TakesRecord}
use Rattle.node_shipments.specs.node_store.node_commits.Deliveries.{KeepsCommits, StoresOneMore}
use Rattle.node_shipments.proofs.node_records_lemmas.Records.{shipped}
use Rattle.node_shipments.proofs.node_store_lemmas.node_commits_lemmas.Delivering.{kept_stored}
use Rattle.node_shipments.proofs.node_store_lemmas.node_commits_lemmas.Standing.{standby_image}
use Rattle.node_shipments.proofs.node_store_lemmas.node_commits_lemmas.kernel_block_laws_lemmas.Next.{all_newer, grown, kept_room}
use Rattle.kernel_views.proofs.kernel_laws_lemmas.Numbers.{epoch_small}
use Rattle.node_standby.proofs.Small.{shipped_small}
use Rattle.node_standby.specs.Following.{Follows, HasFirst, IsImageBetween, MayTake, StoresBetween, most_in}
use Rattle.node_standby.specs.Standing.{Standing}
use Rattle.kernel_views.specs.store_snapshots.store_books.Between.{stores_left}
use Rattle.kernel_views.specs.store_snapshots.store_books.Books.{AreSmall, AreTrue, recs_in}
use Rattle.kernel_views.specs.store_snapshots.store_facts.Putting.{are_small}
use Rattle.kernel_views.specs.store_snapshots.store_facts.State.{State, books}
use Rattle.node_standby.proofs.Narrow.{narrow_log}

take_suc : (cs : List Commit) (k : ℕ) (c : Commit) → slice_get cs k ≡ Some c → take (suc k) cs ≡ take k cs ++ c ∷ []
take_suc [] k c at = cc at
take_suc (x ∷ xs) zero c at = (let same : x ≡ c = cc at in ap (λ (d : Commit). d ∷ []) same)
take_suc (x ∷ xs) (suc k) c at = ap (λ (ys : List Commit). x ∷ ys) (take_suc xs k c at)

-- short of the tried one the first commits are the completed ones
pub first_is : (b : Beginning) (es : List Entry) (k : ℕ) → k ≤ length (completed b es) → first_commits b es k ≡ take k (completed b es)
first_is b es k le = take-append-le k (completed b es) (option_to_list (run_of b es).tried) le

pub most_shut : {D : Type 0} (st : Standing D) → (books st.store).shut ≡ true → most_in st ≡ st.count + 1
most_shut st shut = ap (λ (t : Bool). if t then st.count + 1 else st.count) shut

pub low_most : {D : Type 0} (st : Standing D) → st.count ≤ most_in st
low_most st = elim (books st.store).shut as (λ t. st.count ≤ (if t then st.count + 1 else st.count)) [ true ↦ omega arith | false ↦ omega arith ]

pub image_between : (b : Beginning) (es : List Entry) (low high : ℕ) (c : Image) → StoresBetween b es low high c → IsImageBetween b es low high c
image_between b es low high c s = record { k = s.k; at_least = s.at_least; at_most = s.at_most; within = s.within; image = standby_image b es s.blocks s.k c s.stores }

-- THE NEXT SHIPMENT

module _ {D : Type 0} (disks : Ghosts D) (b : Beginning) (es : List Entry) (count : ℕ) (s : Shipment) (old : State D)
    (f : Follows b es disks (record { store = old; count = count })) (at : IsShipmentAt b es count s) where
  abbrev cs : List Commit
  cs = take count (completed b es)

  within : count + 1 ≤ length (completed b es)
  within = (let lt = slice_get_within (completed b es) count (commit_in s) at.commit in omega (arith, lt))

  next_is : take (count + 1) (completed b es) ≡ cs ++ commit_in s ∷ []
  next_is = ap (λ (n : ℕ). take n (completed b es)) (add-one count) ∙ take_suc (completed b es) count (commit_in s) at.commit

  split : completed b es ≡ cs ++ commit_in s ∷ drop (count + 1) (completed b es)
  split = sym (take-append-drop (count + 1) (completed b es)) ∙ (ap (λ (ks : List Commit). ks ++ drop (count + 1) (completed b es)) next_is ∙ append_assoc cs (commit_in s ∷ []) (drop (count + 1) (completed b es)))

  fits : are_small s.version s.stamp ≡ true
  fits = shipped_small b es f.begins f.legal s.entity s.version s.stamp (part_in s.part) s.pages at.told

  one_more : (image : Image) (blocks high : ℕ) → count + 1 ≤ high → StoresOneMore b es blocks cs (commit_in s) image → StoresBetween b es count high image
  one_more image blocks high le (inl st) = record {
    blocks = blocks;
    k = count;
    at_least = omega arith;
    at_most = omega (arith, le);
    within = f.few;
    stores = subst (λ (ks : List Commit). StoresCommits b es blocks ks image) (sym (first_is b es count f.few)) st;
  }
  one_more image blocks high le (inr st) = record {
    blocks = blocks;
    k = count + 1;
    at_least = omega arith;
    at_most = le;
    within = within;
    stores = subst (λ (ks : List Commit). StoresCommits b es blocks ks image) (sym (first_is b es (count + 1) within ∙ next_is)) st;
  }

  module _ (working : (books old).shut ≡ false) where
    h : HasFirst b es count (books old)
    h = f.log working

    pub may_take : MayTake (record { store = old; count = count }) s
    may_take = record {
      few = (let few = f.few in let low = epoch_small b es f.begins f.legal (2 ^ 61 + 1 + length (completed b es)) (omega arith) in few_count few low);
      room = (let few = kept_room cs (books old) h.narrow h.agree b es (commit_in s ∷ drop (count + 1) (completed b es)) f.begins f.legal split in omega (arith, few));
      newer = all_newer cs (books old) h.narrow h.agree b es (drop (count + 1) (completed b es)) (commit_in s) f.legal split;
    }
      where
        few_count : {n : ℕ} → count ≤ n → 2 ^ 61 + 1 + n < 2 ^ 62 → count < 2 ^ 62
        few_count few low = omega (arith, few, low)

    small_old : AreSmall (books old)
    small_old = record {
      recs = h.small;
      epoch = epoch_small b es f.begins f.legal ((books old).place.epoch) (let low = h.epoch in let few = f.few in omega (arith, low, few));
    }

    module _ (t : disks.tells) (spelt : HasSpelling s.part) where
      pub may_deliver : MayDeliver b es cs (commit_in s) (disks.reading old.disk) (books old) s.entity s.version s.stamp (bytes_over s.part) s.pages
      may_deliver = record {
        keeps = f.keeps t working;
        ships = λ image table long low have. shipped b es s.entity s.version s.stamp (part_in s.part) s.pages (bytes_over s.part) image table at.told (spelt_over s.part spelt) long low have;
        small = small_old;
        fits = fits;
        epoch = epoch_small b es f.begins f.legal ((books old).place.epoch + 1) (let low = h.epoch in let few = f.few in omega (arith, low, few));
      }

    -- at each moment of a delivery
    pub between : (new : State D) (now : Standing D) → count + 1 ≤ most_in now → LeavesOnly disks old.disk new.disk (StoresOneMore b es (books old).count cs (commit_in s))
        → LeavesOnly disks old.disk new.disk (IsImageBetween b es count (most_in now))
    between new now le moments = record {
      later = moments.later;
      each = λ c left. image_between b es count (most_in now) c (one_more c (books old).count (most_in now) le (moments.each c left));
      before = λ u c le_u left. elim (moments.before u c le_u left) as (λ _. disks.left_since old.disk u c ⊎ IsImageBetween b es count (most_in now) c) [
        | inl was ↦ inl was
        | inr st ↦ inr (image_between b es count (most_in now) c (one_more c (books old).count (most_in now) le st))
      ];
    }

    -- WHERE IT WAS TAKEN
    module _ (new : State D) (taken : TakesRecord s.entity s.version s.stamp (books old) (books new))
        (keeps : disks.tells → KeepsCommits b es (cs ++ commit_in s ∷ []) (disks.reading new.disk) (books new) (λ x. []))
        (right : disks.tells → AreTrue disks (books new) new.disk) where
      commit_same : commit_of taken.logged.rec ≡ commit_in s
      commit_same = λ i. record { entity = taken.entity_is i; version = taken.version_is i; stamp = slice_index (taken.stamp_is i) }

      long : length taken.logged.rec.stamp ≡ 64
      long = ap (λ (xs : List ℕ). length xs) taken.stamp_is ∙ at.told.components

      narrow : IsNarrow (commits_of (recs_in (books new)))
      narrow = narrow_log (books old) (books new) taken.logged long h.narrow taken.log

      has_first : HasFirst b es (count + 1) (books new)
      has_first = record {
        agree = subst (λ (ks : List Commit). AgreeFromCut nothing ks (commits_of (recs_in (books new)))) (ap (λ (c : Commit). cs ++ c ∷ []) commit_same ∙ sym next_is)
            (grown cs (books old) h.narrow h.agree taken.logged (books new) taken.log narrow);
        narrow = narrow;
        small = taken.small ∙ rw (h.small, fits) refl;
        epoch = (let was = h.epoch in let up = taken.epoch in omega (arith, was, up));
      }

      small_new : AreSmall (books new)
      small_new = record {
        recs = has_first.small;
        epoch = epoch_small b es f.begins f.legal ((books new).place.epoch) (let low = has_first.epoch in let few = within in omega (arith, low, few));
      }

      keeps_new : disks.tells → KeepsCommits b es (take (count + 1) (completed b es)) (disks.reading new.disk) (books new) (λ x. [])
      keeps_new t = subst (λ (ks : List Commit). KeepsCommits b es ks (disks.reading new.disk) (books new) (λ x. [])) (sym next_is) (keeps t)

      pub follows_on : Follows b es disks (record { store = new; count = count + 1 })
      follows_on = record {
        begins = f.begins;
        legal = f.legal;
        few = within;
        log = λ _. has_first;
        keeps = λ t _. keeps_new t;
        left = λ t c may. record {
          blocks = (books new).count;
          k = count + 1;
          at_least = omega arith;
          at_most = low_most (record { store = new; count = count + 1 });
          within = within;
          stores = subst (λ (ks : List Commit). StoresCommits b es (books new).count ks c) (sym (first_is b es (count + 1) within))
              (kept_stored b es (take (count + 1) (completed b es)) (disks.reading new.disk) c (books new) (λ x. []) (keeps_new t) (stores_left disks new.disk (books new) (right t) small_new taken.working c may));
        };
      }

    -- WHERE IT FAILED, and the store is shut
    pub follows_shut : (new : State D) → (books new).shut ≡ true
        → (disks.tells → (c : Image) → disks.may_leave new.disk c → StoresOneMore b es (books old).count cs (commit_in s) c)
        → Follows b es disks (record { store = new; count = count })
    follows_shut new shut each = record {
      begins = f.begins;
      legal = f.legal;
      few = f.few;
      log = λ works. absurd (false≢true (sym works ∙ shut));
      keeps = λ t works. absurd (false≢true (sym works ∙ shut));
      left = λ t c may. one_more c (books old).count (most_in (record { store = new; count = count })) (let same = most_shut (record { store = new; count = count }) shut in omega (arith, same)) (each t c may);
    }

-- WHAT A DELIVERY LEAVES

module _ {D : Type 0} (disks : Ghosts D) (b : Beginning) (es : List Entry) (st : Standing D) (f : Follows b es disks st) where
  -- nothing is done
  pub stays : disks.tells → ((c : Image) → disks.left_since st.store.disk (disks.clock st.store.disk) c → disks.may_leave st.store.disk c)
      → LeavesOnly disks st.store.disk st.store.disk (IsImageBetween b es st.count (most_in st))
  stays t only = record {
    later = omega arith;
    each = λ c left. image_between b es st.count (most_in st) c (f.left t c (only c left));
    before = λ u c le left. inl left;
  }

  module _ (s : Shipment) (at : IsShipmentAt b es st.count s) (spelt : HasSpelling s.part) (working : (books st.store).shut ≡ false) (new : State D)
      (moments : disks.tells → MayDeliver b es (take st.count (completed b es)) (commit_in s) (disks.reading st.store.disk) (books st.store) s.entity s.version s.stamp (bytes_over s.part) s.pages
      → LeavesOnly disks st.store.disk new.disk (StoresOneMore b es (books st.store).count (take st.count (completed b es)) (commit_in s))) where
    all_moments : disks.tells → LeavesOnly disks st.store.disk new.disk (StoresOneMore b es (books st.store).count (take st.count (completed b es)) (commit_in s))
    all_moments t = moments t (may_deliver disks b es st.count s st.store f at working t spelt)

    -- it failed
    module _ (ends : (new ≡ st.store) ⊎ ((books new).shut ≡ true)) where
      pub failed_follows : (disks.tells → (c : Image) → disks.clock st.store.disk ≤ disks.clock new.disk → disks.may_leave new.disk c → disks.left_since new.disk (disks.clock st.store.disk) c)
          → Follows b es disks (record { store = new; count = st.count })
      failed_follows counts = elim ends as (λ _. Follows b es disks (record { store = new; count = st.count })) [
        | inl same ↦ subst (λ (d : State D). Follows b es disks (record { store = d; count = st.count })) (sym same) f
        | inr shut ↦ follows_shut disks b es st.count s st.store f at working new shut (λ t c may. (all_moments t).each c (counts t c (all_moments t).later may))
      ]

      pub failed_moments : disks.tells → ((c : Image) → disks.left_since st.store.disk (disks.clock st.store.disk) c → disks.may_leave st.store.disk c)
          → LeavesOnly disks st.store.disk new.disk (IsImageBetween b es st.count (most_in (record { store = new; count = st.count })))
      failed_moments t only = elim ends as (λ _. LeavesOnly disks st.store.disk new.disk (IsImageBetween b es st.count (most_in (record { store = new; count = st.count })))) [
        | inl same ↦ subst (λ (d : State D). LeavesOnly disks st.store.disk d.disk (IsImageBetween b es st.count (most_in (record { store = d; count = st.count })))) (sym same) (stays t only)
        | inr shut ↦ between disks b es st.count s st.store f at working new (record { store = new; count = st.count })
            (let same = most_shut (record { store = new; count = st.count }) shut in omega (arith, same)) (all_moments t)
      ]

    -- it was taken
    module _ (number : ℕ) (next : number ≡ st.count + 1) where
      pub taken_moments : disks.tells → LeavesOnly disks st.store.disk new.disk (IsImageBetween b es st.count (most_in (record { store = new; count = number })))
      taken_moments t = between disks b es st.count s st.store f at working new (record { store = new; count = number })
          (let low = low_most (record { store = new; count = number }) in omega (arith, low, next)) (all_moments t)

      pub taken_follows : TakesRecord s.entity s.version s.stamp (books st.store) (books new)
          → (disks.tells → MayDeliver b es (take st.count (completed b es)) (commit_in s) (disks.reading st.store.disk) (books st.store) s.entity s.version s.stamp (bytes_over s.part) s.pages
          → KeepsCommits b es (take st.count (completed b es) ++ commit_in s ∷ []) (disks.reading new.disk) (books new) (λ x. []))
          → (disks.tells → AreTrue disks (books new) new.disk) → Follows b es disks (record { store = new; count = number })
      taken_follows taken keeps right = subst (λ (n : ℕ). Follows b es disks (record { store = new; count = n })) (sym next)
          (follows_on disks b es st.count s st.store f at working new taken (λ t. keeps t (may_deliver disks b es st.count s st.store f at working t spelt)) right)
