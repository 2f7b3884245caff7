-- A standby that follows a run follows the longer one.
use Rattle.std.proofs.Common.{◌≡◌, ℕ, ◌≤◌, arith, List, ◌++◌, length, take, sym, subst, ◌∙◌}
use Rattle.edge_disk.specs.declared.disk.Disk.{Ghosts}
use Rattle.base_types.specs.declared.histories.Entry.{Entry}
use Rattle.kernel_views.proofs.kernel_laws_lemmas.kernel_invariant_lemmas.Staying.{longer, records_stay, stores_stay}
use Rattle.kernel_views.proofs.kernel_laws_lemmas.kernel_invariant_lemmas.model_run_laws_lemmas.Places.{first_stay}
use Rattle.node_shipments.specs.kernel_invariant.Beginnings.{Beginning, IsLegal, completed, first_commits}
use Rattle.node_shipments.specs.kernel_invariant.Records.{AreKeptRecords, StoresCommits}
use Rattle.node_shipments.specs.kernel_invariant.model_cut_laws.Agreeing.{AgreeFromCut, nothing}
use Rattle.node_shipments.specs.kernel_invariant.model_cut_laws.Records.{commits_of}
use Rattle.node_shipments.specs.kernel_invariant.model_kernel.Choices.{Commit}
use Rattle.node_standby.proofs.Taking.{first_is}
use Rattle.node_standby.specs.Following.{Follows}
use Rattle.node_standby.specs.Standing.{Standing}
use Rattle.kernel_views.specs.store_snapshots.store_books.Books.{kept_of, recs_in}
use Rattle.kernel_views.specs.store_snapshots.store_facts.State.{books}

module _ {D : Type 0} (disks : Ghosts D) (b : Beginning) (es fs : List Entry) (st : Standing D) (legal : IsLegal b (es ++ fs)) (f : Follows b es disks st) where
  first_same : (k : ℕ) → k ≤ length (completed b es) → first_commits b (es ++ fs) k ≡ first_commits b es k
  first_same k le = first_stay b.supply b.policy b.script b.state es fs k le

  front : (k : ℕ) → k ≤ length (completed b es) → take k (completed b (es ++ fs)) ≡ take k (completed b es)
  front k le = (let up = longer b es fs in sym (first_is b (es ++ fs) k (omega (arith, le, up))) ∙ (first_same k le ∙ first_is b es k le))

  pub follows_more : Follows b (es ++ fs) disks st
  follows_more = record {
    begins = f.begins;
    legal = legal;
    few = (let few = f.few in let up = longer b es fs in omega (arith, few, up));
    log = λ working. (let h = f.log working in record {
      agree = subst (λ (ks : List Commit). AgreeFromCut nothing ks (commits_of (recs_in (books st.store)))) (sym (front st.count f.few)) h.agree;
      narrow = h.narrow;
      small = h.small;
      epoch = h.epoch;
    });
    keeps = λ t working. (let k = f.keeps t working in record {
      records = subst (λ (ks : List Commit). AreKeptRecords b (es ++ fs) ks (kept_of (disks.reading st.store.disk) (books st.store))) (sym (front st.count f.few))
          (records_stay b es fs legal (take st.count (completed b es)) (kept_of (disks.reading st.store.disk) (books st.store)) k.records);
      owned = k.owned;
      pool = k.pool;
    });
    left = λ t c may. (let l = f.left t c may in record {
      blocks = l.blocks;
      k = l.k;
      at_least = l.at_least;
      at_most = l.at_most;
      within = (let few = l.within in let up = longer b es fs in omega (arith, few, up));
      stores = subst (λ (ks : List Commit). StoresCommits b (es ++ fs) l.blocks ks c) (sym (first_same l.k l.within)) (stores_stay b es fs legal l.blocks (first_commits b es l.k) c l.stores);
    });
  }
