-- A standby over an image without a record follows each run from its start.
use Rattle.std.proofs.Common.{◌≡◌, ℕ, ◌^◌, ◌≤◌, arith, List, [], ◌∷◌, map, refl, sym, subst, ◌∙◌}
use Rattle.std.specs.Prelude.{Contains}
use Rattle.std.proofs.lemmas.Bool.{false≢true}
use Rattle.edge_disk.specs.declared.disk.Disk.{Ghosts}
use Rattle.edge_disk.specs.Image.{Image}
use Rattle.base_types.specs.declared.histories.Entry.{Entry}
use Rattle.kernel_views.proofs.kernel_laws_lemmas.Numbers.{epoch_small}
use Rattle.kernel_views.proofs.kernel_laws_lemmas.kernel_invariant_lemmas.model_kernel_lemmas.Lowering.{greatest_is}
use Rattle.node_shipments.specs.kernel_invariant.Beginnings.{Beginning, BeginsRight, IsLegal}
use Rattle.node_shipments.specs.kernel_invariant.Records.{AreKeptRecords}
use Rattle.node_shipments.specs.kernel_invariant.model_cut_laws.Agreeing.{AgreeFromCut, nothing}
use Rattle.node_shipments.specs.kernel_invariant.model_cut_laws.Records.{commits_of}
use Rattle.node_shipments.specs.kernel_invariant.model_kernel.Choices.{IsNarrow, greatest}
use Rattle.node_shipments.specs.node_store.node_commits.Deliveries.{KeepsCommits}
use Rattle.node_shipments.proofs.node_store_lemmas.node_commits_lemmas.Delivering.{kept_stored}
use Rattle.node_shipments.proofs.node_store_lemmas.node_commits_lemmas.Standing.{same_kept_in}
use Rattle.node_standby.proofs.Taking.{low_most}
use Rattle.node_standby.specs.Following.{Follows}
use Rattle.kernel_views.specs.store_snapshots.store_books.Between.{stores_left}
use Rattle.kernel_views.specs.store_snapshots.store_books.Books.{AreSmall, AreTrue, Logged, kept_for, kept_in, logged_recs, recs_in}
use Rattle.kernel_views.specs.store_snapshots.store_facts.Opening.{IsFresh}
use Rattle.kernel_views.specs.store_snapshots.store_facts.State.{State, books}

none_logged : (ls : List Logged) → logged_recs ls ≡ [] → ls ≡ []
none_logged [] e = refl
none_logged (l ∷ ls) e = cc e

nowhere : {n : ℕ} → Contains [] n → ⊥
nowhere (i, lt, at) = omega (arith, lt)

none_there : (l : Logged) → Contains [] l → ⊥
none_there l (i, lt, at) = omega (arith, lt)

module _ {D : Type 0} (disks : Ghosts D) (b : Beginning) (es : List Entry) (right : BeginsRight b) (legal : IsLegal b es) (st : State D)
    (none : recs_in (books st) ≡ []) (fresh : IsFresh st) (low : (books st).place.epoch ≤ 2 ^ 61) (true_books : disks.tells → AreTrue disks (books st) st.disk) where
  no_log : (books st).logged ≡ []
  no_log = none_logged (books st).logged none

  no_kept : kept_in (books st) ≡ []
  no_kept = same_kept_in (record (books st) { logged = [] }) (books st) no_log

  not_kept : (l : Logged) → Contains (kept_in (books st)) l → ⊥
  not_kept l c = none_there l (subst (λ (ls : List Logged). Contains ls l) no_kept c)

  small : AreSmall (books st)
  small = record { recs = fresh.small; epoch = epoch_small b es right legal ((books st).place.epoch) (omega (arith, low)) }

  keeps : (image : Image) → KeepsCommits b es [] image (books st) (λ x. [])
  keeps image = record {
    records = subst (λ (ls : List Logged). AreKeptRecords b es [] (map (kept_for image) ls)) (sym no_kept)
        (record { agree = record { cut = greatest nothing []; greatest = greatest_is nothing [] tt; same = refl }; each = tt });
    owned = record {
      held = λ n. ((λ h. absurd (false≢true (sym (fresh.none_held n) ∙ h))), (λ h. absurd (nowhere h.1.1)));
      once = λ x y p q some is. absurd (some refl);
      not_blob = λ l m n a c has named. not_kept l a;
      not_held_blob = λ l n a named h. not_kept l a;
      kept_once = λ l m p q a c some is. absurd (not_kept l a);
      kept_own = λ l y p q a some is. absurd (some_nowhere l a);
      kept_pool = λ l n a has. absurd (not_kept l a);
    };
    pool = λ n held. absurd (false≢true (sym (fresh.none_held n) ∙ held));
  }
    where
      some_nowhere : (l : Logged) → Contains (kept_in (books st)) l → ⊥
      some_nowhere l a = not_kept l a

  pub follows_start : Follows b es disks (record { store = st; count = 0 })
  follows_start = record {
    begins = right;
    legal = legal;
    few = omega arith;
    log = λ working. record {
      agree = subst (λ (ls : List Logged). AgreeFromCut nothing [] (commits_of (logged_recs ls))) (sym no_log) (record { cut = greatest nothing []; greatest = greatest_is nothing [] tt; same = refl });
      narrow = subst (λ (ls : List Logged). IsNarrow (commits_of (logged_recs ls))) (sym no_log) tt;
      small = fresh.small;
      epoch = omega (arith, low);
    };
    keeps = λ t working. keeps (disks.reading st.disk);
    left = λ t c may. record {
      blocks = (books st).count;
      k = 0;
      at_least = omega arith;
      at_most = low_most (record { store = st; count = 0 });
      within = omega arith;
      stores = kept_stored b es [] (disks.reading st.disk) c (books st) (λ x. []) (keeps (disks.reading st.disk)) (stores_left disks st.disk (books st) (true_books t) small fresh.working c may);
    };
  }
