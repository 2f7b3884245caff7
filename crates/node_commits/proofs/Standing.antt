-- Behind a delivery, and what an image of a standby means.
use Rattle.std.proofs.Common.{◌≡◌, ◌≢◌, ◌⊎◌, inl, inr, ℕ, ◌<◌, ◌≤◌, Bool, true, false, arith, List, [], ◌∷◌, ◌++◌, length, refl, sym, ap, subst, ◌∙◌}
use Rattle.std.specs.Prelude.{Contains, slice_index}
use Rattle.std.proofs.lemmas.Bool.{false≢true}
use Rattle.edge_disk.specs.Image.{Image}
use Rattle.base_types.specs.declared.histories.Entry.{Entry}
use Rattle.base_types.specs.declared.records.Rec.{Rec}
use Rattle.kernel_block_laws.specs.kernel_invariant.model_kernel.Choices.{Commit, IsGreatest}
use Rattle.kernel_block_laws.specs.kernel_invariant.model_cut_laws.Agreeing.{from_cut, nothing}
use Rattle.kernel_block_laws.specs.kernel_invariant.model_cut_laws.Records.{commit_of, commits_of, recs_from}
use Rattle.kernel_block_laws.specs.kernel_invariant.image_meaning.Stores.{Kept, recs_of}
use Rattle.kernel_block_laws.specs.kernel_invariant.store_books.Books.{Books, Logged, kept_for, kept_in, kept_of, recs_in}
use Rattle.kernel_block_laws.specs.kernel_invariant.store_books.Owning.{AreOwned, NamesPage}
use Rattle.kernel_block_laws.specs.kernel_invariant.Beginnings.{Beginning, BeginsRight, IsLegal, completed, first_commits}
use Rattle.kernel_block_laws.specs.kernel_invariant.Records.{AreKeptRecords, IsKeptRecord, StoresCommits}
use Rattle.kernel_block_laws.proofs.kernel_invariant_lemmas.Cutting.{cut_meant}
use Rattle.kernel_block_laws.proofs.kernel_invariant_lemmas.Growing.{books_grow, fitting_narrow}
use Rattle.kernel_block_laws.proofs.kernel_invariant_lemmas.model_cut_laws_lemmas.Joins.{same_greatest}
use Rattle.kernel_block_laws.proofs.kernel_invariant_lemmas.model_kernel_lemmas.Lowering.{greatest_one}
use Rattle.kernel_block_laws.proofs.kernel_invariant_lemmas.image_meaning_lemmas.Choosing.{from_commits}
use Rattle.kernel_block_laws.proofs.Owned.{owned_more}
use Rattle.node_commits.specs.Deliveries.{HasDelivered, IsStandbyImage, KeepsCommits, one_table}

pub same_kept_in : (a b : Books) → b.logged ≡ a.logged → kept_in b ≡ kept_in a
same_kept_in a b e = ap (λ (ls : List Logged). kept_in (record a { logged = ls })) e

-- where nobody holds a block any more, nobody's working table names one
unheld : (new given : Books) (tables : ℕ → List ℕ) → given.logged ≡ new.logged → given.count ≡ new.count → ((n : ℕ) → given.held n ≡ false) → AreOwned new tables → AreOwned given (λ x. [])
unheld new given tables logged count none o =
    let same : kept_in given ≡ kept_in new = same_kept_in new given logged in
    let within : (l : Logged) → Contains (kept_in given) l → Contains (kept_in new) l = λ l c. subst (λ (ls : List Logged). Contains ls l) same c in
    record {
      held = λ n. ((λ h. absurd (false≢true (sym (none n) ∙ h))), (λ h. absurd (nowhere h.1.1)));
      once = λ x y p q some is. absurd (some refl);
      not_blob = λ l m n a b has named. o.not_blob l m n (within l a) (within m b) has named;
      not_held_blob = λ l n a named h. false≢true (sym (none n) ∙ h);
      kept_once = λ l m p q a b some is. o.kept_once l m p q (within l a) (within m b) some is;
      kept_own = λ l y p q a some is. absurd (some is);
      kept_pool = λ l n a has. (let k = o.kept_pool l n (within l a) has in (k.0, subst (λ (c : ℕ). n < c) (sym count) k.1));
    }
  where
    nowhere : {n : ℕ} → Contains [] n → ⊥
    nowhere (i, lt, at) = omega (arith, lt)

module _ (b : Beginning) (es : List Entry) (cs : List Commit) (c : Commit) (count : ℕ) (image : Image) (fl new given : Books) (table : List ℕ) (l : Logged)
    (k : KeepsCommits b es cs image fl (one_table l.rec.entity table)) (h : HasDelivered b es c count image fl new given table l) where
  grown : AreKeptRecords b es (cs ++ c ∷ []) (kept_of image new)
  grown = subst (λ (d : Commit). AreKeptRecords b es (cs ++ d ∷ []) (kept_of image new)) h.commit
      (books_grow b es cs fl image l k.records h.told (fitting_narrow count (recs_in fl) h.fit_before) new h.puts.log (fitting_narrow count (recs_in new) h.fit_after))

  owned : AreOwned new (one_table l.rec.entity table)
  owned = owned_more count fl new (one_table l.rec.entity table) l k.owned h.fit_before h.fit_after h.puts

  pub delivered_books : KeepsCommits b es (cs ++ c ∷ []) image given (λ x. [])
  delivered_books = record {
    records = subst (λ (ls : List Logged). AreKeptRecords b es (cs ++ c ∷ []) (Rattle.std.specs.Prelude.map (kept_for image) ls)) (sym (same_kept_in new given h.given_logged)) grown;
    owned = unheld new given (one_table l.rec.entity table) h.given_logged h.given_count h.none_held owned;
    pool = λ n held. absurd (false≢true (sym (h.none_held n) ∙ held));
  }

-- AN IMAGE

module _ (b : Beginning) (es : List Entry) (count k : ℕ) (at : Image) (st : StoresCommits b es count (first_commits b es k) at) where
  log_cut : IsGreatest nothing (commits_of st.stores.recs) st.stores.agree.cut
  log_cut = st.stores.agree.greatest

  log_same : from_cut st.stores.agree.cut (commits_of st.stores.recs) ≡ from_cut st.stores.agree.cut (commits_of (recs_of st.ks))
  log_same = from_commits st.stores.agree.cut st.stores.recs ∙ (ap commits_of st.stores.agree.same ∙ sym (from_commits st.stores.agree.cut (recs_of st.ks)))

  of_kept : IsGreatest nothing (commits_of (recs_of st.ks)) st.stores.agree.cut
  of_kept = same_greatest nothing st.stores.agree.cut (commits_of st.stores.recs) (commits_of (recs_of st.ks)) log_same log_cut

  also_kept : IsGreatest nothing (commits_of (recs_of st.ks)) st.records.agree.cut
  also_kept = same_greatest nothing st.records.agree.cut (first_commits b es k) (commits_of (recs_of st.ks)) st.records.agree.same st.records.agree.greatest

  one : st.records.agree.cut ≡ st.stores.agree.cut
  one = greatest_one nothing (commits_of (recs_of st.ks)) st.records.agree.cut st.stores.agree.cut also_kept of_kept

  pub standby_image : IsStandbyImage b es k at
  standby_image = record {
    recs = st.stores.recs;
    has = st.stores.has;
    cut = st.stores.agree.cut;
    of_log = log_cut;
    of_commits = subst (IsGreatest nothing (first_commits b es k)) one st.records.agree.greatest;
    means = λ right legal enough. cut_meant b es count k at right legal enough st;
  }
