-- From the clauses of two commits to what a stop leaves.
use Rattle.std.proofs.Common.{◌≡◌, inl, inr, ℕ, ◌<◌, ◌≤◌, Bool, ◌||◌, true, false, arith, List, [], ◌∷◌, ◌++◌, map, refl, sym, ap, subst, ◌∙◌}
use Rattle.std.specs.Prelude.{Contains, slice_index}
use Rattle.std.specs.List.{list_any}
use Rattle.std.proofs.lemmas.Bool.{false≢true}
use Rattle.std.proofs.lemmas.List.{append_assoc, map-append}
use Rattle.edge_disk.specs.declared.disk.Disk.{Ghosts}
use Rattle.edge_disk.specs.Image.{Image}
use Rattle.edge_disk.specs.Moments.{LeavesOnly}
use Rattle.base_types.specs.declared.records.Rec.{Rec}
use Rattle.kernel_invariant.specs.model_kernel.Choices.{Commit, IsGreatest}
use Rattle.kernel_invariant.specs.model_kernel.State.{KernelState, Supply, Text}
use Rattle.kernel_invariant.specs.model_cut_laws.Agreeing.{from_cut, nothing}
use Rattle.kernel_invariant.specs.model_cut_laws.Records.{commits_of}
use Rattle.kernel_invariant.specs.image_blocks.Logs.{HasRecords}
use Rattle.kernel_invariant.specs.image_facts.Logs.{AreFitting}
use Rattle.kernel_invariant.specs.image_meaning.Describing.{HasPage}
use Rattle.kernel_invariant.specs.image_meaning.Meaning.{Means}
use Rattle.kernel_invariant.specs.image_meaning.Stores.{Kept, Page, Stores, recs_of}
use Rattle.kernel_invariant.specs.store_books.Between.{Between-stay}
use Rattle.kernel_invariant.specs.store_books.Books.{AreSmall, AreStored, AreTrue, Books, IsNewKept, Logged, is_used, kept_for, kept_in, kept_of, logged_recs, names, page_for, recs_in}
use Rattle.kernel_invariant.specs.store_books.Owning.{AreOwned, NamesPage}
use Rattle.kernel_invariant.proofs.model_cut_laws_lemmas.Joins.{same_greatest}
use Rattle.kernel_invariant.proofs.model_kernel_lemmas.Lowering.{greatest_one}
use Rattle.kernel_invariant.proofs.image_meaning_lemmas.Choosing.{from_commits}
use Rattle.kernel_invariant.proofs.image_meaning_lemmas.Ones.{one_log}
use Rattle.kernel_invariant.proofs.store_books_lemmas.image_blocks_lemmas.Reading.{log_law}
use Rattle.kernel_invariant.proofs.Apart.{kept_apart, more_apart}
use Rattle.kernel_invariant.proofs.Growing.{fitting_narrow}
use Rattle.kernel_invariant.proofs.Pages.{page_named}
use Rattle.kernel_invariant.proofs.Stretches.{leaves_map}
use Rattle.kernel_invariant.proofs.store_told_lemmas.Telling.{told_meant}
use Rattle.kernel_invariant.proofs.image_meaning_lemmas.Resting.{one_of}
use Rattle.kernel_invariant.proofs.store_books_lemmas.Owners.{place_in}
use Rattle.kernel_block_laws.specs.Owning.{PutsRecord}
use Rattle.kernel_block_laws.proofs.Kept.{kept_list}
use Rattle.kernel_block_laws.proofs.Owned.{owned_more}
use Rattle.store_facts.specs.Committed.{SameUsed, StoresKeptOrMore}
use Rattle.store_facts.specs.State.{HoldsPoolBlocks}
use Rattle.store_copies.specs.store_told.Told.{ArePagesApart}
use Rattle.store_copies.specs.model_copies.Needing.{LeavesCopy}
use Rattle.store_copies.proofs.model_copies_lemmas.Copying.{leaves}
use Rattle.store_copies.specs.Images.{AreRecordsOf, IsAtlasRecord, IsCopyRecord, IsMeantState, MeansCopy}
use Rattle.store_copies.specs.Moments.{AreTwoCommits, IsFreshIn, MeansEither, StoresKeptOr}
use Rattle.store_copies.proofs.Copies.{after, before}
use Rattle.store_copies.proofs.Moments.{copy_moments, kept_again}
use Rattle.kernel_copies.specs.Pairs.{CommitsFirst, CommitsSecond, MayCopy, MayCopyAtlas}
use Rattle.kernel_block_laws.proofs.Unchanged.{blob_high, kept_same}

-- a page of the record is of its entity's working table
named_there : (image : Image) (table there : List ℕ) → ((p : ℕ) → slice_index table p ≡ slice_index there p) → (ps : List Page) → ps ≡ Rattle.std.specs.List.flat_map (page_for image) table → (n : ℕ) → HasPage ps n → NamesPage there n
named_there image table there same ps is n has =
    let named = page_named image table n (subst (λ (qs : List Page). HasPage qs n) is has) in
    let p = place_in table n named.1 in
    let at : slice_index there p.0 ≡ n = sym (same p.0) ∙ p.1 in
    (named.0, subst (Contains there) at (one_of there p.0 (λ zero. named.0 (sym at ∙ zero))))

-- the records of a state, kept by books, mean it
pub kept_means : (s : Supply) (v : KernelState) (image c : Image) (bk : Books) (tables : ℕ → List ℕ) → IsMeantState s v → AreRecordsOf s v (kept_of image bk) → AreOwned bk tables → Stores bk.count (kept_of image bk) c → Means s c v
kept_means s v image c bk tables meant records owned st = told_meant s (λ x n. v x) bk.count (kept_of image bk) (λ x. (v x).version) v c st records.each (kept_apart bk tables image owned) records.greatest
    (record { same = λ x. refl; unwritten = meant.unwritten; sound = meant.sound.sound })

-- THE FIRST COMMIT
module _ {D : Type 0} (disks : Ghosts D) (s : Supply) (name fresh : Text) (v w : KernelState) (old : D) (bk : Books) (tables : ℕ → List ℕ) (entity version : ℕ) (stamp blob table : List ℕ)
    (may : MayCopyAtlas s name fresh v w (disks.reading old) bk tables entity version stamp blob table) where
  pub apart_new : (image : Image) (a : Kept) → IsNewKept entity version stamp blob table image a → IsFreshIn bk a → ArePagesApart bk.count (kept_of (disks.reading old) bk ++ a ∷ [])
  apart_new image a is fresh = more_apart bk tables (disks.reading old) may.owned a (record {
    pages = λ n has. subst (λ (x : ℕ). NamesPage (tables x) n) (sym is.entity_is) (named_there image table (tables entity) may.table_is a.pages is.pages_are n has);
    pool = may.pool;
    fresh = fresh;
  })

  first_means : (c : Image) → StoresKeptOrMore (disks.reading old) bk entity version stamp blob table c → Means s c v
  first_means c (inl st) = kept_means s v (disks.reading old) c bk tables may.meant may.records may.owned st
  first_means c (inr m) =
      let a = m.more.new in
      let atlas = may.first (disks.reading old) a (λ n high used. refl) m.more.is in
      (before s name fresh v w bk.count (kept_of (disks.reading old) bk) a may.meant may.copied may.records atlas (apart_new (disks.reading old) a m.more.is m.free.fresh)).one c m.more.stores

  pub first_moments : (mid : D) → LeavesOnly disks old mid (StoresKeptOrMore (disks.reading old) bk entity version stamp blob table) → LeavesOnly disks old mid (λ c. Means s c v)
  first_moments mid one = leaves_map disks old mid _ (λ c. Means s c v) first_means one

module _ {D : Type 0} (disks : Ghosts D) (only_now : (d : D) (c : Image) → disks.tells → disks.left_since d (disks.clock d) c → disks.may_leave d c)
    (s : Supply) (name fresh : Text) (v w : KernelState) (old mid : D) (bk between : Books) (tables : ℕ → List ℕ) (entity version : ℕ) (stamp blob table : List ℕ) (entity2 version2 : ℕ) (stamp2 blob2 table2 : List ℕ)
    (t : disks.tells) (right : AreTrue disks bk old) (working : bk.shut ≡ false)
    (may : MayCopy s name fresh v w (disks.reading old) bk tables entity version stamp blob table entity2 version2 stamp2 blob2 table2)
    (f : CommitsFirst disks old mid bk between entity version stamp blob table) where
  abbrev ks : List Kept
  ks = kept_of (disks.reading old) bk

  abbrev l : Logged
  l = record { rec = f.committed.commits.rec; table = table }

  abbrev made : Kept
  made = kept_for (disks.reading mid) l

  stored_old : AreStored disks bk.count bk.place (recs_in bk) (kept_of (disks.reading old) bk) old
  stored_old = right.stored may.small working

  small_mid : AreSmall between
  small_mid = record {
    recs = f.small ∙ rw (may.small.recs, may.fits) refl;
    epoch = (let e = f.committed.epoch.1 in let g = may.epoch in omega (arith, e, g));
  }

  fit_mid : AreFitting bk.count (recs_in between)
  fit_mid = subst (λ (n : ℕ). AreFitting n (recs_in between)) f.committed.commits.same_count (f.true_books.stored small_mid f.working).fit

  made_new : IsNewKept entity version stamp blob table (disks.reading mid) made
  made_new = record {
    entity_is = f.committed.commits.entity_is;
    version_is = f.committed.commits.version_is;
    stamp_is = f.committed.commits.stamp_is;
    blob_is = f.committed.commits.blob_is;
    pages_are = refl;
  }

  made_atlas : IsAtlasRecord s w made
  made_atlas = may.first (disks.reading mid) made f.same_used made_new

  apart_first : (image : Image) (a : Kept) → IsNewKept entity version stamp blob table image a → IsFreshIn bk a → ArePagesApart bk.count (ks ++ a ∷ [])
  apart_first = apart_new disks s name fresh v w old bk tables entity version stamp blob table
      (record { meant = may.meant; copied = may.copied; records = may.records; owned = may.owned; pool = may.pool; table_is = may.first_table; first = may.first })

  made_is : IsAtlasRecord s w made × ArePagesApart bk.count (ks ++ made ∷ [])
  made_is = (made_atlas, apart_first (disks.reading mid) made made_new f.committed.free.fresh)

  -- THE STORE BETWEEN THEM
  same_old : kept_of (disks.reading mid) bk ≡ ks
  same_old = kept_same bk (disks.reading old) (disks.reading mid) f.same_used (blob_high bk (disks.reading old) stored_old.pool) (λ m n within named. (may.owned.kept_pool m n within named).0)

  log_greatest : IsGreatest nothing (commits_of (recs_in bk)) (λ x. (v x).version)
  log_greatest = subst (λ (cs : List Commit). IsGreatest nothing cs (λ x. (v x).version)) (ap commits_of (kept_list (disks.reading old) (kept_in bk) ∙ ap logged_recs may.all_kept)) may.records.greatest

  then_greatest : IsGreatest nothing (commits_of (recs_of (kept_of (disks.reading mid) bk ++ made ∷ []))) (λ x. (v x).version)
  then_greatest = subst (λ (js : List Kept). IsGreatest nothing (commits_of (recs_of (js ++ made ∷ []))) (λ x. (v x).version)) (sym same_old)
      (before s name fresh v w bk.count ks made may.meant may.copied may.records made_is.0 made_is.1).greatest

  above : (v l.rec.entity).version ≤ l.rec.version
  above =
      let out = leaves s name fresh v w may.meant.sound may.copied in
      let at : l.rec.entity ≡ 0 = made_atlas.is_atlas in
      let is : (w l.rec.entity).version ≡ l.rec.version = made_atlas.tells.describes.version in
      let there : (w 0).version ≡ l.rec.version = subst (λ (x : ℕ). (w x).version ≡ l.rec.version) at is in
      subst (λ (x : ℕ). (v x).version ≤ l.rec.version) (sym at) (let up = out.atlas_version in omega (arith, up, there))

  kept_mid : kept_in between ≡ kept_in bk ++ l ∷ []
  kept_mid = kept_again bk between l (disks.reading mid) (λ x. (v x).version) f.committed.commits.log may.all_kept (fitting_narrow bk.count (recs_in bk) stored_old.fit) (fitting_narrow bk.count (recs_in between) fit_mid) log_greatest then_greatest above

  kept_then : kept_of (disks.reading mid) between ≡ ks ++ made ∷ []
  kept_then = ap (map (kept_for (disks.reading mid))) kept_mid ∙ (map-append (kept_for (disks.reading mid)) (kept_in bk) (l ∷ []) ∙ ap (λ (js : List Kept). js ++ made ∷ []) same_old)

  puts : PutsRecord bk between tables l
  puts = record {
    log = f.committed.commits.log;
    table = λ p. may.first_table p ∙ ap (λ (x : ℕ). slice_index (tables x) p) (sym f.committed.commits.entity_is);
    pool = may.pool;
    fresh = f.committed.free.fresh;
    held = f.committed.commits.same_held;
    count = f.committed.commits.same_count;
  }

  owned_mid : AreOwned between tables
  owned_mid = owned_more bk.count bk between tables l may.owned stored_old.fit fit_mid puts

  pool_mid : HoldsPoolBlocks between
  pool_mid n held =
      let p = may.pool n (ap (λ (h : ℕ → Bool). h n) (sym f.committed.commits.same_held) ∙ held) in
      (p.0, subst (λ (c : ℕ). n < c) (sym f.committed.commits.same_count) p.1)

  apart_second : (image : Image) (b : Kept) → IsNewKept entity2 version2 stamp2 blob2 table2 image b → IsFreshIn between b → ArePagesApart bk.count (ks ++ made ∷ b ∷ [])
  apart_second image b is fresh =
      let a : ArePagesApart between.count (kept_of (disks.reading mid) between ++ b ∷ []) = more_apart between tables (disks.reading mid) owned_mid b (record {
        pages = λ n has. subst (λ (x : ℕ). NamesPage (tables x) n) (sym is.entity_is) (named_there image table2 (tables entity2) may.second_table b.pages is.pages_are n has);
        pool = pool_mid;
        fresh = fresh;
      }) in
      subst (λ (n : ℕ). ArePagesApart n (ks ++ made ∷ b ∷ [])) f.committed.commits.same_count
      (subst (ArePagesApart between.count) (ap (λ (js : List Kept). js ++ b ∷ []) kept_then ∙ append_assoc ks (made ∷ []) (b ∷ [])) a)

  two : AreTwoCommits s name fresh v w (disks.reading old) (disks.reading mid) bk between entity version stamp blob table entity2 version2 stamp2 blob2 table2
  two = record {
    meant = may.meant;
    copied = may.copied;
    records = may.records;
    first = λ a is fresh. (may.first (disks.reading old) a (λ n high used. refl) is, apart_first (disks.reading old) a is fresh);
    made = made;
    made_is = made_is;
    kept_then = kept_then;
    same_count = f.committed.commits.same_count;
    second = λ b is fresh. (may.second (disks.reading mid) b f.same_used is, apart_second (disks.reading mid) b is fresh);
  }

  pub pair_moments : (new : D) → LeavesOnly disks old mid (StoresKeptOrMore (disks.reading old) bk entity version stamp blob table) → LeavesOnly disks mid new (StoresKeptOrMore (disks.reading mid) between entity2 version2 stamp2 blob2 table2)
      → LeavesOnly disks old new (MeansEither s v w)
  pair_moments new one more =
      copy_moments disks s name fresh v w old old mid new bk bk between bk.begun bk.begun entity version stamp blob table entity2 version2 stamp2 blob2 table2
      t right may.small working (Between-stay disks old bk bk.begun (λ c told left. only_now old c told left)) two
      (leaves_map disks old mid _ (StoresKeptOr bk entity version stamp blob table (disks.reading old)) (λ c st. elim st as (λ _. StoresKeptOr bk entity version stamp blob table (disks.reading old) c) [ inl k ↦ inl k | inr m ↦ inr (m.more, m.free.fresh) ]) one)
      (leaves_map disks mid new _ (StoresKeptOr between entity2 version2 stamp2 blob2 table2 (disks.reading mid)) (λ c st. elim st as (λ _. StoresKeptOr between entity2 version2 stamp2 blob2 table2 (disks.reading mid) c) [ inl k ↦ inl k | inr m ↦ inr (m.more, m.free.fresh) ]) more)

  module _ (new : D) (third : Books) (g : CommitsSecond disks mid new between third entity2 version2 stamp2 blob2 table2)
      (counts_now : (d : D) (n : ℕ) (c : Image) → disks.tells → n ≤ disks.clock d → disks.may_leave d c → disks.left_since d n c) where
    abbrev l2 : Logged
    l2 = record { rec = g.committed.commits.rec; table = table2 }

    abbrev made2 : Kept
    made2 = kept_for (disks.reading new) l2

    -- what was in use before the first commit is so behind it
    any_more : (n : ℕ) (ls : List Logged) → list_any (names n) ls ≡ true → list_any (names n) (ls ++ l ∷ []) ≡ true
    any_more n [] is = absurd (false≢true is)
    any_more n (m ∷ ls) is = by_test (names n m) is (any_more n ls)
      where
        by_test : (b : Bool) → (b || list_any (names n) ls) ≡ true → (list_any (names n) ls ≡ true → list_any (names n) (ls ++ l ∷ []) ≡ true) → (b || list_any (names n) (ls ++ l ∷ [])) ≡ true
        by_test true is rest = refl
        by_test false is rest = rest is

    or_same : (a b c d e : Bool) → (a || (b || c)) ≡ true → d ≡ a → e ≡ b → (x : Bool) → (c ≡ true → x ≡ true) → (d || (e || x)) ≡ true
    or_same true b c d e is da eb x f = (let i = da in rw i refl)
    or_same false true c d e is da eb x f = (let i = da in let j = eb in rw (i, j) refl)
    or_same false false c d e is da eb x f = (let i = da in let j = eb in let k = f is in rw (i, j, k) refl)

    still_used : (n : ℕ) → is_used bk n ≡ true → is_used between n ≡ true
    still_used n is = or_same (bk.held n) bk.found (list_any (names n) (kept_in bk)) (between.held n) between.found is (ap (λ (h : ℕ → Bool). h n) f.committed.commits.same_held) f.committed.commits.same_found (list_any (names n) (kept_in between))
        (λ some. ap (λ (ls : List Logged). list_any (names n) ls) kept_mid ∙ any_more n (kept_in bk) some)

    same_all : SameUsed bk (disks.reading old) (disks.reading new)
    same_all n high used = g.same_used n high (still_used n used) ∙ f.same_used n high used

    made2_new : IsNewKept entity2 version2 stamp2 blob2 table2 (disks.reading new) made2
    made2_new = record {
      entity_is = g.committed.commits.entity_is;
      version_is = g.committed.commits.version_is;
      stamp_is = g.committed.commits.stamp_is;
      blob_is = g.committed.commits.blob_is;
      pages_are = refl;
    }

    made2_copy : IsCopyRecord s name fresh v w made2
    made2_copy = may.second (disks.reading new) made2 same_all made2_new

    whole : MeansCopy s w bk.count ks made made2
    whole = after s name fresh v w bk.count ks made may.meant may.copied may.records made_atlas made2 made2_copy (apart_second (disks.reading new) made2 made2_new g.committed.free.fresh)

    -- the log behind both has all records
    log_mid : between.logged ≡ kept_in bk ++ l ∷ []
    log_mid = elim f.committed.commits.log as (λ _. between.logged ≡ kept_in bk ++ l ∷ []) [ inl is ↦ is ∙ ap (λ (ls : List Logged). ls ++ l ∷ []) (sym may.all_kept) | inr is ↦ is ]

    log_third : third.logged ≡ (kept_in bk ++ l ∷ []) ++ l2 ∷ []
    log_third = elim g.committed.commits.log as (λ _. third.logged ≡ (kept_in bk ++ l ∷ []) ++ l2 ∷ []) [
      | inl is ↦ is ∙ ap (λ (ls : List Logged). ls ++ l2 ∷ []) log_mid
      | inr is ↦ is ∙ ap (λ (ls : List Logged). ls ++ l2 ∷ []) kept_mid
    ]

    recs_more : (ls : List Logged) (a b : Logged) (image image' image'' : Image) → logged_recs ((ls ++ a ∷ []) ++ b ∷ []) ≡ recs_of (map (kept_for image) ls ++ kept_for image' a ∷ kept_for image'' b ∷ [])
    recs_more [] a b image image' image'' = refl
    recs_more (m ∷ ls) a b image image' image'' = ap (λ (rs : List Rec). m.rec ∷ rs) (recs_more ls a b image image' image'')

    third_greatest : IsGreatest nothing (commits_of (recs_in third)) (λ x. (w x).version)
    third_greatest = subst (λ (rs : List Rec). IsGreatest nothing (commits_of rs) (λ x. (w x).version))
        (sym (ap logged_recs log_third ∙ recs_more (kept_in bk) l l2 (disks.reading old) (disks.reading mid) (disks.reading new))) whole.greatest

    small_third : AreSmall third
    small_third = record {
      recs = g.small ∙ rw (small_mid.recs, g.fits) refl;
      epoch = (let e = g.committed.epoch.1 in let h = g.epoch in omega (arith, e, h));
    }

    -- the log of an image is that of the books: so it doesn't store what was kept alone
    not_before : (c : Image) → disks.may_leave new c → Stores between.count (kept_of (disks.reading mid) between) c → ⊥
    not_before c may_c st =
        let now : AreStored disks third.count third.place (recs_in third) (kept_of (disks.reading new) third) new = g.true_books.stored small_third g.working in
        let has : HasRecords (recs_in third) c = log_law third.count third.place (recs_in third) c (now.front c may_c) (now.left c may_c).0 now.fit in
        let same : st.recs ≡ recs_in third = one_log c st.recs (recs_in third) st.has has in
        let q = st.agree.cut in
        let q_third : IsGreatest nothing (commits_of (recs_in third)) q = subst (λ (rs : List Rec). IsGreatest nothing (commits_of rs) q) same st.agree.greatest in
        let is_w : q ≡ (λ x. (w x).version) = greatest_one nothing (commits_of (recs_in third)) q (λ x. (w x).version) q_third third_greatest in
        let kept : List Rec = recs_of (kept_of (disks.reading mid) between) in
        let from : from_cut q (commits_of st.recs) ≡ from_cut q (commits_of kept) = from_commits q st.recs ∙ (ap commits_of st.agree.same ∙ sym (from_commits q kept)) in
        let q_kept : IsGreatest nothing (commits_of kept) q = same_greatest nothing q (commits_of st.recs) (commits_of kept) from st.agree.greatest in
        let v_kept : IsGreatest nothing (commits_of kept) (λ x. (v x).version) =
        subst (λ (js : List Kept). IsGreatest nothing (commits_of (recs_of js)) (λ x. (v x).version)) (ap (λ (js : List Kept). js ++ made ∷ []) same_old ∙ sym kept_then) then_greatest in
        let is_v : q ≡ (λ x. (v x).version) = greatest_one nothing (commits_of kept) q (λ x. (v x).version) q_kept v_kept in
        let both : (v 0).version ≡ (w 0).version = ap (λ (p : ℕ → ℕ). p 0) (sym is_v ∙ is_w) in
        let up = (leaves_copy).atlas_version in
        omega (arith, both, up)
      where
        leaves_copy : LeavesCopy name fresh v w
        leaves_copy = leaves s name fresh v w may.meant.sound may.copied

    pub pair_done : LeavesOnly disks mid new (StoresKeptOrMore (disks.reading mid) between entity2 version2 stamp2 blob2 table2) → (c : Image) → disks.may_leave new c → Means s c w
    pair_done more c may_c = elim (more.each c (counts_now new (disks.clock mid) c t more.later may_c)) as (λ _. Means s c w) [
      | inl st ↦ absurd (not_before c may_c st)
      | inr m ↦ (
          let b = m.more.new in
          let copy = may.second (disks.reading mid) b f.same_used m.more.is in
          let all = after s name fresh v w bk.count ks made may.meant may.copied may.records made_atlas b copy (apart_second (disks.reading mid) b m.more.is m.free.fresh) in
          let there : (ks ++ made ∷ []) ++ b ∷ [] ≡ ks ++ made ∷ b ∷ [] = append_assoc ks (made ∷ []) (b ∷ []) in
          all.both c (subst (λ (n : ℕ). Stores n (ks ++ made ∷ b ∷ []) c) f.committed.commits.same_count (subst (λ (js : List Kept). Stores between.count js c) (ap (λ (js : List Kept). js ++ b ∷ []) kept_then ∙ there) m.more.stores)))
    ]
