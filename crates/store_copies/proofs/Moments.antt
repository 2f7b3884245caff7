-- The store behind the first commit, and the moments of both.
use Rattle.std.proofs.Common.{◌≡◌, ◌⊎◌, inl, inr, ℕ, ◌≤◌, Bool, true, false, nat_le, if◌then◌else◌, List, [], ◌∷◌, ◌++◌, map, filter, refl, sym, ap, subst, ◌∙◌}
use Rattle.std.proofs.lemmas.Bool.{le-leb}
use Rattle.std.proofs.lemmas.List.Elements.{filter-append}
use Rattle.edge_disk.specs.declared.disk.Disk.{Ghosts}
use Rattle.edge_disk.specs.Image.{Image}
use Rattle.edge_disk.specs.Moments.{LeavesOnly}
use Rattle.store_told.specs.model_kernel.Choices.{Commit, IsGreatest, IsNarrow}
use Rattle.store_told.specs.model_kernel.State.{KernelState, Supply, Text}
use Rattle.store_told.specs.model_cut_laws.Agreeing.{nothing}
use Rattle.store_told.specs.model_cut_laws.Records.{commit_of, commits_of}
use Rattle.store_told.specs.image_meaning.Stores.{Kept, Stores, recs_of}
use Rattle.store_told.specs.store_books.Between.{LeavesOnly-join, OnlyPages}
use Rattle.store_told.specs.store_books.Books.{AreSmall, AreTrue, Books, Logged, cut_in, kept_for, kept_in, kept_of, logged_recs, recs_in}
use Rattle.store_told.proofs.store_books_lemmas.model_kernel_lemmas.Lowering.{greatest_is, greatest_one}
use Rattle.store_told.specs.Told.{ArePagesApart}
use Rattle.store_copies.specs.Images.{IsAtlasRecord, MeansBefore}
use Rattle.store_copies.specs.Moments.{AreTwoCommits, MeansEither, StoresKeptOr}
use Rattle.store_copies.proofs.Copies.{after, before}

-- commits of the log, and of what is kept of it
kept_commits : (image : Image) (ls : List Logged) (l : Logged) → commits_of (recs_of (map (kept_for image) ls ++ kept_for image l ∷ [])) ≡ commits_of (logged_recs (ls ++ l ∷ []))
kept_commits image [] l = refl
kept_commits image (m ∷ ls) l = ap (λ (cs : List Commit). commit_of m.rec ∷ cs) (kept_commits image ls l)

module _ (old new : Books) (l : Logged) (image : Image) (p : ℕ → ℕ) (log : (new.logged ≡ old.logged ++ l ∷ []) ⊎ (new.logged ≡ kept_in old ++ l ∷ [])) (all : kept_in old ≡ old.logged)
    (thin : IsNarrow (commits_of (recs_in old))) (thin_new : IsNarrow (commits_of (recs_in new))) (was : IsGreatest nothing (commits_of (recs_in old)) p)
    (now : IsGreatest nothing (commits_of (recs_of (kept_of image old ++ kept_for image l ∷ []))) p) (above : p l.rec.entity ≤ l.rec.version) where
  logged : new.logged ≡ old.logged ++ l ∷ []
  logged = elim log as (λ _. new.logged ≡ old.logged ++ l ∷ []) [ inl is ↦ is | inr is ↦ is ∙ ap (λ (ls : List Logged). ls ++ l ∷ []) all ]

  old_cut : cut_in old ≡ p
  old_cut = greatest_one nothing (commits_of (recs_in old)) (cut_in old) p (greatest_is nothing (commits_of (recs_in old)) thin) was

  now_new : IsGreatest nothing (commits_of (recs_in new)) p
  now_new = subst (λ (cs : List Commit). IsGreatest nothing cs p)
      (kept_commits image (kept_in old) l ∙ (ap (λ (ls : List Logged). commits_of (logged_recs (ls ++ l ∷ []))) all ∙ ap (λ (ls : List Logged). commits_of (logged_recs ls)) (sym logged))) now

  new_cut : cut_in new ≡ p
  new_cut = greatest_one nothing (commits_of (recs_in new)) (cut_in new) p (greatest_is nothing (commits_of (recs_in new)) thin_new) now_new

  abbrev from : (ℕ → ℕ) → Logged → Bool
  from cut m = nat_le (cut m.rec.entity) m.rec.version

  last : filter (from p) (l ∷ []) ≡ l ∷ []
  last = (let t : nat_le (p l.rec.entity) l.rec.version ≡ true = le-leb (p l.rec.entity) l.rec.version above in ap (λ (b : Bool). if b then l ∷ [] else []) t)

  pub kept_again : kept_in new ≡ kept_in old ++ l ∷ []
  kept_again =
      ap (λ (q : ℕ → ℕ). filter (from q) new.logged) new_cut
      ∙ (ap (filter (from p)) logged
      ∙ (filter-append (from p) old.logged (l ∷ [])
      ∙ (ap (λ (ls : List Logged). filter (from p) old.logged ++ ls) last
      ∙ ap (λ (q : ℕ → ℕ). filter (from q) old.logged ++ l ∷ []) (sym old_cut))))

weaker : {D : Type 0} (disks : Ghosts D) (P Q : Image → Type 0) (a b : D) → ((c : Image) → P c → Q c) → LeavesOnly disks a b P → LeavesOnly disks a b Q
weaker disks P Q a b f h = record {
  later = h.later;
  each = λ c left. f c (h.each c left);
  before = λ t c le left. elim (h.before t c le left) as (λ _. disks.left_since a t c ⊎ Q c) [ inl k ↦ inl k | inr k ↦ inr (f c k) ];
}

module _ (s : Supply) (name fresh : Text) (v w : KernelState) (fl mid : Image) (bk between : Books) (entity version : ℕ) (stamp blob table : List ℕ) (entity2 version2 : ℕ) (stamp2 blob2 table2 : List ℕ)
    (t : AreTwoCommits s name fresh v w fl mid bk between entity version stamp blob table entity2 version2 stamp2 blob2 table2) where
  abbrev ks : List Kept
  ks = kept_of fl bk

  before_of : (a : Kept) → IsAtlasRecord s w a × ArePagesApart bk.count (ks ++ a ∷ []) → MeansBefore s v bk.count ks a
  before_of a is = before s name fresh v w bk.count ks a t.meant t.copied t.records is.0 is.1

  pub in_pages : (c : Image) → Stores bk.count ks c → MeansEither s v w c
  in_pages c st = inl ((before_of t.made t.made_is).none c st)

  pub in_first : (c : Image) → StoresKeptOr bk entity version stamp blob table fl c → MeansEither s v w c
  in_first c (inl st) = in_pages c st
  in_first c (inr more) = inl ((before_of more.0.new (t.first more.0.new more.0.is more.1)).one c more.0.stores)

  pub in_second : (c : Image) → StoresKeptOr between entity2 version2 stamp2 blob2 table2 mid c → MeansEither s v w c
  in_second c (inl st) = inl ((before_of t.made t.made_is).one c (subst (λ (n : ℕ). Stores n (ks ++ t.made ∷ []) c) t.same_count (subst (λ (js : List Kept). Stores between.count js c) t.kept_then st)))
  in_second c (inr more) =
      let o = t.second more.0.new more.0.is more.1 in
      let there : (ks ++ t.made ∷ []) ++ more.0.new ∷ [] ≡ ks ++ t.made ∷ more.0.new ∷ [] = Rattle.std.proofs.lemmas.List.append_assoc ks (t.made ∷ []) (more.0.new ∷ []) in
      inr ((after s name fresh v w bk.count ks t.made t.meant t.copied t.records t.made_is.0 more.0.new o.0 o.1).both c
      (subst (λ (n : ℕ). Stores n (ks ++ t.made ∷ more.0.new ∷ []) c) t.same_count (subst (λ (js : List Kept). Stores between.count js c) (ap (λ (js : List Kept). js ++ more.0.new ∷ []) t.kept_then ∙ there) more.0.stores)))

pub copy_moments : {D : Type 0} (disks : Ghosts D)
    (s : Supply) (name fresh : Text) (v w : KernelState) (old fl mid new : D) (bk bf between : Books) (m n : ℕ)
    (entity version : ℕ) (stamp blob table : List ℕ) (entity2 version2 : ℕ) (stamp2 blob2 table2 : List ℕ)
    → disks.tells → AreTrue disks bk old → AreSmall bk → bk.shut ≡ false → OnlyPages disks old fl bk bf m n
    → AreTwoCommits s name fresh v w (disks.reading fl) (disks.reading mid) bf between entity version stamp blob table entity2 version2 stamp2 blob2 table2
    → LeavesOnly disks fl mid (StoresKeptOr bf entity version stamp blob table (disks.reading fl))
    → LeavesOnly disks mid new (StoresKeptOr between entity2 version2 stamp2 blob2 table2 (disks.reading mid))
    → LeavesOnly disks old new (MeansEither s v w)
copy_moments disks s name fresh v w old fl mid new bk bf between m n entity version stamp blob table entity2 version2 stamp2 blob2 table2 told right small working pages t one two =
    LeavesOnly-join disks (MeansEither s v w) old fl new
    (weaker disks (Stores bk.count (kept_of (disks.reading old) bk)) (MeansEither s v w) old fl
    (λ c st. in_pages s name fresh v w (disks.reading fl) (disks.reading mid) bf between entity version stamp blob table entity2 version2 stamp2 blob2 table2 t c
    (subst (λ (k : ℕ). Stores k (kept_of (disks.reading fl) bf) c) (sym pages.same_count) (subst (λ (js : List Kept). Stores bk.count js c) (sym (pages.same_kept told)) st)))
    (pages.moments told right small working))
    (LeavesOnly-join disks (MeansEither s v w) fl mid new
    (weaker disks _ (MeansEither s v w) fl mid (λ c st. in_first s name fresh v w (disks.reading fl) (disks.reading mid) bf between entity version stamp blob table entity2 version2 stamp2 blob2 table2 t c st) one)
    (weaker disks _ (MeansEither s v w) mid new (λ c st. in_second s name fresh v w (disks.reading fl) (disks.reading mid) bf between entity version stamp blob table entity2 version2 stamp2 blob2 table2 t c st) two))
