-- Kept records as commits are added and as records are retired.
use Rattle.std.proofs.Common.{◌≡◌, ℕ, Bool, true, false, nat_le, if◌then◌else◌, List, [], ◌∷◌, ◌++◌, filter, map, length, Some, suc, refl, sym, ap, subst, ◌∙◌, arith, ◌⊎◌, inl, inr}
use Rattle.std.specs.Prelude.{slice_get}
use Rattle.std.proofs.lemmas.List.{get_or_past}
use Rattle.std.specs.List.{AllByRecursion}
use Rattle.std.proofs.lemmas.Bool.{false≢true, le-leb, leb-true}
use Rattle.std.proofs.lemmas.List.Elements.{filter-append}
use Rattle.edge_disk.specs.Image.{Image}
use Rattle.store_books.specs.base_types.declared.histories.Entry.{Entry}
use Rattle.store_books.specs.base_types.declared.records.Rec.{Rec}
use Rattle.model_sound_states.specs.model_kernel.Choices.{Commit, IsBelow, IsGreatest, IsNarrow, greatest}
use Rattle.model_sound_states.proofs.model_kernel_lemmas.Lowering.{greatest_is, greatest_one, rising_cut}
use Rattle.store_books.specs.model_cut_laws.Agreeing.{from_cut, nothing}
use Rattle.store_books.specs.model_cut_laws.Records.{commit_of, commits_of}
use Rattle.store_books.proofs.model_cut_laws_lemmas.Filters.{kept, more}
use Rattle.store_books.proofs.model_cut_laws_lemmas.Joins.{same_greatest}
use Rattle.store_books.specs.image_facts.Bodies.{body_block, record_in}
use Rattle.store_books.specs.image_facts.Logs.{AreFitting}
use Rattle.store_books.proofs.image_meaning_lemmas.Choosing.{from_commits}
use Rattle.store_books.specs.image_meaning.Stores.{Kept, recs_of}
use Rattle.store_books.specs.Books.{Books, Logged, cut_in, kept_for, kept_in, kept_of, logged_recs, recs_in}
use Rattle.store_books.proofs.Keeping.{kept_recs}
use Rattle.kernel_invariant.specs.Beginnings.{Beginning}
use Rattle.kernel_invariant.specs.Records.{AreKeptRecords, IsKeptRecord}
use Rattle.kernel_invariant.proofs.Cutting.{narrow_kept}

commits_more : (ks : List Kept) (new : Kept) → commits_of (recs_of (ks ++ new ∷ [])) ≡ commits_of (recs_of ks) ++ commit_of new.rec ∷ []
commits_more [] new = refl
commits_more (k ∷ ks) new = ap (λ (cs : List Commit). commit_of k.rec ∷ cs) (commits_more ks new)

pub each_more : {A : Type 0} (P : A → Type 0) (xs ys : List A) → AllByRecursion P xs → AllByRecursion P ys → AllByRecursion P (xs ++ ys)
each_more P [] ys a b = b
each_more P (x ∷ xs) ys (one, a) b = (one, each_more P xs ys a b)

module _ (b : Beginning) (es : List Entry) (cs : List Commit) where
  -- a commit more, with its record
  pub records_grow : (ks : List Kept) (new : Kept) → AreKeptRecords b es cs ks → IsKeptRecord b es new → AreKeptRecords b es (cs ++ commit_of new.rec ∷ []) (ks ++ new ∷ [])
  records_grow ks new a one =
      let c : Commit = commit_of new.rec in
      let each : AllByRecursion (IsKeptRecord b es) (ks ++ new ∷ []) = each_more (IsKeptRecord b es) ks (new ∷ []) a.each (one, tt) in
      let ds : List Commit = commits_of (recs_of ks) in
      let all : commits_of (recs_of (ks ++ new ∷ [])) ≡ ds ++ c ∷ [] = commits_more ks new in
      let narrow : IsNarrow (ds ++ c ∷ []) = subst IsNarrow all (narrow_kept b es (ks ++ new ∷ []) each) in
      let p : ℕ → ℕ = greatest nothing (ds ++ c ∷ []) in
      let g : IsGreatest nothing (ds ++ c ∷ []) p = greatest_is nothing (ds ++ c ∷ []) narrow in
      let was : IsGreatest nothing ds a.agree.cut = same_greatest nothing a.agree.cut cs ds a.agree.same a.agree.greatest in
      let below : IsBelow a.agree.cut p = rising_cut nothing ds (c ∷ []) a.agree.cut p was g in
      let same : from_cut p (cs ++ c ∷ []) ≡ from_cut p (ds ++ c ∷ []) = more a.agree.cut p cs ds (c ∷ []) below a.agree.same in
      record {
        agree = record {
          cut = p;
          greatest = same_greatest nothing p (ds ++ c ∷ []) (cs ++ c ∷ []) (sym same) g;
          same = same ∙ ap (from_cut p) (sym all);
        };
        each = each;
      }

-- THE BOOKS BEHIND A COMMIT

module _ (P : Kept → Type 0) (image : Image) (low high : Logged → Bool) (lower : (l : Logged) → high l ≡ true → low l ≡ true) where
  one_left : (l : Logged) (ls : List Logged) (p q : Bool) → low l ≡ p → high l ≡ q
      → AllByRecursion P (map (kept_for image) (if p then l ∷ filter low ls else filter low ls))
      → (AllByRecursion P (map (kept_for image) (filter low ls)) → AllByRecursion P (map (kept_for image) (filter high ls)))
      → AllByRecursion P (map (kept_for image) (if q then l ∷ filter high ls else filter high ls))
  one_left l ls true true e f (one, all) rest = (one, rest all)
  one_left l ls true false e f (one, all) rest = rest all
  one_left l ls false true e f all rest = absurd (false≢true (sym e ∙ lower l f))
  one_left l ls false false e f all rest = rest all

  -- what holds of those that pass a test holds of those that pass a stronger one
  fewer_left : (ls : List Logged) → AllByRecursion P (map (kept_for image) (filter low ls)) → AllByRecursion P (map (kept_for image) (filter high ls))
  fewer_left [] all = tt
  fewer_left (l ∷ ls) all = one_left l ls (low l) (high l) refl refl all (fewer_left ls)

each_left : (P : Kept → Type 0) (image : Image) (f : Logged → Bool) (ls : List Logged) → AllByRecursion P (map (kept_for image) ls) → AllByRecursion P (map (kept_for image) (filter f ls))
each_left P image f [] all = tt
each_left P image f (l ∷ ls) (one, all) = by_test (f l) (each_left P image f ls all)
  where
    by_test : (t : Bool) → AllByRecursion P (map (kept_for image) (filter f ls)) → AllByRecursion P (map (kept_for image) (if t then l ∷ filter f ls else filter f ls))
    by_test true rest = (one, rest)
    by_test false rest = rest

abbrev above : (ℕ → ℕ) → Logged → Bool
above cut l = nat_le (cut l.rec.entity) l.rec.version

pub recs_more : (ls : List Logged) (l : Logged) → commits_of (logged_recs (ls ++ l ∷ [])) ≡ commits_of (logged_recs ls) ++ commit_of l.rec ∷ []
recs_more [] l = refl
recs_more (m ∷ ms) l = ap (λ (cs : List Commit). commit_of m.rec ∷ cs) (recs_more ms l)

map_more : (image : Image) (ls ms : List Logged) → map (kept_for image) (ls ++ ms) ≡ map (kept_for image) ls ++ map (kept_for image) ms
map_more image [] ms = refl
map_more image (l ∷ ls) ms = ap (λ (ks : List Kept). kept_for image l ∷ ks) (map_more image ls ms)

module _ (b : Beginning) (es : List Entry) (cs : List Commit) (old : Books) (image : Image) (l : Logged) (a : AreKeptRecords b es cs (kept_of image old)) (one : IsKeptRecord b es (kept_for image l)) (narrow : IsNarrow (commits_of (recs_in old))) where
  g : AreKeptRecords b es (cs ++ commit_of l.rec ∷ []) (kept_of image old ++ kept_for image l ∷ [])
  g = records_grow b es cs (kept_of image old) (kept_for image l) a one

  -- the log's commits from its cut on are those of the kept records
  kept_commits : commits_of (recs_of (kept_of image old)) ≡ from_cut (cut_in old) (commits_of (recs_in old))
  kept_commits = ap commits_of (kept_recs image old) ∙ sym (from_commits (cut_in old) (recs_in old))

  log_greatest : IsGreatest nothing (commits_of (recs_in old)) (cut_in old)
  log_greatest = greatest_is nothing (commits_of (recs_in old)) narrow

  log_same : from_cut (cut_in old) (commits_of (recs_in old)) ≡ from_cut (cut_in old) (commits_of (recs_of (kept_of image old)))
  log_same = kept (cut_in old) (commits_of (recs_in old)) ∙ ap (from_cut (cut_in old)) (sym kept_commits)

  kept_greatest : IsGreatest nothing (commits_of (recs_of (kept_of image old))) (cut_in old)
  kept_greatest = same_greatest nothing (cut_in old) (commits_of (recs_in old)) (commits_of (recs_of (kept_of image old))) log_same log_greatest

  -- the cut with the new commit is no lower
  new_cut : ℕ → ℕ
  new_cut = g.agree.cut

  new_greatest : IsGreatest nothing (commits_of (recs_of (kept_of image old)) ++ commit_of l.rec ∷ []) new_cut
  unfolding new_cut
  new_greatest =
      subst (λ (zs : List Commit). IsGreatest nothing zs new_cut) (commits_more (kept_of image old) (kept_for image l))
      (same_greatest nothing g.agree.cut (cs ++ commit_of l.rec ∷ []) (commits_of (recs_of (kept_of image old ++ kept_for image l ∷ []))) g.agree.same g.agree.greatest)

  rises : IsBelow (cut_in old) new_cut
  rises = rising_cut nothing (commits_of (recs_of (kept_of image old))) (commit_of l.rec ∷ []) (cut_in old) new_cut kept_greatest new_greatest

  module _ (new : Books) (log : (new.logged ≡ old.logged ++ l ∷ []) ⊎ (new.logged ≡ kept_in old ++ l ∷ [])) where
    -- the new log agrees with the kept records and the new one from the new cut on
    new_same : from_cut new_cut (commits_of (recs_in new)) ≡ from_cut new_cut (commits_of (recs_of (kept_of image old)) ++ commit_of l.rec ∷ [])
    new_same = elim log as (λ _. from_cut new_cut (commits_of (recs_in new)) ≡ from_cut new_cut (commits_of (recs_of (kept_of image old)) ++ commit_of l.rec ∷ [])) [
      | inl is ↦ ap (λ (ls : List Logged). from_cut new_cut (commits_of (logged_recs ls))) is ∙ (ap (from_cut new_cut) (recs_more old.logged l)
          ∙ more (cut_in old) new_cut (commits_of (recs_in old)) (commits_of (recs_of (kept_of image old))) (commit_of l.rec ∷ []) rises log_same)
      | inr is ↦ ap (λ (ls : List Logged). from_cut new_cut (commits_of (logged_recs ls))) is ∙ (ap (from_cut new_cut) (recs_more (kept_in old) l)
          ∙ ap (λ (zs : List Commit). from_cut new_cut (zs ++ commit_of l.rec ∷ [])) (sym (kept_list (kept_in old))))
    ]
      where
        kept_list : (ls : List Logged) → commits_of (recs_of (map (kept_for image) ls)) ≡ commits_of (logged_recs ls)
        kept_list [] = refl
        kept_list (m ∷ ms) = ap (λ (zs : List Commit). commit_of m.rec ∷ zs) (kept_list ms)

    is_new_cut : IsNarrow (commits_of (recs_in new)) → cut_in new ≡ new_cut
    is_new_cut thin =
        greatest_one nothing (commits_of (recs_in new)) (cut_in new) new_cut (greatest_is nothing (commits_of (recs_in new)) thin)
        (same_greatest nothing new_cut (commits_of (recs_of (kept_of image old)) ++ commit_of l.rec ∷ []) (commits_of (recs_in new)) (sym new_same) new_greatest)

    new_commits : IsNarrow (commits_of (recs_in new)) → commits_of (recs_of (kept_of image new)) ≡ from_cut new_cut (commits_of (recs_in new))
    new_commits thin = ap commits_of (kept_recs image new) ∙ (sym (from_commits (cut_in new) (recs_in new)) ∙ ap (λ (q : ℕ → ℕ). from_cut q (commits_of (recs_in new))) (is_new_cut thin))

    -- a record at or above the new cut is at or above the old one
    lower : (m : Logged) → above new_cut m ≡ true → above (cut_in old) m ≡ true
    lower m h = le-leb (cut_in old m.rec.entity) m.rec.version (let high = leb-true (new_cut m.rec.entity) m.rec.version h in let rise = rises m.rec.entity in omega (arith, high, rise))

    -- each kept record of the new books is one of the old ones, or the new one
    new_each : (ls : List Logged) → new.logged ≡ ls ++ l ∷ [] → AllByRecursion (IsKeptRecord b es) (map (kept_for image) (filter (above new_cut) ls)) → AllByRecursion (IsKeptRecord b es) (map (kept_for image) (filter (above new_cut) new.logged))
    new_each ls is all =
        let split : map (kept_for image) (filter (above new_cut) new.logged) ≡ map (kept_for image) (filter (above new_cut) ls) ++ map (kept_for image) (filter (above new_cut) (l ∷ [])) =
        ap (λ (ms : List Logged). map (kept_for image) (filter (above new_cut) ms)) is ∙ (ap (map (kept_for image)) (filter-append (above new_cut) ls (l ∷ [])) ∙ map_more image (filter (above new_cut) ls) (filter (above new_cut) (l ∷ []))) in
        subst (AllByRecursion (IsKeptRecord b es)) (sym split)
        (each_more (IsKeptRecord b es) (map (kept_for image) (filter (above new_cut) ls)) (map (kept_for image) (filter (above new_cut) (l ∷ []))) all (each_left (IsKeptRecord b es) image (above new_cut) (l ∷ []) (one, tt)))

    all_new : AllByRecursion (IsKeptRecord b es) (map (kept_for image) (filter (above new_cut) new.logged))
    all_new = elim log as (λ _. AllByRecursion (IsKeptRecord b es) (map (kept_for image) (filter (above new_cut) new.logged))) [
      | inl is ↦ new_each old.logged is (fewer_left (IsKeptRecord b es) image (above (cut_in old)) (above new_cut) lower old.logged a.each)
      | inr is ↦ new_each (kept_in old) is (each_left (IsKeptRecord b es) image (above new_cut) (kept_in old) a.each)
    ]

    -- THE LAW: behind a commit the books' kept records are those of the commits with the new one
    pub books_grow : IsNarrow (commits_of (recs_in new)) → AreKeptRecords b es (cs ++ commit_of l.rec ∷ []) (kept_of image new)
    unfolding new_cut
    books_grow thin = record {
      agree = record {
        cut = g.agree.cut;
        greatest = g.agree.greatest;
        same = g.agree.same ∙ (ap (from_cut new_cut) (commits_more (kept_of image old) (kept_for image l))
            ∙ (sym new_same ∙ (kept new_cut (commits_of (recs_in new)) ∙ ap (from_cut new_cut) (sym (new_commits thin)))));
      };
      each = subst (λ (q : ℕ → ℕ). AllByRecursion (IsKeptRecord b es) (map (kept_for image) (filter (above q) new.logged))) (sym (is_new_cut thin)) all_new;
    }

-- LOGS OF RECORDS THAT FIT HAVE NARROW STAMPS

stamp_long : (body : List ℕ) → length (record_in body).stamp ≡ 64
unfolding record_in
stamp_long body = refl

narrow_by : (recs : List Rec) → ((i : ℕ) (r : Rec) → slice_get recs i ≡ Some r → length r.stamp ≡ 64) → IsNarrow (commits_of recs)
narrow_by [] long = tt
narrow_by (r ∷ recs) long = ((λ y far. get_or_past r.stamp y 0 (let e = long 0 r refl in omega (arith, e, far))), narrow_by recs (λ i q at. long (suc i) q at))

pub fitting_narrow : (count : ℕ) (recs : List Rec) → AreFitting count recs → IsNarrow (commits_of recs)
fitting_narrow count recs fit = narrow_by recs (λ i r at. subst (λ (q : Rec). length q.stamp ≡ 64) (fit i r at).back (stamp_long (body_block r)))
