-- The kept records and their choice as a record comes.
use Rattle.std.proofs.Common.{◌≡◌, ℕ, ◌<◌, ◌≤◌, Bool, true, false, if◌then◌else◌, List, [], ◌∷◌, ◌++◌, length, filter, refl, sym, ap, subst, ◌∙◌, arith, length-append}
use Rattle.std.specs.Prelude.{All}
use Rattle.std.proofs.lemmas.Bool.{le-leb, leb-true}
use Rattle.std.proofs.lemmas.List.{get_or_past, length-map, map-append}
use Rattle.std.proofs.lemmas.List.Elements.{All-filter, filter-append}
use Rattle.std.proofs.lemmas.List.Kept.{AllPairs-filter}
use Rattle.std.proofs.lemmas.List.Quantifiers.{all_pairs_push}
use Rattle.base_types.specs.declared.records.Rec.{Rec}
use Rattle.page_store.specs.model_kernel.Choices.{Commit, IsBelow, IsClosedChoice, IsGreatest, IsNarrow}
use Rattle.data_cut_facts.specs.Records.{IsAscending}
use Rattle.data_cuts.specs.model_cut_laws.Agreeing.{from_cut, nothing}
use Rattle.data_cuts.specs.model_cut_laws.Records.{commit_of, commits_of, is_rec_from, recs_from}
use Rattle.data_cuts.proofs.model_cut_laws_lemmas.Filters.{filter_within, kept as kept_again}
use Rattle.data_cuts.proofs.model_cut_laws_lemmas.Joins.{closed_more, greatest_of_kept, same_greatest}
use Rattle.page_words.proofs.image_meaning_lemmas.Choosing.{from_commits}
use Rattle.page_words.specs.store_books.Books.{Logged, logged_recs}
use Rattle.store_facts.specs.Keeping.{AreKept}
use Rattle.store_facts.specs.Shelves.{is_from}

one_from : (cut : ℕ → ℕ) (l : Logged) (ls : List Logged) (rs : List Rec) (b : Bool) → logged_recs ls ≡ rs → logged_recs (if b then l ∷ ls else ls) ≡ (if b then l.rec ∷ rs else rs)
one_from cut l ls rs true e = ap (λ (qs : List Rec). l.rec ∷ qs) e
one_from cut l ls rs false e = e

pub recs_from_is : (cut : ℕ → ℕ) (ls : List Logged) → logged_recs (filter (is_from cut) ls) ≡ recs_from cut (logged_recs ls)
recs_from_is cut [] = refl
recs_from_is cut (l ∷ ls) = one_from cut l (filter (is_from cut) ls) (recs_from cut (logged_recs ls)) (is_rec_from cut l.rec) (recs_from_is cut ls)

recs_more : (ls : List Logged) (l : Logged) → logged_recs (ls ++ l ∷ []) ≡ logged_recs ls ++ l.rec ∷ []
recs_more ls l = map-append (λ (m : Logged). m.rec) ls (l ∷ [])

commits_more : (rs : List Rec) (r : Rec) → commits_of (rs ++ r ∷ []) ≡ commits_of rs ++ commit_of r ∷ []
commits_more rs r = map-append commit_of rs (r ∷ [])

narrow_more : (rs : List Rec) (r : Rec) → length r.stamp ≡ 64 → IsNarrow (commits_of rs) → IsNarrow (commits_of (rs ++ r ∷ []))
narrow_more [] r len narrow = ((λ y far. get_or_past r.stamp y 0 (omega (arith, len, far))), tt)
narrow_more (q ∷ rs) r len narrow = (narrow.0, narrow_more rs r len narrow.1)

narrow_one : (cut : ℕ → ℕ) (q : Rec) (rs : List Rec) (b : Bool) → ((y : ℕ) → 64 ≤ y → (commit_of q).stamp y ≡ 0) → IsNarrow (commits_of rs) → IsNarrow (commits_of (if b then q ∷ rs else rs))
narrow_one cut q rs true one rest = (one, rest)
narrow_one cut q rs false one rest = rest

narrow_from : (cut : ℕ → ℕ) (rs : List Rec) → IsNarrow (commits_of rs) → IsNarrow (commits_of (recs_from cut rs))
narrow_from cut [] narrow = tt
narrow_from cut (q ∷ rs) narrow = narrow_one cut q (recs_from cut rs) (is_rec_from cut q) narrow.0 (narrow_from cut rs narrow.1)

raised_test : (cut p : ℕ → ℕ) → IsBelow cut p → (l : Logged) → is_from p l ≡ true → is_from cut l ≡ true
raised_test cut p below l h = le-leb (cut l.rec.entity) l.rec.version (let a : p l.rec.entity ≤ l.rec.version = leb-true (p l.rec.entity) l.rec.version h in let b : cut l.rec.entity ≤ p l.rec.entity = below l.rec.entity in omega (arith, a, b))

module _ (log kept : List Logged) (cut : ℕ → ℕ) (k : AreKept log kept cut) (l : Logged) where
  kept_recs_are : logged_recs kept ≡ recs_from cut (logged_recs log)
  kept_recs_are = ap logged_recs k.kept ∙ recs_from_is cut log

  -- the commits of the kept records
  kept_commits : commits_of (logged_recs kept) ≡ from_cut cut (commits_of (logged_recs log))
  kept_commits = ap commits_of kept_recs_are ∙ sym (from_commits cut (logged_recs log))

  kept_more_commits : commits_of (logged_recs (kept ++ l ∷ [])) ≡ from_cut cut (commits_of (logged_recs log)) ++ commit_of l.rec ∷ []
  kept_more_commits = ap commits_of (recs_more kept l) ∙ (commits_more (logged_recs kept) l.rec ∙ ap (λ (cs : List Commit). cs ++ commit_of l.rec ∷ []) kept_commits)

  log_more_commits : commits_of (logged_recs (log ++ l ∷ [])) ≡ commits_of (logged_recs log) ++ commit_of l.rec ∷ []
  log_more_commits = ap commits_of (recs_more log l) ∙ commits_more (logged_recs log) l.rec

  -- the choice is the kept records' too
  kept_greatest : IsGreatest nothing (commits_of (logged_recs kept)) cut
  kept_greatest =
      subst (λ (cs : List Commit). IsGreatest nothing cs cut) (sym kept_commits)
      (same_greatest nothing cut (commits_of (logged_recs log)) (from_cut cut (commits_of (logged_recs log))) (kept_again cut (commits_of (logged_recs log))) k.greatest)

  -- and it is closed in them and one record more
  pub closed_still : IsClosedChoice nothing (commits_of (logged_recs (kept ++ l ∷ []))) cut
  closed_still =
      subst (λ (cs : List Commit). IsClosedChoice nothing cs cut) (sym (ap commits_of (recs_more kept l) ∙ commits_more (logged_recs kept) l.rec)) (closed_more nothing (commits_of (logged_recs kept)) (commit_of l.rec ∷ []) cut kept_greatest.closed)

  module _ (newer : All (λ (r : Rec). r.entity ≡ l.rec.entity → r.version ≤ l.rec.version) (logged_recs log)) (len : length l.rec.stamp ≡ 64) where
    log_ascending : IsAscending (logged_recs (log ++ l ∷ []))
    log_ascending = subst IsAscending (sym (recs_more log l)) (all_pairs_push (λ (r s : Rec). r.entity ≡ s.entity → r.version ≤ s.version) (logged_recs log) l.rec k.ascending newer)

    log_narrow : IsNarrow (commits_of (logged_recs (log ++ l ∷ [])))
    log_narrow = subst (λ (rs : List Rec). IsNarrow (commits_of rs)) (sym (recs_more log l)) (narrow_more (logged_recs log) l.rec len k.narrow)

    kept_more_from : (p : ℕ → ℕ) → IsBelow cut p → filter (is_from p) (kept ++ l ∷ []) ≡ filter (is_from p) (log ++ l ∷ [])
    kept_more_from p below =
        filter-append (is_from p) kept (l ∷ [])
        ∙ (ap (λ (ls : List Logged). filter (is_from p) ls ++ filter (is_from p) (l ∷ [])) k.kept
        ∙ (ap (λ (ls : List Logged). ls ++ filter (is_from p) (l ∷ [])) (filter_within (is_from cut) (is_from p) (raised_test cut p below) log)
        ∙ sym (filter-append (is_from p) log (l ∷ []))))

    pub kept_ascending : IsAscending (logged_recs (kept ++ l ∷ []))
    kept_ascending =
        let old : IsAscending (logged_recs kept) = subst IsAscending (sym kept_recs_are) (AllPairs-filter (λ (r s : Rec). r.entity ≡ s.entity → r.version ≤ s.version) (is_rec_from cut) (logged_recs log) k.ascending) in
        let fewer : All (λ (r : Rec). r.entity ≡ l.rec.entity → r.version ≤ l.rec.version) (logged_recs kept) = subst (All (λ (r : Rec). r.entity ≡ l.rec.entity → r.version ≤ l.rec.version)) (sym kept_recs_are) (All-filter (is_rec_from cut) (λ (r : Rec). r.entity ≡ l.rec.entity → r.version ≤ l.rec.version) (logged_recs log) newer) in
        subst IsAscending (sym (recs_more kept l)) (all_pairs_push (λ (r s : Rec). r.entity ≡ s.entity → r.version ≤ s.version) (logged_recs kept) l.rec old fewer)

    kept_narrow : IsNarrow (commits_of (logged_recs (kept ++ l ∷ [])))
    kept_narrow =
        subst (λ (rs : List Rec). IsNarrow (commits_of rs)) (sym (recs_more kept l))
        (narrow_more (logged_recs kept) l.rec len (subst (λ (rs : List Rec). IsNarrow (commits_of rs)) (sym kept_recs_are) (narrow_from cut (logged_recs log) k.narrow)))

    pub kept_settled : (p : ℕ → ℕ) (turned : Bool) → IsGreatest nothing (commits_of (logged_recs (kept ++ l ∷ []))) p → AreKept ((if turned then kept else log) ++ l ∷ []) (filter (is_from p) (kept ++ l ∷ [])) p
    kept_settled p true greatest = record { kept = refl; greatest = greatest; ascending = kept_ascending; narrow = kept_narrow }
    kept_settled p false greatest = record {
      kept = kept_more_from p (greatest.greatest cut closed_still);
      greatest = subst (λ (cs : List Commit). IsGreatest nothing cs p) (sym log_more_commits)
          (greatest_of_kept nothing cut p (commits_of (logged_recs log)) (commit_of l.rec ∷ []) k.greatest (subst (λ (cs : List Commit). IsGreatest nothing cs p) kept_more_commits greatest));
      ascending = log_ascending;
      narrow = log_narrow;
    }

pub room_either : (turned : Bool) (kept log : List Logged) (most : ℕ) → length kept < most → (turned ≡ false → length log < most) → length (if turned then kept else log) < most
room_either true kept log most one two = one
room_either false kept log most one two = two refl

pub few_recs : (kept : List Logged) (l : Logged) (rs : List Rec) (most : ℕ) → rs ≡ logged_recs (kept ++ l ∷ []) → length kept < most → length rs ≤ most
few_recs kept l rs most is lt =
    let same = ap length is in
    let all = length-map (kept ++ l ∷ []) (λ (m : Logged). m.rec) in
    let more = length-append kept (l ∷ []) in
    omega (arith, same, all, more, lt)
