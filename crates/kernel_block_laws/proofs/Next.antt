-- The room for a next record.
use Rattle.std.proofs.Common.{◌≡◌, ◌⊎◌, inl, inr, ℕ, zero, suc, ◌≤◌, ◌<◌, Bool, true, false, nat_le, if◌then◌else◌, arith, List, [], ◌∷◌, ◌++◌, length, count_by, option_to_list, refl, sym, ap, subst, ◌∙◌}
use Rattle.std.specs.Prelude.{All}
use Rattle.std.specs.List.{AllByRecursion}
use Rattle.std.proofs.lemmas.Bool.{cases_lt, false≢true, le-leb}
use Rattle.std.proofs.lemmas.List.{append_assoc}
use Rattle.std.proofs.lemmas.List.Sums.{length-filter}
use Rattle.base_types.specs.declared.histories.Entry.{Entry}
use Rattle.base_types.specs.declared.records.Rec.{Rec}
use Rattle.kernel_invariant.specs.model_kernel.Choices.{Among, Commit, IsBelow, IsGreatest, IsNarrow, greatest}
use Rattle.kernel_invariant.proofs.model_kernel_lemmas.CommitStamps.{AllCommits}
use Rattle.kernel_invariant.proofs.model_kernel_lemmas.Lowering.{greatest_is, greatest_one, rising_cut}
use Rattle.kernel_invariant.specs.model_cut_laws.Agreeing.{AgreeFromCut, from_cut, is_from, nothing}
use Rattle.kernel_invariant.specs.model_cut_laws.Records.{commit_of, commits_of}
use Rattle.kernel_invariant.proofs.model_cut_laws_lemmas.Filters.{kept, more}
use Rattle.kernel_invariant.proofs.model_cut_laws_lemmas.Joins.{same_greatest}
use Rattle.kernel_invariant.proofs.image_meaning_lemmas.Choosing.{from_commits}
use Rattle.kernel_invariant.specs.store_books.Books.{Books, Logged, cut_in, kept_in, logged_recs, recs_in}
use Rattle.kernel_invariant.proofs.store_books_lemmas.Keeping.{kept_recs}
use Rattle.kernel_invariant.specs.Beginnings.{Beginning, BeginsRight, IsLegal, completed, run_of}
use Rattle.kernel_invariant.proofs.Growing.{recs_more}
use Rattle.kernel_block_laws.proofs.Kept.{all_from, kept_list, long_list}
use Rattle.model_sound_cuts.proofs.Fronts.{few_of_image}
use Rattle.model_sound_cuts.specs.model_run_rules.Records.{AreAbove, AreAscending}
use Rattle.model_sound_cuts.proofs.model_run_rules_lemmas.Ascending.{commits_ascend}

all_of : {A : Type 0} (P : A → Type 0) (xs : List A) → AllByRecursion P xs → All P xs
all_of P [] all k d lt = absurd (omega (arith, lt))
all_of P (x ∷ xs) all zero d lt = all.0
all_of P (x ∷ xs) all (suc k) d lt = all_of P xs all.1 k d (omega (arith, lt))

-- COMMITS BEFORE THE NEXT

abbrev IsOlder : Commit → Commit → Type 0
IsOlder c d = d.entity ≡ c.entity → d.version < c.version

above_next : (d c : Commit) (cs later : List Commit) → AreAbove d (cs ++ c ∷ later) → IsOlder c d
above_next d c [] later all = all.0
above_next d c (x ∷ cs) later all = above_next d c cs later all.1

all_older : (c : Commit) (cs later : List Commit) → AreAscending (cs ++ c ∷ later) → AllCommits (IsOlder c) cs
all_older c [] later all = tt
all_older c (d ∷ cs) later all = (above_next d c cs later all.0, all_older c cs later all.1)

all_back : (P : Commit → Type 0) (cut : ℕ → ℕ) (recs : List Rec) → AllCommits P (from_cut cut (commits_of recs)) → ((r : Rec) → is_from cut (commit_of r) ≡ false → P (commit_of r)) → AllByRecursion (λ (r : Rec). P (commit_of r)) recs
all_back P cut [] all low = tt
all_back P cut (r ∷ rs) all low = by_test (is_from cut (commit_of r)) refl all (all_back P cut rs)
  where
    by_test : (t : Bool) → is_from cut (commit_of r) ≡ t → AllCommits P (if t then commit_of r ∷ from_cut cut (commits_of rs) else from_cut cut (commits_of rs)) → (AllCommits P (from_cut cut (commits_of rs)) → ((r : Rec) → is_from cut (commit_of r) ≡ false → P (commit_of r)) → AllByRecursion (λ (r : Rec). P (commit_of r)) rs) → AllByRecursion (λ (r : Rec). P (commit_of r)) (r ∷ rs)
    by_test true e all rest = (all.0, rest all.1 low)
    by_test false e all rest = (low r e, rest all low)

one_of : (P Q : Commit → Type 0) (cs : List Commit) → Among cs P → AllCommits Q cs → (d : Commit) × P d × Q d
one_of P Q [] a all = absurd a
one_of P Q (c ∷ cs) (inl here) all = (c, here, all.0)
one_of P Q (c ∷ cs) (inr rest) all = one_of P Q cs rest all.1

not_from : (a v : ℕ) → nat_le a v ≡ false → v < a
not_from a v is = elim (cases_lt v a) as (λ _. v < a) [
  | inl lt ↦ lt
  | inr le ↦ absurd (false≢true (sym is ∙ le-leb a v le))
]

-- lists that agree agree with one commit more
agree_more : (cs ds : List Commit) (c : Commit) (cut : ℕ → ℕ) → IsGreatest nothing cs cut → from_cut cut cs ≡ from_cut cut ds → IsNarrow (ds ++ c ∷ []) → AgreeFromCut nothing (cs ++ c ∷ []) (ds ++ c ∷ [])
agree_more cs ds c cut g same thin =
    let p : ℕ → ℕ = greatest nothing (ds ++ c ∷ []) in
    let best : IsGreatest nothing (ds ++ c ∷ []) p = greatest_is nothing (ds ++ c ∷ []) thin in
    let below : IsBelow cut p = rising_cut nothing ds (c ∷ []) cut p (same_greatest nothing cut cs ds same g) best in
    let both : from_cut p (cs ++ c ∷ []) ≡ from_cut p (ds ++ c ∷ []) = more cut p cs ds (c ∷ []) below same in
    record { cut = p; greatest = same_greatest nothing p (ds ++ c ∷ []) (cs ++ c ∷ []) (sym both) best; same = both }

module _ (cs : List Commit) (bk : Books) (thin : IsNarrow (commits_of (recs_in bk))) (agree : AgreeFromCut nothing cs (commits_of (recs_in bk))) where
  -- the store's cut is that of the commits
  same_cut : cut_in bk ≡ agree.cut
  same_cut =
      greatest_one nothing (commits_of (recs_in bk)) (cut_in bk) agree.cut (greatest_is nothing (commits_of (recs_in bk)) thin)
      (same_greatest nothing agree.cut cs (commits_of (recs_in bk)) agree.same agree.greatest)

  kept_is : commits_of (logged_recs (kept_in bk)) ≡ from_cut agree.cut cs
  kept_is = ap commits_of (sym (kept_list [] (kept_in bk)) ∙ kept_recs [] bk) ∙ (sym (from_commits (cut_in bk) (recs_in bk)) ∙ (ap (λ (q : ℕ → ℕ). from_cut q (commits_of (recs_in bk))) same_cut ∙ sym agree.same))

  pub kept_room : (b : Beginning) (es : List Entry) (later : List Commit) → BeginsRight b → IsLegal b es → completed b es ≡ cs ++ later → length (kept_in bk) ≤ 320
  kept_room b es later right legal is =
      let long : length (kept_in bk) ≡ length (commits_of (logged_recs (kept_in bk))) = long_list (kept_in bk) in
      let same = ap (λ (ks : List Commit). length ks) kept_is in
      let filtered : length (from_cut agree.cut cs) ≡ count_by (is_from agree.cut) cs = length-filter (is_from agree.cut) cs in
      let few = few_of_image b.supply b.policy b.script b.state es cs later (record { rules = right.script; names = right.names; sound = right.sound; legal = legal }) is agree.cut agree.greatest in
      omega (arith, long, same, filtered, few)

  pub grown : (l : Logged) (new : Books) → (new.logged ≡ bk.logged ++ l ∷ []) ⊎ (new.logged ≡ kept_in bk ++ l ∷ []) → IsNarrow (commits_of (recs_in new)) → AgreeFromCut nothing (cs ++ commit_of l.rec ∷ []) (commits_of (recs_in new))
  grown l new log thin_new = elim log as (λ _. AgreeFromCut nothing (cs ++ commit_of l.rec ∷ []) (commits_of (recs_in new))) [
    | inl is ↦ by_log bk.logged is agree.same
    | inr is ↦ by_log (kept_in bk) is (kept agree.cut cs ∙ ap (from_cut agree.cut) (sym kept_is))
  ]
    where
      by_log : (ls : List Logged) → new.logged ≡ ls ++ l ∷ [] → from_cut agree.cut cs ≡ from_cut agree.cut (commits_of (logged_recs ls)) → AgreeFromCut nothing (cs ++ commit_of l.rec ∷ []) (commits_of (recs_in new))
      by_log ls is same =
          let all : commits_of (recs_in new) ≡ commits_of (logged_recs ls) ++ commit_of l.rec ∷ [] = ap (λ (ms : List Logged). commits_of (logged_recs ms)) is ∙ recs_more ls l in
          subst (AgreeFromCut nothing (cs ++ commit_of l.rec ∷ [])) (sym all) (agree_more cs (commits_of (logged_recs ls)) (commit_of l.rec) agree.cut agree.greatest same (subst IsNarrow all thin_new))

  pub all_newer : (b : Beginning) (es : List Entry) (later : List Commit) (c : Commit) → IsLegal b es → completed b es ≡ cs ++ c ∷ later → All (λ (r : Rec). r.entity ≡ c.entity → r.version < c.version) (recs_in bk)
  all_newer b es later c legal is =
      let tried : List Commit = option_to_list (run_of b es).tried in
      let up : AreAscending (completed b es ++ tried) = commits_ascend b.supply b.policy b.script b.state es legal in
      let at : AreAscending (cs ++ c ∷ (later ++ tried)) = subst AreAscending (ap (λ (ks : List Commit). ks ++ tried) is ∙ append_assoc cs (c ∷ later) tried) up in
      let older : AllCommits (IsOlder c) cs = all_older c cs (later ++ tried) at in
      let in_log : AllCommits (IsOlder c) (from_cut agree.cut (commits_of (recs_in bk))) = subst (AllCommits (IsOlder c)) agree.same (all_from (IsOlder c) agree.cut cs older) in
      all_of (λ (r : Rec). r.entity ≡ c.entity → r.version < c.version) (recs_in bk) (all_back (IsOlder c) agree.cut (recs_in bk) in_log (λ r out same. below_cut r out same older))
    where
      below_cut : (r : Rec) → is_from agree.cut (commit_of r) ≡ false → r.entity ≡ c.entity → AllCommits (IsOlder c) cs → r.version < c.version
      below_cut r out same older =
          let low : r.version < agree.cut r.entity = not_from (agree.cut r.entity) r.version out in
          elim (agree.greatest.closed r.entity) as (λ _. r.version < c.version) [
            | inl none ↦ absurd (omega (arith, low, none))
            | inr among ↦ (let d = one_of _ (IsOlder c) cs among older in let lt = d.2 (d.1.0 ∙ same) in let at = d.1.1 in omega (arith, low, lt, at))
          ]
