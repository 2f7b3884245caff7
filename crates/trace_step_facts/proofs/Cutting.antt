-- A cut is raised as commits follow: what is kept stays what is at or above it.
use Rattle.std.proofs.Common.{◌≡◌, ℕ, ◌+◌, ◌<◌, ◌≤◌, Bool, true, false, ◌&&◌, ◌==◌, cond, if◌then◌else◌, nat_le, List, [], ◌∷◌, ◌++◌, length, filter, count_by, refl, sym, ap, subst, ◌∙◌, arith, eqb-true}
use Rattle.std.specs.List.{All}
use Rattle.std.proofs.lemmas.List.{length-map, map-append}
use Rattle.std.proofs.lemmas.List.Elements.{All-cons, All-nil}
use Rattle.std.proofs.lemmas.List.Kept.{AllPairs-cons}
use Rattle.std.proofs.lemmas.List.Sums.{length-filter, sum_by-cons}
use Rattle.base_types.specs.declared.records.Rec.{Rec}
use Rattle.plain_runs.specs.model_kernel.Choices.{Commit, IsBelow, IsGreatest}
use Rattle.plain_runs.specs.model_kernel.Histories.{Run, commits_above}
use Rattle.plain_runs.proofs.model_kernel_lemmas.Lowering.{greatest_one, rising_cut}
use Rattle.data_cut_facts.specs.Records.{IsAscending, choice}
use Rattle.data_cut_facts.specs.model_cut_laws.Agreeing.{from_cut, is_from}
use Rattle.data_cut_facts.specs.model_cut_laws.Records.{commit_of, commits_of, is_rec_from, recs_from}
use Rattle.data_cut_facts.proofs.model_cut_laws_lemmas.Filters.{kept, more}
use Rattle.data_cut_facts.proofs.model_cut_laws_lemmas.Joins.{greatest_of_kept}
use Rattle.model_run_rules.specs.Records.{AreAbove, AreAscending}
use Rattle.trace_state.specs.Cuts.{records_of}
use Rattle.trace_state.specs.declared.cuts.Cuts.{Cuts}
use Rattle.trace_step_facts.specs.Keeping.{HasCuts}

-- RECORDS AND THEIR COMMITS

pub recs_commits : (p : ℕ → ℕ) (recs : List Rec) → commits_of (recs_from p recs) ≡ from_cut p (commits_of recs)
recs_commits p [] = refl
recs_commits p (r ∷ recs) =
    elim (is_rec_from p r) as (λ b. commits_of (if b then r ∷ recs_from p recs else recs_from p recs) ≡ (if b then commit_of r ∷ from_cut p (commits_of recs) else from_cut p (commits_of recs))) [
      | true ↦ ap (λ cs. commit_of r ∷ cs) (recs_commits p recs)
      | false ↦ recs_commits p recs
    ]

-- HOW MANY

count_commits : (recs : List Rec) (x : ℕ) → count_by (λ r. r.entity == x) recs ≡ count_by (λ (c : Commit). c.entity == x) (commits_of recs)
count_commits [] x = refl
count_commits (r ∷ recs) x =
    sum_by-cons (λ (r : Rec). cond (r.entity == x) 1 0) r recs ∙ ap (λ n. cond (r.entity == x) 1 0 + n) (count_commits recs x)
    ∙ sym (sum_by-cons (λ (c : Commit). cond (c.entity == x) 1 0) (commit_of r) (commits_of recs))

-- one commit more, of this entity or not, at or above the cut or not
count_one : (x : ℕ) (c : Commit) (front : List Commit) (rest : ℕ) (of from : Bool) → (c.entity == x) ≡ of → count_by (λ (c : Commit). c.entity == x) front ≡ rest
    → count_by (λ (c : Commit). c.entity == x) (if from then c ∷ front else front) ≡ cond (of && from) 1 0 + rest
count_one x c front rest true true is e = sum_by-cons (λ (c : Commit). cond (c.entity == x) 1 0) c front ∙ (λ i. cond (is i) 1 0 + e i)
count_one x c front rest true false is e = omega (arith, e)
count_one x c front rest false true is e = sum_by-cons (λ (c : Commit). cond (c.entity == x) 1 0) c front ∙ (λ i. cond (is i) 1 0 + e i)
count_one x c front rest false false is e = omega (arith, e)

-- whether it counts
test_same : (cut : ℕ → ℕ) (c : Commit) (x : ℕ) (of : Bool) → (c.entity == x) ≡ of → (of && is_from cut c) ≡ (of && nat_le (cut x) c.version)
test_same cut c x true is = ap (λ y. nat_le (cut y) c.version) (eqb-true c.entity x is)
test_same cut c x false is = refl

count_from : (cut : ℕ → ℕ) (cs : List Commit) (x : ℕ) → count_by (λ (c : Commit). c.entity == x) (from_cut cut cs) ≡ commits_above cs cut x
count_from cut [] x = refl
count_from cut (c ∷ cs) x =
    count_one x c (from_cut cut cs) (commits_above cs cut x) (c.entity == x) (is_from cut c) refl (count_from cut cs x)
    ∙ ap (λ b. cond b 1 0 + commits_above cs cut x) (test_same cut c x (c.entity == x) refl)
    ∙ sym (sum_by-cons (λ (c : Commit). cond (c.entity == x && nat_le (cut x) c.version) 1 0) c cs)

pub full_count : (cut : ℕ → ℕ) (cs : List Commit) (recs : List Rec) (x : ℕ) → commits_of recs ≡ from_cut cut cs → records_of recs x ≡ commits_above cs cut x
full_count cut cs recs x e = count_commits recs x ∙ ap (count_by (λ (c : Commit). c.entity == x)) e ∙ count_from cut cs x

pub kept_count : (cut : ℕ → ℕ) (cs : List Commit) (recs : List Rec) → commits_of recs ≡ from_cut cut cs → length recs ≡ count_by (is_from cut) cs
kept_count cut cs recs e = sym (length-map recs commit_of) ∙ ap length e ∙ length-filter (is_from cut) cs

-- ORDER

above_filter : (p : Commit → Bool) (c : Commit) (cs ds : List Commit) → AreAbove c (cs ++ ds) → AreAbove c (filter p cs ++ ds)
above_filter p c [] ds h = h
above_filter p c (d ∷ cs) ds h =
    elim (p d) as (λ b. AreAbove c ((if b then d ∷ filter p cs else filter p cs) ++ ds)) [
      | true ↦ (h.0, above_filter p c cs ds h.1)
      | false ↦ above_filter p c cs ds h.1
    ]

ascending_filter : (p : Commit → Bool) (cs ds : List Commit) → AreAscending (cs ++ ds) → AreAscending (filter p cs ++ ds)
ascending_filter p [] ds h = h
ascending_filter p (c ∷ cs) ds h =
    elim (p c) as (λ b. AreAscending ((if b then c ∷ filter p cs else filter p cs) ++ ds)) [
      | true ↦ (above_filter p c cs ds h.0, ascending_filter p cs ds h.1)
      | false ↦ ascending_filter p cs ds h.1
    ]

above_recs : (r : Rec) (recs : List Rec) → AreAbove (commit_of r) (commits_of recs) → All (λ (s : Rec). r.entity ≡ s.entity → r.version ≤ s.version) recs
above_recs r [] h = All-nil (λ (s : Rec). r.entity ≡ s.entity → r.version ≤ s.version)
above_recs r (s ∷ recs) h =
    All-cons (λ (s : Rec). r.entity ≡ s.entity → r.version ≤ s.version) s recs (λ e. let lt : r.version < s.version = h.0 e in omega arith) (above_recs r recs h.1)

ascending_recs : (recs : List Rec) → AreAscending (commits_of recs) → IsAscending recs
ascending_recs [] h = λ i j d before inside. absurd (omega arith)
ascending_recs (r ∷ recs) h = AllPairs-cons (λ (r s : Rec). r.entity ≡ s.entity → r.version ≤ s.version) r recs (above_recs r recs h.0) (ascending_recs recs h.1)

pub ascending_more : (cut : ℕ → ℕ) (cs ds : List Commit) (recs news : List Rec) → AreAscending (cs ++ ds) → commits_of recs ≡ from_cut cut cs → commits_of news ≡ ds → IsAscending (recs ++ news)
ascending_more cut cs ds recs news h e f =
    ascending_recs (recs ++ news) (subst AreAscending (sym (map-append commit_of recs news ∙ (λ i. e i ++ f i))) (ascending_filter (is_from cut) cs ds h))

-- THE CUT IS RAISED

pub record IsRaised (r : Run) (ds : List Commit) (q : ℕ → ℕ) (new : Cuts) : Type 0 where
  pub cut : choice new.cut ≡ q
  pub recs : commits_of new.recs.items ≡ from_cut q (r.commits ++ ds)

pub cut_raised : (r : Run) (ds : List Commit) (q : ℕ → ℕ) (old new : Cuts) (news : List Rec) → IsGreatest r.start r.commits r.cut → IsGreatest r.start (r.commits ++ ds) q → HasCuts r old → commits_of news ≡ ds
    → IsGreatest (choice old.start) (commits_of (old.recs.items ++ news)) (choice new.cut) → new.recs.items ≡ recs_from (choice new.cut) (old.recs.items ++ news) → IsRaised r ds q new
cut_raised r ds q old new news was now has same g is =
    let p = choice new.cut in
    let start : choice old.start ≡ r.start = λ i x. has.start x i in
    let all : commits_of (old.recs.items ++ news) ≡ from_cut r.cut r.commits ++ ds = map-append commit_of old.recs.items news ∙ (λ i. has.recs i ++ same i) in
    let over_kept : IsGreatest r.start (from_cut r.cut r.commits ++ ds) p = subst (λ (f : ℕ → ℕ). IsGreatest f (from_cut r.cut r.commits ++ ds) p) start (subst (λ cs. IsGreatest (choice old.start) cs p) all g) in
    let over_all : IsGreatest r.start (r.commits ++ ds) p = greatest_of_kept r.start r.cut p r.commits ds was over_kept in
    let one : p ≡ q = greatest_one r.start (r.commits ++ ds) p q over_all now in
    let below : IsBelow r.cut p = rising_cut r.start r.commits ds r.cut p was over_all in
    let left : commits_of new.recs.items ≡ from_cut p (r.commits ++ ds) =
    ap commits_of is ∙ recs_commits p (old.recs.items ++ news) ∙ ap (from_cut p) all ∙ more r.cut p (from_cut r.cut r.commits) r.commits ds below (sym (kept r.cut r.commits)) in
    record { cut = one; recs = subst (λ (f : ℕ → ℕ). commits_of new.recs.items ≡ from_cut f (r.commits ++ ds)) one left }
