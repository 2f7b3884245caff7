-- Counts of commits, and the newest.
use Rattle.std.proofs.Common.{◌≡◌, ℕ, ◌+◌, ◌≤◌, ◌<◌, Bool, true, false, ◌==◌, cond, if◌then◌else◌, List, [], ◌∷◌, ◌++◌, filter, refl, ap, ◌∙◌, arith, inl, inr, eq-eqb, eqb-true}
use Rattle.std.proofs.lemmas.List.Sums.{sum_by-cons}
use Rattle.base_types.specs.Edges.{upto}
use Rattle.base_types.specs.declared.histories.Entry.{Entry}
use Rattle.model_run_laws.specs.model_kernel.State.{Supply}
use Rattle.model_run_laws.specs.model_kernel.Scripts.{Script}
use Rattle.model_run_laws.specs.model_kernel.Choices.{Commit, Among}
use Rattle.model_run_laws.specs.model_kernel.Histories.{Policy, Run, commits_of, run_after, version_of}
use Rattle.model_run_laws.proofs.model_kernel_lemmas.CommitStamps.{AllCommits}
use Rattle.model_run_laws.proofs.model_kernel_lemmas.StableCuts.{commits_grow, in_upto}
use Rattle.model_run_rules.specs.Newest.{commit_count, newest_from}

count_cons : (c : Commit) (cs : List Commit) (x : ℕ) → commit_count (c ∷ cs) x ≡ cond (c.entity == x) 1 0 + commit_count cs x
count_cons c cs x = sum_by-cons (λ (c : Commit). cond (c.entity == x) 1 0) c cs

pub count_append : (cs ds : List Commit) (x : ℕ) → commit_count (cs ++ ds) x ≡ commit_count cs x + commit_count ds x
count_append [] ds x = (let z : commit_count [] x ≡ 0 = refl in omega (arith, z))
count_append (c ∷ cs) ds x =
    let whole = count_cons c (cs ++ ds) x in
    let first = count_cons c cs x in
    let rest = count_append cs ds x in
    omega (arith, whole, first, rest)

pub count_other : (c : Commit) (x : ℕ) → (c.entity == x) ≡ false → commit_count (c ∷ []) x ≡ 0
count_other c x other = count_cons c [] x ∙ ap (λ b. cond b 1 0 + commit_count [] x) other

pub count_own : (c : Commit) (x : ℕ) → c.entity ≡ x → commit_count (c ∷ []) x ≡ 1
count_own c x own = count_cons c [] x ∙ ap (λ b. cond b 1 0 + commit_count [] x) (eq-eqb _ _ own)

pub count_among : (cs : List Commit) (x : ℕ) (P : Commit → Type 0) → ((c : Commit) → P c → c.entity ≡ x) → Among cs P → 1 ≤ commit_count cs x
count_among [] x P own a = absurd a
count_among (c ∷ cs) x P own a =
    let whole = count_cons c cs x in
    elim a as (λ _. 1 ≤ commit_count (c ∷ cs) x) [
      | inl h ↦ (let one : ◌≡◌ {A = ℕ} (cond (c.entity == x) 1 0) 1 = ap (λ b. cond b 1 0) (eq-eqb _ _ (own c h)) in omega (arith, whole, one))
      | inr h ↦ (let rest = count_among cs x P own h in omega (arith, whole, rest))
    ]

-- of those whom the test picks each has its commit
pub count_picked : (r : Run) (f : ℕ → Bool) (x : ℕ) → x < 64 → f x ≡ true → 1 ≤ commit_count (commits_of r (filter f (upto 64))) x
count_picked r f x low is = count_among (commits_of r (filter f (upto 64))) x _ (λ c k. k.0) (in_upto x 64 low f is r)

pub counts_grow : (s : Supply) (policy : Policy) (script : Script) (r : Run) (es : List Entry) (x : ℕ) → commit_count r.commits x ≤ commit_count (run_after s script r es).commits x
counts_grow s policy script r es x =
    let g = commits_grow s policy script r es in
    let now : commit_count (run_after s script r es).commits x ≡ commit_count (r.commits ++ g.0) x = ap (λ cs. commit_count cs x) g.1 in
    let both = count_append r.commits g.0 x in
    omega (arith, now, both)

-- THE NEWEST

pub newest_append : (n : ℕ) (cs ds : List Commit) (x : ℕ) → newest_from n (cs ++ ds) x ≡ newest_from (newest_from n cs x) ds x
newest_append n [] ds x = refl
newest_append n (c ∷ cs) ds x = newest_append (if c.entity == x then c.version else n) cs ds x

-- where all commits of the entity have one version
pub newest_same : (v n : ℕ) (cs : List Commit) (x : ℕ) → AllCommits (λ c. c.entity ≡ x → c.version ≡ v) cs → n ≡ v → newest_from n cs x ≡ v
newest_same v n [] x all is = is
newest_same v n (c ∷ cs) x all is =
    newest_same v (if c.entity == x then c.version else n) cs x all.1
    (elim (c.entity == x) as (λ b. (c.entity == x) ≡ b → (if b then c.version else n) ≡ v) [ true ↦ λ own. all.0 (eqb-true _ _ own) | false ↦ λ _. is ] refl)

pub newest_among : (v n : ℕ) (cs : List Commit) (x : ℕ) (P : Commit → Type 0) → ((c : Commit) → P c → c.entity ≡ x) → AllCommits (λ c. c.entity ≡ x → c.version ≡ v) cs → Among cs P → newest_from n cs x ≡ v
newest_among v n [] x P own all a = absurd a
newest_among v n (c ∷ cs) x P own all a =
    elim a as (λ _. newest_from (if c.entity == x then c.version else n) cs x ≡ v) [
      | inl h ↦ newest_same v (if c.entity == x then c.version else n) cs x all.1 (let e = own c h in ap (λ b. if b then c.version else n) (eq-eqb _ _ e) ∙ all.0 e)
      | inr h ↦ newest_among v (if c.entity == x then c.version else n) cs x P own all.1 h
    ]

all_present : (r : Run) (xs : List ℕ) (x : ℕ) → AllCommits (λ c. c.entity ≡ x → c.version ≡ version_of r x) (commits_of r xs)
all_present r [] x = tt
all_present r (y ∷ ys) x = (λ e. ap (version_of r) e, all_present r ys x)

-- those whom the test picks have their present versions as the newest, the others what they had
pub newest_picked : (r : Run) (f : ℕ → Bool) (n x : ℕ) → x < 64 → (f x ≡ false → n ≡ version_of r x) → newest_from n (commits_of r (filter f (upto 64))) x ≡ version_of r x
newest_picked r f n x low unpicked =
    elim (f x) as (λ b. f x ≡ b → newest_from n (commits_of r (filter f (upto 64))) x ≡ version_of r x) [
      | true ↦ λ is. newest_among (version_of r x) n (commits_of r (filter f (upto 64))) x _ (λ c k. k.0) (all_present r (filter f (upto 64)) x) (in_upto x 64 low f is r)
      | false ↦ λ is. newest_same (version_of r x) n (commits_of r (filter f (upto 64))) x (all_present r (filter f (upto 64)) x) (unpicked is)
    ] refl
