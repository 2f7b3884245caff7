-- Few commits of an entity are at or above the cut.
use Rattle.std.proofs.Common.{◌≡◌, ℕ, zero, suc, ◌+◌, ◌≤◌, ◌<◌, Bool, true, false, not, ◌&&◌, ◌==◌, nat_le, nat_lt, if◌then◌else◌, cond, List, [], ◌∷◌, ◌++◌, filter, find, Some, None, is_some, IsTrue, refl, sym, ap, subst, ◌∙◌, arith, eqb-true, eq-eqb, ◌⊎◌, inl, inr}
use Rattle.std.proofs.lemmas.Bool.{ltb-true, leb-true, le-leb, lt-ltb, cases_lt, false≢true}
use Rattle.std.proofs.lemmas.Bool.Decides.{nat_tests}
use Rattle.std.proofs.lemmas.List.Sums.{sum_by-cons, sum_by-append}
use Rattle.model_cut_laws.specs.base_types.declared.histories.Entry.{Entry}
use Rattle.model_cut_laws.specs.base_types.declared.histories.Event.TheVariants.{Birth, Step, Snap as SnapEvent, Stable, Tried}
use Rattle.model_cut_laws.specs.base_types.Edges.{upto}
use Rattle.model_cut_laws.specs.model_kernel.State.{Supply, KernelState}
use Rattle.model_cut_laws.specs.model_kernel.Words.{put}
use Rattle.model_cut_laws.specs.model_kernel.Scripts.{Script}
use Rattle.model_cut_laws.specs.model_kernel.Vectors.{StampsBelow}
use Rattle.model_cut_laws.specs.model_kernel.Choices.{Commit, IsBelow, IsGreatest}
use Rattle.model_cut_laws.specs.model_kernel.Histories.{Policy, Run, may, May, is_full, goes_on, went_on, noting, after_snap, after_stable, version_of, commit_of, commits_of, commits_above, has_changed, next_changed, IsLegalFrom, IsLegalRun, start_run, run_after, AllBelow64}
use Rattle.model_cut_laws.proofs.model_kernel_lemmas.Among.{among_more, among_right}
use Rattle.model_cut_laws.proofs.model_kernel_lemmas.CommitStamps.{AllCommits, all_append, all_map}
use Rattle.model_cut_laws.proofs.model_kernel_lemmas.Lowering.{rising_cut}
use Rattle.model_cut_laws.proofs.model_kernel_lemmas.StableCuts.{IsKept, OnRecord, Stands, closed_now, commits_append, in_upto, kept_goes_on}
use Rattle.model_run_laws.specs.Versions.{OnlyBelow64}
use Rattle.model_run_laws.proofs.Cuts.{HasCut, cut_greatest, chosen_same, cut_goes_on, start_kept, start_has}

-- COUNTS

abbrev pub is_above : (ℕ → ℕ) → ℕ → Commit → Bool
is_above cut x c = c.entity == x && nat_le (cut x) c.version

pub above_cons : (c : Commit) (cs : List Commit) (cut : ℕ → ℕ) (x : ℕ) → commits_above (c ∷ cs) cut x ≡ cond (is_above cut x c) 1 0 + commits_above cs cut x
above_cons c cs cut x = sum_by-cons (λ (c : Commit). cond (is_above cut x c) 1 0) c cs

pub above_append : (cs ds : List Commit) (cut : ℕ → ℕ) (x : ℕ) → commits_above (cs ++ ds) cut x ≡ commits_above cs cut x + commits_above ds cut x
above_append cs ds cut x = sum_by-append (λ (c : Commit). cond (is_above cut x c) 1 0) cs ds

fewer_one : (e : Bool) (p q v : ℕ) → p ≤ q → cond (e && nat_le q v) 1 0 ≤ cond (e && nat_le p v) 1 0
fewer_one false p q v h = omega arith
fewer_one true p q v h = elim (nat_le q v) as (λ b. nat_le q v ≡ b → cond b 1 0 ≤ cond (nat_le p v) 1 0) [
  | true ↦ λ is. (let le = leb-true _ _ is in let t : nat_le p v ≡ true = le-leb _ _ (omega arith) in rw t (omega arith))
  | false ↦ λ _. omega arith
] refl

-- a higher cut has fewer above it
pub above_fewer : (cs : List Commit) (p q : ℕ → ℕ) (x : ℕ) → IsBelow p q → commits_above cs q x ≤ commits_above cs p x
above_fewer [] p q x below = omega arith
above_fewer (c ∷ cs) p q x below =
    let a = above_cons c cs p x in
    let b = above_cons c cs q x in
    let one = fewer_one (c.entity == x) (p x) (q x) c.version (below x) in
    let rest = above_fewer cs p q x below in
    omega (arith, a, b, one, rest)

pub one_most : (b : Bool) → cond b 1 0 ≤ 1
one_most true = omega arith
one_most false = omega arith

one_above : (c : Commit) (cut : ℕ → ℕ) (x : ℕ) → commits_above (c ∷ []) cut x ≤ 1
one_above c cut x = let a = above_cons c [] cut x in let b = one_most (is_above cut x c) in let z : commits_above [] cut x ≡ 0 = refl in omega (arith, a, b, z)

other_above : (c : Commit) (cut : ℕ → ℕ) (x : ℕ) → (c.entity == x) ≡ false → commits_above (c ∷ []) cut x ≡ 0
other_above c cut x other = above_cons c [] cut x ∙ ap (λ b. cond (b && nat_le (cut x) c.version) 1 0 + 0) other

-- none where all versions are below
none_above : (cs : List Commit) (newest cut : ℕ → ℕ) (x : ℕ) → AllCommits (λ c. c.version ≤ newest c.entity) cs → newest x < cut x → commits_above cs cut x ≡ 0
none_above [] newest cut x all lt = refl
none_above (c ∷ cs) newest cut x all lt =
    let out : is_above cut x c ≡ false = elim (c.entity == x) as (λ b. (c.entity == x) ≡ b → (b && nat_le (cut x) c.version) ≡ false) [
      | true ↦ λ is. (let low : c.version ≤ newest x = subst (λ z. c.version ≤ newest z) (eqb-true _ _ is) all.0 in not_le (cut x) c.version (omega arith))
      | false ↦ λ _. refl
    ] refl in
    let first : commits_above (c ∷ cs) cut x ≡ 0 + commits_above cs cut x = above_cons c cs cut x ∙ ap (λ b. cond b 1 0 + commits_above cs cut x) out in
    let rest = none_above cs newest cut x all.1 lt in
    omega (arith, first, rest)
  where
    not_le : (a b : ℕ) → b < a → nat_le a b ≡ false
    not_le a b h = grind (arith, nat_tests)

-- COMMITS OF SOME ENTITIES

pub record AreOne (n : ℕ) (f : ℕ → Bool) (x count : ℕ) : Type 0 where
  pub past : n ≤ x → count ≡ 0
  pub one : count ≤ 1
  pub none : f x ≡ false → count ≡ 0

off : (a b : ℕ) → a < b → (b == a) ≡ false
off a b h = grind (arith, nat_tests)

off_above : (a b : ℕ) → a < b → (a == b) ≡ false
off_above a b h = grind (arith, nat_tests)

module _ (r : Run) (f : ℕ → Bool) (cut : ℕ → ℕ) (x : ℕ) where
  last : (n : ℕ) → commits_above (commits_of r (filter f (upto (suc n)))) cut x ≡ commits_above (commits_of r (filter f (upto n))) cut x + commits_above (commits_of r (cond (f n) (n ∷ []) [])) cut x
  last n = ap (λ cs. commits_above cs cut x) (commits_append r f (upto n) (n ∷ [])) ∙ above_append (commits_of r (filter f (upto n))) (commits_of r (filter f (n ∷ []))) cut x

  last_other : (n : ℕ) → (n == x) ≡ false → commits_above (commits_of r (cond (f n) (n ∷ []) [])) cut x ≡ 0
  last_other n other = elim (f n) as (λ b. commits_above (commits_of r (cond b (n ∷ []) [])) cut x ≡ 0) [ true ↦ other_above (commit_of r n) cut x other | false ↦ refl ]

  last_one : (n : ℕ) → commits_above (commits_of r (cond (f n) (n ∷ []) [])) cut x ≤ 1
  last_one n = elim (f n) as (λ b. commits_above (commits_of r (cond b (n ∷ []) [])) cut x ≤ 1) [ true ↦ one_above (commit_of r n) cut x | false ↦ (let z : commits_above [] cut x ≡ 0 = refl in omega (arith, z)) ]

  last_none : (n : ℕ) → f n ≡ false → commits_above (commits_of r (cond (f n) (n ∷ []) [])) cut x ≡ 0
  last_none n is = ap (λ b. commits_above (commits_of r (cond b (n ∷ []) [])) cut x) is

  pub one_each : (n : ℕ) → AreOne n f x (commits_above (commits_of r (filter f (upto n))) cut x)
  one_each zero = record { past = λ _. refl; one = (let z : commits_above [] cut x ≡ 0 = refl in omega (arith, z)); none = λ _. refl }
  one_each (suc n) =
      let before = one_each n in
      let whole = last n in
      elim (cases_lt x n) as (λ _. AreOne (suc n) f x (commits_above (commits_of r (filter f (upto (suc n)))) cut x)) [
        | inl low ↦ (
            let nothing = last_other n (off x n low) in
            record { past = λ h. absurd (omega arith); one = (let b = before.one in omega (arith, whole, nothing, b)); none = λ e. (let b = before.none e in omega (arith, whole, nothing, b)) })
        | inr high ↦ (
            let b = before.past high in
            let l = last_one n in
            record {
              past = λ h. (let nothing = last_other n (off_above n x (omega arith)) in omega (arith, whole, nothing, b));
              one = omega (arith, whole, b, l);
              none = λ e. elim (cases_lt n x) as (λ _. commits_above (commits_of r (filter f (upto (suc n)))) cut x ≡ 0) [
                | inl lt ↦ (let nothing = last_other n (off_above n x lt) in omega (arith, whole, nothing, b))
                | inr le ↦ (let same : n ≡ x = omega arith in let nothing = last_none n (ap f same ∙ e) in omega (arith, whole, nothing, b))
              ];
            })
      ]

-- AFTER A STABLE EACH VERSION IS ON RECORD

record_more : (start : ℕ → ℕ) (cs ds : List Commit) (x : ℕ) (b : Rattle.model_cut_laws.specs.model_kernel.State.EntityState) → OnRecord start cs x b → OnRecord start (cs ++ ds) x b
record_more start cs ds x b h = elim h as (λ _. OnRecord start (cs ++ ds) x b) [ inl e ↦ inl e | inr a ↦ inr (among_more cs ds _ a) ]

abbrev pub stable_commits : Run → List Commit
stable_commits r = commits_of r (filter (has_changed r) (upto 64))

all_recorded : (r : Run) → IsKept r → (x : ℕ) → OnRecord r.start (r.commits ++ stable_commits r) x (r.state x)
all_recorded r k x =
    elim (k.record_of x) as (λ _. OnRecord r.start (r.commits ++ stable_commits r) x (r.state x)) [
      | inr h ↦ record_more r.start r.commits (stable_commits r) x (r.state x) h
      | inl lt ↦ elim (cases_lt x 64) as (λ _. OnRecord r.start (r.commits ++ stable_commits r) x (r.state x)) [
        | inl low ↦ inr (among_right r.commits (stable_commits r) (Stands r x) (in_upto x 64 low (has_changed r) (lt-ltb _ _ lt) r))
        | inr high ↦ inl (k.beyond x high)
      ]
    ]

-- THE INVARIANT

pub record Few (r : Run) : Type 0 where
  pub short_owed : (r.short ≡ false) ⊎ ((is_some r.owed ≡ true) × (r.began ≡ false))
  pub five : (x : ℕ) → commits_above r.commits r.cut x ≤ 5
  pub four : r.short ≡ false → (x : ℕ) → commits_above r.commits r.cut x ≤ 4
  pub changed : (x : ℕ) → has_changed r x ≡ true → commits_above r.commits r.cut x ≤ 4
  pub low : AllCommits (λ c. c.version ≤ r.newest c.entity) r.commits

pub found_true : (f : ℕ → Bool) (xs : List ℕ) (x : ℕ) → find f xs ≡ Some x → f x ≡ true
found_true f [] x e = cc
found_true f (y ∷ ys) x e = elim (f y) as (λ b. f y ≡ b → (if b then Some y else find f ys) ≡ Some x → f x ≡ true) [
  | true ↦ λ is e. (let same : y ≡ x = cc in ap f (sym same) ∙ is)
  | false ↦ λ _ e. found_true f ys x e
] refl e

not_fewer : (n : ℕ) → IsTrue (not (nat_le 4 n)) → n ≤ 3
not_fewer n h = elim (nat_le 4 n) as (λ b. nat_le 4 n ≡ b → not b ≡ true → n ≤ 3) [ true ↦ λ _ e. absurd (false≢true e) | false ↦ λ is _. grind (arith, nat_tests) ] refl h

pub never_less : (n : ℕ) → nat_lt n n ≡ false
never_less n = grind (arith, nat_tests)

versions_low : (r : Run) (xs : List ℕ) (newest : ℕ → ℕ) → ((x : ℕ) → version_of r x ≤ newest x) → AllCommits (λ c. c.version ≤ newest c.entity) (commits_of r xs)
versions_low r [] newest h = tt
versions_low r (x ∷ xs) newest h = (h x, versions_low r xs newest h)

abbrev pub went_after : Run → ℕ → Run
went_after r y = noting (after_snap r y)

module _ (s : Supply) (policy : Policy) (script : Script) where
  calm_of : (r : Run) → Few r → r.owed ≡ None → r.short ≡ false
  calm_of r f none = elim f.short_owed as (λ _. r.short ≡ false) [ inl e ↦ e | inr k ↦ absurd (false≢true (sym (ap is_some none) ∙ k.0)) ]

  calm_births : (r : Run) → Few r → r.began ≡ true → r.short ≡ false
  calm_births r f began = elim f.short_owed as (λ _. r.short ≡ false) [ inl e ↦ e | inr k ↦ absurd (false≢true (sym k.1 ∙ began)) ]

  -- a record more, over a cut that is no lower
  snap_count : (r : Run) (y : ℕ) (cut : ℕ → ℕ) (x : ℕ) → IsBelow r.cut cut → commits_above (r.commits ++ commit_of r y ∷ []) cut x ≤ commits_above r.commits r.cut x + 1
  snap_count r y cut x rise =
      let a = above_append r.commits (commit_of r y ∷ []) cut x in
      let b = above_fewer r.commits r.cut cut x rise in
      let c = one_above (commit_of r y) cut x in
      omega (arith, a, b, c)

  snap_other : (r : Run) (y : ℕ) (cut : ℕ → ℕ) (x : ℕ) → IsBelow r.cut cut → (y == x) ≡ false → commits_above (r.commits ++ commit_of r y ∷ []) cut x ≤ commits_above r.commits r.cut x
  snap_other r y cut x rise other =
      let a = above_append r.commits (commit_of r y ∷ []) cut x in
      let b = above_fewer r.commits r.cut cut x rise in
      let c = other_above (commit_of r y) cut x other in
      omega (arith, a, b, c)

  -- by the entity that is recorded, or another
  snap_bound : (r : Run) (y : ℕ) (cut : ℕ → ℕ) (x m n : ℕ) → IsBelow r.cut cut → commits_above r.commits r.cut y ≤ m → m + 1 ≤ n → commits_above r.commits r.cut x ≤ n → commits_above (r.commits ++ commit_of r y ∷ []) cut x ≤ n
  snap_bound r y cut x m n rise here le there =
      elim (y == x) as (λ b. (y == x) ≡ b → commits_above (r.commits ++ commit_of r y ∷ []) cut x ≤ n) [
        | true ↦ λ is. (let at : commits_above r.commits r.cut x ≤ m = subst (λ z. commits_above r.commits r.cut z ≤ m) (eqb-true _ _ is) here in let c = snap_count r y cut x rise in omega (arith, at, c, le))
        | false ↦ λ is. (let c = snap_other r y cut x rise is in omega (arith, c, there))
      ] refl

  snap_low : (r : Run) (y : ℕ) → IsKept r → Few r → AllCommits (λ c. c.version ≤ put r.newest y (version_of r y) c.entity) (r.commits ++ commit_of r y ∷ [])
  snap_low r y k f =
      all_append (λ c. c.version ≤ put r.newest y (version_of r y) c.entity) r.commits (commit_of r y ∷ [])
      (all_map _ _ (λ c le. elim (c.entity == y) as (λ b. (c.entity == y) ≡ b → c.version ≤ (if b then version_of r y else r.newest c.entity)) [
        | true ↦ λ is. (let m = k.newest_low c.entity in let e = ap (version_of r) (eqb-true _ _ is) in omega (arith, m, e, le))
        | false ↦ λ _. le
      ] refl) r.commits f.low)
      ((let t : (y == y) ≡ true = eq-eqb y y refl in rw t (omega arith)), tt)

  few_wish : (r : Run) (y : ℕ) → IsKept r → Few r → IsTrue (not (is_full r y)) → r.owed ≡ None → IsBelow r.cut (went_after r y).cut → Few (went_after r y)
  few_wish r y k f room none rise =
      let calm = calm_of r f none in
      let four : (x : ℕ) → commits_above (r.commits ++ commit_of r y ∷ []) (went_after r y).cut x ≤ 4 =
      λ x. snap_bound r y (went_after r y).cut x 3 4 rise (not_fewer _ room) (omega arith) (f.four calm x) in
      record {
        short_owed = inl (ap is_some none);
        five = λ x. (let h = four x in omega (arith, h));
        four = λ _ x. four x;
        changed = λ x _. four x;
        low = snap_low r y k f;
      }

  few_short : (r : Run) (y : ℕ) → IsKept r → Few r → IsTrue (is_some r.owed) → next_changed r ≡ Some y → IsBelow r.cut (went_after r y).cut → Few (went_after r y)
  few_short r y k f owed next rise =
      let was : has_changed r y ≡ true = found_true (has_changed r) (upto 64) y next in
      record {
        short_owed = inr (owed, refl);
        five = λ x. snap_bound r y (went_after r y).cut x 4 5 rise (f.changed y was) (omega arith) (f.five x);
        four = λ calm. absurd (false≢true (sym calm ∙ owed));
        changed = λ x. elim (x == y) as (λ b. (x == y) ≡ b → nat_lt (if b then version_of r y else r.newest x) (version_of r x) ≡ true → commits_above (r.commits ++ commit_of r y ∷ []) (went_after r y).cut x ≤ 4) [
          | true ↦ λ is h. absurd (false≢true (sym (never_less (version_of r y)) ∙ ap (λ z. nat_lt (version_of r y) (version_of r z)) (sym (eqb-true _ _ is)) ∙ h))
          | false ↦ λ is h. (let c = snap_other r y (went_after r y).cut x rise (swap x y is) in let d = f.changed x h in omega (arith, c, d))
        ] refl;
        low = snap_low r y k f;
      }
    where
      swap : (x y : ℕ) → (x == y) ≡ false → (y == x) ≡ false
      swap x y h = grind (arith, nat_tests)

  few_stable : (r : Run) → IsKept r → Few r → r.short ≡ false → IsBelow r.cut (noting (after_stable r)).cut → IsGreatest r.start (r.commits ++ stable_commits r) (noting (after_stable r)).cut → Few (noting (after_stable r))
  few_stable r k f calm rise g =
      let cut = (noting (after_stable r)).cut in
      let reached : (x : ℕ) → version_of r x ≤ cut x = g.greatest (version_of r) (closed_now r.start (r.commits ++ stable_commits r) r.state k.stamps (all_recorded r k)) in
      let four : (x : ℕ) → commits_above (r.commits ++ stable_commits r) cut x ≤ 4 = λ x.
      (let a = above_append r.commits (stable_commits r) cut x in
      let b = above_fewer r.commits r.cut cut x rise in
      let four = f.four calm x in
      let one = one_each r (has_changed r) cut x 64 in
      elim (has_changed r x) as (λ q. has_changed r x ≡ q → commits_above (r.commits ++ stable_commits r) cut x ≤ 4) [
        | true ↦ λ is. (
            let lt : r.newest x < version_of r x = ltb-true _ _ is in
            let up = reached x in
            let nothing = none_above r.commits r.newest cut x f.low (omega (arith, lt, up)) in
            let o = one.one in
            omega (arith, a, nothing, o))
        | false ↦ λ is. (let nothing = one.none is in omega (arith, a, b, four, nothing))
      ] refl) in
      record {
        short_owed = inl calm;
        five = λ x. (let h = four x in omega (arith, h));
        four = λ _ x. four x;
        changed = λ x _. four x;
        low = all_append (λ c. c.version ≤ version_of r c.entity) r.commits (stable_commits r) (all_map _ _ (λ c le. let m = k.newest_low c.entity in omega (arith, m, le)) r.commits f.low) (versions_low r _ (version_of r) (λ x. omega arith));
      }

  few_goes_on : (start : ℕ → ℕ) (r : Run) (e : Entry) → May s policy script r e → IsKept r → OnlyBelow64 start → HasCut start r → Few r → Few (goes_on s script r e)
  few_goes_on start r e m k none h f =
      elim e.event as (λ ev. e.event ≡ ev → may s policy script r e ev → HasCut start (went_on s script r e ev) → Few (went_on s script r e ev)) [
        | Birth ↦ λ _ m _. (let calm = calm_births r f m.0 in record { short_owed = inl calm; five = f.five; four = λ _ x. f.four calm x; changed = λ x _. f.four calm x; low = f.low })
        | Step ↦ λ _ m _. (let calm = calm_of r f m.1 in record { short_owed = inl calm; five = f.five; four = λ _ x. f.four calm x; changed = λ x _. f.four calm x; low = f.low })
        | SnapEvent ↦ λ _ m h'. (
            let rise = rising_cut r.start r.commits (commit_of r e.actor ∷ []) r.cut (went_after r e.actor).cut (cut_greatest start r h) (cut_greatest start (went_after r e.actor) h') in
            elim m.1 as (λ _. Few (went_after r e.actor)) [ inl c ↦ few_wish r e.actor k f c.1 c.2 rise | inr c ↦ few_short r e.actor k f c.0 c.1 rise ])
        | Stable ↦ λ _ m h'. (
            let g = cut_greatest start (noting (after_stable r)) h' in
            few_stable r k f m.1 (rising_cut r.start r.commits (stable_commits r) r.cut (noting (after_stable r)).cut (cut_greatest start r h) g) g)
        | Tried ↦ λ _ m _. record { short_owed = f.short_owed; five = f.five; four = f.four; changed = f.changed; low = f.low }
      ] refl m.1 (cut_goes_on s policy script start r e k none h)

  few_over : (start : ℕ → ℕ) (es : List Entry) (r : Run) → IsKept r → OnlyBelow64 start → HasCut start r → Few r → IsLegalFrom s policy script r es → AllBelow64 es → Few (run_after s script r es)
  few_over start [] r k none h f legal low = f
  few_over start (e ∷ es) r k none h f legal low =
      few_over start es (goes_on s script r e) (kept_goes_on s policy script r e k legal.0 low.0) none (cut_goes_on s policy script start r e k none h) (few_goes_on start r e legal.0 k none h f) legal.1 low.1

  start_few : (w : KernelState) → Few (start_run w)
  start_few w =
      let f : ℕ → Bool = λ x. nat_lt 0 (w x).version in
      let start : ℕ → ℕ = λ x. (w x).version in
      let same = chosen_same w (filter f (upto 64)) in
      let one : (x : ℕ) → commits_above (start_run w).commits start x ≤ 1 = λ x. subst (λ cs. commits_above cs start x ≤ 1) (sym same) (one_each (start_run w) f start x 64).one in
      record {
        short_owed = inl refl;
        five = λ x. (let h = one x in omega (arith, h));
        four = λ _ x. (let h = one x in omega (arith, h));
        changed = λ x _. (let h = one x in omega (arith, h));
        low = subst (AllCommits (λ c. c.version ≤ start c.entity)) (sym same) (versions_low (start_run w) _ start (λ x. omega arith));
      }

  pub few_after : (w : KernelState) (es : List Entry) → StampsBelow w → OnlyBelow64 (λ x. (w x).version) → AllBelow64 es → IsLegalRun s policy w script es → Few (run_after s script (start_run w) es)
  few_after w es below none low legal = few_over (λ x. (w x).version) es (start_run w) (start_kept w below) none (start_has w below none) (start_few w) legal low

  pub at_most_five : (w : KernelState) (es : List Entry) (x : ℕ) → StampsBelow w → OnlyBelow64 (λ x. (w x).version) → AllBelow64 es → IsLegalRun s policy w script es → commits_above (run_after s script (start_run w) es).commits (run_after s script (start_run w) es).cut x ≤ 5
  at_most_five w es x below none low legal = (few_after w es below none low legal).five x

  pub at_most_four : (w : KernelState) (es : List Entry) (x : ℕ) → StampsBelow w → OnlyBelow64 (λ x. (w x).version) → AllBelow64 es → IsLegalRun s policy w script es → (run_after s script (start_run w) es).owed ≡ None
      → commits_above (run_after s script (start_run w) es).commits (run_after s script (start_run w) es).cut x ≤ 4
  at_most_four w es x below none low legal calm = (let f = few_after w es below none low legal in f.four (calm_of (run_after s script (start_run w) es) f calm) x)

  pub four_if_changed : (w : KernelState) (es : List Entry) (x : ℕ) → StampsBelow w → OnlyBelow64 (λ x. (w x).version) → AllBelow64 es → IsLegalRun s policy w script es → has_changed (run_after s script (start_run w) es) x ≡ true
      → commits_above (run_after s script (start_run w) es).commits (run_after s script (start_run w) es).cut x ≤ 4
  four_if_changed w es x below none low legal was = (few_after w es below none low legal).changed x was
