-- Commits that ascend by entity are found behind others.
use Rattle.std.proofs.Common.{◌≡◌, ℕ, zero, suc, ◌+◌, ◌<◌, ◌≤◌, Bool, true, false, ◌||◌, ◌==◌, nat_lt, cond, if◌then◌else◌, List, [], ◌∷◌, ◌++◌, filter, map, Option, None, Some, refl, sym, ap, subst, ◌∙◌, arith, eq-eqb, eqb-true}
use Rattle.std.specs.List.{list_any}
use Rattle.std.proofs.lemmas.Bool.Decides.{nat_tests}
use Rattle.base_types.specs.Edges.{upto}
use Rattle.model_run_rules.specs.Newest.{newest_from, newest_in}
use Rattle.model_run_rules.specs.Records.{AreAbove, AreAscending}
use Rattle.model_run_rules.proofs.Counts.{newest_append}
use Rattle.model_run_rules.proofs.model_kernel_lemmas.CommitStamps.{AllCommits, all_map}
use Rattle.model_run_rules.specs.model_kernel.Choices.{Commit}
use Rattle.model_serial_turns.specs.Rising.{AllAbove, Rises, entities_of}
use Rattle.model_sound_runs.proofs.Counting.{AllLess}
use Rattle.model_new_commits.specs.Found.{AreFound, last_from, newest_commit}

-- NUMBERS THAT ASCEND are what a test for them picks

abbrev has : ℕ → List ℕ → Bool
has x xs = list_any (λ y. y == x) xs

absent : (x : ℕ) (xs : List ℕ) → AllAbove x xs → has x xs ≡ false
absent x [] all = refl
absent x (y ∷ ys) all =
    let lt : x < y = all.0 in
    let off : (y == x) ≡ false = grind (arith, nat_tests) in
    ap (λ b. b || has x ys) off ∙ absent x ys all.1

above_lower : (k y : ℕ) (ys : List ℕ) → k ≤ y → AllAbove y ys → AllAbove k ys
above_lower k y [] le all = tt
above_lower k y (z ∷ zs) le all = (let lt : y < z = all.0 in omega (arith, le, lt), above_lower k y zs le all.1)

-- the numbers from k on
abbrev from : ℕ → ℕ → List ℕ
from k zero = []
from k (suc n) = k ∷ from (suc k) n

abbrev AllFrom : ℕ → List ℕ → Type 0
AllFrom k [] = Unit {0}
AllFrom k (x ∷ xs) = (k ≤ x) × AllFrom k xs

from_above : (k : ℕ) (xs : List ℕ) → AllAbove k xs → AllFrom (suc k) xs
from_above k [] all = tt
from_above k (x ∷ xs) all = (let lt : k < x = all.0 in omega (arith, lt), from_above k xs all.1)

from_zero : (xs : List ℕ) → AllFrom 0 xs
from_zero [] = tt
from_zero (x ∷ xs) = (omega arith, from_zero xs)

abbrev Tells : (ℕ → Bool) → ℕ → ℕ → List ℕ → Type 0
Tells f m k xs = (x : ℕ) → k ≤ x → x < m → f x ≡ has x xs

picked : (f : ℕ → Bool) (m n k : ℕ) (xs : List ℕ) → k + n ≡ m → Rises xs → AllFrom k xs → AllLess m xs → Tells f m k xs → filter f (from k n) ≡ xs
picked f m zero k [] at rise low high same = refl
picked f m zero k (y ∷ ys) at rise low high same = (let a : k ≤ y = low.0 in let b : y < m = high.0 in absurd (omega (arith, at, a, b)))
picked f m (suc n) k [] at rise low high same =
    ap (λ b. cond b (k ∷ filter f (from (suc k) n)) (filter f (from (suc k) n))) (same k (omega arith) (omega (arith, at)))
    ∙ picked f m n (suc k) [] (omega (arith, at)) tt tt tt (λ x le lt. same x (omega (arith, le)) lt)
picked f m (suc n) k (y ∷ ys) at rise low high same = by (y == k) refl (λ zs. picked f m n (suc k) zs (omega (arith, at)))
  where
    rest : List ℕ
    rest = filter f (from (suc k) n)

    by : (b : Bool) → (y == k) ≡ b → ((zs : List ℕ) → Rises zs → AllFrom (suc k) zs → AllLess m zs → Tells f m (suc k) zs → filter f (from (suc k) n) ≡ zs) → filter f (from k (suc n)) ≡ y ∷ ys
    by true is later =
        let here : y ≡ k = eqb-true _ _ is in
        let hit : f k ≡ true = same k (omega arith) (omega (arith, at)) ∙ ap (λ b. b || has k ys) is in
        let above : AllAbove k ys = above_lower k y ys (omega (arith, here)) rise.0 in
        ap (λ b. cond b (k ∷ filter f (from (suc k) n)) (filter f (from (suc k) n))) hit
        ∙ ap (λ (zs : List ℕ). k ∷ zs) (later ys rise.1 (from_above k ys above) high.1
        (λ x le lt. let off : (y == x) ≡ false = (let e = here in grind (arith, nat_tests)) in same x (omega (arith, le)) lt ∙ ap (λ b. b || has x ys) off))
        ∙ ap (λ (z : ℕ). z ∷ ys) (sym here)
    by false is later =
        let a : k ≤ y = low.0 in
        let less : k < y = grind (arith, nat_tests) in
        let above : AllAbove k (y ∷ ys) = (less, above_lower k y ys a rise.0) in
        let miss : f k ≡ false = same k (omega arith) (omega (arith, at)) ∙ absent k (y ∷ ys) above in
        ap (λ b. cond b (k ∷ filter f (from (suc k) n)) (filter f (from (suc k) n))) miss
        ∙ later (y ∷ ys) rise (from_above k (y ∷ ys) above) high (λ x le lt. same x (omega (arith, le)) lt)

all_64 : upto 64 ≡ from 0 64
all_64 = refl

picked_64 : (f : ℕ → Bool) (xs : List ℕ) → Rises xs → AllLess 64 xs → ((x : ℕ) → x < 64 → f x ≡ has x xs) → filter f (upto 64) ≡ xs
picked_64 f xs rise high same = ap (filter f) all_64 ∙ picked f 64 64 0 xs (omega arith) rise (from_zero xs) high (λ x le lt. same x lt)

-- VERSIONS

kept : (v : ℕ) (cs : List Commit) (x : ℕ) → AllAbove x (entities_of cs) → newest_from v cs x ≡ v
kept v [] x all = refl
kept v (c ∷ cs) x all =
    let lt : x < c.entity = all.0 in
    let off : (c.entity == x) ≡ false = grind (arith, nat_tests) in
    ap (λ b. newest_from (if b then c.version else v) cs x) off ∙ kept v cs x all.1

less_than : (a b : ℕ) → a < b → nat_lt a b ≡ true
less_than a b lt = grind (arith, nat_tests)

not_less : (a : ℕ) → nat_lt a a ≡ false
not_less a = grind (arith, nat_tests)

-- of commits that ascend by entity and are later than n, those of x make it newer
newer : (n : ℕ) (cs : List Commit) (x : ℕ) → Rises (entities_of cs) → AllCommits (λ c. c.entity ≡ x → n < c.version) cs → nat_lt n (newest_from n cs x) ≡ has x (entities_of cs)
newer n [] x rise later = not_less n
newer n (c ∷ cs) x rise later =
    elim (c.entity == x) as (λ b. (c.entity == x) ≡ b → nat_lt n (newest_from (if b then c.version else n) cs x) ≡ (b || has x (entities_of cs))) [
      | true ↦ λ is. (
          let own : c.entity ≡ x = eqb-true _ _ is in
          ap (nat_lt n) (kept c.version cs x (subst (λ y. AllAbove y (entities_of cs)) own rise.0)) ∙ less_than n c.version (later.0 own))
      | false ↦ λ _. newer n cs x rise.1 later.1
    ] refl

-- THE NEWEST

last_append : (o : Option Commit) (cs ds : List Commit) (x : ℕ) → last_from o (cs ++ ds) x ≡ last_from (last_from o cs x) ds x
last_append o [] ds x = refl
last_append o (c ∷ cs) ds x = last_append (if c.entity == x then Some c else o) cs ds x

last_kept : (o : Option Commit) (cs : List Commit) (x : ℕ) → AllAbove x (entities_of cs) → last_from o cs x ≡ o
last_kept o [] x all = refl
last_kept o (c ∷ cs) x all =
    let lt : x < c.entity = all.0 in
    let off : (c.entity == x) ≡ false = grind (arith, nat_tests) in
    ap (λ b. last_from (if b then Some c else o) cs x) off ∙ last_kept o cs x all.1

each_last : (o : ℕ → Option Commit) (cs : List Commit) → Rises (entities_of cs) → map (λ x. last_from (o x) cs x) (entities_of cs) ≡ map (λ (c : Commit). Some c) cs
each_last o [] rise = refl
each_last o (c ∷ cs) rise =
    let own : last_from (if c.entity == c.entity then Some c else o c.entity) cs c.entity ≡ Some c =
    ap (λ b. last_from (if b then Some c else o c.entity) cs c.entity) (eq-eqb c.entity c.entity refl) ∙ last_kept (Some c) cs c.entity rise.0 in
    let more = each_last (λ x. if c.entity == x then Some c else o x) cs rise.1 in
    λ i. own i ∷ more i

-- WHAT ASCENDS IN VERSION

above_at : (d : Commit) (ds : List Commit) (c : Commit) (rest : List Commit) → AreAbove d (ds ++ c ∷ rest) → d.entity ≡ c.entity → d.version < c.version
above_at d [] c rest all = all.0
above_at d (e ∷ ds) c rest all = above_at d ds c rest all.1

above_without : (d : Commit) (ds : List Commit) (c : Commit) (rest : List Commit) → AreAbove d (ds ++ c ∷ rest) → AreAbove d (ds ++ rest)
above_without d [] c rest all = all.1
above_without d (e ∷ ds) c rest all = (all.0, above_without d ds c rest all.1)

ascending_without : (old : List Commit) (c : Commit) (rest : List Commit) → AreAscending (old ++ c ∷ rest) → AreAscending (old ++ rest)
ascending_without [] c rest all = all.1
ascending_without (d ∷ old) c rest all = (above_without d old c rest all.0, ascending_without old c rest all.1)

-- a commit is above the newest one before it
above_newest : (n : ℕ) (old : List Commit) (c : Commit) (rest : List Commit) → n < c.version → AreAscending (old ++ c ∷ rest) → newest_from n old c.entity < c.version
above_newest n [] c rest lt all = lt
above_newest n (d ∷ old) c rest lt all =
    above_newest (if d.entity == c.entity then d.version else n) old c rest
    (elim (d.entity == c.entity) as (λ b. (d.entity == c.entity) ≡ b → (if b then d.version else n) < c.version) [
      | true ↦ λ is. above_at d old c rest all.0 (eqb-true _ _ is)
      | false ↦ λ _. lt
    ] refl) all.1

all_above : (old added : List Commit) → AllCommits (λ c. 0 < c.version) added → AreAscending (old ++ added) → AllCommits (λ c. newest_in old c.entity < c.version) added
all_above old [] pos all = tt
all_above old (c ∷ cs) pos all = (above_newest 0 old c cs pos.0 all, all_above old cs pos.1 (ascending_without old c cs all))

low_entities : (cs : List Commit) → AllCommits (λ c. c.entity < 64) cs → AllLess 64 (entities_of cs)
low_entities [] all = tt
low_entities (c ∷ cs) all = (all.0, low_entities cs all.1)

-- SO THEY ARE FOUND
pub found : (known : ℕ → ℕ) (old added new : List Commit) → new ≡ old ++ added → Rises (entities_of added) → AllCommits (λ c. c.entity < 64) added → AllCommits (λ c. 0 < c.version) added
    → AreAscending (old ++ added) → ((x : ℕ) → x < 64 → known x ≡ newest_in old x) → AreFound known old new
found known old added new is rise small pos ascending knows =
    subst (AreFound known old) (sym is) (record {
      added = added;
      are = refl;
      entities = picked_64 (λ x. nat_lt (known x) (newest_in (old ++ added) x)) (entities_of added) rise (low_entities added small) (λ x low.
          ap (λ k. nat_lt k (newest_in (old ++ added) x)) (knows x low)
          ∙ ap (nat_lt (newest_in old x)) (newest_append 0 old added x)
          ∙ newer (newest_in old x) added x rise (all_map _ _ (λ c lt own. subst (λ y. newest_in old y < c.version) own lt) added (all_above old added pos ascending)));
      newest = (λ i. map (λ x. last_append None old added x i) (entities_of added)) ∙ each_last (newest_commit old) added rise;
    })
