-- The versions of an entity ascend, as far as the log is read.
use Rattle.std.proofs.Common.{◌≡◌, ℕ, zero, suc, ◌≤◌, ◌<◌, Bool, true, false, ◌||◌, ◌==◌, if◌then◌else◌, List, [], ◌∷◌, ◌++◌, length, get_or, refl, sym, ap, subst, ◌∙◌, arith, eqb-true}
use Rattle.std.specs.List.{AllPairs, list_any}
use Rattle.std.proofs.lemmas.Bool.{eq-eqb, false≢true}
use Rattle.std.proofs.lemmas.List.Folds.{list_any_at}
use Rattle.std.proofs.lemmas.List.Quantifiers.{all_pairs_push}
use Rattle.image_blocks.specs.base_types.declared.records.Rec.{Rec}
use Rattle.image_blocks.specs.image_facts.Checks.{last_version}
use Rattle.image_blocks.specs.image_facts.Logs.{IsInRange}
use Rattle.log_facts.specs.Logs.{IsOlder}

abbrev is_of : ℕ → Rec → Bool
is_of x s = s.entity == x

or_second : (a b : Bool) → (a || b) ≡ true → b ≡ false → a ≡ true
or_second true b e none = refl
or_second false b e none = absurd (false≢true (sym none ∙ e))

-- where there is a record of the entity, the last one's version is one of theirs
last_from : (recs : List Rec) (x v : ℕ) → list_any (is_of x) recs ≡ true → ((k : ℕ) (d : Rec) → k < length recs → (get_or recs k d).entity ≡ x → v ≤ (get_or recs k d).version) → v ≤ last_version recs x
last_from [] x v some each = absurd (false≢true some)
last_from (r ∷ recs) x v some each = by_any (λ any. last_from recs x v any (λ k d lt is. each (suc k) d (omega (arith, lt)) is)) (list_any (is_of x) recs) refl
  where
    by_own : (b : Bool) → (r.entity == x) ≡ b → b ≡ true → v ≤ (if b then r.version else 0)
    by_own true own t = each zero r (omega arith) (eqb-true r.entity x own)
    by_own false own t = absurd (false≢true t)

    by_any : (list_any (is_of x) recs ≡ true → v ≤ last_version recs x) → (b : Bool) → list_any (is_of x) recs ≡ b → v ≤ (if b then last_version recs x else if r.entity == x then r.version else 0)
    by_any behind true any = behind any
    by_any behind false any = by_own (r.entity == x) refl (or_second (r.entity == x) (list_any (is_of x) recs) some any)

-- no record has a greater version than the last one of its entity
last_most : (recs : List Rec) (x : ℕ) → AllPairs IsOlder recs → (k : ℕ) (d : Rec) → k < length recs → (get_or recs k d).entity ≡ x → (get_or recs k d).version ≤ last_version recs x
last_most [] x pairs k d lt is = absurd (omega (arith, lt))
last_most (r ∷ recs) x pairs k d lt is =
    by_any (λ j low own. last_most recs x (λ i h e before within. pairs (suc i) (suc h) e (omega (arith, before)) (omega (arith, within))) j d low own) k lt is (list_any (is_of x) recs) refl
  where
    by_any : ((j : ℕ) → j < length recs → (get_or recs j d).entity ≡ x → (get_or recs j d).version ≤ last_version recs x) → (k : ℕ) → k < length (r ∷ recs) → (get_or (r ∷ recs) k d).entity ≡ x → (b : Bool) → list_any (is_of x) recs ≡ b → (get_or (r ∷ recs) k d).version ≤ (if b then last_version recs x else if r.entity == x then r.version else 0)
    by_any behind zero low own true any =
        last_from recs x r.version any (λ j e within of. (let less = pairs zero (suc j) e (omega arith) (omega (arith, within)) (own ∙ sym of) in omega (arith, less)))
    by_any behind (suc j) low own true any = behind j (omega (arith, low)) own
    by_any behind zero low own false any = subst (λ b. r.version ≤ (if b then r.version else 0)) (sym (eq-eqb r.entity x own)) (omega arith)
    by_any behind (suc j) low own false any = absurd (false≢true (sym any ∙ list_any_at (is_of x) recs j d (omega (arith, low)) (eq-eqb (get_or recs j d).entity x own)))

-- one record more, in range behind them
pub ascending_more : (count : ℕ) (recs : List Rec) (rec : Rec) → AllPairs IsOlder recs → IsInRange count recs rec → AllPairs IsOlder (recs ++ rec ∷ [])
ascending_more count recs rec before here =
    all_pairs_push IsOlder recs rec before (λ k d lt is. (let most = last_most recs rec.entity before k d lt is in let less = here.newer in omega (arith, most, less)))
