-- The last record of an entity in a log, and that it is kept.
use Rattle.std.proofs.Common.{◌≡◌, ◌⊎◌, inl, inr, ℕ, zero, suc, ◌<◌, ◌≤◌, Bool, true, false, ◌==◌, cond, if◌then◌else◌, List, [], ◌∷◌, length, filter, get_or, map, nat_le, Option, Some, None, refl, sym, ap, subst, ◌∙◌, arith, eqb-true, eq-eqb}
use Rattle.std.specs.Prelude.{AllPairs, Any}
use Rattle.std.specs.List.{AllByRecursion}
use Rattle.std.proofs.lemmas.Bool.{cases_lt, le-leb}
use Rattle.base_types.specs.declared.records.Rec.{Rec}
use Rattle.node_pages.specs.Reading.{last_from, last_rec}
use Rattle.store_snapshots.specs.log_facts.Logs.{IsOlder}
use Rattle.store_snapshots.specs.store_books.Books.{Logged, logged_recs}

module _ (x : ℕ) where
  -- none of these is of the entity
  abbrev pub NoneOf : List Rec → Type 0
  NoneOf rs = AllByRecursion (λ (r : Rec). r.entity ≡ x → ⊥) rs

  -- at this place stands the record, which is of the entity, and behind it none is
  pub record IsLastAt (rs : List Rec) (r : Rec) : Type 0 where
    pub place : ℕ
    pub short : place < length rs
    pub at : get_or rs place r ≡ r
    pub of : r.entity ≡ x
    pub none_behind : (j : ℕ) (d : Rec) → place < j → j < length rs → (get_or rs j d).entity ≡ x → ⊥

  none_at : (rs : List Rec) → NoneOf rs → (j : ℕ) (d : Rec) → j < length rs → (get_or rs j d).entity ≡ x → ⊥
  none_at [] none j d short is = absurd (omega (arith, short))
  none_at (r ∷ rs) none zero d short is = none.0 is
  none_at (r ∷ rs) none (suc j) d short is = none_at rs none.1 j d (omega (arith, short)) is

  first_last : (r : Rec) (rs : List Rec) → r.entity ≡ x → NoneOf rs → IsLastAt (r ∷ rs) r
  first_last r rs is none = record {
    place = 0;
    short = omega arith;
    at = refl;
    of = is;
    none_behind = λ j d lt short same. behind j d lt short same;
  }
    where
      behind : (j : ℕ) (d : Rec) → 0 < j → j < length (r ∷ rs) → (get_or (r ∷ rs) j d).entity ≡ x → ⊥
      behind zero d lt short same = absurd (omega (arith, lt))
      behind (suc j) d lt short same = none_at rs none j d (omega (arith, short)) same

  later_last : (q r : Rec) (rs : List Rec) → IsLastAt rs r → IsLastAt (q ∷ rs) r
  later_last q r rs l = record {
    place = suc l.place;
    short = (let short = l.short in omega (arith, short));
    at = l.at;
    of = l.of;
    none_behind = behind;
  }
    where
      behind : (j : ℕ) (d : Rec) → suc l.place < j → j < length (q ∷ rs) → (get_or (q ∷ rs) j d).entity ≡ x → ⊥
      behind zero d lt short same = absurd (omega (arith, lt))
      behind (suc j) d lt short same = l.none_behind j d (omega (arith, lt)) (omega (arith, short)) same

  -- what was found so far, or a record of these
  found_from : (rs : List Rec) (o : Option Rec) (r : Rec) → last_from o rs x ≡ Some r → ((o ≡ Some r) × NoneOf rs) ⊎ IsLastAt rs r
  found_from [] o r is = inl (is, tt)
  found_from (q ∷ rs) o r is = by_test (q.entity == x) refl (λ p. found_from rs p r) is
    where
      by_test : (t : Bool) → (q.entity == x) ≡ t → ((p : Option Rec) → last_from p rs x ≡ Some r → ((p ≡ Some r) × NoneOf rs) ⊎ IsLastAt rs r)
          → last_from (if t then Some q else o) rs x ≡ Some r → ((o ≡ Some r) × NoneOf (q ∷ rs)) ⊎ IsLastAt (q ∷ rs) r
      by_test true e rest at = elim (rest (Some q) at) as (λ _. ((o ≡ Some r) × NoneOf (q ∷ rs)) ⊎ IsLastAt (q ∷ rs) r) [
        | inl h ↦ (let same : q ≡ r = (let k = h.0 in cc k) in inr (subst (λ (z : Rec). IsLastAt (z ∷ rs) r) (sym same) (first_last r rs (subst (λ (z : Rec). z.entity ≡ x) same (eqb-true q.entity x e)) h.1)))
        | inr l ↦ inr (later_last q r rs l)
      ]
      by_test false e rest at = elim (rest o at) as (λ _. ((o ≡ Some r) × NoneOf (q ∷ rs)) ⊎ IsLastAt (q ∷ rs) r) [
        | inl h ↦ inl (h.0, ((λ same. absurd (let clash : false ≡ true = sym e ∙ eq-eqb q.entity x same in cc clash)), h.1))
        | inr l ↦ inr (later_last q r rs l)
      ]

  pub last_at : (rs : List Rec) (r : Rec) → last_rec rs x ≡ Some r → IsLastAt rs r
  last_at rs r is = elim (found_from rs None r is) as (λ _. IsLastAt rs r) [ inl h ↦ absurd (let k = h.0 in cc k) | inr l ↦ l ]

  -- where none is found
  some_stays : (rs : List Rec) (r : Rec) → last_from (Some r) rs x ≡ None → ⊥
  some_stays [] r is = cc is
  some_stays (q ∷ rs) r is = by_test (q.entity == x) (some_stays rs) is
    where
      by_test : (t : Bool) → ((p : Rec) → last_from (Some p) rs x ≡ None → ⊥) → last_from (if t then Some q else Some r) rs x ≡ None → ⊥
      by_test true rest at = rest q at
      by_test false rest at = rest r at

  none_from : (rs : List Rec) → last_from None rs x ≡ None → NoneOf rs
  none_from [] is = tt
  none_from (q ∷ rs) is = by_test (q.entity == x) refl (none_from rs) is
    where
      by_test : (t : Bool) → (q.entity == x) ≡ t → (last_from None rs x ≡ None → NoneOf rs) → last_from (if t then Some q else None) rs x ≡ None → NoneOf (q ∷ rs)
      by_test true e rest at = absurd (some_stays rs q at)
      by_test false e rest at = ((λ same. absurd (let clash : false ≡ true = sym e ∙ eq-eqb q.entity x same in cc clash)), rest at)

  pub none_any : (rs : List Rec) (P : Rec → Type 0) → last_rec rs x ≡ None → Any (λ (r : Rec). (r.entity ≡ x) × P r) rs → ⊥
  none_any rs P is (j, d, short, at, of) = none_at rs (none_from rs is) j d short (ap (λ (q : Rec). q.entity) at ∙ of.0)

  -- a record of the entity is the last one, where none is newer and it has the highest version
  pub last_newest : (rs : List Rec) (r : Rec) (n : ℕ) → IsLastAt rs r → AllPairs IsOlder rs → r.version ≤ n → Any (λ (q : Rec). (q.entity ≡ x) × (q.version ≡ n)) rs → r.version ≡ n
  last_newest rs r n l older low (j, d, short, at, of) = elim (cases_lt j l.place) as (λ _. r.version ≡ n) [
    | inl less ↦ absurd (
        let old : IsOlder (get_or rs j r) (get_or rs l.place r) = older j l.place r less l.short in
        let first : get_or rs j r ≡ d = default_off rs j r d short ∙ at in
        let lt : d.version < r.version = subst (λ (q : Rec). q.version < r.version) first (subst (λ (q : Rec). (get_or rs j r).version < q.version) l.at (old (ap (λ (q : Rec). q.entity) first ∙ of.0 ∙ sym (ap (λ (q : Rec). q.entity) l.at ∙ l.of)))) in
        let is = of.1 in
        omega (arith, lt, is, low))
    | inr more ↦ elim (cases_lt l.place j) as (λ _. r.version ≡ n) [
      | inl behind ↦ absurd (l.none_behind j d behind short (ap (λ (q : Rec). q.entity) at ∙ of.0))
      | inr here ↦ (
          let same : j ≡ l.place = omega (arith, more, here) in
          let one : r ≡ d = sym l.at ∙ ap (λ (k : ℕ). get_or rs k r) (sym same) ∙ default_off rs j r d short ∙ at in
          ap (λ (q : Rec). q.version) one ∙ of.1)
    ]
  ]
    where
      default_off : (qs : List Rec) (k : ℕ) (a b : Rec) → k < length qs → get_or qs k a ≡ get_or qs k b
      default_off [] k a b lt = absurd (omega (arith, lt))
      default_off (q ∷ qs) zero a b lt = refl
      default_off (q ∷ qs) (suc k) a b lt = default_off qs k a b (omega (arith, lt))

-- A RECORD AT OR ABOVE A CHOICE is kept, and what is true of all that are kept is true of it
pub kept_one : {K : Type 0} (P : K → Type 0) (f : Logged → K) (cut : ℕ → ℕ) (ls : List Logged) (place : ℕ) (r : Rec) → place < length (logged_recs ls) → get_or (logged_recs ls) place r ≡ r → cut r.entity ≤ r.version
    → AllByRecursion P (map f (filter (λ (l : Logged). nat_le (cut l.rec.entity) l.rec.version) ls)) → (l : Logged) × (l.rec ≡ r) × P (f l)
kept_one P f cut [] place r short at low all = absurd (omega (arith, short))
kept_one P f cut (l ∷ ls) place r short at low all = by_place place short at (λ j lt is rest. kept_one P f cut ls j r lt is low rest)
  where
    behind : (t : Bool) → AllByRecursion P (map f (cond t (l ∷ filter (λ (k : Logged). nat_le (cut k.rec.entity) k.rec.version) ls) (filter (λ (k : Logged). nat_le (cut k.rec.entity) k.rec.version) ls)))
        → AllByRecursion P (map f (filter (λ (k : Logged). nat_le (cut k.rec.entity) k.rec.version) ls))
    behind true h = h.1
    behind false h = h

    here : (t : Bool) → t ≡ true → AllByRecursion P (map f (cond t (l ∷ filter (λ (k : Logged). nat_le (cut k.rec.entity) k.rec.version) ls) (filter (λ (k : Logged). nat_le (cut k.rec.entity) k.rec.version) ls))) → P (f l)
    here true e h = h.0
    here false e h = cc e

    by_place : (k : ℕ) → k < length (logged_recs (l ∷ ls)) → get_or (logged_recs (l ∷ ls)) k r ≡ r
        → ((j : ℕ) → j < length (logged_recs ls) → get_or (logged_recs ls) j r ≡ r → AllByRecursion P (map f (filter (λ (k : Logged). nat_le (cut k.rec.entity) k.rec.version) ls)) → (m : Logged) × (m.rec ≡ r) × P (f m))
        → (m : Logged) × (m.rec ≡ r) × P (f m)
    by_place zero lt is rest = (l, is, here (nat_le (cut l.rec.entity) l.rec.version) (le-leb (cut l.rec.entity) l.rec.version (subst (λ (q : Rec). cut q.entity ≤ q.version) (sym is) low)) all)
    by_place (suc k) lt is rest = rest k (omega (arith, lt)) is (behind (nat_le (cut l.rec.entity) l.rec.version) all)
