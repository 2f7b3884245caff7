-- Closed choices of lists that agree from a cut on.
use Rattle.std.proofs.Common.{◌≡◌, ℕ, ◌≤◌, Bool, true, false, ◌⊎◌, inl, inr, List, [], ◌∷◌, ◌++◌, if◌then◌else◌, max, refl, sym, subst, ◌∙◌, arith}
use Rattle.std.proofs.Math.Nat.{le-max_left, le-max_right}
use Rattle.std.proofs.lemmas.Bool.{le-leb, cases_lt, false≢true}
use Rattle.std.specs.Prelude.{filter}
use Rattle.model_kernel.proofs.Among.{among_more}
use Rattle.model_kernel.specs.Choices.{Commit, Among, IsBelow, IsClosedChoice, IsGreatest}
use Rattle.model_cut_laws.specs.Agreeing.{is_from, from_cut, HoldsStart, nothing}
use Rattle.model_cut_laws.proofs.Filters.{more, kept}
use Rattle.model_kernel.proofs.Lowering.{max_cases}

-- AMONG

pub Among-map : (P Q : Commit → Type 0) (cs : List Commit) → ((c : Commit) → P c → Q c) → Among cs P → Among cs Q
Among-map P Q [] f h = elim h [ ]
Among-map P Q (c ∷ cs) f (inl h) = inl (f c h)
Among-map P Q (c ∷ cs) f (inr h) = inr (Among-map P Q cs f h)

filter_head : (P : Commit → Type 0) (c : Commit) (cs : List Commit) (b : Bool) → b ≡ true → P c → Among (if b then c ∷ cs else cs) P
filter_head P c cs true e h = inl h
filter_head P c cs false e h = absurd (false≢true e)

filter_rest : (P : Commit → Type 0) (c : Commit) (cs : List Commit) (b : Bool) → Among cs P → Among (if b then c ∷ cs else cs) P
filter_rest P c cs true h = inr h
filter_rest P c cs false h = h

-- what passes the test stays in the list
pub Among-filter : (P : Commit → Type 0) (test : Commit → Bool) (cs : List Commit) → ((c : Commit) → P c → test c ≡ true) → Among cs P → Among (filter test cs) P
Among-filter P test [] f h = elim h [ ]
Among-filter P test (c ∷ cs) f (inl h) = filter_head P c (filter test cs) (test c) (f c h) h
Among-filter P test (c ∷ cs) f (inr h) = filter_rest P c (filter test cs) (test c) (Among-filter P test cs f h)

unfilter_one : (P : Commit → Type 0) (c : Commit) (cs ds : List Commit) (b : Bool) → (Among ds P → Among cs P) → Among (if b then c ∷ ds else ds) P → Among (c ∷ cs) P
unfilter_one P c cs ds true f (inl h) = inl h
unfilter_one P c cs ds true f (inr h) = inr (f h)
unfilter_one P c cs ds false f h = inr (f h)

pub Among-unfilter : (P : Commit → Type 0) (test : Commit → Bool) (cs : List Commit) → Among (filter test cs) P → Among cs P
Among-unfilter P test [] h = h
Among-unfilter P test (c ∷ cs) h = unfilter_one P c cs (filter test cs) (test c) (Among-unfilter P test cs) h

-- what a choice takes
abbrev pub Takes : (ℕ → ℕ) → ℕ → Commit → Type 0
Takes p x c = (c.entity ≡ x) × (c.version ≡ p x) × IsBelow c.stamp p

-- JOINS

abbrev pub join : (ℕ → ℕ) → (ℕ → ℕ) → ℕ → ℕ
join p q x = max (p x) (q x)

takes_more : (p q : ℕ → ℕ) (x : ℕ) → q x ≡ p x → IsBelow p q → (c : Commit) → Takes p x c → Takes q x c
takes_more p q x e below c (is, at, covered) = (is, at ∙ sym e, λ y. omega (arith, covered y, below y))

join_at : (start : ℕ → ℕ) (cs : List Commit) (p q : ℕ → ℕ) (x : ℕ) → q x ≡ p x → IsBelow p q
    → (p x ≡ start x) ⊎ Among cs (Takes p x) → (q x ≡ start x) ⊎ Among cs (Takes q x)
join_at start cs p q x e below (inl h) = inl (e ∙ h)
join_at start cs p q x e below (inr h) = inr (Among-map (Takes p x) (Takes q x) cs (takes_more p q x e below) h)

-- the join of two closed choices is closed
pub join_closed : (start : ℕ → ℕ) (cs : List Commit) (p q : ℕ → ℕ) → IsClosedChoice start cs p → IsClosedChoice start cs q → IsClosedChoice start cs (join p q)
join_closed start cs p q closed_p closed_q x = elim (max_cases (p x) (q x)) as (λ _. (join p q x ≡ start x) ⊎ Among cs (Takes (join p q) x)) [
  | inl h ↦ join_at start cs p (join p q) x h (λ y. le-max_left (p y) (q y)) (closed_p x)
  | inr h ↦ join_at start cs q (join p q) x h (λ y. le-max_right (p y) (q y)) (closed_q x)
]

-- AGREEING LISTS

from_test : (cut p : ℕ → ℕ) (x : ℕ) → cut x ≤ p x → (c : Commit) → Takes p x c → is_from cut c ≡ true
from_test cut p x le c (is, at, covered) = le-leb (cut c.entity) c.version (let low : cut c.entity ≤ p x = subst (λ y. cut y ≤ p x) (sym is) le in omega arith)

-- what a choice at or above the cut takes of one list it takes of the other
move : (cut p : ℕ → ℕ) (cs ds : List Commit) (x : ℕ) → from_cut cut cs ≡ from_cut cut ds → cut x ≤ p x → Among cs (Takes p x) → Among ds (Takes p x)
move cut p cs ds x same le h =
    Among-unfilter (Takes p x) (is_from cut) ds (subst (λ (es : List Commit). Among es (Takes p x)) same (Among-filter (Takes p x) (is_from cut) cs (from_test cut p x le) h))

closed_at : (start cut p : ℕ → ℕ) (cs ds : List Commit) (x : ℕ) → from_cut cut cs ≡ from_cut cut ds → cut x ≤ p x
    → (p x ≡ start x) ⊎ Among cs (Takes p x) → (p x ≡ start x) ⊎ Among ds (Takes p x)
closed_at start cut p cs ds x same le (inl h) = inl h
closed_at start cut p cs ds x same le (inr h) = inr (move cut p cs ds x same le h)

-- a closed choice at or above the cut is one of both lists
pub moved : (start cut p : ℕ → ℕ) (cs ds : List Commit) → from_cut cut cs ≡ from_cut cut ds → IsBelow cut p → IsClosedChoice start cs p → IsClosedChoice start ds p
moved start cut p cs ds same above closed x = closed_at start cut p cs ds x same (above x) (closed x)

-- THE LAW: lists that agree from the greatest closed choice of one on have the same greatest closed choice
pub same_greatest : (start cut : ℕ → ℕ) (cs ds : List Commit) → from_cut cut cs ≡ from_cut cut ds → IsGreatest start cs cut → IsGreatest start ds cut
same_greatest start cut cs ds same g = record {
  closed = moved start cut cut cs ds same (λ y. omega arith) g.closed;
  greatest = λ q closed_q x.
      let joined : IsClosedChoice start ds (join cut q) = join_closed start ds cut q (moved start cut cut cs ds same (λ y. omega arith) g.closed) closed_q in
      let back : IsClosedChoice start cs (join cut q) = moved start cut (join cut q) ds cs (sym same) (λ y. le-max_left (cut y) (q y)) joined in
      let top : join cut q x ≤ cut x = g.greatest (join cut q) back x in
      let part : q x ≤ join cut q x = le-max_right (cut x) (q x) in
      omega arith;
}

-- STARTS

start_taken : (start : ℕ → ℕ) (cs : List Commit) (x : ℕ) → HoldsStart start cs → (start x ≡ 0) ⊎ Among cs (Takes start x)
start_taken start cs x holds = elim (cases_lt 0 (start x)) as (λ _. (start x ≡ 0) ⊎ Among cs (Takes start x)) [ inl h ↦ inr (holds x h) | inr h ↦ inl (omega arith) ]

start_closed : (start : ℕ → ℕ) (cs : List Commit) → HoldsStart start cs → IsClosedChoice nothing cs start
start_closed start cs holds x = start_taken start cs x holds

start_itself : (start : ℕ → ℕ) (cs : List Commit) → IsClosedChoice start cs start
start_itself start cs x = inl refl

-- a choice of the start is one of nothing, where it is at or above the start
down_at : (start p : ℕ → ℕ) (cs : List Commit) (x : ℕ) → HoldsStart start cs → IsBelow start p → (p x ≡ start x) ⊎ Among cs (Takes p x) → (p x ≡ 0) ⊎ Among cs (Takes p x)
down_at start p cs x holds above (inr h) = inr h
down_at start p cs x holds above (inl h) = elim (start_taken start cs x holds) as (λ _. (p x ≡ 0) ⊎ Among cs (Takes p x)) [
  | inl zero_start ↦ inl (h ∙ zero_start)
  | inr taken ↦ inr (Among-map (Takes start x) (Takes p x) cs (takes_more start p x h above) taken)
]

down : (start p : ℕ → ℕ) (cs : List Commit) → HoldsStart start cs → IsBelow start p → IsClosedChoice start cs p → IsClosedChoice nothing cs p
down start p cs holds above closed x = down_at start p cs x holds above (closed x)

-- a choice of nothing that is at or above the start is one of the start
up_at : (start p : ℕ → ℕ) (cs : List Commit) (x : ℕ) → start x ≤ p x → (p x ≡ 0) ⊎ Among cs (Takes p x) → (p x ≡ start x) ⊎ Among cs (Takes p x)
up_at start p cs x le (inl h) = inl (omega arith)
up_at start p cs x le (inr h) = inr h

up : (start p : ℕ → ℕ) (cs : List Commit) → IsBelow start p → IsClosedChoice nothing cs p → IsClosedChoice start cs p
up start p cs above closed x = up_at start p cs x (above x) (closed x)

-- THE LAW: where the records of the start are in the list, it makes no difference whether a choice begins at the start or at nothing
pub from_nothing : (start : ℕ → ℕ) (cs : List Commit) (p : ℕ → ℕ) → HoldsStart start cs → IsGreatest nothing cs p → IsGreatest start cs p
from_nothing start cs p holds g =
    let base : IsClosedChoice nothing cs start = start_closed start cs holds in record {
      closed = up start p cs (g.greatest start base) g.closed;
      greatest = λ q closed x.
          let joined : IsClosedChoice nothing cs (join start q) = down start (join start q) cs holds (λ y. le-max_left (start y) (q y)) (join_closed start cs start q (start_itself start cs) closed) in
          let top : join start q x ≤ p x = g.greatest (join start q) joined x in
          let part : q x ≤ join start q x = le-max_right (start x) (q x) in
          omega arith;
    }

pub to_nothing : (start : ℕ → ℕ) (cs : List Commit) (p : ℕ → ℕ) → HoldsStart start cs → IsGreatest start cs p → IsGreatest nothing cs p
to_nothing start cs p holds g = record {
  closed = down start p cs holds (g.greatest start (start_itself start cs)) g.closed;
  greatest = λ q closed x.
      let joined : IsClosedChoice nothing cs (join start q) = join_closed nothing cs start q (start_closed start cs holds) closed in
      let top : join start q x ≤ p x = g.greatest (join start q) (up start (join start q) cs (λ y. le-max_left (start y) (q y)) joined) x in
      let part : q x ≤ join start q x = le-max_right (start x) (q x) in
      omega arith;
}

-- MORE COMMITS

more_at : (start : ℕ → ℕ) (cs ds : List Commit) (p : ℕ → ℕ) (x : ℕ) → (p x ≡ start x) ⊎ Among cs (Takes p x) → (p x ≡ start x) ⊎ Among (cs ++ ds) (Takes p x)
more_at start cs ds p x (inl h) = inl h
more_at start cs ds p x (inr h) = inr (among_more cs ds (Takes p x) h)

-- what is closed stays so
pub closed_more : (start : ℕ → ℕ) (cs ds : List Commit) (p : ℕ → ℕ) → IsClosedChoice start cs p → IsClosedChoice start (cs ++ ds) p
closed_more start cs ds p closed x = more_at start cs ds p x (closed x)

-- a closed choice is a start from which the greatest one is the same
pub holds_closed : (start : ℕ → ℕ) (cs : List Commit) → IsClosedChoice nothing cs start → HoldsStart start cs
holds_closed start cs closed x some = elim (closed x) as (λ _. Among cs (Takes start x)) [ inl none ↦ absurd (omega arith) | inr taken ↦ taken ]

-- what follows a list, and what is left of the list from its greatest closed choice on, have the greatest choice of all
pub greatest_of_kept : (start cut p : ℕ → ℕ) (cs ds : List Commit) → IsGreatest start cs cut → IsGreatest start (from_cut cut cs ++ ds) p → IsGreatest start (cs ++ ds) p
greatest_of_kept start cut p cs ds g h =
    let same : IsGreatest start (from_cut cut cs) cut = same_greatest start cut cs (from_cut cut cs) (kept cut cs) g in
    let above : IsBelow cut p = h.greatest cut (closed_more start (from_cut cut cs) ds cut same.closed) in
    same_greatest start p (from_cut cut cs ++ ds) (cs ++ ds) (sym (more cut p cs (from_cut cut cs) ds above (kept cut cs))) h
