-- Marks that spread along edges, and the test of circles.
use Rattle.std.proofs.Common.{◌≡◌, ℕ, ◌<◌, ◌≤◌, ◌↔◌, Bool, true, false, IsTrue, not, ◌&&◌, if◌then◌else◌, ◌==◌, List, [], ◌∷◌, length, set, find, Option, Some, None, refl, sym, subst, ◌∙◌, arith, eqb-true}
use Rattle.std.specs.List.{All}
use Rattle.base_types.specs.Edges.{ClosesCircle, leads}
use Rattle.model_sound_runs.proofs.model_circles_lemmas.Circles.{circle_found}
use Rattle.model_sound_runs.proofs.model_circles_lemmas.Marks.{AllReached, closed_path, reached_more, unmarked, unmarked_less}
use Rattle.model_sound_runs.specs.model_circles.Marks.{IsClosed, is_marked}
use Rattle.plain_states.specs.EdgeLists.{AreReadyEdges, leads_out}
use Rattle.plain_states.specs.Plains.{edges_of}
use Rattle.plain_states.specs.declared.plain.Edge.{Edge}
use Rattle.plain_states.proofs.EdgeLemmas.{counted}
use Rattle.model_sound_runs.proofs.model_sound_steps_lemmas.Lists.{find_all}

-- TESTS

both_true : (a b : Bool) → (a && b) ≡ true → (a ≡ true) × (b ≡ true)
both_true true b h = (refl, h)
both_true false b h = cc

not_true : (b : Bool) → not b ≡ true → b ≡ false
not_true true h = sym h
not_true false h = refl

-- what is found passes the test
pub find_passes : {X : Type 0} (test : X → Bool) (xs : List X) (x : X) → find test xs ≡ Some x → test x ≡ true
find_passes test [] x h = cc
find_passes test (y ∷ ys) x h =
    elim (test y) as (λ b. test y ≡ b → (if b then Some y else find test ys) ≡ Some x → test x ≡ true) [
      | true ↦ λ is e. let same : y ≡ x = cc in subst (λ z. test z ≡ true) same is
      | false ↦ λ is e. find_passes test ys x e
    ] refl h

-- A WAY OUT

-- the way out leads from a marked number to one that isn't
pub record IsWayOut (es : List Edge) (marks : List Bool) (e : Edge) : Type 0 where
  pub here : is_marked marks e.from ≡ true
  pub there : is_marked marks e.to ≡ false
  pub shows : 0 < edges_of es e.from e.to

pub way_found : (es : List Edge) (marks : List Bool) (e : Edge) → All (λ (e : Edge). 1 ≤ e.count) es → find (leads_out marks) es ≡ Some e → IsWayOut es marks e
way_found es marks e counts is =
    let test = both_true (is_marked marks e.from) (not (is_marked marks e.to)) (find_passes (leads_out marks) es e is) in
    let some : 1 ≤ edges_of es e.from e.to = find_all (λ (e : Edge). 1 ≤ edges_of es e.from e.to) (leads_out marks) es (counted es counts) e is in
    record { here = test.0; there = not_true (is_marked marks e.to) test.1; shows = omega arith }

pub way_marks : (es : List Edge) (marks : List Bool) (from : ℕ) (e : Edge) → IsWayOut es marks e → AllReached (edges_of es) from marks → AllReached (edges_of es) from (set marks e.to true)
way_marks es marks from e way all = reached_more (edges_of es) from marks e.from e.to all way.here way.shows

pub way_fewer : (es : List Edge) (marks : List Bool) (e : Edge) → IsWayOut es marks e → e.to < length marks → unmarked (set marks e.to true) < unmarked marks
way_fewer es marks e way lt = unmarked_less marks e.to lt way.there

-- where no edge leads out, what is reached from a marked number is marked
closed : (es : List Edge) (marks : List Bool) → find (leads_out marks) es ≡ None → IsClosed (edges_of es) marks
closed [] marks none x y m some = absurd (omega arith)
closed (e ∷ es) marks none x y m some =
    elim (leads_out marks e) as (λ b. leads_out marks e ≡ b → (if b then Some e else find (leads_out marks) es) ≡ None → is_marked marks y ≡ true) [
      | true ↦ λ is no. cc
      | false ↦ λ is no.
          elim (e.from == x && e.to == y) as (λ b. (e.from == x && e.to == y) ≡ b → 0 < (if b then e.count else edges_of es x y) → is_marked marks y ≡ true) [
            | true ↦ λ at _.
                let ends = both_true (e.from == x) (e.to == y) at in
                subst (λ z. is_marked marks z ≡ true) (eqb-true e.to y ends.1) (must (is_marked marks e.from) (is_marked marks e.to) (subst (λ z. is_marked marks z ≡ true) (sym (eqb-true e.from x ends.0)) m) is)
            | false ↦ λ at some. closed es marks no x y m some
          ] refl some
    ] refl none
  where
    must : (a b : Bool) → a ≡ true → (a && not b) ≡ false → b ≡ true
    must true true e h = refl
    must true false e h = sym h
    must false b e h = cc

-- THE MODEL'S TEST

-- the marks are the model's answer
pub marks_tell : (es : List Edge) (marks : List Bool) (from to : ℕ) → AreReadyEdges es → is_marked marks from ≡ true → AllReached (edges_of es) from marks → find (leads_out marks) es ≡ None
    → is_marked marks to ≡ leads 40 (edges_of es) from to
marks_tell es marks from to ready first reached none = by_both (is_marked marks to) (leads 40 (edges_of es) from to) refl refl
  where
    circles : IsTrue (leads 40 (edges_of es) from to) ↔ ClosesCircle (edges_of es) to from
    circles = circle_found (edges_of es) to from 40 ready.among (omega arith)

    by_both : (a b : Bool) → is_marked marks to ≡ a → leads 40 (edges_of es) from to ≡ b → a ≡ b
    by_both true true m e = refl
    by_both false false m e = refl
    by_both true false m e = sym (circles.1 (reached to m)) ∙ e
    by_both false true m e = let p = circles.0 e in sym m ∙ closed_path (edges_of es) marks (closed es marks none) from to p.0 first p.1

pub none_by : {X : Type 0} (o : Option X) → ((x : X) → o ≡ Some x → ⊥) → o ≡ None
none_by None h = refl
none_by (Some x) h = absurd (h x refl)
