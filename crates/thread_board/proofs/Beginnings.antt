-- Lists that begin the whole ones, and stops that are the last.
use Rattle.std.proofs.Common.{◌≡◌, Bool, true, false, true≢false, ◌||◌, List, [], ◌∷◌, ◌++◌, refl, ap, sym, ◌∙◌}
use mathlib.Core.List.{IsPrefix}
use Rattle.thread_board.specs.declared.views.View.{View}
use Rattle.thread_board.specs.declared.views.PassItem.{PassItem}
use Rattle.thread_board.specs.declared.views.Role.{Role}
use Rattle.thread_board.specs.declared.views.Role.TheVariants.{Note, Commits, Items, Pass}
use Rattle.thread_board.specs.Lines.{StopsLast, has_stop}
use Rattle.thread_board.specs.Rules.{Story, IsBegun, commits_with, items_with, with_note, first_view}
use Rattle.thread_history.proofs.Lists.{prefix_nil, longer_of}

-- what begins the empty list is it
pub prefix_of_nil : {A : Type 0} (xs ys : List A) → IsPrefix xs ys → ys ≡ [] → xs ≡ ys
prefix_of_nil [] ys p e = sym e
prefix_of_nil (x ∷ xs) ys p e = absurd (cc (p.1, e))

-- STOPS
module _ {C : Type 0} (stops : C → Bool) where
  pub stops_push : (cs : List C) (c : C) → has_stop stops cs ≡ false → StopsLast stops (cs ++ c ∷ [])
  stops_push [] c none = ((λ e. refl), tt)
  stops_push (d ∷ cs) c none = let n = neither (stops d) (has_stop stops cs) none in ((λ e. absurd (true≢false (sym e ∙ n.0))), stops_push cs c n.1)
    where
      neither : (a b : Bool) → (a || b) ≡ false → (a ≡ false) × (b ≡ false)
      neither true b e = absurd (true≢false e)
      neither false b e = (refl, e)

  -- what begins a list and has a stop is the list
  pub stop_whole : (xs ys : List C) → StopsLast stops ys → has_stop stops xs ≡ true → IsPrefix xs ys → xs ≡ ys
  stop_whole [] ys last has p = absurd (true≢false (sym has))
  stop_whole (x ∷ xs) [] last has p = absurd (cc (p.1))
  stop_whole (x ∷ xs) (y ∷ ys) last has p =
      let head : x ≡ y = cc (p.1) in
      let rest : IsPrefix xs ys = (p.0, cc (p.1)) in
      by_test (stops x) refl head rest (λ has_more. stop_whole xs ys last.1 has_more rest)
    where
      by_test : (b : Bool) → stops x ≡ b → x ≡ y → IsPrefix xs ys → (has_stop stops xs ≡ true → xs ≡ ys) → x ∷ xs ≡ y ∷ ys
      by_test true is head rest more = let none : ys ≡ [] = last.0 (ap stops (sym head) ∙ is) in let same = prefix_of_nil xs ys rest none in cc (head, same)
      by_test false is head rest more = let same = more (ap (λ b. b || has_stop stops xs) (sym is) ∙ has) in cc (head, same)

module _ {C T : Type 0} where
  -- WHAT VIEWS KNOW
  begun_commits : (t : Story C T) (r : Role) (xs ys : List C) → IsPrefix xs t.commits → IsPrefix ys t.commits → IsPrefix (commits_with r xs ys) t.commits
  begun_commits t Note xs ys p q = longer_of (λ l. IsPrefix l t.commits) xs ys p q
  begun_commits t Commits xs ys p q = p
  begun_commits t Items xs ys p q = longer_of (λ l. IsPrefix l t.commits) xs ys p q
  begun_commits t (Pass n) xs ys p q = p

  begun_items : (t : Story C T) (r : Role) (xs ys : List (PassItem T)) → IsPrefix xs t.items → IsPrefix ys t.items → IsPrefix (items_with r xs ys) t.items
  begun_items t Note xs ys p q = longer_of (λ l. IsPrefix l t.items) xs ys p q
  begun_items t Commits xs ys p q = longer_of (λ l. IsPrefix l t.items) xs ys p q
  begun_items t Items xs ys p q = p
  begun_items t (Pass n) xs ys p q = longer_of (λ l. IsPrefix l t.items) xs ys p q

  pub begun_with : (t : Story C T) (v w : View C T) → IsBegun t v → IsBegun t w → IsBegun t (with_note v w)
  begun_with t v w f g = record {
    commits = begun_commits t v.role v.commits w.commits f.commits g.commits;
    items = begun_items t v.role v.items w.items f.items g.items;
    shown_commits = g.commits;
    shown_items = g.items;
  }

  pub begun_first : (t : Story C T) → IsBegun t first_view
  begun_first t = record { commits = prefix_nil t.commits; items = prefix_nil t.items; shown_commits = prefix_nil t.commits; shown_items = prefix_nil t.items }
